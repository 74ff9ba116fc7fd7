use Rattle.std.proofs.Common.{◌≡◌, ◌≤◌, ◌+◌, ◌++◌, length, map, reverse, vec_capacity, vec_len}
use Rattle.std.specs.List.{AllZip}
use Rattle.lola_monitor_threads.specs.Seated.{IsNewPair, all_seated}
use Rattle.lola_monitor_threads.proofs.run.seat_all.Given as goal

abbrev pub invariant-loop-worker : goal.invariant-loop-worker
invariant-loop-worker g l = let shows = g.P.IntakeSeat.shows in record {
  pairs : AllZip IsNewPair l.workers.items (map shows l.seats.items);
  seated : all_seated l.workers.items (map shows l.seats.items) ++ reverse l.waiting.items ≡ all_seated l.fn.workers.items (map shows l.fn.seats.items);
  room : length l.workers.items + length l.waiting.items ≤ vec_capacity l.waiting;
  workers : vec_capacity l.workers ≡ vec_capacity l.fn.workers;
  seats : vec_capacity l.seats ≡ vec_capacity l.fn.seats;
}

abbrev pub decreases-loop-worker : goal.decreases-loop-worker
decreases-loop-worker g l = vec_len l.workers
