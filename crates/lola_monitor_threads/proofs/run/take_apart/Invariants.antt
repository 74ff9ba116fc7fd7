use Rattle.std.proofs.Common.{◌≡◌, ◌≤◌, ◌+◌, ◌++◌, length, map, reverse, vec_capacity, vec_len}
use Rattle.lola_monitor_threads.specs.Seated.{all_seated}
use Rattle.lola_monitor_threads.proofs.run.take_apart.Given as goal

abbrev pub invariant-loop-seated : goal.invariant-loop-seated
invariant-loop-seated g l = record {
  seated : all_seated l.workers.items (map g.P.IntakeSeat.shows l.seats.items) ++ reverse l.back.items ≡ reverse l.fn.back.items;
  workers : length l.workers.items + length l.back.items ≡ length l.fn.back.items;
  seats : length l.seats.items + length l.back.items ≡ length l.fn.back.items;
  room : (length l.fn.back.items ≤ vec_capacity l.workers) × (length l.fn.back.items ≤ vec_capacity l.seats);
}

abbrev pub decreases-loop-seated : goal.decreases-loop-seated
decreases-loop-seated g l = vec_len l.back
