use Rattle.std.proofs.Common.{◌≡◌, ◌<◌, ◌≤◌, ◌+◌, ℕ, length, Some, slice_get, vec_capacity}
use Rattle.lola_intake.specs.Turns.{IsIdle}
use Rattle.lola_intake.specs.Intakes.{setting, new_seat}
use Rattle.lola_intake.proofs.Telling.{made_so_far}
use Rattle.lola_intake.proofs.intake.Intake.create.Given as goal

abbrev pub invariant-loop-source : goal.invariant-loop-source
invariant-loop-source l = record {
  own : l.seat.table_id ≡ l.lock.table.shared.table_id;
  first : (l.seat.id ≡ 0) × IsIdle l.seat;
  view : l.seat.me.0 ≡ made_so_far (setting l.fn.sources l.fn.start) l.source;
  count : length l.seats.items ≡ l.source;
  room : l.fn.sources ≤ vec_capacity l.seats;
  seats : (s : ℕ) → s < l.source → slice_get l.seats.items s ≡ Some (new_seat l.lock.table.shared.table_id (setting l.fn.sources l.fn.start) (s + 1) s);
}
