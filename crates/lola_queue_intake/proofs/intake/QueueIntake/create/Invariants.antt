use Rattle.std.proofs.Common.{◌≡◌, ◌<◌, ◌≤◌, ℕ, [], length, Some, slice_get, vec_capacity}
use Rattle.crossbeam_queue.specs.Passes.{view, IsPassOf}
use Rattle.lola_queue_intake.specs.Deliveries.{taker}
use Rattle.lola_queue_intake.specs.Closings.{unseen}
use Rattle.lola_queue_intake.specs.Intakes.{new_source}
use Rattle.lola_queue_intake.proofs.intake.QueueIntake.create.Given as goal

abbrev pub invariant-loop-source : goal.invariant-loop-source
invariant-loop-source l = record {
  own : IsPassOf l.queue l.pass;
  made : view l.pass ≡ record taker { made = l.source };
  word : (l.word_seat.table_id ≡ l.word.table.shared.table_id) × (l.word_seat.id ≡ 0) × (l.word_seat.me ≡ (unseen, []));
  count : length l.seats.items ≡ l.source;
  room : l.fn.sources ≤ vec_capacity l.seats;
  seats : (s : ℕ) → s < l.source → slice_get l.seats.items s ≡ Some (new_source record { queue = l.queue.table.shared.table_id; word = l.word.table.shared.table_id } s);
}
