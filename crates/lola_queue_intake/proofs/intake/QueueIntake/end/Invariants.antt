use Rattle.std.proofs.Common.{◌≡◌, ◌++◌, ℕ, List, [], length, slice_get, Some}
use Rattle.crossbeam_queue.specs.Passes.{view, IsPassOf}
use Rattle.lola_queue_intake.specs.declared.delivery.Known.{Known}
use Rattle.lola_queue_intake.specs.Intakes.{SourceShown, AgreesWith}
use Rattle.lola_queue_intake.proofs.intake.QueueIntake.end.Given as goal

abbrev pub invariant-loop-seat : goal.invariant-loop-seat
invariant-loop-seat g l = record {
  goes : (goal.iterator-loop-seat g).can_next l.seat-iterator × (goal.iterator-loop-seat g).is_finite l.seat-iterator;
  own : IsPassOf l.self-inside.queue l.pass;
  word : (l.word_seat.table_id ≡ l.self-inside.word.table.shared.table_id) × (l.word_seat.id ≡ 0) × (l.word_seat.me.1 ≡ []);
  known : (known : List Known) × (view l.pass ≡ record (view l.initial.pass) { known = known }) × (length known ≡ length l.yielded)
      × ((s : ℕ) (p : SourceShown) → slice_get l.yielded s ≡ Some p → (k : Known) × (slice_get known s ≡ Some k) × AgreesWith k p);
  split : l.yielded ++ l.seat-iterator.rest.items ≡ l.initial.seat-iterator.rest.items;
  closed : l.word_seat.me.0.closed ≡ l.initial.word_seat.me.0.closed;
  their_word : (length l.word_seat.me.0.known ≡ length l.yielded) × ((s : ℕ) (p : SourceShown) → slice_get l.yielded s ≡ Some p → (n : ℕ) × (slice_get l.word_seat.me.0.known s ≡ Some n) × (n ≡ p.closed));
}
