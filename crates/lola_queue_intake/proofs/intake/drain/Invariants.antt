use Rattle.std.proofs.Common.{◌≡◌, ◌+◌, ◌≤◌, ℕ, List, Option, length, false}
use Rattle.crossbeam_queue.specs.Passes.{view, IsSamePass}
use Rattle.lola_model.specs.declared.journal.Entry.{Entry}
use Rattle.lola_queue_intake.specs.declared.item.Item.{Item}
use Rattle.lola_queue_intake.specs.Deliveries.{with_items, items_of_known}
use Rattle.lola_queue_intake.specs.Intakes.{Mirrors}
use Rattle.lola_queue_intake.proofs.intake.drain.Given as goal

abbrev pub invariant-loop : goal.invariant-loop
invariant-loop g l = record {
  same : IsSamePass l.fn.pass.pass l.pass.pass;
  popped : (more : List Item) × (view l.pass.pass ≡ with_items (view l.fn.pass.pass) more) × (length l.merging.pending ≤ length more);
  room : items_of_known (view l.fn.pass.pass).known ≤ length (view l.fn.pass.pass).mine + 1024;
  not_closed : l.merging.closed ≡ false;
  mirrors : (start : Option ℕ) (done : List Entry) → Mirrors start (view l.fn.pass.pass).mine done l.fn.merging → Mirrors start (view l.pass.pass).mine done l.merging;
}
