use Rattle.std.proofs.Common.{◌≡◌, ◌≤◌, ℕ, List, Option, length, false}
use Rattle.crossbeam_queue.specs.Passes.{view, IsSamePass}
use Rattle.lola_model.specs.declared.journal.Entry.{Entry}
use Rattle.lola_merge.specs.Merging.{sources_of}
use Rattle.lola_queue_intake.specs.declared.item.Item.{Item}
use Rattle.lola_queue_intake.specs.Deliveries.{with_items}
use Rattle.lola_queue_intake.specs.Intakes.{Mirrors}
use Rattle.lola_queue_intake.proofs.intake.fill.Given as goal

abbrev pub invariant-loop : goal.invariant-loop
invariant-loop g l = record {
  same : IsSamePass l.fn.pass.pass l.pass.pass;
  popped : (more : List Item) × (view l.pass.pass ≡ with_items (view l.fn.pass.pass) more);
  counts : l.pass.empty ≡ l.fn.pass.empty;
  rows : l.rows ≡ length l.merging.pending;
  room : l.rows ≤ 1024;
  not_closed : l.merging.closed ≡ false;
  mirrors : (start : Option ℕ) (done : List Entry) → Mirrors start (view l.fn.pass.pass).mine done l.fn.merging → Mirrors start (view l.pass.pass).mine done l.merging;
  sources : sources_of l.merging ≡ sources_of l.fn.merging;
}
