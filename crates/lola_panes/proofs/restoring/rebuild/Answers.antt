use Rattle.std.proofs.Common.{◌≡◌, ◌∙◌, ◌+◌, [], drop, ap, sym, subst}
use Rattle.circular_buffer.specs.Buffer.{Buffer}
use Rattle.lola_panes.specs.declared.pane.Pane.{Pane}
use Rattle.lola_panes.specs.Restored.{bettered_by, restored_best}
use Rattle.lola_panes.proofs.Refilling.{rebuilt_next}
use Rattle.lola_panes.proofs.restoring.rebuild.Goals as goal

pub loop-i-preserved : goal.loop-i-preserved
loop-i-preserved c =
    let how = c.args.aggregation in
    let ps = c.args.partials.now in
    let i = c.loop-i.i in
    let n = c.loop-i.best.capacity in
    let items = c.loop-i.best.items in (
      ap (λ (b : Buffer Pane). b.capacity) c.put_best.ensures ∙ c.loop-i.invariant.0,
      subst (λ (b : Buffer Pane). restored_best b.capacity how (c.args.first + (i + 1)) (drop (i + 1) ps) b.items ≡ restored_best b.capacity how c.args.first ps []) (sym c.put_best.ensures)
          (ap (λ o. restored_best n how (c.args.first + (i + 1)) (drop (i + 1) ps) (bettered_by n how (c.args.first + i) o items)) c.extreme_in.ensures
          ∙ (rebuilt_next how n c.args.first i items ps c.at.result c.at.ensures ∙ c.loop-i.invariant.1)),
    )
