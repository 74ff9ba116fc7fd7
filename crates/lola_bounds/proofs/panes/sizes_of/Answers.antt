use Rattle.std.proofs.Common.{◌+◌, sym, subst, List, Some, take}
use Rattle.std.specs.List.{AllZip}
use Rattle.lola_model.specs.declared.plan.PaneSize.{PaneSize}
use Rattle.lola_bounds.specs.Panes.{ArePanesOfWindow}
use Rattle.lola_bounds.proofs.PaneLemmas.{zip_more}
use Rattle.lola_bounds.proofs.panes.sizes_of.Goals as goal

pub loop-window-preserved : goal.loop-window-preserved
loop-window-preserved c =
    subst (λ (ps : List PaneSize). AllZip (λ w p. ArePanesOfWindow c.args.pacings.now w (Some p)) (take (c.loop-window.window-index + 1) c.args.windows.now) ps) (sym c.in_ok-push.ensures.ok)
    (zip_more c.args.pacings.now c.args.windows.now c.loop-window.window-index c.loop-window.sizes c.size_of_window.result _ c.loop-window-test.true c.loop-window.invariant c.size_of_window.ensures)
