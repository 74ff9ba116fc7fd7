use Rattle.std.proofs.Common.{Some, take}
use Rattle.std.specs.List.{AllZip}
use Rattle.lola_bounds.specs.Panes.{ArePanesOfWindow}
use Rattle.lola_bounds.proofs.panes.sizes_of.Given as goal

abbrev pub invariant-loop-window : goal.invariant-loop-window
invariant-loop-window l = AllZip (λ w p. ArePanesOfWindow l.pacings w (Some p)) (take l.window-index l.windows) l.sizes
