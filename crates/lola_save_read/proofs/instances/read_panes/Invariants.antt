use Rattle.std.proofs.Common.{drop, take}
use Rattle.lola_save_read.proofs.InstanceTurns.{ArePanesSoFar}
use Rattle.lola_save_read.proofs.instances.read_panes.Given as goal

abbrev pub invariant-loop-window : goal.invariant-loop-window
invariant-loop-window l = ArePanesSoFar l.times l.form l.bytes (take l.window-index l.form.windows) l.panes (drop l.window-index l.form.windows) l.left
