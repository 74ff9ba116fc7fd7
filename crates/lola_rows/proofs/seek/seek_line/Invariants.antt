use Rattle.std.proofs.Common.{◌+◌, length}
use Rattle.lola_rows.specs.Filling.{Sought}
use Rattle.lola_rows.specs.Window.{items}
use Rattle.lola_rows.proofs.seek.seek_line.Given as goal

abbrev pub invariant-loop-size : goal.invariant-loop-size
invariant-loop-size g l = Sought (items l.fn.window) (items l.window) (g.S.Source.state l.fn.source) (g.S.Source.state l.source)

abbrev pub decreases-loop-size : goal.decreases-loop-size
decreases-loop-size g l = (g.S.Source.state l.source).to_come + length (items l.window)
