use Rattle.lola_rows.specs.Filling.{Brought}
use Rattle.lola_rows.specs.Window.{items}
use Rattle.lola_rows.proofs.fill.fill_line.Given as goal

abbrev pub invariant-loop-at : goal.invariant-loop-at
invariant-loop-at g l = Brought (items l.fn.window) (items l.window) (g.S.Source.state l.fn.source) (g.S.Source.state l.source)

abbrev pub decreases-loop-at : goal.decreases-loop-at
decreases-loop-at g l = (g.S.Source.state l.source).to_come
