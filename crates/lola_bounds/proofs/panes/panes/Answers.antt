use Rattle.lola_bounds.proofs.panes.panes.Goals as goal

pub returns : goal.returns
returns c = (c.size.result.pane, c.size.ensures)
