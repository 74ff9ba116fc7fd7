use Rattle.std.proofs.Common.{sym, arith}
use Rattle.lola_instances_stream.proofs.Taken.{full_stands, flagged_long, flagged_rank}
use Rattle.lola_instances_stream.proofs.cells.place_of.Goals as goal

pub rank-requires : goal.rank-requires
rank-requires c = let n = flagged_long c.args._cells.now.items c.args.flags.now c.requires.flagged in omega (arith, c.requires.cell)

pub returns-then-empty-eq0 : goal.returns-then-empty-eq0
returns-then-empty-eq0 c = full_stands c.args._cells.now.items (omega (arith, c.requires.count)) c.args.cell

pub returns-else-empty-eq0 : goal.returns-else-empty-eq0
returns-else-empty-eq0 c = λ s at. flagged_rank c.args._cells.now.items c.args.flags.now c.requires.flagged c.args.cell c.rank.result s at (sym c.rank.ensures)
