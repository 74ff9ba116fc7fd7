use Rattle.std.proofs.Common.{arith}
use Rattle.lola_instances_stream.proofs.Taken.{full_taken, flagged_ones, flagged_select}
use Rattle.lola_instances_stream.proofs.cells.cell_at.Goals as goal

pub nth_flagged-requires : goal.nth_flagged-requires
nth_flagged-requires c = let n = flagged_ones c.args._cells.now.items c.args.flags.now c.requires.flagged in omega (arith, c.requires.place)

pub returns-then-empty-eq0 : goal.returns-then-empty-eq0
returns-then-empty-eq0 c = full_taken c.args._cells.now.items (omega (arith, c.requires.count)) c.args.place (omega (arith, c.requires.count, c.requires.place))

pub returns-else-empty-eq0 : goal.returns-else-empty-eq0
returns-else-empty-eq0 c = flagged_select c.args._cells.now.items c.args.flags.now c.requires.flagged c.nth_flagged.result c.args.place c.nth_flagged.ensures.set c.nth_flagged.ensures.rank
