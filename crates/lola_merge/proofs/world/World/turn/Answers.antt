use Rattle.std.proofs.Common.{subst, sym}
use Rattle.lola_merge.specs.declared.world.Actor.TheVariants.{Source}
use Rattle.lola_merge.specs.Interleaving.{Interleaves}
use Rattle.lola_merge.proofs.Orders.{turn_keeps}
use Rattle.lola_merge.proofs.world.World.turn.Goals as goal

pub returns-in-Source-clause-interleaves : goal.returns-in-Source-clause-interleaves
returns-in-Source-clause-interleaves c = λ lists start right i. subst (Interleaves lists start) (sym c.source_turn.ensures.turned) (turn_keeps lists start right c.args.self.now i (Source c.in-Source.source))
