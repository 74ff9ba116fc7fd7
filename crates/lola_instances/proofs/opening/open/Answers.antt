use Rattle.std.proofs.Common.{sym, subst}
use Rattle.lola_instances_one.specs.Unborn.{AllOnto}
use Rattle.lola_instances.proofs.Opened.{onto_kind}
use Rattle.lola_instances.proofs.opening.open.Goals as goal

pub create-requires-clause-onto : goal.create-requires-clause-onto
create-requires-clause-onto c = subst (AllOnto c.filled_kind-kind.result) (sym c.in_ok-onto.ensures) (onto_kind c.args.number c.filled_kind-kind.result c.args.windows.now c.args.sizes.now)
