use Rattle.std.proofs.Common.{◌≡◌, true, false, sym, subst, rules}
use Rattle.lola_instances_stream.specs.Rights.{AreRight}
use Rattle.lola_instances_stream.proofs.instances.Instances.give_each.Goals as goal

pub give_in_turn-requires-clause-right : goal.give_in_turn-requires-clause-right
give_in_turn-requires-clause-right g c =
    let none : c.give_together.result ≡ false = search rules in
    subst (AreRight true c.args.step c.args.offset) (sym (c.give_together.ensures.none none)) c.requires.right

pub returns-else-not-give_together-clause-right : goal.returns-else-not-give_together-clause-right
returns-else-not-give_together-clause-right g c =
    let all : c.give_together.result ≡ true = search rules in
    c.give_together.ensures.right all
