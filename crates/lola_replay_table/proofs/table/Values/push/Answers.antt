use Rattle.std.proofs.Common.{arith, subst, sym}
use Rattle.lola_replay_table.specs.Times.{AreUpTo}
use Rattle.lola_replay_table.proofs.TimesLemmas.{up-to-more}
use Rattle.lola_replay_table.proofs.table.Values.push.Goals as goal

pub invariant_of-self-else-time-self : goal.invariant_of-self-else-time-self
invariant_of-self-else-time-self c =
    λ ordered. subst (AreUpTo c.args.time) (sym c.in_ok-push.ensures.items)
    (up-to-more c.self.inside.newest c.args.time c.args.value c.self.inside.items.items (c.self.invariant ordered) (omega (arith, c.if-time-self.false)))
