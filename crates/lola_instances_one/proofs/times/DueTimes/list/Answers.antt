use Rattle.std.proofs.Common.{◌∙◌, sym}
use Rattle.lola_instances_one.proofs.DuePlaces.{untimed}
use Rattle.lola_instances_one.proofs.times.DueTimes.list.Goals as goal

pub returns-then-not-is_timed-clause-places : goal.returns-then-not-is_timed-clause-places
returns-then-not-is_timed-clause-places c =
    c.clear.ensures.items
    ∙ untimed c.args.self.now.rates c.args.time c.args.self.now.births (sym c.is_timed.ensures ∙ c.if-not-is_timed.true)
