use Rattle.std.proofs.Common.{ap, nat_eq, ◌∙◌}
use Rattle.lola_instances_one.proofs.Moments.{due_now}
use Rattle.lola_instances_one.proofs.due.is_due.Goals as goal

pub returns : goal.returns
returns c = ap (λ t. nat_eq t c.args.time) c.next_due.ensures.due ∙ due_now c.args.rates.now c.args.born c.args.time c.next_due.ensures.rates c.requires
