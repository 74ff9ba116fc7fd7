use Rattle.std.proofs.Common.{◌∙◌, ap, List, ℕ}
use Rattle.lola_instances.specs.Spawning.{is_among}
use Rattle.lola_instances.proofs.Spawners.{among_last, among_more}
use Rattle.lola_instances.proofs.opening.add_spawning.Goals as goal

pub returns-in_ok-push-clause-old : goal.returns-in_ok-push-clause-old
returns-in_ok-push-clause-old c = λ n h. ap (λ (ns : List ℕ). is_among n ns) c.in_ok-push.ensures.items ∙ among_more n c.args.number c.args.made.now.items h

pub returns-in_ok-push-clause-new : goal.returns-in_ok-push-clause-new
returns-in_ok-push-clause-new c = λ h. ap (λ (ns : List ℕ). is_among c.args.number ns) c.in_ok-push.ensures.items ∙ among_last c.args.number c.args.made.now.items
