use Rattle.lola_replay_step.proofs.Underway.{waits-below}
use Rattle.lola_replay_step.proofs.law.questions_wait_for_lower.Goals as goal

pub returns : goal.returns
returns c = λ start step known long question next open-yet tried. waits-below c.args._plan.now start step c.requires known long question next open-yet tried
