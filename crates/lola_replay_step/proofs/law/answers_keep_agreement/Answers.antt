use Rattle.lola_replay_step.proofs.Underway.{progress}
use Rattle.lola_replay_step.proofs.law.answers_keep_agreement.Goals as goal

pub returns : goal.returns
returns c = λ start step question before after open-yet notes. (progress c.args._plan.now start step question before after open-yet notes).keeps
