use Rattle.lola_replay_step.proofs.KnownDues.{due-known}
use Rattle.lola_replay_step.proofs.law.due_is_known.Goals as goal

pub returns : goal.returns
returns c = λ start rows known rests. due-known c.args._plan.now rows start known rests
