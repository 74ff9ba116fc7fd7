use Rattle.lola_replay.proofs.SoundTrace.{sound-trace}
use Rattle.lola_replay.proofs.law.right_entry_by_entry.Goals as goal

pub returns : goal.returns
returns c = λ start lines journal right. sound-trace c.args._plan.now start lines journal right
