use Rattle.lola_instances_one.proofs.Silent.{silent-remembers}
use Rattle.lola_instances_one.proofs.law.silent_remembers.Goals as goal

pub returns : goal.returns
returns c = λ start time names values h. silent-remembers start time c.args._step names c.args._instance.now values c.requires h
