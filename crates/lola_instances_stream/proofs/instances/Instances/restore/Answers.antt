use Rattle.std.proofs.Common.{sym, subst, true}
use Rattle.lola_instances_stream.specs.Rights.{AreRight}
use Rattle.lola_instances_stream.proofs.Restored.{born_new, born_past, born_right}
use Rattle.lola_instances_stream.proofs.instances.Instances.restore.Goals as goal

pub returns-in-Err-clause-right : goal.returns-in-Err-clause-right
returns-in-Err-clause-right c = λ step offset l right. subst (AreRight true step offset) (sym c.prepare.ensures.rest) right

pub returns-in-Ok-clause-right : goal.returns-in-Ok-clause-right
returns-in-Ok-clause-right c =
    born_right c.args.time c.args.params c.args.self.now c.prepare.new.self c.give_birth.new.self c.last_spawn-step.result c.prepare.ensures.rest c.last_spawn-step.ensures c.give_birth.ensures.born
    c.give_birth.ensures.onto c.requires.kinds c.requires.places

pub returns-in-Ok-clause-past : goal.returns-in-Ok-clause-past
returns-in-Ok-clause-past c = born_past c.args.time c.args.params c.args.self.now c.prepare.new.self c.give_birth.new.self c.last_spawn-step.result c.prepare.ensures.rest c.last_spawn-step.ensures c.give_birth.ensures.born

pub returns-in-Ok-clause-new : goal.returns-in-Ok-clause-new
returns-in-Ok-clause-new c =
    born_new c.args.time c.args.params c.args.self.now c.prepare.new.self c.give_birth.new.self c.last_spawn-step.result c.prepare.ensures.rest c.last_spawn-step.ensures c.give_birth.ensures.born c.give_birth.ensures.kept
