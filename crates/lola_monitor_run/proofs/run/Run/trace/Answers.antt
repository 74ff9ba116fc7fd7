use Rattle.lola_monitor_run.specs.Running.{keeping}
use Rattle.lola_monitor_run.proofs.EntriesTold.{taken_is_told}
use Rattle.lola_monitor_run.proofs.run.Run.trace.Goals as goal

pub returns-clause-told : goal.returns-clause-told
returns-clause-told g c = λ going fits next. taken_is_told (keeping c.args.self.now) c.args.entry.now c.numbers_are_in_range.ensures.source c.numbers_are_in_range.ensures.number going fits next
