-- The law, of every setting.
use Rattle.lola_monitor_run.proofs.Fronts.{nothing_faults, nothing_final}
use Rattle.lola_monitor_run.proofs.run_law.no_rows_have_no_verdicts.Goals as goal

pub returns-clause-verdicts : goal.returns-clause-verdicts
returns-clause-verdicts c s = nothing_final s

pub returns-clause-faults : goal.returns-clause-faults
returns-clause-faults c s = nothing_faults s
