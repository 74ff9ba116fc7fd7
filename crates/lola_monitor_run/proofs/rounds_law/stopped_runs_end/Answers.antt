use Rattle.lola_monitor_run.proofs.Closing.{stays_ended}
use Rattle.lola_monitor_run.proofs.rounds_law.stopped_runs_end.Goals as goal

pub returns : goal.returns
returns c = λ in_turns before how first last runs. stays_ended in_turns before first last how runs
