-- The law, of every sink.
use Rattle.lola_monitor_run.proofs.Sinks.{grown_nil, grown_twice}
use Rattle.lola_monitor_run.proofs.run_law.puts_add_up.Goals as goal

pub returns-clause-parts : goal.returns-clause-parts
returns-clause-parts c sink first second = grown_twice sink first second

pub returns-clause-nothing : goal.returns-clause-nothing
returns-clause-nothing c sink = grown_nil sink
