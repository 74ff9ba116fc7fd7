use Rattle.std.proofs.Common.{map, rules}
use Rattle.lola_monitor_run.specs.Running.{keeping}
use Rattle.lola_monitor_run.specs.Feeds.{supply_of, world}
use Rattle.lola_monitor_run.proofs.Writing.{ends_at_first}
use Rattle.lola_monitor_threads.proofs.Settling.{never_went}
use Rattle.lola_monitor_threads.proofs.run.resume_in_threads.Goals as goal

pub run_room-requires-clause-taker : goal.run_room-requires-clause-taker
run_room-requires-clause-taker g c κs within = record { start = c.args.start; opens = c.requires.start; made = search rules }

pub returns-in-Err-clause-run : goal.returns-in-Err-clause-run
returns-in-Err-clause-run g c = λ before stood.
    never_went (keeping c.args.run.now) c.args.workers.items (g.K.Sink.state c.args.out.now) (g.T.Sink.state c.args.trace.now) c.requires.none c.requires.ready before stood

pub returns-in-Err-clause-ends : goal.returns-in-Err-clause-ends
returns-in-Err-clause-ends g c = ends_at_first (world (keeping c.args.run.now) (map supply_of c.args.workers.items) (g.K.Sink.state c.args.out.now) (g.T.Sink.state c.args.trace.now))
