use Rattle.lola_monitor_threads.proofs.Offering.{turn_goes_on, turn_stays}
use Rattle.lola_monitor_threads.proofs.seated.turn_at.Goals as goal

pub returns-clause-went : goal.returns-clause-went
returns-clause-went g c = turn_goes_on c.turn.result c.args.desk.now c.turn.new.desk c.args.worker.now c.turn.new.self c.requires c.turn.ensures.turns c.turn.ensures.kept

pub returns-clause-at : goal.returns-clause-at
returns-clause-at g c = turn_stays c.turn.result c.args.desk.now c.turn.new.desk c.args.worker.now c.turn.new.self c.requires c.turn.ensures.turns c.turn.ensures.kept
