use Rattle.lola_monitor_threads.proofs.Offering.{finish_owed_goes_on, finish_owed_stays}
use Rattle.lola_monitor_threads.proofs.seated.finish_owed_at.Goals as goal

pub returns-clause-went : goal.returns-clause-went
returns-clause-went g c = finish_owed_goes_on c.args.worker.now c.args.desk.now c.finish_owed.new.self c.requires c.finish_owed.result c.finish_owed.ensures.settles

pub returns-clause-at : goal.returns-clause-at
returns-clause-at g c = finish_owed_stays c.args.worker.now c.args.desk.now c.finish_owed.new.self c.requires c.finish_owed.result c.finish_owed.ensures.settles
