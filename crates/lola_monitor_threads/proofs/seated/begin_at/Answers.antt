use Rattle.lola_monitor_threads.proofs.Offering.{begin_goes_on, begin_stays}
use Rattle.lola_monitor_threads.proofs.seated.begin_at.Goals as goal

pub returns-clause-went : goal.returns-clause-went
returns-clause-went g c = begin_goes_on c.begin.result c.args.desk.now c.begin.new.desk c.args.worker.now c.begin.new.self c.requires c.begin.ensures.begun c.begin.ensures.kept

pub returns-clause-at : goal.returns-clause-at
returns-clause-at g c = begin_stays c.begin.result c.args.desk.now c.begin.new.desk c.args.worker.now c.begin.new.self c.requires c.begin.ensures.begun c.begin.ensures.kept
