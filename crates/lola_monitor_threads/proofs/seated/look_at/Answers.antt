use Rattle.lola_monitor_threads.proofs.Offering.{look_goes_on, look_stays}
use Rattle.lola_monitor_threads.proofs.seated.look_at.Goals as goal

pub returns-clause-went : goal.returns-clause-went
returns-clause-went g c = look_goes_on c.look_ahead.result c.args.desk.now c.look_ahead.new.desk c.args.worker.now c.look_ahead.new.self c.requires c.look_ahead.ensures.looks c.look_ahead.ensures.kept

pub returns-clause-at : goal.returns-clause-at
returns-clause-at g c = look_stays c.look_ahead.result c.args.desk.now c.look_ahead.new.desk c.args.worker.now c.look_ahead.new.self c.requires c.look_ahead.ensures.looks c.look_ahead.ensures.kept
