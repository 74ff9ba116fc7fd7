use Rattle.lola_feed.proofs.LockCalls.{took}
use Rattle.lola_feed.proofs.lock_intake.IntakeSharedIntakeSourceSeatEngineSeat.take.Goals as goal

pub returns : goal.returns
returns g c = record { takes = took c.try_take.result c.try_take.new.into c.args.taker.now c.try_take.new.seat c.try_take.ensures.told c.try_take.ensures.marked }
