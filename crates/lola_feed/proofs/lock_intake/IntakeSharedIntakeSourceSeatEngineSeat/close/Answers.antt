use Rattle.lola_feed.proofs.LockCalls.{closed}
use Rattle.lola_feed.proofs.lock_intake.IntakeSharedIntakeSourceSeatEngineSeat.close.Goals as goal

pub returns : goal.returns
returns g c = record { shows = closed c.args.taker.now c.close_intake.new.seat c.close_intake.ensures }
