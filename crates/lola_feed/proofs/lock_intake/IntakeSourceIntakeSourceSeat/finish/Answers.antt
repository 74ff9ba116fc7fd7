use Rattle.lola_feed.proofs.LockCalls.{finished}
use Rattle.lola_feed.proofs.lock_intake.IntakeSourceIntakeSourceSeat.finish.Goals as goal

pub returns : goal.returns
returns g c = let told = c.finish_source.ensures in record { shows = finished c.args.seat.now c.finish_source.new.seat told.intake told.source c.requires.unfinished c.args.seat.now.source told.mine }
