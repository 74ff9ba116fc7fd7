use Rattle.lola_feed.proofs.LockCalls.{offered}
use Rattle.lola_feed.proofs.lock_intake.IntakeSourceIntakeSourceSeat.offer.Goals as goal

pub returns-clause-shows : goal.returns-clause-shows
returns-clause-shows g c = let told = c.try_offer.ensures.told in offered c.args.seat.now c.try_offer.new.seat told.intake told.source c.requires.unfinished c.args.row c.try_offer.result told.mine
