use Rattle.lola_feed.proofs.LockEnding.{new_seats}
use Rattle.lola_feed.proofs.lock_intake.IntakeSharedIntakeSourceSeatEngineSeat.create.Goals as goal

pub returns-clause-seats : goal.returns-clause-seats
returns-clause-seats c = new_seats c.in_ok-intake.intake c.args.sources c.args.start c.in_ok-intake.seats.items c.in_ok-intake.ensures.count c.in_ok-intake.ensures.seats
