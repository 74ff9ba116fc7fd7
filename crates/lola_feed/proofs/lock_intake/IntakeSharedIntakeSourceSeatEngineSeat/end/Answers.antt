use Rattle.lola_feed.proofs.LockEnding.{own_seats, whole}
use Rattle.lola_feed.proofs.lock_intake.IntakeSharedIntakeSourceSeatEngineSeat.end.Goals as goal

pub end-requires-clause-seats : goal.end-requires-clause-seats
end-requires-clause-seats g c = own_seats c.args.self c.args.seats.items c.requires.seats

pub returns : goal.returns
returns g c = record { whole = whole c.args.taker c.args.seats.items c.end.new.into c.end.ensures }
