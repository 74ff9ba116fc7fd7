use Rattle.lola_queue_intake.proofs.SeatsShown.{same_intake, are_seats, is_whole}
use Rattle.lola_queue_intake.proofs.shared.QueueIntakeSharedIntakeQueueSeatTakerSeat.end.Goals as goal

pub end-requires-clause-taker : goal.end-requires-clause-taker
end-requires-clause-taker g c = same_intake c.args.taker.intake c.args.self c.requires.taker

pub end-requires-clause-seats : goal.end-requires-clause-seats
end-requires-clause-seats g c = are_seats c.args.self c.args.seats.items c.requires.seats

pub returns : goal.returns
returns g c = record { whole = is_whole c.args.taker c.args.seats.items c.end.new.into c.end.ensures }
