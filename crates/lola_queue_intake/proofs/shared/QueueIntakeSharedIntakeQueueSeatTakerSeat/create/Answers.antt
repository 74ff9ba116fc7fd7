use Rattle.lola_queue_intake.proofs.SeatsShown.{first_taker, new_seats}
use Rattle.lola_queue_intake.proofs.shared.QueueIntakeSharedIntakeQueueSeatTakerSeat.create.Goals as goal

pub returns-clause-taker : goal.returns-clause-taker
returns-clause-taker c = first_taker c.in_ok-intake.intake c.args.sources c.args.start c.in_ok-intake.taker c.requires.0 c.in_ok-intake.ensures.taker

pub returns-clause-seats : goal.returns-clause-seats
returns-clause-seats c = new_seats c.in_ok-intake.intake c.args.sources c.in_ok-intake.seats.items c.in_ok-intake.ensures.count c.in_ok-intake.ensures.seats
