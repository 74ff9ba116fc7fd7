use Rattle.lola_queue_intake.proofs.SeatsShown.{same_intake, takes}
use Rattle.lola_queue_intake.proofs.shared.QueueIntakeSharedIntakeQueueSeatTakerSeat.take.Goals as goal

pub take-requires-clause-own : goal.take-requires-clause-own
take-requires-clause-own g c = same_intake c.args.taker.now.intake c.args.self.now c.requires.own

pub returns : goal.returns
returns g c = record { takes = takes c.take.result c.take.new.into c.args.taker.now c.take.new.seat c.take.ensures }
