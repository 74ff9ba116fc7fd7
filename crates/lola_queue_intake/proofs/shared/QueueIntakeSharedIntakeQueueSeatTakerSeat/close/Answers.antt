use Rattle.lola_queue_intake.proofs.SeatsShown.{same_intake, closes}
use Rattle.lola_queue_intake.proofs.shared.QueueIntakeSharedIntakeQueueSeatTakerSeat.close.Goals as goal

pub close-requires : goal.close-requires
close-requires g c = same_intake c.args.taker.now.intake c.args.self.now c.requires.own

pub returns : goal.returns
returns g c = record { shows = closes c.args.taker.now c.close.new.seat c.close.ensures }
