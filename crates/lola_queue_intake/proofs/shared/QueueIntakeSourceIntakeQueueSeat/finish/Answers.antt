use Rattle.std.proofs.Common.{ap, ◌∙◌}
use Rattle.lola_queue_intake.specs.Sharing.{shared_seat}
use Rattle.lola_queue_intake.proofs.SeatsShown.{same_intake, finished}
use Rattle.lola_queue_intake.proofs.shared.QueueIntakeSourceIntakeQueueSeat.finish.Goals as goal

pub finish-requires-clause-own : goal.finish-requires-clause-own
finish-requires-clause-own g c = same_intake c.args.seat.now.intake c.args.self.now c.requires.own

pub returns : goal.returns
returns g c = record { shows = ap shared_seat c.finish.ensures ∙ finished c.args.seat.now c.finish.result }
