use Rattle.std.proofs.Common.{ap, sym, ◌∙◌, subst}
use Rattle.lola_feed.specs.Feeding as feeding
use Rattle.lola_feed.specs.SharedIntakes.{after_offer}
use Rattle.lola_queue_intake.specs.Sharing.{shared_seat}
use Rattle.lola_queue_intake.proofs.SeatsShown.{same_intake, offered, comes_back}
use Rattle.lola_queue_intake.proofs.shared.QueueIntakeSourceIntakeQueueSeat.offer.Goals as goal

pub push-requires-clause-own : goal.push-requires-clause-own
push-requires-clause-own g c = same_intake c.args.seat.now.intake c.args.self.now c.requires.own

pub returns-clause-shows : goal.returns-clause-shows
returns-clause-shows g c = ap shared_seat c.push.ensures.told ∙ (offered c.args.seat.now c.args.row c.push.result ∙ ap (after_offer (shared_seat c.args.seat.now) c.args.row) (sym c.offer_of.ensures))

pub returns-clause-back : goal.returns-clause-back
returns-clause-back g c = subst (feeding.IsBack c.args.row) (sym c.offer_of.ensures) (comes_back c.args.row c.push.result c.push.ensures.back)
