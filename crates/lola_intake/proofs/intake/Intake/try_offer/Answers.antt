use Rattle.std.proofs.Common.{subst, ◌++◌}
use Rattle.lola_intake.specs.Histories.{IsLegal, events}
use Rattle.lola_intake.proofs.Laws.{offer_caused, is_back}
use Rattle.lola_intake.specs.declared.event.Event.TheVariants.{Offered}
use Rattle.lola_intake.specs.Intakes.{Told, shown}
use Rattle.lola_intake.proofs.Telling.{tells}
use Rattle.lola_intake.proofs.intake.Intake.try_offer.Goals as goal

pub returns-clause-told : goal.returns-clause-told
returns-clause-told g c = let p = c.seat.inside.seat in let q = c.turn.new.seat in let source = c.seat.inside.source in let k = c.seat.invariant.0.0.1 in
    subst (λ z. Told (Offered c.args.row c.turn.result) z (shown q.table_id source q.me.0)) c.seat.view_is (tells p.table_id q.table_id source p.me.0 q.me.0 (Offered c.args.row c.turn.result) k.0 k.1 c.turn.ensures.turned c.turn.ensures.same.0.0)

pub returns-clause-cause : goal.returns-clause-cause
returns-clause-cause g c = λ before is. offer_caused c.args.seat.now.setting before c.args.seat.now.caller c.args.row c.turn.result (subst (IsLegal c.args.seat.now.setting) is (returns-clause-told g c).legal)

pub returns-clause-back : goal.returns-clause-back
returns-clause-back g c = let told = returns-clause-told g c in let before = c.args.seat.now.seen ++ told.seen.0 in
    is_back c.args.seat.now.setting (events before) c.args.row c.turn.result (returns-clause-cause g c before told.seen.1)
