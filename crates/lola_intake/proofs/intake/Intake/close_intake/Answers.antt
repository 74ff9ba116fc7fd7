use Rattle.std.proofs.Common.{subst}
use Rattle.lola_intake.specs.declared.event.Event.TheVariants.{Closed}
use Rattle.lola_intake.specs.Intakes.{Told, shown}
use Rattle.lola_intake.proofs.Telling.{tells}
use Rattle.lola_intake.proofs.intake.Intake.close_intake.Goals as goal

pub returns : goal.returns
returns g c = let p = c.seat.inside.seat in let q = c.turn.new.seat in let k = c.seat.invariant.0.0.1 in
    subst (λ z. Told (Closed) z (shown q.table_id 0 q.me.0)) c.seat.view_is (tells p.table_id q.table_id 0 p.me.0 q.me.0 (Closed) k.0 k.1 c.turn.ensures.turned c.turn.ensures.same.0.0)
