use Rattle.std.proofs.Common.{◌∙◌, List, refl, ap, sym, subst}
use Rattle.lola_intake.specs.Turns.{turn_by, calls_by}
use Rattle.lola_intake.proofs.Keeps.{may_tell, turned, idle_again, changed}
use Rattle.lola_intake.specs.declared.event.Event.TheVariants.{Took}
use Rattle.lola_intake.specs.Histories.{Begins, Changes, IsLegal, taken}
use Rattle.lola_intake.specs.declared.event.Event.{Event}
use Rattle.lola_model.specs.Journal.{IsLegalFrom, opening_time}
use Rattle.lola_intake.proofs.Laws.{take_caused}
use Rattle.lola_intake.proofs.Ending.{taken_is_marked}
use Rattle.lola_intake.specs.Intakes.{Shown, Told, shown, setting_or}
use Rattle.lola_intake.proofs.Telling.{tells}
use Rattle.lola_intake.proofs.intake.Intake.try_take.Goals as goal

pub leave-requires-clause-turn : goal.leave-requires-clause-turn
leave-requires-clause-turn g c = let t = c.enter.ensures.turn in let m = c.seat.inside.seat.me in let m1 = c.enter.new.seat.me in let x = c.slot_mut-state.result.now in let x1 = c.take-take.new.self in let key = c.self.inside.lock.table.shared.key in
    let e = Took c.take-take.result c.take-take.new.into in let told = c.take-take.ensures in
    may_tell Begins Changes key m m1 x1 e c.seat.invariant.0.1 t (changed Begins Changes key m m1 t x x1 (turn_by m.0.caller e) c.slot_mut-state.ensures.value (c.seat.invariant.2, told.reply, told.moved, told.after))

pub invariant_of-seat : goal.invariant_of-seat
invariant_of-seat g c = let t = c.enter.ensures.turn in let m = c.seat.inside.seat.me in let m1 = c.enter.new.seat.me in let x = c.slot_mut-state.result.now in let x1 = c.take-take.new.self in let key = c.self.inside.lock.table.shared.key in
    let e = Took c.take-take.result c.take-take.new.into in let told = c.take-take.ensures in
    let change = changed Begins Changes key m m1 t x x1 (turn_by m.0.caller e) c.slot_mut-state.ensures.value (c.seat.invariant.2, told.reply, told.moved, told.after) in
    let turn = turned Begins Changes key m m1 x1 e c.seat.invariant.0.1 t change c.leave.new.seat.me (c.leave.ensures.told e refl) in (
      idle_again Begins Changes key m m1 x1 e c.seat.invariant.0.1 t change c.leave.new.seat.me (c.leave.ensures.told e refl),
      c.leave.ensures.same.1 ∙ (c.enter.ensures.same.1 ∙ c.seat.invariant.1),
      turn.caller ∙ c.seat.invariant.2,
      turn.made ∙ (c.seat.invariant.3 ∙ ap (λ o. (setting_or o).sources) (sym turn.setting)),
      turn.known ∙ c.seat.invariant.4,
    )

pub returns-clause-told : goal.returns-clause-told
returns-clause-told g c = let t = c.enter.ensures.turn in let m = c.seat.inside.seat.me in let m1 = c.enter.new.seat.me in let x = c.slot_mut-state.result.now in let x1 = c.take-take.new.self in let key = c.self.inside.lock.table.shared.key in
    let e = Took c.take-take.result c.take-take.new.into in let told = c.take-take.ensures in let p = c.seat.inside.seat in let q = c.leave.new.seat in
    let change = changed Begins Changes key m m1 t x x1 (turn_by m.0.caller e) c.slot_mut-state.ensures.value (c.seat.invariant.2, told.reply, told.moved, told.after) in
    let turn = turned Begins Changes key m m1 x1 e c.seat.invariant.0.1 t change q.me (c.leave.ensures.told e refl) in
    subst (λ z. Told e z (shown q.table_id 0 q.me.0)) c.seat.view_is
    (tells p.table_id q.table_id 0 p.me.0 q.me.0 e c.seat.invariant.0.0.1.0 c.seat.invariant.0.0.1.1 turn (c.leave.ensures.same.0 ∙ c.enter.ensures.same.0))

pub returns-clause-cause : goal.returns-clause-cause
returns-clause-cause g c = λ before is. take_caused c.args.seat.now.setting before c.args.seat.now.caller c.take-take.result c.take-take.new.into (subst (IsLegal c.args.seat.now.setting) is (returns-clause-told g c).legal)

pub returns-clause-marked : goal.returns-clause-marked
returns-clause-marked g c = let told = returns-clause-told g c in let k = c.args.seat.now.setting in
    subst (λ (l : List Event). IsLegalFrom (opening_time k.start) (taken l)) told.own (subst (λ n. IsLegalFrom (opening_time k.start) (taken (calls_by n c.leave.new.seat.me.0.seen))) (sym (ap (λ (z : Shown). z.caller) (sym c.seat.view_is) ∙ c.seat.invariant.2)) (taken_is_marked k c.leave.new.seat.me.0.seen told.legal))
