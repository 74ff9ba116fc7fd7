use Rattle.std.proofs.Common.{◌∙◌, ap, refl, sym, subst}
use Rattle.crossbeam_queue.specs.Passes.{view}
use Rattle.lola_model.specs.Journal.{opening_time}
use Rattle.lola_merge.specs.Merging.{Merging, sources_of, has_finished, TakeIsDue}
use Rattle.lola_merge.specs.declared.state.Take.TheVariants.{AllDone}
use Rattle.lola_queue_intake.specs.Intakes.{TakerShown, taker_shown, entries, Took, Mirrors}
use Rattle.lola_queue_intake.proofs.Mirroring.{mirrors_taken}
use Rattle.lola_queue_intake.proofs.Taking.{took_nothing, took_some}
use Rattle.lola_queue_intake.proofs.intake.QueueIntake.take.Goals as goal

pub returns-then-is_all_done : goal.returns-then-is_all_done
returns-then-is_all_done g c =
    let s = c.seat.inside in
    let p = s.pass.pass in
    let v = view p in
    let m : Merging = s.merging in
    let inv = c.seat.invariant in
    let is = c.is_all_done.ensures.done c.if-is_all_done.true in
    let due = subst (TakeIsDue _ _ (has_finished m)) is c.take.ensures.cause in
    subst (λ (z : TakerShown). Took AllDone c.take.new.into z (taker_shown p.table_id s.word.table_id (sources_of c.take.new.self) s.start v.mine s.pass.empty s.word.me.0.closed)) c.seat.view_is
    (took_nothing p.table_id p.table_id s.word.table_id s.word.table_id s.start v.mine v.mine s.pass.empty s.pass.empty s.word.me.0.closed s.word.me.0.closed m (sources_of c.take.new.self) refl refl c.take.ensures.sources refl
    AllDone c.take.new.into inv.8 inv.7 refl refl c.take.ensures.moved due refl)

pub returns : goal.returns
returns g c =
    let s = c.seat.inside in
    let p = s.pass.pass in
    let v = view p in
    let m : Merging = s.merging in
    let q = c.fill.new.pass in
    let m1 : Merging = c.fill.new.merging in
    let inv = c.seat.invariant in
    let done = entries (opening_time s.start) v.mine in
    let other = c.is_all_done.ensures.other c.if-is_all_done.false in
    let mirror = c.fill.ensures.mirrors s.start done (subst (Mirrors s.start v.mine done) (sym c.take.ensures.after) (mirrors_taken s.start v.mine done m inv.8)) in
    let count = c.fill.ensures.sources ∙ c.take.ensures.sources in
    let popped = c.fill.ensures.popped in
    subst (λ (z : TakerShown). Took c.take-2.result c.take-2.new.into z (taker_shown q.pass.table_id s.word.table_id (sources_of c.take-2.new.self) s.start (view q.pass).mine q.empty s.word.me.0.closed)) c.seat.view_is
    (took_some p.table_id q.pass.table_id s.word.table_id s.word.table_id s.start v.mine (view q.pass).mine s.pass.empty q.empty s.word.me.0.closed s.word.me.0.closed m (sources_of c.take-2.new.self) c.fill.ensures.same.0 refl
    (c.take-2.ensures.sources ∙ count) refl
    c.take.result c.take-2.result c.take-2.new.into popped.0 m1 count inv.8 inv.7 c.take.ensures.cause other (ap (λ u. u.mine) popped.1) mirror c.take-2.ensures.moved c.take-2.ensures.cause c.fill.ensures.stopped)
