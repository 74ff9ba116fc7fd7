use Rattle.std.proofs.Common.{◌≡◌, ap, refl, subst}
use Rattle.crossbeam_queue.specs.Passes.{view}
use Rattle.lola_queue_intake.specs.Intakes.{SourceShown, source_shown, after_finish}
use Rattle.lola_queue_intake.proofs.Telling.{finish_told}
use Rattle.lola_queue_intake.proofs.intake.QueueIntake.finish.Goals as goal

pub returns : goal.returns
returns g c =
    let p = c.seat.inside in
    let q = c.queue_item-queued.new.pass in
    let w = c.look.new.seat in
    let look = c.look.ensures in
    subst (λ (z : SourceShown). source_shown q.pass.table_id w.table_id p.source (view q.pass).mine w.me.0.found q.full ≡ after_finish z c.finish_answer.result) c.seat.view_is
    (finish_told p.pass.pass.table_id q.pass.table_id p.word.table_id w.table_id p.source (view p.pass.pass).mine (view q.pass).mine p.word.me.0.found w.me.0.found p.pass.full q.full c.queue_item-queued.ensures.same.0 look.same.0
    c.queue_item-queued.result (view p.pass.pass) (view q.pass) c.finish_answer.result refl refl (ap (λ m. m.0.found) (look.not_closed c.if-look.false)) c.queue_item-queued.ensures.told c.finish_answer.ensures)
