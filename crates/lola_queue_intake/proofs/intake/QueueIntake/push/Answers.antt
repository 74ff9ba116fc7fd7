use Rattle.std.proofs.Common.{◌≡◌, ◌+◌, ap, refl, sym, subst}
use Rattle.crossbeam_queue.specs.Passes.{view}
use Rattle.lola_queue_intake.specs.declared.item.Item.TheVariants as item
use Rattle.lola_queue_intake.specs.Deliveries.{with_item}
use Rattle.lola_queue_intake.specs.Intakes.{SourceShown, source_shown, after_push, IsSameSeat}
use Rattle.lola_queue_intake.proofs.Telling.{row_told, row_back, back_is_row, push_same_seat}
use Rattle.lola_queue_intake.proofs.intake.QueueIntake.push.Goals as goal

pub row_answer-requires : goal.row_answer-requires
row_answer-requires g c = let p = c.seat.inside.pass in let q = c.queue_item-queued.new.pass in
    back_is_row c.args.row c.queue_item-queued.result ((view q.pass ≡ with_item (view p.pass) (item.Row c.args.row)) × (q.full ≡ p.full)) (view q.pass ≡ view p.pass) (q.full ≡ p.full + 1) c.queue_item-queued.ensures.told

pub returns-clause-told : goal.returns-clause-told
returns-clause-told g c =
    let p = c.seat.inside in
    let q = c.queue_item-queued.new.pass in
    let w = c.look.new.seat in
    let look = c.look.ensures in
    let row = c.args.row in
    subst (λ (z : SourceShown). source_shown q.pass.table_id w.table_id p.source (view q.pass).mine w.me.0.found q.full ≡ after_push z row c.row_answer.result) c.seat.view_is
    (row_told p.pass.pass.table_id q.pass.table_id p.word.table_id w.table_id p.source (view p.pass.pass).mine (view q.pass).mine p.word.me.0.found w.me.0.found p.pass.full q.full c.queue_item-queued.ensures.same.0 look.same.0
    row c.queue_item-queued.result (view p.pass.pass) (view q.pass) c.row_answer.result refl refl (ap (λ m. m.0.found) (look.not_closed c.if-look.false)) c.queue_item-queued.ensures.told c.row_answer.ensures)

pub returns-clause-back : goal.returns-clause-back
returns-clause-back g c = let p = c.seat.inside.pass in let q = c.queue_item-queued.new.pass in
    row_back c.args.row c.queue_item-queued.result ((view q.pass ≡ with_item (view p.pass) (item.Row c.args.row)) × (q.full ≡ p.full)) (view q.pass ≡ view p.pass) (q.full ≡ p.full + 1) c.row_answer.result
    c.queue_item-queued.ensures.told c.row_answer.ensures

pub returns-clause-kept : goal.returns-clause-kept
returns-clause-kept g c = subst (IsSameSeat c.args.seat.now) (sym (returns-clause-told g c)) (push_same_seat c.args.seat.now c.args.row c.row_answer.result)
