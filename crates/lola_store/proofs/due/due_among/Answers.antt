use Rattle.std.proofs.Common.{◌+◌, ◌∙◌, ap, drop, arith}
use Rattle.lola_model.specs.NextStep.{earlier, first_due}
use Rattle.lola_store.specs.Dues.{due_of_lives}
use Rattle.lola_store.proofs.Dues.{cut_at, one_more_due}
use Rattle.lola_store.proofs.due.due_among.Goals as goal

pub loop-x-preserved : goal.loop-x-preserved
loop-x-preserved c =
    let xs = c.args.lives.now in
    let i = c.loop-x.x-index in
    let x = c.x-item.result in
    let due = due_of_lives c.args.rates.now c.args.from in
    one_more_due c.loop-x.due (due (drop i xs)) (due xs) (first_due x.born c.args.rates.now c.args.from) c.earlier_of-due.result (due (drop (i + 1) xs))
    c.loop-x.invariant (ap due (cut_at xs i x (omega arith) c.x-item.is)) (c.earlier_of-due.ensures ∙ ap (earlier c.loop-x.due) c.due_of_rates.ensures)
