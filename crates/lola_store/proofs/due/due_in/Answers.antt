use Rattle.std.proofs.Common.{◌+◌, ◌∙◌, ap, drop, arith}
use Rattle.lola_model.specs.NextStep.{earlier}
use Rattle.lola_store.specs.Dues.{if_time, due_of_lives, due_of_streams}
use Rattle.lola_store.proofs.Dues.{cut_at, one_more_due}
use Rattle.lola_store.proofs.due.due_in.Goals as goal

pub loop-population-preserved : goal.loop-population-preserved
loop-population-preserved c =
    let ls = c.args.streams.now in
    let i = c.loop-population.population-index in
    let l = c.population-item.result in
    let due = due_of_streams c.args.from in
    let one = due_of_lives l.locals.items c.args.from l.lives.items in
    one_more_due c.loop-population.due (due (drop i ls)) (due ls) one c.earlier_of-due.result (due (drop (i + 1) ls))
    c.loop-population.invariant (ap due (cut_at ls i l (omega arith) c.population-item.is))
    (c.earlier_of-due.ensures ∙ ap (earlier c.loop-population.due) (c.due_among.ensures ∙ (λ j. if_time (due_of_lives (c.as_slice-in-loop-population.ensures.value j) c.args.from (c.as_slice.ensures.value j)))))
