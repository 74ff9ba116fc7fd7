-- The line of one value more.
use Rattle.std.proofs.Common.{◌++◌, ◌∙◌, sym, ap, refl, arith}
use Rattle.std.proofs.lemmas.List.{take_all}
use Rattle.lola_report.proofs.Sequences.{on_err, one_more}
use Rattle.lola_engine.proofs.LinesPut.{count-more, part-of-all, text-for, texts-all, step_value-at}
use Rattle.lola_engine.proofs.lines.put_lines.Goals as goal

pub put_line-requires : goal.put_line-requires
put_line-requires c = step_value-at c.args.plan.now c.args.step_values.now c.loop-step_value.step_value-index _ _ c.requires (omega arith) refl

pub returns-in_err-count-clause-memory : goal.returns-in_err-count-clause-memory
returns-in_err-count-clause-memory c =
    on_err _ (part-of-all c.args.show c.args.time c.args.plan.now.spec.streams c.args.texts.now.held c.args.step_values.now c.loop-step_value.step_value-index _ _ c.args.to.now c.loop-step_value.to c.put_line.new.to
    (omega arith) refl c.loop-step_value.invariant.text c.in_err-count.ensures.memory)

pub loop-step_value-preserved : goal.loop-step_value-preserved
loop-step_value-preserved c = record {
  text = one_more (text-for c.args.show c.args.time c.args.plan.now.spec.streams c.args.texts.now.held) c.args.step_values.now c.loop-step_value.step_value-index _ _ c.args.to.now c.loop-step_value.to c.put_line.new.to
      (omega arith) refl c.loop-step_value.invariant.text c.in_ok-count.ensures.text;
  count = count-more c.args.show c.args.time c.args.plan.now.spec.streams c.args.texts.now.held c.args.step_values.now c.loop-step_value.step_value-index c.loop-step_value.count c.in_ok-count.field-0 _ _
      (omega arith) refl c.loop-step_value.invariant.count c.in_ok-count.ensures.count;
  few = omega (arith, c.in_ok-count.ensures.few);
}

pub returns-clause-text : goal.returns-clause-text
returns-clause-text c =
    let all = take_all c.loop-step_value.step_value-index c.args.step_values.now (omega arith) in
    (rw all at c.loop-step_value.invariant.text)
    ∙ ap (λ l. c.args.to.now ++ l) (sym (texts-all c.args.show c.args.time c.args.plan.now.spec.streams c.args.texts.now.held c.args.step_values.now))
