-- The line of a value that is shown.
use Rattle.lola_report.proofs.Sequences.{on_err}
use Rattle.lola_engine.proofs.LinesPut.{shown-count, shown-part, shown-text, stream-at}
use Rattle.lola_engine.proofs.lines.put_line.Goals as goal

pub returns-in_err-verdict_line-clause-memory : goal.returns-in_err-verdict_line-clause-memory
returns-in_err-verdict_line-clause-memory c =
    let s = c.index-as_slice-step_value.result in
    let at = stream-at c.args.plan.now.spec.streams c.as_slice.result.now c.args.step_value.now.stream s c.requires.stream c.requires.stream_is c.as_slice.ensures c.index-as_slice-step_value.is in
    on_err _ (shown-part c.args.show c.args.time c.args.plan.now.spec.streams c.args.texts.now.held c.args.step_value.now s c.in_ok-params.params c.in_ok-value.value at c.in_ok-params.ensures c.in_ok-value.ensures (c.if-not-is_shown.ensures c.args.texts.now.held)
    c.args.to.now c.verdict_line.new.to c.in_err-verdict_line.ensures.memory)

pub returns-clause-text : goal.returns-clause-text
returns-clause-text c =
    let s = c.index-as_slice-step_value.result in
    let at = stream-at c.args.plan.now.spec.streams c.as_slice.result.now c.args.step_value.now.stream s c.requires.stream c.requires.stream_is c.as_slice.ensures c.index-as_slice-step_value.is in
    shown-text c.args.show c.args.time c.args.plan.now.spec.streams c.args.texts.now.held c.args.step_value.now s c.in_ok-params.params c.in_ok-value.value at c.in_ok-params.ensures c.in_ok-value.ensures (c.if-not-is_shown.ensures c.args.texts.now.held)
    c.args.to.now c.verdict_line.new.to c.in_ok-verdict_line.ensures.ok

pub returns-clause-count : goal.returns-clause-count
returns-clause-count c =
    let s = c.index-as_slice-step_value.result in
    let at = stream-at c.args.plan.now.spec.streams c.as_slice.result.now c.args.step_value.now.stream s c.requires.stream c.requires.stream_is c.as_slice.ensures c.index-as_slice-step_value.is in
    shown-count c.args.show c.args.time c.args.plan.now.spec.streams c.args.texts.now.held c.args.step_value.now s c.in_ok-params.params c.in_ok-value.value at c.in_ok-params.ensures c.in_ok-value.ensures (c.if-not-is_shown.ensures c.args.texts.now.held)
