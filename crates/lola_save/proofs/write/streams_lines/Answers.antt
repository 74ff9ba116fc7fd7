use Rattle.lola_report.proofs.Sequences.{on_err}
use Rattle.lola_save.proofs.LineRows.{streams-done, streams-more, streams-out, streams-part}
use Rattle.lola_save.proofs.write.streams_lines.Goals as goal

pub returns-in-None-clause-ok : goal.returns-in-None-clause-ok
returns-in-None-clause-ok c = streams-out c.args.to.now c.loop-number.to _ c.args.forms.now c.loop-number.number c.loop-number.others.now c.loop-number.invariant c.in-None.ensures

pub returns-in_err-stream_lines-in-Some-clause-memory : goal.returns-in_err-stream_lines-in-Some-clause-memory
returns-in_err-stream_lines-in-Some-clause-memory c = on_err _ (streams-part c.args.to.now c.loop-number.to _ c.args.forms.now c.loop-number.number c.loop-number.others.now c.index-forms-number.result _ c.loop-number-test.true c.index-forms-number.is c.in-Some.first.now c.in-Some.rest.now c.in-Some.ensures c.loop-number.invariant _ (rw c.as_slice.ensures at c.in_err-stream_lines-in-Some.ensures.memory))

pub loop-number-preserved : goal.loop-number-preserved
loop-number-preserved c = streams-more c.args.to.now c.loop-number.to _ c.args.forms.now c.loop-number.number c.loop-number.others.now c.index-forms-number.result _ c.loop-number-test.true c.index-forms-number.is c.in-Some.first.now c.in-Some.rest.now c.in-Some.ensures c.loop-number.invariant _ (rw c.as_slice.ensures at c.in_ok-stream_lines-in-Some.ensures.ok)

pub returns-clause-ok : goal.returns-clause-ok
returns-clause-ok c = streams-done c.args.to.now c.loop-number.to _ c.args.forms.now c.loop-number.number c.loop-number.others.now c.loop-number.invariant c.loop-number-test.false
