use Rattle.std.proofs.lemmas.Result.{on_ok_weaker, on_err_weaker}
use Rattle.lola_report.proofs.Sequences.{on_err}
use Rattle.lola_save.proofs.WholeText.{all-written, end-cut, head-cut, streams-cut, times-cut}
use Rattle.lola_save.proofs.write.write_state.Goals as goal

pub returns-in_err-head_text-clause-memory : goal.returns-in_err-head_text-clause-memory
returns-in_err-head_text-clause-memory c plan given =
    on_err _ (head-cut c.args.spec.now plan c.args.forms.now c.args.state.now given c.args.to.now _ c.in_err-head_text.ensures.memory)

pub returns-in_err-times_lines-clause-memory : goal.returns-in_err-times_lines-clause-memory
returns-in_err-times_lines-clause-memory c plan given =
    on_err _ (times-cut c.args.spec.now plan c.args.forms.now c.args.state.now given c.args.to.now _ c.in_ok-head_text.ensures.ok _ c.in_err-times_lines.ensures.memory)

pub returns-in_err-streams_lines-clause-memory : goal.returns-in_err-streams_lines-clause-memory
returns-in_err-streams_lines-clause-memory c plan given =
    on_err _ (streams-cut c.args.spec.now plan c.args.forms.now c.args.state.now given c.args.to.now _ c.in_ok-head_text.ensures.ok _ c.in_ok-times_lines.ensures.ok _ (rw c.as_slice.ensures at c.in_err-streams_lines.ensures.memory))

pub returns-clause-ok : goal.returns-clause-ok
returns-clause-ok c plan given =
    on_ok_weaker c.append.result (all-written c.args.spec.now plan c.args.forms.now c.args.state.now given c.args.to.now _ c.in_ok-head_text.ensures.ok _ c.in_ok-times_lines.ensures.ok _ _ (rw c.as_slice.ensures at c.in_ok-streams_lines.ensures.ok)) c.append.ensures.ok

pub returns-clause-memory : goal.returns-clause-memory
returns-clause-memory c plan given =
    on_err_weaker c.append.result (end-cut c.args.spec.now plan c.args.forms.now c.args.state.now given c.args.to.now _ c.in_ok-head_text.ensures.ok _ c.in_ok-times_lines.ensures.ok _ _ (rw c.as_slice.ensures at c.in_ok-streams_lines.ensures.ok)) c.append.ensures.err
