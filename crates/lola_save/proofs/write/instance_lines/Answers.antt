use Rattle.std.proofs.Common.{◌∷◌}
use Rattle.lola_value.proofs.AppendingLemmas.{in_first, in_second}
use Rattle.lola_report.proofs.Sequences.{on_err}
use Rattle.lola_save_text.specs.Lines.{InstLine, RingLine, line_text, lines_text, panes_lines}
use Rattle.lola_save.proofs.write.instance_lines.Goals as goal

pub returns-in_err-inst_line-clause-memory : goal.returns-in_err-inst_line-clause-memory
returns-in_err-inst_line-clause-memory c =
    let i = c.args.instance.now in
    on_err _ (in_first c.args.to.now _ (line_text (InstLine i.born i.params)) (lines_text (RingLine i.ring ∷ panes_lines c.args.form.now.windows i.panes)) c.in_err-inst_line.ensures.memory)

pub returns-in_err-ring_line-clause-memory : goal.returns-in_err-ring_line-clause-memory
returns-in_err-ring_line-clause-memory c =
    let i = c.args.instance.now in
    on_err _ (in_second c.args.to.now _ _ (line_text (InstLine i.born i.params)) (lines_text (RingLine i.ring ∷ panes_lines c.args.form.now.windows i.panes)) c.in_ok-inst_line.ensures.ok
    (in_first _ _ (line_text (RingLine i.ring)) (lines_text (panes_lines c.args.form.now.windows i.panes)) c.in_err-ring_line.ensures.memory))
