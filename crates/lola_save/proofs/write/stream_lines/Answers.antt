use Rattle.std.proofs.Common.{flat_map}
use Rattle.lola_value.proofs.AppendingLemmas.{in_first}
use Rattle.lola_report.proofs.Sequences.{on_err}
use Rattle.lola_save_text.specs.Lines.{StreamLine, count_of, instance_lines, line_text, lines_text}
use Rattle.lola_save.proofs.write.stream_lines.Goals as goal

pub returns-in_err-stream_line-clause-memory : goal.returns-in_err-stream_line-clause-memory
returns-in_err-stream_line-clause-memory c =
    let is = c.args.instances.now in
    on_err _ (in_first c.args.to.now _ (line_text (StreamLine c.args.number (count_of is))) (lines_text (flat_map (instance_lines c.args.form.now) is)) (rw c.count_of.ensures at c.in_err-stream_line.ensures.memory))
