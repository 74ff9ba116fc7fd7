-- The head, and then a part of what is behind it.
use Rattle.lola_value.proofs.AppendingLemmas.{in_second}
use Rattle.lola_report.specs.Rows.{head_text, marked_line}
use Rattle.lola_report.proofs.Sequences.{on_err_by}
use Rattle.lola_report.proofs.trace.joined_line.Goals as goal

pub returns-clause-memory : goal.returns-clause-memory
returns-clause-memory c =
    on_err_by c.marked_line.result c.marked_line.ensures.memory (λ part.
    in_second c.args.to.now c.head_text.new.to c.marked_line.new.to (head_text c.args.entry.now.row) (marked_line c.args.entry.now) c.in_ok-head_text.ensures.ok part)
