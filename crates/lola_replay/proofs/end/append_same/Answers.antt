use Rattle.std.proofs.Common.{codes}
use Rattle.lola_value.proofs.AppendingLemmas.{in_first}
use Rattle.lola_report.proofs.Sequences.{on_err}
use Rattle.lola_replay.specs.ReplayEnds.{counted_line, counted_text}
use Rattle.lola_replay.proofs.Parts.{both_appended, second_in_part}
use Rattle.lola_replay.proofs.end.append_same.Goals as goal

pub returns-in_err-append_counted-clause-memory : goal.returns-in_err-append_counted-clause-memory
returns-in_err-append_counted-clause-memory c =
    on_err _ (in_first c.args.to.now c.append_counted.new.to (counted_text (codes "= same entries ") c.args.entries) (counted_line (codes " lines ") c.args.lines) c.in_err-append_counted.ensures.memory)

pub returns-clause-ok : goal.returns-clause-ok
returns-clause-ok c =
    both_appended c.append_counted_line.result c.args.to.now c.append_counted.new.to c.append_counted_line.new.to (counted_text (codes "= same entries ") c.args.entries)
    (counted_line (codes " lines ") c.args.lines) c.in_ok-append_counted.ensures.ok c.append_counted_line.ensures.ok

pub returns-clause-memory : goal.returns-clause-memory
returns-clause-memory c =
    second_in_part c.append_counted_line.result c.args.to.now c.append_counted.new.to c.append_counted_line.new.to (counted_text (codes "= same entries ") c.args.entries)
    (counted_line (codes " lines ") c.args.lines) c.in_ok-append_counted.ensures.ok c.append_counted_line.ensures.memory
