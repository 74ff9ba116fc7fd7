use Rattle.std.proofs.Common.{codes}
use Rattle.lola_value.proofs.AppendingLemmas.{in_first}
use Rattle.lola_report.proofs.Sequences.{on_err}
use Rattle.lola_replay.specs.ReplayEnds.{counted_text}
use Rattle.lola_replay.proofs.Parts.{both_appended, first_alone}
use Rattle.lola_replay.proofs.end.append_counted_line.Goals as goal

pub returns-in_err-append_counted-clause-memory : goal.returns-in_err-append_counted-clause-memory
returns-in_err-append_counted-clause-memory c = on_err _ (in_first c.args.to.now c.append_counted.new.to (counted_text c.args.words.now c.args.n) (codes "\n") c.in_err-append_counted.ensures.memory)

pub returns-clause-ok : goal.returns-clause-ok
returns-clause-ok c = both_appended c.append.result c.args.to.now c.append_counted.new.to c.append.new.self (counted_text c.args.words.now c.args.n) (codes "\n") c.in_ok-append_counted.ensures.ok c.append.ensures.ok

pub returns-clause-memory : goal.returns-clause-memory
returns-clause-memory c = first_alone c.append.result c.args.to.now c.append_counted.new.to c.append.new.self (counted_text c.args.words.now c.args.n) (codes "\n") c.in_ok-append_counted.ensures.ok c.append.ensures.err
