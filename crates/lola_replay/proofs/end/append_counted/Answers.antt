use Rattle.std.proofs.Common.{decimal}
use Rattle.lola_replay.proofs.Parts.{both_appended, first_alone}
use Rattle.lola_replay.proofs.end.append_counted.Goals as goal

pub returns-clause-ok : goal.returns-clause-ok
returns-clause-ok c = both_appended c.number_text.result c.args.to.now c.append.new.self c.number_text.new.to c.args.words.now (decimal c.args.n) c.in_ok-append.ensures.ok c.number_text.ensures.ok

pub returns-clause-memory : goal.returns-clause-memory
returns-clause-memory c = first_alone c.number_text.result c.args.to.now c.append.new.self c.number_text.new.to c.args.words.now (decimal c.args.n) c.in_ok-append.ensures.ok c.number_text.ensures.err
