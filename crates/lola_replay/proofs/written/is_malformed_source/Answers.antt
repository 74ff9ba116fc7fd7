use Rattle.std.proofs.Common.{◌∙◌, sym}
use Rattle.lola_replay.proofs.FindingLemmas.{malformed-ok}
use Rattle.lola_replay.proofs.WrittenLemmas.{far-malformed, none-malformed}
use Rattle.lola_replay.proofs.written.is_malformed_source.Goals as goal

pub returns-in-None : goal.returns-in-None
returns-in-None c = none-malformed c.args.source c.args.line.now (sym c.in_ok-row.ensures ∙ c.in-None.is)

pub returns-else-row : goal.returns-else-row
returns-else-row c = far-malformed c.args.source c.in-Some.row c.args.line.now (sym c.in_ok-row.ensures ∙ c.in-Some.is) c.if-row.false

pub returns-then-row : goal.returns-then-row
returns-then-row c = malformed-ok c.args.source c.in-Some.row c.args.line.now (sym c.in_ok-row.ensures ∙ c.in-Some.is) c.if-row.true c.is_malformed_row.result c.is_malformed_row.ensures
