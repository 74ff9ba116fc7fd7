use Rattle.std.proofs.Common.{◌∙◌}
use Rattle.lola_rows.proofs.Searches.{found-any}
use Rattle.lola_rows.specs.Lines.{is_return}
use Rattle.lola_rows.proofs.checks.has_return.Goals as goal

pub returns : goal.returns
returns c = c.is_some.ensures ∙ found-any is_return c.args.text.now c.memchr.result c.memchr.ensures
