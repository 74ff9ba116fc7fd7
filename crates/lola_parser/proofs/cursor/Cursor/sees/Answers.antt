use Rattle.std.proofs.Common.{◌∙◌}
use Rattle.lola_parser_cursor.proofs.Steps.{sees_is}
use Rattle.lola_parser.proofs.cursor.Cursor.sees.Goals as goal

pub returns-in-Some : goal.returns-in-Some
returns-in-Some c = c.same.ensures ∙ sees_is c.args.shape c.in-Some.token c.args.self.now c.in-Some.ensures
