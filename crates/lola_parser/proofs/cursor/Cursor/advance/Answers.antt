use Rattle.std.proofs.Common.{ap, ◌∙◌, drop}
use Rattle.lola_parser_cursor.proofs.Steps.{tail_is}
use Rattle.lola_parser.proofs.cursor.Cursor.advance.Goals as goal

pub returns-then-self : goal.returns-then-self
returns-then-self c = tail_is c.self.inside.bytes.now c.self.inside.tokens.now c.self.inside.at ∙ ap (λ ts. drop 1 ts) c.self.view_is
