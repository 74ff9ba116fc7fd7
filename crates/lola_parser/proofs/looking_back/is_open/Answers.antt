use Rattle.std.proofs.Common.{◌∙◌}
use Rattle.lola_lexer.specs.declared.shape.TokenShape.TheVariants as is
use Rattle.lola_parser.proofs.Cuts.{shape_at}
use Rattle.lola_parser.proofs.looking_back.is_open.Goals as goal

pub returns-then-at-tokens : goal.returns-then-at-tokens
returns-then-at-tokens c = λ bytes. c.same.ensures ∙ shape_at is.Open bytes c.args.tokens.now c.args.at _ c.if-at-tokens.true
