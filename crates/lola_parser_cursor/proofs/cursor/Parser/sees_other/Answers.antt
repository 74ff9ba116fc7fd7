use Rattle.std.proofs.Common.{◌≡◌, ◌∙◌, ◌&&◌, ◌||◌, not, sym, ap, true, false}
use Rattle.std.specs.Str.{bytes_eq}
use Rattle.lola_lexer.specs.declared.shape.TokenShape.TheVariants as is
use Rattle.lola_parser_grammar.specs.Syntax.{same_shape}
use Rattle.lola_parser_grammar.specs.Cursor.{text_of}
use Rattle.lola_parser_cursor.proofs.Steps.{sees_other_is}
use Rattle.lola_parser_cursor.proofs.cursor.Parser.sees_other.Goals as goal

pub returns-then-is_name : goal.returns-then-is_name
returns-then-is_name c =
    let e : same_shape is.Name c.in-Some.token.shape ≡ true = cc in
    let w = text_of c.args.self.now.rest in
    rw (c.is_none_of-is_other.ensures, c.text.ensures) (sym (ap (λ b. b && not (bytes_eq c.args.first.now w || bytes_eq c.args.second.now w)) e) ∙ sees_other_is c.args.first.now c.args.second.now c.in-Some.token c.args.self.now.rest c.in-Some.ensures)

pub returns-else-is_name : goal.returns-else-is_name
returns-else-is_name c =
    let e : same_shape is.Name c.in-Some.token.shape ≡ false = cc in
    let w = text_of c.args.self.now.rest in
    rw (c.same-is_name.ensures, e) (sym (ap (λ b. b && not (bytes_eq c.args.first.now w || bytes_eq c.args.second.now w)) e) ∙ sees_other_is c.args.first.now c.args.second.now c.in-Some.token c.args.self.now.rest c.in-Some.ensures)
