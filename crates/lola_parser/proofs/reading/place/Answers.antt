use Rattle.std.proofs.Common.{ℕ, List, ◌∷◌, length, Result, Ok, Err, get_or, drop, sym, ap, ◌∙◌}
use Rattle.lola_lexer.specs.declared.shape.TokenShape.TheVariants as is
use Rattle.lola_lexer.specs.declared.token.Token.{Token}
use Rattle.lola_parser_grammar.specs.Syntax.{Lexeme}
use Rattle.std.specs.Result.{IfOk}
use Rattle.lola_value.specs.declared.text.Memory.{Memory}
use Rattle.lola_parser_grammar.specs.Cursor.{lexemes}
use Rattle.lola_parser.specs.Places.{place_too_deep}
use Rattle.lola_parser.proofs.Cuts.{some_there, only_there}
use Rattle.lola_parser.proofs.reading.place.Goals as goal

grow : (r : Result ℕ Memory) (P Q : ℕ → Type 0) → ((x : ℕ) → P x → Q x) → IfOk r P → IfOk r Q
grow (Ok x) P Q f h = f x h
grow (Err e) P Q f h = h

any : Token
any = record { shape = is.With; from = 0; to = 0 }

pub returns-in-None : goal.returns-in-None
returns-in-None c = λ u t w e same.
    let r = some_there c.args.bytes.now c.args.tokens.now u t w any e in
    absurd (c.in-None.ensures (length u) any r.0 (r.1 ∙ sym same))

pub returns-in-Some : goal.returns-in-Some
returns-in-Some c =
    grow c.place_from.result _ _
    (λ r h u t w e same.
    let there = c.in-Some.ensures in
    let parts = only_there c.args.bytes.now c.args.bytes.now 0 c.args.tokens.now c.in-Some.deep any u t w c.requires.within c.requires.in_order there.0 e (there.1 any ∙ same) in
    h any ∙ ap (λ (v : List Lexeme). place_too_deep v (lexemes c.args.bytes.now (drop c.in-Some.deep c.args.tokens.now)) (get_or c.args.tokens.now c.in-Some.deep any).from) parts.0 ∙ ap (λ (v : List Lexeme). place_too_deep u v (get_or c.args.tokens.now c.in-Some.deep any).from) parts.1 ∙ ap (λ (n : ℕ). place_too_deep u (t ∷ w) n) (there.1 any ∙ same))
    c.place_from.ensures
