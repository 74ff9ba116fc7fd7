use Rattle.std.proofs.Common.{◌≡◌, ℕ, List, ◌∷◌, ◌++◌, Err, refl, ap, ◌∙◌, inl, inr, length, rules}
use Rattle.lola_value.specs.declared.front.Refusal.{Refusal}
use Rattle.lola_value.specs.declared.front.Code.TheVariants as code
use Rattle.lola_parser_grammar.specs.Syntax.{Lexeme}
use Rattle.lola_parser_grammar.specs.Syntax as reading
use Rattle.lola_parser_grammar.specs.Cursor.{lexemes, place_of}
use Rattle.lola_parser_grammar.specs.Whole.{Stopped}
use Rattle.lola_parser.specs.Places.{IsPlacedAt, place_too_deep}
use Rattle.lola_parser.proofs.Deep.{deep_parts}
use Rattle.lola_parser.proofs.reading.placed.Goals as goal

stands : (ts : List Lexeme) (end : ℕ) (r : Refusal) (at : ℕ) → Stopped ts end r → r.code ≡ code.TooDeep
    → ((u : List Lexeme) (t : Lexeme) (w : List Lexeme) → ts ≡ u ++ t ∷ w → r.at ≡ t.from → at ≡ place_too_deep u (t ∷ w) t.from) → IsPlacedAt ts at
stands ts end r at (inl h) e f = absurd (let a = h.0 in cc)
stands ts end r at (inr h) e f =
    let p = deep_parts ts h.1.0 h.1.2 in
    let same : r.at ≡ p.1.from = h.1.1 ∙ ap (λ (d : List Lexeme). place_of d end) p.4 in
    (p.0, p.1, p.2, p.3, h.1.2 ∙ ap (λ (d : List Lexeme). Err (reading.TooDeep d)) p.4, f p.0 p.1 p.2 p.3 same)

pub returns-in-Ok : goal.returns-in-Ok
returns-in-Ok c =
    let e : c.args.refusal.code ≡ code.TooDeep = search rules in
    inr (refl, stands (lexemes c.args.bytes.now c.args.tokens.now) (length c.args.bytes.now) c.args.refusal c.in-Ok.at c.requires.stopped e c.in-Ok.ensures)
