-- Whether the next token is a nesting, by parts.
use Rattle.std.proofs.Common.{◌≡◌, ◌||◌, Bool, true, false, List, [], ◌∷◌, ◌++◌, refl, ap, ◌∙◌}
use Rattle.lola_parser_grammar.specs.Syntax.{Lexeme, Terminal, any_fits, fits, starts}
use Rattle.lola_parser_grammar.specs.Grammar.{opening_nestings, joining_nestings, comparing_nestings, operator_nestings, all_nestings}

or_assoc : (a b c : Bool) → (a || (b || c)) ≡ ((a || b) || c)
or_assoc true b c = refl
or_assoc false b c = refl

any_append : (ks ls : List Terminal) (t : Lexeme) → any_fits (ks ++ ls) t ≡ (any_fits ks t || any_fits ls t)
any_append [] ls t = refl
any_append (k ∷ ks) ls t = ap (λ b. fits k t || b) (any_append ks ls t) ∙ or_assoc (fits k t) (any_fits ks t) (any_fits ls t)

starts_append : (ks ls : List Terminal) (ts : List Lexeme) → starts (ks ++ ls) ts ≡ (starts ks ts || starts ls ts)
starts_append ks ls [] = refl
starts_append ks ls (t ∷ ts) = any_append ks ls t

pub operators_split : (ts : List Lexeme) → starts operator_nestings ts ≡ (starts joining_nestings ts || starts comparing_nestings ts)
operators_split ts = starts_append joining_nestings comparing_nestings ts

pub nestings_split : (ts : List Lexeme) → starts all_nestings ts ≡ (starts opening_nestings ts || starts operator_nestings ts)
nestings_split ts = starts_append opening_nestings operator_nestings ts
