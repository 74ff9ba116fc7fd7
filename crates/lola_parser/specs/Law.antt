-- What is left behind an expression, in the words of the grammar.
use Rattle.std.specs.Prelude.{◌≡◌, ℕ, ◌<◌, ◌≤◌, false, List, ◌∷◌, ◌++◌, length, Some, Err}
use Rattle.lola_parser_grammar.specs.declared.expressions.Expr.{Expr}
use Rattle.lola_parser_grammar.specs.Syntax.{Lexeme, TooDeep, Spells, starts, max_nestings, read_all}
use Rattle.lola_parser_grammar.specs.Nestings.{nestings_in}
use Rattle.lola_parser.specs.Late.{IsDeepPlace}
use Rattle.lola_parser.specs.Fronts.{IsLongestFront}
use Rattle.lola_parser_grammar.specs.Whole.{most_levels}
use Rattle.lola_parser.specs.Places.{behind_bracket}
use Rattle.lola_parser_grammar.specs.Grammar.{expr_in, expr_goes_on, all_nestings, specification}
use Rattle.lola_parser.specs.Skims.{skim}

-- What is left stands behind a sentence.
abbrev pub LeavesSentences : Type 0
LeavesSentences = (n : ℕ) (ts rest : List Lexeme) → skim (expr_in n) ts ≡ Some rest → (u : List Lexeme) × (x : Expr) × (ts ≡ u ++ rest) × Spells (expr_in n) u x

-- Behind a sentence that what follows it does not go on, that is what is left.
abbrev pub SkimsSentences : Type 0
SkimsSentences = (n : ℕ) (u rest : List Lexeme) (x : Expr) → length u < n → Spells (expr_in n) u x → starts expr_goes_on rest ≡ false → skim (expr_in n) (u ++ rest) ≡ Some rest

-- Behind the bracket of the last `with`, which a spawn clause has, stand as many nestings as may come.
abbrev pub IsBehind : List Lexeme → Type 0
IsBehind u = (head : List Lexeme) × (behind_bracket u ≡ Some head) × (nestings_in all_nestings head ≡ max_nestings)

-- Where no such bracket stands before the nesting at which reading ended, that nesting is the first that is one too many in every
-- specification that begins with the tokens before the first one that does not fit.
abbrev pub OwnPlaceIsDeep : Type 0
OwnPlaceIsDeep = (n : ℕ) → most_levels ≤ n → (ts d p rest : List Lexeme) → read_all (specification n) ts ≡ Err (TooDeep d) → IsLongestFront (specification n) ts p rest
    → (u : List Lexeme) × (t : Lexeme) × (w : List Lexeme) × (p ≡ u ++ t ∷ w) × (d ≡ t ∷ (w ++ rest)) × ((IsBehind u → ⊥) → IsDeepPlace all_nestings (specification n) u t w)
