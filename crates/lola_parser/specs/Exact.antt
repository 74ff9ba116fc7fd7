-- The place of a refusal as too deep, by the rule.
use Rattle.std.specs.Prelude.{◌≡◌, ◌≤◌, ℕ, List, ◌∷◌, ◌++◌, Result, Ok, Err}
use Rattle.lola_value.specs.declared.front.Code.TheVariants as code
use Rattle.lola_value.specs.declared.front.FrontEnd.{FrontEnd}
use Rattle.lola_value.specs.declared.front.FrontEnd.TheVariants as front_end
use Rattle.lola_parser_grammar.specs.declared.declarations.Declaration.{Declaration}
use Rattle.lola_parser_grammar.specs.Syntax.{Lexeme}
use Rattle.lola_parser.specs.Late.{IsDeepPlace}
use Rattle.lola_parser.specs.Fronts.{IsLongestFront}
use Rattle.lola_parser_grammar.specs.Grammar.{all_nestings, specification}
use Rattle.lola_parser_grammar.specs.Whole.{most_levels}
use Rattle.lola_parser.specs.Law.{IsBehind}

-- The place is that of the first nesting that is one too many in every specification that begins with the tokens before the first
-- one that does not fit, unless before the nesting at which reading ended a spawn clause's bracket has as many nestings as may come.
abbrev pub IsExactAt : List Lexeme → ℕ → Type 0
IsExactAt ts at = (n : ℕ) → most_levels ≤ n → (p rest : List Lexeme) → IsLongestFront (specification n) ts p rest
    → (u : List Lexeme) × (t : Lexeme) × (w : List Lexeme) × (p ≡ u ++ t ∷ w) × ((IsBehind u → ⊥) → (at ≡ t.from) × IsDeepPlace all_nestings (specification n) u t w)

-- a refusal as too deep stands there
abbrev pub PlacesExactly : List Lexeme → Result (List Declaration) FrontEnd → Type 0
PlacesExactly ts (Ok v) = Unit {0}
PlacesExactly ts (Err front_end.Memory) = Unit {0}
PlacesExactly ts (Err (front_end.Refused r)) = r.code ≡ code.TooDeep → IsExactAt ts r.at
