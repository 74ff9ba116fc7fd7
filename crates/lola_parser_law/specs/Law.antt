-- Where a refusal as too deep stands.
use Rattle.std.specs.Prelude.{◌≡◌, ℕ, ◌<◌, ◌≤◌, true, List, ◌∷◌, ◌++◌, length, Some, Result, Ok, Err}
use Rattle.lola_value.specs.declared.front.Code.TheVariants as code
use Rattle.lola_value.specs.declared.front.FrontEnd.{FrontEnd}
use Rattle.lola_value.specs.declared.front.FrontEnd.TheVariants as front_end
use Rattle.lola_parser_grammar.specs.declared.declarations.Declaration.{Declaration}
use Rattle.lola_parser_grammar.specs.Syntax.{Lexeme, TooDeep, Spells, max_nestings, read_all}
use Rattle.lola_parser_grammar.specs.Nestings.{nestings_in}
use Rattle.lola_parser.specs.Late.{IsLate, IsFirstLate, IsDeepPlace, IsNextInEvery}
use Rattle.lola_parser.specs.Fronts.{IsLongestFront}
use Rattle.lola_parser_grammar.specs.Grammar.{all_nestings, specification}
use Rattle.lola_parser_grammar.specs.Whole.{most_levels}
use Rattle.lola_parser.specs.Places.{cut_last, behind_bracket, is_enclosed, IsPlacedAt, Answers}

-- Behind the bracket of the last `with`, which a spawn clause has, stand as many nestings as may come, and the expression that
-- begins there goes past the first token of d and ends at a closing bracket.
abbrev pub IsEnclosedBehind : List Lexeme → List Lexeme → Type 0
IsEnclosedBehind u d = (head : List Lexeme) × (behind_bracket u ≡ Some head) × (nestings_in all_nestings head ≡ max_nestings) × (is_enclosed head d ≡ true)

-- Where no such expression stands behind the bracket, or no such bracket is there, the nesting at which reading ended is the first that is one too many in every
-- specification that begins with the tokens before the first one that does not fit, where more levels may be nested than there
-- are tokens.
abbrev pub PlaceInListIsDeep : Type 0
PlaceInListIsDeep = (n : ℕ) → most_levels ≤ n → (ts d p rest : List Lexeme) → length ts < n → read_all (specification n) ts ≡ Err (TooDeep d) → IsLongestFront (specification n) ts p rest
    → (u : List Lexeme) × (t : Lexeme) × (w : List Lexeme) × (p ≡ u ++ t ∷ w) × (d ≡ t ∷ (w ++ rest)) × ((IsEnclosedBehind u d → ⊥) → IsDeepPlace all_nestings (specification n) u t w)

-- Where in every specification that begins so the nesting at which reading ended is the next behind the first one too many, the
-- last nesting before it is the first that is one too many in every such specification.
abbrev pub PlaceBehindNextIsDeep : Type 0
PlaceBehindNextIsDeep = (n : ℕ) → most_levels ≤ n → (ts d p rest : List Lexeme) → read_all (specification n) ts ≡ Err (TooDeep d) → IsLongestFront (specification n) ts p rest
    → (u : List Lexeme) × (t : Lexeme) × (w : List Lexeme) × (p ≡ u ++ t ∷ w) × (d ≡ t ∷ (w ++ rest))
    × (IsNextInEvery all_nestings (specification n) u t w → (a : List Lexeme) × (m : Lexeme) × (b : List Lexeme) × (cut_last all_nestings u ≡ Some (a, m, b)) × IsDeepPlace all_nestings (specification n) a m (b ++ t ∷ w))

-- Where such an expression stands behind the bracket, the last nesting before the one at which reading ended is the first that is
-- one too many in every specification that begins with the tokens before the first one that does not fit, where more levels may
-- be nested than there are tokens.
abbrev pub PlaceBehindIsDeep : Type 0
PlaceBehindIsDeep = (n : ℕ) → most_levels ≤ n → (ts d p rest : List Lexeme) → length ts < n → read_all (specification n) ts ≡ Err (TooDeep d) → IsLongestFront (specification n) ts p rest
    → (u : List Lexeme) × (t : Lexeme) × (w : List Lexeme) × (p ≡ u ++ t ∷ w) × (d ≡ t ∷ (w ++ rest))
    × (IsEnclosedBehind u d → (a : List Lexeme) × (m : Lexeme) × (b : List Lexeme) × (cut_last all_nestings u ≡ Some (a, m, b)) × IsDeepPlace all_nestings (specification n) a m (b ++ t ∷ w))

-- The place is that of a token of p: of the first nesting that is one too many in every specification that begins with p.
abbrev pub IsRulePlace : ℕ → List Lexeme → ℕ → Type 0
IsRulePlace n p at = (u : List Lexeme) × (t : Lexeme) × (w : List Lexeme) × (p ≡ u ++ t ∷ w) × (at ≡ t.from) × IsDeepPlace all_nestings (specification n) u t w

-- The place of each refusal as too deep is that of the first nesting that is one too many in every specification that begins with
-- the tokens before the first one that does not fit, where more levels may be nested than there are tokens.
abbrev pub PlaceIsDeep : Type 0
PlaceIsDeep = (n : ℕ) → most_levels ≤ n → (ts : List Lexeme) (at : ℕ) → length ts < n → IsPlacedAt ts at → (p rest : List Lexeme) → IsLongestFront (specification n) ts p rest → IsRulePlace n p at

-- In the specification that these tokens are, with this tree, the place is that of the first nesting too many: the 513th of a whole
-- expression or formula, and no nesting before it is the 513th or a later one.
abbrev pub IsFirstLateAt : ℕ → List Lexeme → List Declaration → ℕ → Type 0
IsFirstLateAt n ts x at = (u : List Lexeme) × (t : Lexeme) × (v : List Lexeme) × (ts ≡ u ++ t ∷ v) × (at ≡ t.from) × IsFirstLate all_nestings (specification n) u t v x

-- Where the tokens are a specification, the place of its refusal as too deep is that of its first nesting too many, in each tree
-- that they spell.
abbrev pub PlaceIsExact : Type 0
PlaceIsExact = (n : ℕ) → most_levels ≤ n → (ts : List Lexeme) (at : ℕ) → length ts < n → IsPlacedAt ts at → (x : List Declaration) → Spells (specification n) ts x → IsFirstLateAt n ts x at

-- Where the tokens are a specification and some nesting of it is one too many, they are refused as too deep.
abbrev pub LateIsPlaced : Type 0
LateIsPlaced = (n : ℕ) → most_levels ≤ n → (u : List Lexeme) (t : Lexeme) (v : List Lexeme) (x : List Declaration) → IsLate all_nestings (specification n) u t v x → (at : ℕ) × IsPlacedAt (u ++ t ∷ v) at

-- what is answered is a refusal as too deep at this place, unless memory ran out
abbrev pub IsRefusedAt : ℕ → Result (List Declaration) FrontEnd → Type 0
IsRefusedAt at (Ok v) = ⊥
IsRefusedAt at (Err front_end.Memory) = Unit {0}
IsRefusedAt at (Err (front_end.Refused r)) = (r.code ≡ code.TooDeep) × (r.at ≡ at)

-- Where the tokens are a specification and some nesting of it is one too many, the answer is a refusal as too deep at the first such.
abbrev pub FirstLateIsRefused : Type 0
FirstLateIsRefused = (n : ℕ) → most_levels ≤ n → (ts : List Lexeme) (x : List Declaration) (at : ℕ) → length ts < n → IsFirstLateAt n ts x at → (end : ℕ) (r : Result (List Declaration) FrontEnd) → Answers ts end r → IsRefusedAt at r
