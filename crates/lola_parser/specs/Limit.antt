-- Where a specification is refused as too deep.
use Rattle.std.specs.Prelude.{◌≡◌, ◌≤◌, ◌<◌, ℕ, List, ◌∷◌, ◌++◌, length, Err, ◌⊎◌}
use Rattle.lola_parser_grammar.specs.declared.declarations.Declaration.{Declaration}
use Rattle.lola_parser_grammar.specs.Syntax.{Lexeme, Unexpected, TooDeep, Spells, read_all}
use Rattle.lola_parser_grammar.specs.Grammar.{specification, all_nestings}
use Rattle.lola_parser_grammar.specs.Whole.{most_levels}
use Rattle.lola_parser.specs.Late.{IsNextBehindBracket, IsLateInEvery, NoneIsLate, IsFirstLate, IsDeepPlace, IsNextInEvery, HasNoNext}
use Rattle.lola_parser.specs.Fronts.{IsLongestFront}

-- In each text there is a first token such that no specification begins with the tokens up to it, or there is none such.
abbrev pub HasLongestFront : Type 0
HasLongestFront = (n : ℕ) (ts : List Lexeme) → (p : List Lexeme) × (rest : List Lexeme) × IsLongestFront (specification n) ts p rest

-- The nesting that is refused as too deep stands before the first token that does not fit. It is a nesting too many of a whole
-- expression or formula in every specification that begins with the tokens before that one.
abbrev pub TooDeepIsLateInEvery : Type 0
TooDeepIsLateInEvery = (n : ℕ) → most_levels ≤ n → (ts d p rest : List Lexeme) → read_all (specification n) ts ≡ Err (TooDeep d) → IsLongestFront (specification n) ts p rest
    → (u : List Lexeme) × (t : Lexeme) × (w : List Lexeme) × (p ≡ u ++ t ∷ w) × (d ≡ t ∷ (w ++ rest)) × IsLateInEvery all_nestings (specification n) u t w

-- Where some nesting before the first token that does not fit is a nesting too many in every specification that begins with the
-- tokens before that one, the text is refused as too deep, and not at that token.
abbrev pub LateInEveryIsTooDeep : Type 0
LateInEveryIsTooDeep = (n : ℕ) → most_levels ≤ n → (ts p rest : List Lexeme) → IsLongestFront (specification n) ts p rest
    → (u : List Lexeme) (t : Lexeme) (w : List Lexeme) → p ≡ u ++ t ∷ w → IsLateInEvery all_nestings (specification n) u t w → (d : List Lexeme) × (read_all (specification n) ts ≡ Err (TooDeep d))

-- Where a text is refused at a token that does not fit, the tokens before it begin a specification in which none of them is
-- a nesting too many.
abbrev pub UnexpectedKeepsTheLimit : Type 0
UnexpectedKeepsTheLimit = (n : ℕ) → most_levels ≤ n → (ts rest : List Lexeme) → read_all (specification n) ts ≡ Err (Unexpected rest)
    → (p : List Lexeme) × IsLongestFront (specification n) ts p rest × ((q : List Lexeme) × (x : List Declaration) × Spells (specification n) (p ++ q) x × NoneIsLate all_nestings (specification n) (length p) (p ++ q) x)

-- The nesting that is refused as too deep is the first nesting too many in each specification that begins with the tokens before the
-- first one that does not fit; or, where a bracket behind the `with` of a spawn begins an expression, and the expression in it
-- has more nestings alone than may come, it is the next nesting.
abbrev pub TooDeepIsFirst : Type 0
TooDeepIsFirst = (n : ℕ) → most_levels ≤ n → (ts d p rest : List Lexeme) → read_all (specification n) ts ≡ Err (TooDeep d) → IsLongestFront (specification n) ts p rest
    → (u : List Lexeme) × (t : Lexeme) × (w : List Lexeme) × (p ≡ u ++ t ∷ w) × (d ≡ t ∷ (w ++ rest))
    × ((q : List Lexeme) (x : List Declaration) → Spells (specification n) (u ++ t ∷ (w ++ q)) x
    → IsFirstLate all_nestings (specification n) u t (w ++ q) x ⊎ IsNextBehindBracket all_nestings (specification n) u t (w ++ q) x)

-- The text is refused behind u and the token there, at a nesting that in every specification that begins so is the next behind the
-- first one too many.
abbrev pub IsNextRefused : ℕ → List Lexeme → List Lexeme → List Lexeme → List Lexeme → Type 0
IsNextRefused n ts p rest u =
    (u' : List Lexeme) × (t' : Lexeme) × (w' : List Lexeme) × (p ≡ u' ++ t' ∷ w') × (length u < length u') × (read_all (specification n) ts ≡ Err (TooDeep (t' ∷ (w' ++ rest)))) × IsNextInEvery all_nestings (specification n) u' t' w'

-- Where t is the first nesting that is one too many in every specification that begins with the tokens before the first one
-- that does not fit, the text is refused there as too deep. Or it is refused at the next nesting, and in each of these
-- specifications both stand behind a bracket that begins an expression behind the `with` of a spawn.
abbrev pub TooDeepStandsThere : Type 0
TooDeepStandsThere = (n : ℕ) → most_levels ≤ n → (ts p rest : List Lexeme) → IsLongestFront (specification n) ts p rest
    → (u : List Lexeme) (t : Lexeme) (w : List Lexeme) → p ≡ u ++ t ∷ w → IsDeepPlace all_nestings (specification n) u t w
    → (read_all (specification n) ts ≡ Err (TooDeep (t ∷ (w ++ rest)))) ⊎ IsNextRefused n ts p rest u

-- A text is refused as too deep exactly at the first nesting that is one too many in every specification that begins with the
-- tokens before the first one that does not fit; unless in each of these a bracketed expression behind the `with` of a spawn
-- has more nestings in its bracket than may come.
abbrev pub TooDeepStandsExactly : Type 0
TooDeepStandsExactly = (n : ℕ) → most_levels ≤ n → (ts p rest : List Lexeme) → IsLongestFront (specification n) ts p rest → HasNoNext all_nestings (specification n) p
    → (u : List Lexeme) (t : Lexeme) (w : List Lexeme) → p ≡ u ++ t ∷ w
    → (IsDeepPlace all_nestings (specification n) u t w → read_all (specification n) ts ≡ Err (TooDeep (t ∷ (w ++ rest))))
    × (read_all (specification n) ts ≡ Err (TooDeep (t ∷ (w ++ rest))) → IsDeepPlace all_nestings (specification n) u t w)
