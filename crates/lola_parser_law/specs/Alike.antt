-- That the plain grammar says the same as the one that the parser reads by.
use Rattle.std.specs.Prelude.{◌≡◌, ℕ, List, [], ◌∷◌, ◌++◌, Result, Ok, Err, ◌↔◌}
use Rattle.lola_value.specs.declared.front.Code.TheVariants as code
use Rattle.lola_value.specs.declared.front.FrontEnd.{FrontEnd}
use Rattle.lola_value.specs.declared.front.FrontEnd.TheVariants as front_end
use Rattle.lola_parser_grammar.specs.declared.declarations.Declaration.{Declaration}
use Rattle.lola_parser_grammar.specs.Syntax.{Lexeme, Spells, Begins}
use Rattle.lola_parser_grammar.specs.Nestings.{Fits}
use Rattle.lola_parser_grammar.specs.Cursor.{place_of}
use Rattle.lola_parser_grammar.specs.Grammar as factored
use Rattle.lola_parser_grammar.specs.Grammar.{all_nestings}
use Rattle.lola_parser_grammar.specs.Whole.{Refuses, ReadsAll, IsThat}
use Rattle.lola_parser_law.specs.Plain as plain

-- the tokens spell the tree by the plain grammar, however deep it is nested
abbrev pub SpellsPlainly : List Lexeme → List Declaration → Type 0
SpellsPlainly ts x = (n : ℕ) × Spells (plain.specification n) ts x

-- the same by the grammar that the parser reads by
abbrev pub SpellsFactored : List Lexeme → List Declaration → Type 0
SpellsFactored ts x = (n : ℕ) × Spells (factored.specification n) ts x

-- both grammars say the same
abbrev pub SameSentences : Type 0
SameSentences = (ts : List Lexeme) (x : List Declaration) → SpellsPlainly ts x ↔ SpellsFactored ts x

-- no tokens spell two trees
abbrev pub HasOneTree : Type 0
HasOneTree = (ts : List Lexeme) (x y : List Declaration) → SpellsPlainly ts x → SpellsPlainly ts y → x ≡ y

-- some plain specification begins with the tokens
abbrev pub BeginsPlainly : List Lexeme → Type 0
BeginsPlainly u = (n : ℕ) × Begins (plain.specification n) u

-- what is left from the first token on such that no plain specification begins with the tokens up to it, or nothing where
-- one begins with all of them and none is spelled by them
abbrev pub IsFirstPlainMisfit : List Lexeme → List Lexeme → Type 0
IsFirstPlainMisfit ts [] = BeginsPlainly ts × ((x : List Declaration) → SpellsPlainly ts x → ⊥)
IsFirstPlainMisfit ts (t ∷ rest) = (u : List Lexeme) × (ts ≡ u ++ t ∷ rest) × BeginsPlainly u × (BeginsPlainly (u ++ t ∷ []) → ⊥)

-- A tree that is given is spelled plainly. The place of a token that does not fit is that of the first such, or the end.
abbrev pub RefusesPlainly : List Lexeme → ℕ → Result (List Declaration) FrontEnd → Type 0
RefusesPlainly ts end (Ok x) = SpellsPlainly ts x
RefusesPlainly ts end (Err front_end.Memory) = Unit {0}
RefusesPlainly ts end (Err (front_end.Refused r)) = r.code ≡ code.Unexpected → (rest : List Lexeme) × (r.at ≡ place_of rest end) × IsFirstPlainMisfit ts rest

-- the same, and no expression or formula that is directly a part of a clause has more nestings than may come
abbrev pub FitsPlainly : List Lexeme → List Declaration → Type 0
FitsPlainly ts x = (n : ℕ) × Fits all_nestings (plain.specification n) ts x

-- what is spelled plainly within the limit of nestings is given, unless memory ran out
abbrev pub ReadsPlainly : List Lexeme → Result (List Declaration) FrontEnd → Type 0
ReadsPlainly ts r = (x : List Declaration) → FitsPlainly ts x → IsThat x r

-- what `parse` promises of its answer it promises by the plain grammar
abbrev pub AnswersPlainly : Type 0
AnswersPlainly = (ts : List Lexeme) (end : ℕ) (r : Result (List Declaration) FrontEnd)
    → (Refuses ts end r → RefusesPlainly ts end r) × (ReadsAll ts r → ReadsPlainly ts r)
