-- Whole specifications.
use Rattle.std.specs.Prelude.{◌≡◌, ◌≤◌, ℕ, List, ◌∷◌, ◌++◌, Result, Ok, Err, ◌⊎◌}
use Rattle.lola_value.specs.declared.front.Refusal.{Refusal}
use Rattle.lola_value.specs.declared.front.Code.TheVariants as code
use Rattle.lola_value.specs.declared.front.FrontEnd.{FrontEnd}
use Rattle.lola_value.specs.declared.front.FrontEnd.TheVariants as front_end
use Rattle.lola_parser_grammar.specs.declared.declarations.Declaration.{Declaration}
use Rattle.lola_parser_grammar.specs.Syntax.{Lexeme, Spells, read_all, IsFirstMisfit}
use Rattle.lola_parser_grammar.specs.Syntax as reading
use Rattle.lola_parser_grammar.specs.Nestings.{IsOver, Fits}
use Rattle.lola_parser_grammar.specs.Exceeding.{Exceeds}
use Rattle.lola_parser_grammar.specs.Cursor.{place_of}
use Rattle.lola_parser_grammar.specs.Grammar.{specification, all_nestings}

-- More levels than there may be nestings in an expression: each level takes one. So the clauses below speak of every greater
-- number of levels too, that is of specifications that are nested however deep.
abbrev pub most_levels : ℕ
most_levels = 514

-- where reading stopped, and the code of its refusal
abbrev pub Stopped : List Lexeme → ℕ → Refusal → Type 0
Stopped ts end r =
    ((r.code ≡ code.Unexpected) × ((rest : List Lexeme) × (r.at ≡ place_of rest end) × (read_all (specification most_levels) ts ≡ Err (reading.Unexpected rest))))
    ⊎ ((r.code ≡ code.TooDeep) × ((rest : List Lexeme) × (r.at ≡ place_of rest end) × (read_all (specification most_levels) ts ≡ Err (reading.TooDeep rest))))

-- what is returned is what the grammar's reading gives, unless memory ran out
abbrev pub Answers : List Lexeme → ℕ → Result (List Declaration) FrontEnd → Type 0
Answers ts end (Ok v) = read_all (specification most_levels) ts ≡ Ok v
Answers ts end (Err front_end.Memory) = Unit {0}
Answers ts end (Err (front_end.Refused r)) = Stopped ts end r

-- the place is that of the first token such that no specification begins with the tokens up to it, or the end
abbrev pub IsMisfitAt : List Lexeme → ℕ → ℕ → Type 0
IsMisfitAt ts end at = (rest : List Lexeme) × (at ≡ place_of rest end) × ((n : ℕ) → most_levels ≤ n → IsFirstMisfit (specification n) ts rest)

-- the place is that of a token that is one nesting too many of a whole expression or formula, in some specification that
-- begins with the tokens up to it
abbrev pub IsTooDeepAt : List Lexeme → ℕ → Type 0
IsTooDeepAt ts at = (n : ℕ) → most_levels ≤ n
    → (u : List Lexeme) × (t : Lexeme) × (rest : List Lexeme) × (at ≡ t.from) × (ts ≡ u ++ t ∷ rest) × IsOver all_nestings (specification n) u t rest

-- in every tree that the tokens spell, the place is that of a nesting before which exactly as many nestings as may come stand in
-- the same whole expression or formula
abbrev pub IsOneTooMany : List Lexeme → ℕ → Type 0
IsOneTooMany ts at = (n : ℕ) → most_levels ≤ n → (x : List Declaration) → Spells (specification n) ts x
    → (u : List Lexeme) × (t : Lexeme) × (v : List Lexeme) × (at ≡ t.from) × (ts ≡ u ++ t ∷ v) × Exceeds all_nestings (specification n) u t v x

-- What is returned is spelled by the tokens. A token that does not fit is the first such, and one that is too deep is one
-- nesting too many.
abbrev pub Refuses : List Lexeme → ℕ → Result (List Declaration) FrontEnd → Type 0
Refuses ts end (Ok v) = Spells (specification most_levels) ts v
Refuses ts end (Err front_end.Memory) = Unit {0}
Refuses ts end (Err (front_end.Refused r)) = ((r.code ≡ code.Unexpected) × IsMisfitAt ts end r.at) ⊎ ((r.code ≡ code.TooDeep) × IsTooDeepAt ts r.at × IsOneTooMany ts r.at)

abbrev pub IsThat : List Declaration → Result (List Declaration) FrontEnd → Type 0
IsThat x (Ok v) = v ≡ x
IsThat x (Err front_end.Memory) = Unit {0}
IsThat x (Err (front_end.Refused r)) = ⊥

-- what is spelled within the limit of nestings is read, unless memory runs out
abbrev pub ReadsAll : List Lexeme → Result (List Declaration) FrontEnd → Type 0
ReadsAll ts r = (n : ℕ) → most_levels ≤ n → (x : List Declaration) → Fits all_nestings (specification n) ts x → IsThat x r
