-- Where a refusal as too deep stands, by the tokens before the nesting at which reading ended and those from it on.
use Rattle.std.specs.Prelude.{◌≡◌, ℕ, suc, Bool, true, false, ◌&&◌, nat_eq, nat_lt, if◌then◌else◌, List, [], ◌∷◌, ◌++◌, length, Option, Some, None, ◌⊎◌, Result, Ok, Err}
use Rattle.lola_lexer.specs.declared.shape.TokenShape.TheVariants as is
use Rattle.lola_value.specs.declared.front.Code.TheVariants as code
use Rattle.lola_value.specs.declared.front.FrontEnd.{FrontEnd}
use Rattle.lola_value.specs.declared.front.FrontEnd.TheVariants as front_end
use Rattle.lola_parser_grammar.specs.declared.declarations.Declaration.{Declaration}
use Rattle.lola_parser_grammar.specs.Syntax.{Lexeme, Terminal, Of, any_fits, fits, starts, max_nestings, Spells, read_all}
use Rattle.lola_parser_grammar.specs.Syntax as reading
use Rattle.lola_parser_grammar.specs.Nestings.{nestings_in}
use Rattle.lola_parser_grammar.specs.Cursor.{place_of}
use Rattle.lola_parser_grammar.specs.Grammar.{expr_in, all_nestings, specification}
use Rattle.lola_parser_grammar.specs.Whole.{most_levels, IsMisfitAt}
use Rattle.lola_parser.specs.Turns.{Left, shape}
use Rattle.lola_parser.specs.Skims.{skim}

-- what stands before a token, it, and what stands behind it
abbrev pub Cut : Type 0
Cut = Option (List Lexeme × Lexeme × List Lexeme)

abbrev pub cut_at : Lexeme → Cut → Bool → List Lexeme → Cut
cut_at t (Some c) b ts = Some (t ∷ c.0, c.1, c.2)
cut_at t None true ts = Some ([], t, ts)
cut_at t None false ts = None

-- a text cut at the last token that is one of these
abbrev pub cut_last : List Terminal → List Lexeme → Cut
cut_last ks [] = None
cut_last ks (t ∷ ts) = cut_at t (cut_last ks ts) (any_fits ks t) ts

abbrev pub clause_words : List Terminal
clause_words = Of is.Spawn ∷ Of is.Eval ∷ []

-- the clause that goes on behind this is a spawn clause
abbrev pub is_spawn : Cut → Bool
is_spawn None = false
is_spawn (Some c) = fits (Of is.Spawn) c.1

abbrev pub behind_with : Cut → Left
behind_with None = None
behind_with (Some c) = if is_spawn (cut_last clause_words c.0) then shape is.Open c.2 else None

-- what stands behind the bracket directly behind the last `with`, if that belongs to a spawn clause
abbrev pub behind_bracket : List Lexeme → Left
behind_bracket u = behind_with (cut_last (Of is.With ∷ []) u)

-- fewer tokens are left than so many, and a closing bracket comes next
abbrev pub ends_within : ℕ → Left → Bool
ends_within k None = false
ends_within k (Some rest) = nat_lt (length rest) k && starts (Of is.Shut ∷ []) rest

-- the expression that `head` begins, however deep it is nested, goes past the first token of d and ends at a closing bracket
abbrev pub is_enclosed : List Lexeme → List Lexeme → Bool
is_enclosed head d = ends_within (length d) (skim (expr_in (suc (length (head ++ d)))) (head ++ d))

abbrev pub nesting_or : Cut → ℕ → ℕ
nesting_or None at = at
nesting_or (Some c) at = c.1.from

-- where exactly as many nestings as may come stand between the bracket and the nesting, the bracket makes the nesting before it the one too many
abbrev pub place_behind : Left → List Lexeme → List Lexeme → ℕ → ℕ
place_behind None u d at = at
place_behind (Some head) u d at = if nat_eq (nestings_in all_nestings head) max_nestings && is_enclosed head d then nesting_or (cut_last all_nestings u) at else at

-- the place of the nesting too many, where reading ended between u and d, at this place
abbrev pub place_too_deep : List Lexeme → List Lexeme → ℕ → ℕ
place_too_deep u d at = place_behind (behind_bracket u) u d at

-- the place is that of the nesting too many
abbrev pub IsPlacedAt : List Lexeme → ℕ → Type 0
IsPlacedAt ts at = (u : List Lexeme) × (t : Lexeme) × (w : List Lexeme) × (ts ≡ u ++ t ∷ w) × (read_all (specification most_levels) ts ≡ Err (reading.TooDeep (t ∷ w))) × (at ≡ place_too_deep u (t ∷ w) t.from)

-- What is returned is what the grammar's reading gives, unless memory ran out; what it refuses as too deep, at the nesting too many.
abbrev pub Answers : List Lexeme → ℕ → Result (List Declaration) FrontEnd → Type 0
Answers ts end (Ok v) = read_all (specification most_levels) ts ≡ Ok v
Answers ts end (Err front_end.Memory) = Unit {0}
Answers ts end (Err (front_end.Refused r)) =
    ((r.code ≡ code.Unexpected) × ((rest : List Lexeme) × (r.at ≡ place_of rest end) × (read_all (specification most_levels) ts ≡ Err (reading.Unexpected rest))))
    ⊎ ((r.code ≡ code.TooDeep) × IsPlacedAt ts r.at)

-- What is returned is spelled by the tokens, and a token that does not fit is the first such.
abbrev pub Refuses : List Lexeme → ℕ → Result (List Declaration) FrontEnd → Type 0
Refuses ts end (Ok v) = Spells (specification most_levels) ts v
Refuses ts end (Err front_end.Memory) = Unit {0}
Refuses ts end (Err (front_end.Refused r)) = ((r.code ≡ code.Unexpected) × IsMisfitAt ts end r.at) ⊎ ((r.code ≡ code.TooDeep) × IsPlacedAt ts r.at)
