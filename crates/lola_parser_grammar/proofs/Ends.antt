-- Whole texts.
use Rattle.std.proofs.Common.{◌≡◌, ℕ, suc, ◌<◌, ◌≤◌, List, [], ◌∷◌, ◌++◌, length, Result, Ok, Err, refl, sym, ap, ◌∙◌, arith, inl, inr}
use Rattle.lola_value.specs.declared.front.FrontEnd.{FrontEnd}
use Rattle.lola_value.specs.declared.front.FrontEnd.TheVariants as front_end
use Rattle.lola_parser_grammar.specs.declared.declarations.Declaration.{Declaration}
use Rattle.lola_parser_grammar.specs.Syntax.{Lexeme, Spells, Refusal, Unexpected, TooDeep, Outcome, max_nestings, read, all_read, read_all}
use Rattle.lola_parser_grammar.specs.Exceeding.{Exceeds}
use Rattle.lola_parser_grammar.specs.Grammar.{specification, all_nestings}
use Rattle.lola_parser_grammar.specs.Cursor.{place_of}
use Rattle.lola_parser_grammar.specs.Whole.{most_levels, Answers, Refuses, IsThat, ReadsAll}
use Rattle.lola_parser_grammar.specs.Nestings.{IsOver}
use Rattle.lola_parser_grammar.proofs.Exactly.{deep_in_sentence}
use Rattle.lola_parser_grammar.proofs.Over.{over_whole}
use Rattle.lola_parser_grammar.proofs.All.{fitting_is_read}
use Rattle.lola_parser_grammar.proofs.Refusal.{read_is_spelled, refused_at}
use Rattle.lola_parser_grammar.proofs.Fine.{specification_fine}
use Rattle.lola_parser_grammar.proofs.Levels.{read_alike}
use Rattle.lola_parser_grammar.proofs.Depth.{specification_counted}

pub all_ok : (n : ℕ) (ts : List Lexeme) (x : List Declaration) (i : ℕ) (rest : List Lexeme) → read (specification n) max_nestings ts ≡ Ok (x, i, rest) → length rest ≡ 0 → read_all (specification n) ts ≡ Ok x
unfolding read_all
all_ok n ts x i [] h e = rw h refl
all_ok n ts x i (t ∷ rest) h e = absurd (omega (arith, e))

pub all_left : (n : ℕ) (ts : List Lexeme) (x : List Declaration) (i : ℕ) (rest : List Lexeme) → read (specification n) max_nestings ts ≡ Ok (x, i, rest) → 0 < length rest → read_all (specification n) ts ≡ Err (Unexpected rest)
unfolding read_all
all_left n ts x i [] h e = absurd (omega (arith, e))
all_left n ts x i (t ∷ rest) h e = rw h refl

pub all_err : (n : ℕ) (ts : List Lexeme) (d : Refusal) → read (specification n) max_nestings ts ≡ Err d → read_all (specification n) ts ≡ Err d
unfolding read_all
all_err n ts d h = rw h refl

deep_all : (o : Outcome (List Declaration)) (d : List Lexeme) → all_read o ≡ Err (TooDeep d) → o ≡ Err (TooDeep d)
deep_all (Ok (x, i, [])) d h = absurd cc
deep_all (Ok (x, i, (t ∷ rest))) d h = absurd (let e : Unexpected (t ∷ rest) ≡ TooDeep d = cc in cc)
deep_all (Err c) d h = let e : c ≡ TooDeep d = cc in ap (λ x. Err x) e

deep_read : (n : ℕ) (ts d : List Lexeme) → read_all (specification n) ts ≡ Err (TooDeep d) → read (specification n) max_nestings ts ≡ Err (TooDeep d)
unfolding read_all
deep_read n ts d h = deep_all (read (specification n) max_nestings ts) d h

enough : suc max_nestings ≤ most_levels
enough = omega arith

more : (n : ℕ) → most_levels ≤ n → suc max_nestings ≤ n
more n le = omega (arith, le)

alike : (n : ℕ) → most_levels ≤ n → (ts : List Lexeme) → read_all (specification n) ts ≡ read_all (specification most_levels) ts
alike n le ts = read_alike n most_levels (more n le) enough ts

pub refuses : (ts : List Lexeme) (end : ℕ) (r : Result (List Declaration) FrontEnd) → Answers ts end r → Refuses ts end r
refuses ts end (Ok v) h = read_is_spelled (specification most_levels) ts v h
refuses ts end (Err front_end.Memory) h = tt
refuses ts end (Err (front_end.Refused r)) (inl h) = inl (h.0, (h.1.0, h.1.1, λ n le. refused_at (specification n) (specification_fine n) ts h.1.0 (alike n le ts ∙ h.1.2)))
refuses ts end (Err (front_end.Refused r)) (inr h) = inr (h.0, λ n le. at_level n le, λ n le x g. in_tree n le x g)
  where
    at_level : (n : ℕ) → most_levels ≤ n → (u : List Lexeme) × (t : Lexeme) × (rest : List Lexeme) × (r.at ≡ t.from) × (ts ≡ u ++ t ∷ rest) × IsOver all_nestings (specification n) u t rest
    at_level n le =
        let p = over_whole all_nestings (specification n) (specification_counted n (more n le)) max_nestings ts h.1.0 (deep_read n ts h.1.0 (alike n le ts ∙ h.1.2)) in
        (p.0, p.1, p.2, h.1.1 ∙ ap (λ (w : List Lexeme). place_of w end) p.3, p.4, p.5)

    in_tree : (n : ℕ) → most_levels ≤ n → (x : List Declaration) → Spells (specification n) ts x → (u : List Lexeme) × (t : Lexeme) × (v : List Lexeme) × (r.at ≡ t.from) × (ts ≡ u ++ t ∷ v) × Exceeds all_nestings (specification n) u t v x
    in_tree n le x g =
        let p = deep_in_sentence all_nestings (specification n) (specification_fine n) (specification_counted n (more n le)) max_nestings ts h.1.0 x (deep_read n ts h.1.0 (alike n le ts ∙ h.1.2)) g in
        (p.0, p.1, p.2, h.1.1 ∙ ap (λ (w : List Lexeme). place_of w end) p.4, p.3, p.5)

is_that : (ts : List Lexeme) (end : ℕ) (r : Result (List Declaration) FrontEnd) (x : List Declaration) → Answers ts end r → read_all (specification most_levels) ts ≡ Ok x → IsThat x r
is_that ts end (Ok v) x h e = cc
is_that ts end (Err front_end.Memory) x h e = tt
is_that ts end (Err (front_end.Refused r)) x (inl h) e = let g = h.1.2 in absurd cc
is_that ts end (Err (front_end.Refused r)) x (inr h) e = let g = h.1.2 in absurd cc

pub reads_all : (ts : List Lexeme) (end : ℕ) (r : Result (List Declaration) FrontEnd) → Answers ts end r → ReadsAll ts r
reads_all ts end r h = λ n le x g.
    is_that ts end r x h (sym (alike n le ts) ∙ fitting_is_read all_nestings (specification n) (specification_fine n) (specification_counted n (more n le)) ts x g)
