-- Where the tokens are a specification: the place is that of its first nesting too many, and it is refused where there is one.
use Rattle.std.proofs.Common.{◌≡◌, ℕ, suc, ◌<◌, ◌≤◌, true, List, [], ◌∷◌, ◌++◌, length, Result, Ok, Err, refl, sym, ap, subst, ◌∙◌, append_assoc, arith, inl, inr}
use Rattle.std.proofs.lemmas.List.{append-nil, append_cancel_right}
use Rattle.lola_value.specs.declared.front.FrontEnd.{FrontEnd}
use Rattle.lola_value.specs.declared.front.FrontEnd.TheVariants as front_end
use Rattle.lola_parser_grammar.specs.declared.declarations.Declaration.{Declaration}
use Rattle.lola_parser_grammar.specs.Syntax.{Lexeme, Refusal, Unexpected, TooDeep, Terminal, Syntax, Outcome, Spells, is_fine, max_nestings, read, all_read, read_all}
use Rattle.lola_parser_grammar.specs.Nestings.{is_counted}
use Rattle.lola_parser_grammar.proofs.Complete.{complete}
use Rattle.lola_parser.specs.Late.{IsLate, IsFirstLate}
use Rattle.lola_parser.proofs.Answered.{sentence_front}
use Rattle.lola_parser.proofs.Keeps.{nesting_spells}
use Rattle.lola_parser.proofs.Kept.{read_kept}
use Rattle.lola_parser.proofs.Levels.{counted_at}
use Rattle.lola_parser.proofs.Open.{specification_open}
use Rattle.lola_parser.proofs.Placed.{deep_read}
use Rattle.lola_parser_grammar.specs.Grammar.{all_nestings, specification}
use Rattle.lola_parser_grammar.specs.Whole.{most_levels}
use Rattle.lola_parser_grammar.proofs.Fine.{specification_fine}
use Rattle.lola_parser_grammar.proofs.Levels.{read_alike}
use Rattle.lola_parser.specs.Places.{Cut, cut_last, nesting_or, place_too_deep, IsPlacedAt, Answers}
use Rattle.lola_parser_law.specs.Law.{IsFirstLateAt, IsRefusedAt}
use Rattle.lola_parser_law.proofs.Both.{Decided, decided}
use Rattle.lola_parser_law.proofs.Enclosed.{enclosed_is_next}
use Rattle.lola_parser_law.proofs.InList.{NextIn, next_is_enclosed}
use Rattle.lola_parser.proofs.Last.{IsFirstOrLast, ends_first, deep_is_first}
use Rattle.lola_parser_law.proofs.WithNestings.{cut_is, same_cut, last_late, only_next}

-- ---- the place

module _ (n : ℕ) (ts u : List Lexeme) (t : Lexeme) (v : List Lexeme) (less : length ts < n) (e : ts ≡ u ++ t ∷ v) (x : List Declaration) (g : Spells (specification n) (u ++ t ∷ v) x) where
  -- the last nesting before t
  at_last : (at : ℕ) → NextIn n u t v x → at ≡ nesting_or (cut_last all_nestings u) t.from → IsFirstLateAt n ts x at
  at_last at b is =
      let l = last_late (specification n) u t v x b.0 in
      let cut = cut_is u l.0 l.1 l.2 l.3 l.4 l.5 in
      let s = same_cut l.0 l.2 l.1 b.1 b.3 b.2 (sym cut ∙ cut_is u b.1 b.2 b.3 b.4 b.6 b.5) in
      let whole : u ++ t ∷ v ≡ l.0 ++ l.1 ∷ (l.2 ++ t ∷ v) = ap (λ (y : List Lexeme). y ++ t ∷ v) l.3 ∙ append_assoc l.0 (l.1 ∷ l.2) (t ∷ v) in
      (l.0, l.1, l.2 ++ t ∷ v, e ∙ whole, is ∙ ap (λ (c : Cut). nesting_or c t.from) cut, (l.6, λ k p s' q parts low m. b.7 k p s' q (whole ∙ parts) (omega (arith, low, ap length s.0)) m))

  short : length (u ++ t ∷ v) < n
  short = omega (arith, less, ap length e)

  at_place : (at : ℕ) → IsFirstOrLast all_nestings (specification n) u t v x → Decided u (t ∷ v) → at ≡ place_too_deep u (t ∷ v) t.from → IsFirstLateAt n ts x at
  at_place at k (inl c) is = at_last at (only_next n u t v x (enclosed_is_next n u t v x short c.0 k g) k) (is ∙ c.1 t.from)
  at_place at (inl k) (inr c) is = (u, t, v, e, is ∙ c.1 t.from, k)
  at_place at (inr k) (inr c) is = absurd (c.0 (next_is_enclosed n u t v x short k))

read_at : (n : ℕ) → most_levels ≤ n → (ts : List Lexeme) → read_all (specification n) ts ≡ read_all (specification most_levels) ts
read_at n le ts = read_alike n most_levels (omega (arith, le)) (omega arith) ts

pub exact : (n : ℕ) → most_levels ≤ n → (ts : List Lexeme) (at : ℕ) → length ts < n → IsPlacedAt ts at → (x : List Declaration) → Spells (specification n) ts x → IsFirstLateAt n ts x at
exact n le ts at less h x g =
    let d = h.1 ∷ h.2 in
    let g' : Spells (specification n) (h.0 ++ d) x = subst (λ (y : List Lexeme). Spells (specification n) y x) h.3 g in
    let r : read (specification n) max_nestings ts ≡ Err (TooDeep d) = deep_read all_nestings (specification n) ts d (read_at n le ts ∙ h.4) in
    let k = ends_first all_nestings (specification n) (specification_fine n) (counted_at n le) h.0 h.1 h.2 x g' (ap (λ (y : List Lexeme). read (specification n) max_nestings y) (sym h.3) ∙ r) in
    at_place n ts h.0 h.1 h.2 less h.3 x g' at k (decided h.0 d) h.5

-- ---- the refusal

-- what is read of a sentence has no nesting too many
sentence_is_deep : {A : Type 0} (nestings : List Terminal) (s : Syntax A) → is_fine s ≡ true → is_counted nestings s ≡ true → (ts : List Lexeme) (x : A) → Spells s ts x → (u : List Lexeme) (t : Lexeme) (v : List Lexeme) → ts ≡ u ++ t ∷ v → IsLate nestings s u t v x
    → (d : List Lexeme) × (read_all s ts ≡ Err (TooDeep d))
unfolding read_all
sentence_is_deep {A} nestings s fine count ts x g u t v e late =
    elim (complete s fine max_nestings ts x [] g refl) [
      | inl k ↦
          let r = read_kept nestings s fine count max_nestings (ts ++ []) x k.0 [] k.1 in
          let same : r.0 ≡ ts = append_cancel_right r.0 ts [] (sym r.1) in
          let low = r.3 (suc (length u)) late.0 u t v (same ∙ e) (omega arith) late.2 in
          absurd (omega (arith, low, late.1))
      | inr k ↦ (k.0, ap (λ (o : Outcome A). all_read o) (ap (λ (y : List Lexeme). read s max_nestings y) (sym (append-nil ts)) ∙ k.1))
    ]

late_is_read : (n : ℕ) → most_levels ≤ n → (u : List Lexeme) (t : Lexeme) (v : List Lexeme) (x : List Declaration) → IsLate all_nestings (specification n) u t v x → (d : List Lexeme) × (read_all (specification n) (u ++ t ∷ v) ≡ Err (TooDeep d))
late_is_read n le u t v x late =
    sentence_is_deep all_nestings (specification n) (specification_fine n) (counted_at n le) (u ++ t ∷ v) x (nesting_spells all_nestings (specification n) late.0 u t v x late.2) u t v refl late

pub placed : (n : ℕ) → most_levels ≤ n → (u : List Lexeme) (t : Lexeme) (v : List Lexeme) (x : List Declaration) → IsLate all_nestings (specification n) u t v x → (at : ℕ) × IsPlacedAt (u ++ t ∷ v) at
placed n le u t v x late =
    let ts = u ++ t ∷ v in
    let d = late_is_read n le u t v x late in
    let l = sentence_front (specification n) ts x (nesting_spells all_nestings (specification n) late.0 u t v x late.2) in
    let f = deep_is_first all_nestings (specification n) (specification_fine n) (counted_at n le) (specification_open n) ts d.0 ts [] d.1 l in
    let rest : d.0 ≡ f.1 ∷ f.2 = f.4 ∙ ap (λ (y : List Lexeme). f.1 ∷ y) (append-nil f.2) in
    (place_too_deep f.0 (f.1 ∷ f.2) f.1.from, (f.0, f.1, f.2, f.3, sym (read_at n le ts) ∙ d.1 ∙ ap (λ (y : List Lexeme). Err (TooDeep y)) rest, refl))

-- ---- the answer

same_token : (u u' : List Lexeme) (t t' : Lexeme) (v v' : List Lexeme) → length u ≡ length u' → u ++ t ∷ v ≡ u' ++ t' ∷ v' → t ≡ t'
same_token [] [] t t' v v' len e = cc
same_token [] (s ∷ u') t t' v v' len e = absurd (omega (arith, len))
same_token (s ∷ u) [] t t' v v' len e = absurd (omega (arith, len))
same_token (s ∷ u) (s' ∷ u') t t' v v' len e =
    let k : u ++ t ∷ v ≡ u' ++ t' ∷ v' = cc in
    same_token u u' t t' v v' (omega (arith, len)) k

-- no nesting too many stands before the first
not_before : (n : ℕ) (u u' : List Lexeme) (t t' : Lexeme) (v v' : List Lexeme) (x : List Declaration) → u ++ t ∷ v ≡ u' ++ t' ∷ v' → IsFirstLate all_nestings (specification n) u t v x → IsFirstLate all_nestings (specification n) u' t' v' x → length u' < length u → ⊥
not_before n u u' t t' v v' x e f g low = let k = f.1 max_nestings u' t' v' e low g.0 in omega (arith, k)

one_place : (n : ℕ) (ts : List Lexeme) (x : List Declaration) (a b : ℕ) → IsFirstLateAt n ts x a → IsFirstLateAt n ts x b → a ≡ b
one_place n ts x a b f g =
    let e = sym f.3 ∙ g.3 in
    let one : length g.0 < length f.0 → ⊥ = not_before n f.0 g.0 f.1 g.1 f.2 g.2 x e f.5 g.5 in
    let two : length f.0 < length g.0 → ⊥ = not_before n g.0 f.0 g.1 f.1 g.2 f.2 x (sym e) g.5 f.5 in
    let len : length f.0 ≡ length g.0 = omega (arith, one, two) in
    f.4 ∙ ap (λ (y : Lexeme). y.from) (same_token f.0 g.0 f.1 g.1 f.2 g.2 len e) ∙ sym g.4

deep_not_read : (o : Result (List Declaration) Refusal) (d : List Lexeme) (v : List Declaration) → o ≡ Err (TooDeep d) → o ≡ Ok v → ⊥
deep_not_read o d v h e = absurd cc

deep_not_misfit : (o : Result (List Declaration) Refusal) (d rest : List Lexeme) → o ≡ Err (TooDeep d) → o ≡ Err (Unexpected rest) → ⊥
deep_not_misfit o d rest h e =
    let k : ◌≡◌ {A = Result (List Declaration) Refusal} (Err (TooDeep d)) (Err (Unexpected rest)) = sym h ∙ e in
    let q : TooDeep d ≡ Unexpected rest = cc in
    absurd cc

module _ (n : ℕ) (le : most_levels ≤ n) (ts : List Lexeme) (x : List Declaration) (at : ℕ) (less : length ts < n) (first : IsFirstLateAt n ts x at) where
  late : IsLate all_nestings (specification n) first.0 first.1 first.2 x
  late = (max_nestings, omega arith, first.5.0)

  spelled : Spells (specification n) ts x
  spelled = subst (λ (y : List Lexeme). Spells (specification n) y x) (sym first.3) (nesting_spells all_nestings (specification n) max_nestings first.0 first.1 first.2 x first.5.0)

  is_deep : (d : List Lexeme) × (read_all (specification most_levels) ts ≡ Err (TooDeep d))
  is_deep =
      let d = late_is_read n le first.0 first.1 first.2 x late in
      (d.0, sym (read_at n le ts) ∙ ap (λ (y : List Lexeme). read_all (specification n) y) first.3 ∙ d.1)

  pub refused : (end : ℕ) (r : Result (List Declaration) FrontEnd) → Answers ts end r → IsRefusedAt at r
  refused end (Ok v) h = deep_not_read (read_all (specification most_levels) ts) is_deep.0 v is_deep.1 h
  refused end (Err front_end.Memory) h = tt
  refused end (Err (front_end.Refused r)) (inl h) = absurd (deep_not_misfit (read_all (specification most_levels) ts) is_deep.0 h.1.0 is_deep.1 h.1.2)
  refused end (Err (front_end.Refused r)) (inr h) = (h.0, one_place n ts x r.at at (exact n le ts r.at less h.1 x spelled) first)
