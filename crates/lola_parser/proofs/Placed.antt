-- What decides that reading is too deep stands before the first token that does not fit.
use Rattle.std.proofs.Common.{◌≡◌, true, List, [], ◌∷◌, ◌++◌, Ok, Err, refl, sym, ap, subst, ◌∙◌, append_assoc, inl, inr, ◌⊎◌}
use Rattle.lola_parser_grammar.specs.Syntax.{Lexeme, Terminal, Syntax, Spells, is_fine, Unexpected, TooDeep, Outcome, max_nestings, read, all_read, read_all, Begins}
use Rattle.lola_parser_grammar.specs.Nestings.{is_counted}
use Rattle.lola_parser.specs.Fronts.{EndsThere, IsLongestFront}
use Rattle.lola_parser.proofs.Opening.{forks_open}
use Rattle.lola_parser.proofs.Decided.{IsDecided, decided}

-- ---- two fronts of one text

-- of two fronts of one list the second goes on the first, or the first the second
pub fronts : (a b c d : List Lexeme) → a ++ b ≡ c ++ d → ((w : List Lexeme) × (c ≡ a ++ w) × (b ≡ w ++ d)) ⊎ ((t : Lexeme) × (w : List Lexeme) × (a ≡ c ++ t ∷ w) × (d ≡ t ∷ (w ++ b)))
fronts [] b c d e = inl (c, refl, e)
fronts (x ∷ a) b [] d e = inr (x, a, refl, sym e)
fronts (x ∷ a) b (y ∷ c) d e =
    let p : x ≡ y = cc in
    let q : a ++ b ≡ c ++ d = cc in
    elim (fronts a b c d q) [
      | inl s ↦ inl (s.0, ap (λ (z : Lexeme). z ∷ c) (sym p) ∙ ap (λ (w : List Lexeme). x ∷ w) s.1, s.2)
      | inr s ↦ inr (s.0, s.1, ap (λ (z : Lexeme). z ∷ a) p ∙ ap (λ (w : List Lexeme). y ∷ w) s.2, s.3)
    ]

begins_less : {A : Type 0} (s : Syntax A) (p w : List Lexeme) (t : Lexeme) → Begins s (p ++ t ∷ w) → Begins s (p ++ t ∷ [])
begins_less s p w t b = (w ++ b.0, b.1, subst (λ (z : List Lexeme). Spells s z b.1) (append_assoc p (t ∷ w) b.0 ∙ sym (append_assoc p (t ∷ []) (w ++ b.0))) b.2)

-- what some sentence begins with stands in the longest front
pub in_front : {A : Type 0} (s : Syntax A) (z rest p after : List Lexeme) → Begins s z → IsLongestFront s (z ++ rest) p after → (y : List Lexeme) × (p ≡ z ++ y) × (rest ≡ y ++ after)
in_front s z rest p after b l =
    elim (fronts z rest p after l.0) [
      | inl f ↦ f
      | inr f ↦ absurd (no after f l.2)
    ]
  where
    no : (ends : List Lexeme) → (f : (t : Lexeme) × (w : List Lexeme) × (z ≡ p ++ t ∷ w) × (ends ≡ t ∷ (w ++ rest))) → EndsThere s p ends → ⊥
    no [] f h = absurd cc
    no (t ∷ ends) f h =
        let same : t ≡ f.0 = (let e = f.3 in cc) in
        let whole : z ≡ p ++ t ∷ f.1 = f.2 ∙ ap (λ (y : Lexeme). p ++ y ∷ f.1) (sym same) in
        h (begins_less s p f.1 t (subst (λ (w : List Lexeme). Begins s w) whole b))

module _ (nestings : List Terminal) where
  -- ---- whole texts

  pub deep_read : {A : Type 0} (s : Syntax A) (ts d : List Lexeme) → read_all s ts ≡ Err (TooDeep d) → read s max_nestings ts ≡ Err (TooDeep d)
  unfolding read_all
  deep_read {A} s ts d h = by (read s max_nestings ts) h
    where
      by : (o : Outcome A) → all_read o ≡ Err (TooDeep d) → o ≡ Err (TooDeep d)
      by (Ok (x, i, [])) e = absurd cc
      by (Ok (x, i, (t ∷ rest))) e = absurd (let c : Unexpected (t ∷ rest) ≡ TooDeep d = cc in cc)
      by (Err c) e = let k : c ≡ TooDeep d = cc in ap (λ z. Err z) k

  -- what some sentence begins with decides that reading is too deep
  pub decided_all : {A : Type 0} (s : Syntax A) → is_fine s ≡ true → is_counted nestings s ≡ true → forks_open s ≡ true → (ts d : List Lexeme) → read_all s ts ≡ Err (TooDeep d) → IsDecided (read s) (Spells s) max_nestings ts d
  decided_all s fine count opens ts d h = decided nestings s fine max_nestings ts d (inr (count, opens)) (deep_read s ts d h)
