-- The place at which a text is refused as too deep.
use Rattle.std.proofs.Common.{◌≡◌, ℕ, zero, suc, ◌<◌, true, List, [], ◌∷◌, ◌++◌, length, Some, None, Err, refl, sym, ap, subst, ◌∙◌, append_assoc, arith, inl, inr, ◌⊎◌}
use Rattle.std.proofs.lemmas.List.{length-append, append_cancel_right}
use Rattle.lola_parser_grammar.specs.Syntax.{Lexeme, Terminal, Syntax, Past, Token, Nesting, Whole, Known, Then, Map, Either, Maybe, Many, Fork, Spells, is_fine, TooDeep, max_nestings, read_all}
use Rattle.lola_parser_grammar.specs.Nestings.{is_counted}
use Rattle.lola_parser_grammar.specs.Exceeding.{ExceedsAmong}
use Rattle.lola_parser.specs.Late.{IsNestingBehind, IsNextBehindBracket, IsLate, IsLateInEvery, IsFirstLate, IsDeepPlace, IsNextInEvery, HasNoNext}
use Rattle.lola_parser.specs.Fronts.{IsLongestFront}
use Rattle.lola_parser.proofs.Opening.{forks_open}
use Rattle.lola_parser.proofs.Placed.{fronts}
use Rattle.lola_parser.proofs.Last.{IsFirstOrLast, moved}
use Rattle.lola_parser.proofs.Last as last
use Rattle.lola_parser.proofs.Answered.{late_is_deep}

module _ (nestings : List Terminal) where
  next_among : {A : Type 0} (P : List Lexeme → A → Type 0) (Q R : List Lexeme → Lexeme → List Lexeme → A → Type 0) → ((u : List Lexeme) (t : Lexeme) (v : List Lexeme) (x : A) → Q u t v x → R u t v x)
      → (u : List Lexeme) (t : Lexeme) (v : List Lexeme) (xs : List A) → ExceedsAmong Q P u t v xs → ExceedsAmong R P u t v xs
  next_among P Q R f u t v [] h = h
  next_among P Q R f u t v (x ∷ xs) (inl h) = inl (h.0, h.1, h.2, f u t h.0 x h.3, h.4)
  next_among P Q R f u t v (x ∷ xs) (inr h) = inr (h.0, h.1, h.2, h.3, next_among P Q R f h.1 t v xs h.4)

  -- the next nesting behind a bracket that is one has more than the limit before it
  pub next_nesting : {A : Type 0} (s : Syntax A) (u : List Lexeme) (t : Lexeme) (v : List Lexeme) (x : A) → IsNextBehindBracket nestings s u t v x → IsNestingBehind nestings (suc max_nestings) s u t v x
  unfolding IsNestingBehind IsNextBehindBracket
  next_nesting (Past a) u t v x h = h
  next_nesting (Token k) u t v x h = h
  next_nesting (Nesting k) u t v x h = h
  next_nesting (Whole a) u t v x h = absurd h
  next_nesting (Known fs ms a) u t v x h = next_nesting a u t v x h
  next_nesting (Then a b) u t v x (inl h) = inl (h.0, h.1, h.2, next_nesting a u t h.0 x.0 h.3, h.4)
  next_nesting (Then a b) u t v x (inr h) = inr (h.0, h.1, h.2, h.3, next_nesting b h.1 t v x.1 h.4)
  next_nesting (Map f a) u t v y h = (h.0, h.1, next_nesting a u t v h.0 h.2)
  next_nesting (Either a b) u t v x (inl h) = inl (next_nesting a u t v x h)
  next_nesting (Either a b) u t v x (inr h) = inr (next_nesting b u t v x h)
  next_nesting (Maybe a) u t v None h = h
  next_nesting (Maybe a) u t v (Some x) h = next_nesting a u t v x h
  next_nesting (Many a) u t v xs h = next_among (Spells a) (IsNextBehindBracket nestings a) (IsNestingBehind nestings (suc max_nestings) a) (next_nesting a) u t v xs h
  next_nesting (Fork ks a b c) u t v x (inl h) = inl (inr (h.0, h.1, h.2, h.3, h.4, ap suc h.5, h.6))
  next_nesting (Fork ks a b c) u t v x (inr h) = inr (inl (h.0, h.1, h.2, h.3, next_nesting b h.1 t v x.1 h.4))

  abbrev pub IsFirstOrNext : {A : Type 0} → Syntax A → List Lexeme → Lexeme → List Lexeme → A → Type 0
  IsFirstOrNext s u t v x = IsFirstLate nestings s u t v x ⊎ IsNextBehindBracket nestings s u t v x

  first_or_next : {A : Type 0} (s : Syntax A) (u : List Lexeme) (t : Lexeme) (v : List Lexeme) (x : A) → IsFirstOrLast nestings s u t v x → IsFirstOrNext s u t v x
  first_or_next s u t v x (inl h) = inl h
  first_or_next s u t v x (inr h) = inr h.0

  pub deep_is_first : {A : Type 0} (s : Syntax A) → is_fine s ≡ true → is_counted nestings s ≡ true → forks_open s ≡ true → (ts d p rest : List Lexeme) → read_all s ts ≡ Err (TooDeep d) → IsLongestFront s ts p rest
      → (u : List Lexeme) × (t : Lexeme) × (w : List Lexeme) × (p ≡ u ++ t ∷ w) × (d ≡ t ∷ (w ++ rest)) × ((q : List Lexeme) (x : A) → Spells s (u ++ t ∷ (w ++ q)) x → IsFirstOrNext s u t (w ++ q) x)
  deep_is_first s fine count opens ts d p rest h l =
      let f = last.deep_is_first nestings s fine count opens ts d p rest h l in
      (f.0, f.1, f.2, f.3, f.4, λ q x g. first_or_next s f.0 f.1 (f.2 ++ q) x (f.5 q x g))

  first_is_late : {A : Type 0} (s : Syntax A) (u : List Lexeme) (t : Lexeme) (v : List Lexeme) (x : A) → IsFirstOrNext s u t v x → IsLate nestings s u t v x
  first_is_late s u t v x (inl h) = (max_nestings, omega arith, h.0)
  first_is_late s u t v x (inr h) = (suc max_nestings, omega arith, next_nesting s u t v x h)

  pub deep_in_every : {A : Type 0} (s : Syntax A) → is_fine s ≡ true → is_counted nestings s ≡ true → forks_open s ≡ true → (ts d p rest : List Lexeme) → read_all s ts ≡ Err (TooDeep d) → IsLongestFront s ts p rest
      → (u : List Lexeme) × (t : Lexeme) × (w : List Lexeme) × (p ≡ u ++ t ∷ w) × (d ≡ t ∷ (w ++ rest)) × IsLateInEvery nestings s u t w
  deep_in_every s fine count opens ts d p rest h l =
      let f = deep_is_first s fine count opens ts d p rest h l in
      (f.0, f.1, f.2, f.3, f.4, λ q x g. first_is_late s f.0 f.1 (f.2 ++ q) x (f.5 q x g))

  -- ---- the first nesting that is late in every sentence that begins so

  -- a nesting before it that is late makes it the next
  is_next : {A : Type 0} (s : Syntax A) (u : List Lexeme) (t : Lexeme) (w u' : List Lexeme) (t' : Lexeme) (w' : List Lexeme) → u ++ t ∷ w ≡ u' ++ t' ∷ w' → length u < length u' → IsLateInEvery nestings s u t w
      → (q : List Lexeme) (x : A) → Spells s (u' ++ t' ∷ (w' ++ q)) x → IsFirstOrNext s u' t' (w' ++ q) x → IsNextBehindBracket nestings s u' t' (w' ++ q) x
  is_next s u t w u' t' w' same less late q x g (inr h) = h
  is_next s u t w u' t' w' same less late q x g (inl h) =
      let whole : u' ++ t' ∷ (w' ++ q) ≡ u ++ t ∷ (w ++ q) = sym (append_assoc u' (t' ∷ w') q) ∙ ap (λ (y : List Lexeme). y ++ q) (sym same) ∙ append_assoc u (t ∷ w) q in
      let l = late q x (subst (λ (y : List Lexeme). Spells s y x) whole g) in
      let low = h.1 l.0 u t (w ++ q) whole less l.2 in
      absurd (omega (arith, low, l.1))

  order : (a b : ℕ) → (a < b) ⊎ ((a ≡ b) ⊎ (b < a))
  order zero zero = inr (inl refl)
  order zero (suc b) = inl (omega arith)
  order (suc a) zero = inr (inr (omega arith))
  order (suc a) (suc b) = elim (order a b) [ inl h ↦ inl (omega (arith, h)) | inr h ↦ elim h [ inl e ↦ inr (inl (ap suc e)) | inr l ↦ inr (inr (omega (arith, l))) ] ]

  -- two nestings of one text at one place
  same_place : (u u' : List Lexeme) (t t' : Lexeme) (w w' : List Lexeme) → u ++ t ∷ w ≡ u' ++ t' ∷ w' → length u ≡ length u' → t' ∷ w' ≡ t ∷ w
  same_place u u' t t' w w' e l =
      elim (fronts u (t ∷ w) u' (t' ∷ w') e) [
        | inl f ↦ at_once f.0 f.2 (omega (arith, l, ap length f.1, length-append u f.0))
        | inr f ↦ absurd (omega (arith, l, ap length f.2, length-append u' (f.0 ∷ f.1)))
      ]
    where
      at_once : (y : List Lexeme) → t ∷ w ≡ y ++ t' ∷ w' → length y ≡ 0 → t' ∷ w' ≡ t ∷ w
      at_once [] f n = sym f
      at_once (s ∷ y) f n = absurd (omega (arith, n))

  pub deep_stands_there : {A : Type 0} (s : Syntax A) → is_fine s ≡ true → is_counted nestings s ≡ true → forks_open s ≡ true → (ts p rest : List Lexeme) → IsLongestFront s ts p rest
      → (u : List Lexeme) (t : Lexeme) (w : List Lexeme) → p ≡ u ++ t ∷ w → IsDeepPlace nestings s u t w
      → (read_all s ts ≡ Err (TooDeep (t ∷ (w ++ rest))))
      ⊎ ((u' : List Lexeme) × (t' : Lexeme) × (w' : List Lexeme) × (p ≡ u' ++ t' ∷ w') × (length u < length u') × (read_all s ts ≡ Err (TooDeep (t' ∷ (w' ++ rest)))) × IsNextInEvery nestings s u' t' w')
  deep_stands_there s fine count opens ts p rest l u t w e place =
      let d = late_is_deep nestings s fine count ts p rest l u t w e place.0 in
      let f = deep_is_first s fine count opens ts d.0 p rest d.1 l in
      elim (order (length u) (length f.0)) [
        | inl less ↦
            inr (
              f.0,
              f.1,
              f.2,
              f.3,
              less,
              d.1 ∙ ap (λ (y : List Lexeme). Err (TooDeep y)) f.4,
              λ q x g. is_next s u t w f.0 f.1 f.2 (sym e ∙ f.3) less place.0 q x g (f.5 q x g),
            )
        | inr other ↦
            elim other [
              | inl same ↦
                  let there : f.1 ∷ f.2 ≡ t ∷ w = same_place u f.0 t f.1 w f.2 (sym e ∙ f.3) same in
                  inl (d.1 ∙ ap (λ (y : List Lexeme). Err (TooDeep y)) (f.4 ∙ ap (λ (y : List Lexeme). y ++ rest) there))
              | inr less ↦
                  absurd (place.1 f.0 f.1 f.2 (sym e ∙ f.3) less (λ q x g. first_is_late s f.0 f.1 (f.2 ++ q) x (f.5 q x g)))
            ]
      ]

  -- ---- where it is not always the next nesting

  with_more : (p q u w : List Lexeme) (t : Lexeme) → p ≡ u ++ t ∷ w → p ++ q ≡ u ++ t ∷ (w ++ q)
  with_more p q u w t e = ap (λ (y : List Lexeme). y ++ q) e ∙ append_assoc u (t ∷ w) q

  inside : (p u w : List Lexeme) (t : Lexeme) → p ≡ u ++ t ∷ w → length u < length p
  inside p u w t e = omega (arith, ap length e, length-append u (t ∷ w))

  not_next : {A : Type 0} (s : Syntax A) (p u : List Lexeme) (t : Lexeme) (w : List Lexeme) → p ≡ u ++ t ∷ w → HasNoNext nestings s p → IsNextInEvery nestings s u t w → ⊥
  not_next s p u t w e none next =
      let whole = with_more p none.0 u w t e in
      none.3 u t (w ++ none.0) whole (inside p u w t e) (next none.0 none.1 (subst (λ (y : List Lexeme). Spells s y none.1) whole none.2))

  only_first : {A : Type 0} (s : Syntax A) (u : List Lexeme) (t : Lexeme) (v : List Lexeme) (x : A) → (IsNextBehindBracket nestings s u t v x → ⊥) → IsFirstOrNext s u t v x → IsFirstLate nestings s u t v x
  only_first s u t v x none (inl h) = h
  only_first s u t v x none (inr h) = absurd (none h)

  -- what is the first in one of the sentences and a nesting too many in all
  first_in_one : {A : Type 0} (s : Syntax A) (p u : List Lexeme) (t : Lexeme) (w : List Lexeme) → p ≡ u ++ t ∷ w → HasNoNext nestings s p → ((q : List Lexeme) (x : A) → Spells s (u ++ t ∷ (w ++ q)) x → IsFirstOrNext s u t (w ++ q) x) → IsDeepPlace nestings s u t w
  first_in_one s p u t w e none each = (
    λ q x g. first_is_late s u t (w ++ q) x (each q x g),
    λ u' t' w' same less late.
        let o = with_more p none.0 u w t e in
        let g = subst (λ (y : List Lexeme). Spells s y none.1) o none.2 in
        let f = only_first s u t (w ++ none.0) none.1 (none.3 u t (w ++ none.0) o (inside p u w t e)) (each none.0 none.1 g) in
        let whole = sym o ∙ with_more p none.0 u' w' t' (e ∙ same) in
        let l = late none.0 none.1 (subst (λ (y : List Lexeme). Spells s y none.1) whole g) in
        let low = f.1 l.0 u' t' (w' ++ none.0) whole less l.2 in
        omega (arith, low, l.1),
  )

  pub deep_stands_exactly : {A : Type 0} (s : Syntax A) → is_fine s ≡ true → is_counted nestings s ≡ true → forks_open s ≡ true → (ts p rest : List Lexeme) → IsLongestFront s ts p rest → HasNoNext nestings s p
      → (u : List Lexeme) (t : Lexeme) (w : List Lexeme) → p ≡ u ++ t ∷ w
      → (IsDeepPlace nestings s u t w → read_all s ts ≡ Err (TooDeep (t ∷ (w ++ rest)))) × (read_all s ts ≡ Err (TooDeep (t ∷ (w ++ rest))) → IsDeepPlace nestings s u t w)
  deep_stands_exactly s fine count opens ts p rest l none u t w e = (there, back)
    where
      there : IsDeepPlace nestings s u t w → read_all s ts ≡ Err (TooDeep (t ∷ (w ++ rest)))
      there place =
          elim (deep_stands_there s fine count opens ts p rest l u t w e place) [
            | inl h ↦ h
            | inr h ↦ absurd (not_next s p h.0 h.1 h.2 h.3 none h.6)
          ]

      back : read_all s ts ≡ Err (TooDeep (t ∷ (w ++ rest))) → IsDeepPlace nestings s u t w
      back h =
          let f = deep_is_first s fine count opens ts (t ∷ (w ++ rest)) p rest h l in
          let token : t ≡ f.1 = (let k = f.4 in cc) in
          let behind : w ++ rest ≡ f.2 ++ rest = (let k = f.4 in cc) in
          let tail : w ≡ f.2 = append_cancel_right w f.2 rest behind in
          let rests : f.1 ∷ f.2 ≡ t ∷ w = ap (λ (y : Lexeme). y ∷ f.2) (sym token) ∙ ap (λ (y : List Lexeme). t ∷ y) (sym tail) in
          let front : f.0 ≡ u = append_cancel_right f.0 u (t ∷ w) (ap (λ (y : List Lexeme). f.0 ++ y) (sym rests) ∙ sym f.3 ∙ e) in
          first_in_one s p u t w e none
          (λ q x g.
          let whole : f.0 ++ f.1 ∷ (f.2 ++ q) ≡ u ++ t ∷ (w ++ q) = ap (λ (y : List Lexeme). y ++ (f.1 ∷ (f.2 ++ q))) front ∙ ap (λ (y : List Lexeme). u ++ (y ++ q)) rests in
          let found = f.5 q x (subst (λ (y : List Lexeme). Spells s y x) (sym whole) g) in
          moved (λ u t v. IsFirstOrNext s u t v x) f.0 u f.1 t (f.2 ++ q) (w ++ q) front (sym token) (ap (λ (y : List Lexeme). y ++ q) (sym tail)) found)
