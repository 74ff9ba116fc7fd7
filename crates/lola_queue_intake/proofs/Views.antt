-- Lists of views, and sums over them.
use Rattle.std.proofs.Common.{◌≡◌, ◌≢◌, ℕ, zero, suc, ◌+◌, ◌<◌, ◌≤◌, ◌⊎◌, List, [], ◌∷◌, ◌++◌, length, set, sym, refl, ap, ◌∙◌, subst, inl, inr, ⊎_elim, arith, slice_get, Some}
use mathlib.Core.Logic.{dite}
use native.Mathlib.Decide.{ℕ_discrete}
use mathlib.Core.Option.{some, some-injective, some-ne-none}
use lib.ListN.{get_elem?}
use Rattle.atomic_table.proofs.Lists.{at_set}
use Rattle.lola_queue_intake.specs.Deliveries.{total}

module _ {A : Type 0} where
  -- what holds of each, once one is replaced
  pub all_set : (F : ℕ → A → Type 0) (vs : List A) (id : ℕ) (w : A) → F id w → ((j : ℕ) (d : A) → j ≢ id → get_elem? vs j ≡ some d → F j d)
      → (j : ℕ) (d : A) → get_elem? (set vs id w) j ≡ some d → F j d
  all_set F vs id w mine others j d e = ⊎_elim (λ (x : (j ≡ id) × (w ≡ d)). subst (λ (y : ℕ × A). F y.0 y.1) (λ i. (sym x.0 i, x.1 i)) mine)
      (λ (x : (j ≢ id) × (get_elem? vs j ≡ some d)). others j d x.0 x.1) (at_set vs id j w d e)

  pub inside : (l : List A) (i : ℕ) (a : A) → get_elem? l i ≡ some a → i < length l
  inside [] i a e = absurd (some-ne-none a (sym e))
  inside (x ∷ xs) zero a e = omega arith
  inside (x ∷ xs) (suc i) a e = omega (arith, inside xs i a e)

  -- what stands in a list with one more
  pub at_snoc : (l : List A) (a b : A) (j : ℕ) → get_elem? (l ++ a ∷ []) j ≡ some b → (get_elem? l j ≡ some b) ⊎ ((j ≡ length l) × (a ≡ b))
  at_snoc [] a b zero e = inr (refl, some-injective a b e)
  at_snoc [] a b (suc j) e = absurd (some-ne-none b (sym e))
  at_snoc (x ∷ xs) a b zero e = inl e
  at_snoc (x ∷ xs) a b (suc j) e = ⊎_elim inl (λ (t : (j ≡ length xs) × (a ≡ b)). inr (ap suc t.0, t.1)) (at_snoc xs a b j e)

  pub get_snoc : (l : List A) (a b : A) (j : ℕ) → slice_get (l ++ a ∷ []) j ≡ Some b → (slice_get l j ≡ Some b) ⊎ (a ≡ b)
  get_snoc [] a b zero e = inr (cc)
  get_snoc [] a b (suc j) e = absurd (cc)
  get_snoc (x ∷ xs) a b zero e = inl e
  get_snoc (x ∷ xs) a b (suc j) e = get_snoc xs a b j e

  pub get_which : (l : List A) (a b : A) (j : ℕ) → slice_get (l ++ a ∷ []) j ≡ Some b → (slice_get l j ≡ Some b) ⊎ ((j ≡ length l) × (a ≡ b))
  get_which [] a b zero e = inr (refl, cc)
  get_which [] a b (suc j) e = absurd (cc)
  get_which (x ∷ xs) a b zero e = inl e
  get_which (x ∷ xs) a b (suc j) e = ⊎_elim inl (λ (t : (j ≡ length xs) × (a ≡ b)). inr (ap suc t.0, t.1)) (get_which xs a b j e)

  pub get_more : (l : List A) (a b : A) (j : ℕ) → slice_get l j ≡ Some b → slice_get (l ++ a ∷ []) j ≡ Some b
  get_more [] a b j e = absurd (cc)
  get_more (x ∷ xs) a b zero e = e
  get_more (x ∷ xs) a b (suc j) e = get_more xs a b j e

  pub get_last : (l : List A) (a : A) (n : ℕ) → length l ≡ n → slice_get (l ++ a ∷ []) n ≡ Some a
  get_last [] a zero e = refl
  get_last [] a (suc n) e = absurd (omega arith)
  get_last (x ∷ xs) a zero e = absurd (omega arith)
  get_last (x ∷ xs) a (suc n) e = get_last xs a n (omega arith)

  pub get_mid : (l r : List A) (a : A) → slice_get (l ++ a ∷ r) (length l) ≡ Some a
  get_mid [] r a = refl
  get_mid (x ∷ xs) r a = get_mid xs r a

  pub get_below : (l : List A) (j : ℕ) (a : A) → slice_get l j ≡ Some a → j < length l
  get_below [] j a e = absurd (cc)
  get_below (x ∷ xs) zero a e = omega arith
  get_below (x ∷ xs) (suc j) a e = omega (arith, get_below xs j a e)

  -- what stands at each place below a number, once one more is there
  pub get_made : (f : ℕ → A) (l : List A) (a : A) (n : ℕ) → length l ≡ n → ((s : ℕ) → s < n → slice_get l s ≡ Some (f s)) → a ≡ f n → (s : ℕ) → s < n + 1 → slice_get (l ++ a ∷ []) s ≡ Some (f s)
  get_made f l a n long each is s less = dite (ℕ_discrete s n)
      (λ here. subst (λ k. slice_get (l ++ a ∷ []) k ≡ Some (f k)) (sym here) (get_last l a n long ∙ ap Some is))
      (λ ne. get_more l a (f s) s (each s (omega arith)))

  module _ (f : A → ℕ) where
    pub total_set : (l : List A) (j : ℕ) (v w : A) → get_elem? l j ≡ some v → total f (set l j w) + f v ≡ total f l + f w
    total_set [] j v w e = absurd (some-ne-none v (sym e))
    total_set (x ∷ xs) zero v w e = omega (arith, ap f (some-injective x v e))
    total_set (x ∷ xs) (suc j) v w e = omega (arith, total_set xs j v w e)

    pub total_snoc : (l : List A) (w : A) → total f (l ++ w ∷ []) ≡ total f l + f w
    total_snoc [] w = omega arith
    total_snoc (x ∷ xs) w = omega (arith, total_snoc xs w)

    pub term_le : (l : List A) (j : ℕ) (v : A) → get_elem? l j ≡ some v → f v ≤ total f l
    term_le [] j v e = absurd (some-ne-none v (sym e))
    term_le (x ∷ xs) zero v e = omega (arith, ap f (some-injective x v e))
    term_le (x ∷ xs) (suc j) v e = omega (arith, term_le xs j v e)

    pub total_none : (l : List A) → ((j : ℕ) (v : A) → get_elem? l j ≡ some v → f v ≡ 0) → total f l ≡ 0
    total_none [] none = refl
    total_none (x ∷ xs) none = omega (arith, none 0 x refl, total_none xs (λ j v e. none (suc j) v e))

module _ {A B : Type 0} (R : A → B → Type 0) where
  -- what is related to each of a list, once each has one more
  pub each_more : (xs : List A) (ys : List B) (x : A) (y : B) → length xs ≡ length ys → ((s : ℕ) (b : B) → slice_get ys s ≡ Some b → (a : A) × (slice_get xs s ≡ Some a) × R a b) → R x y
      → (s : ℕ) (b : B) → slice_get (ys ++ y ∷ []) s ≡ Some b → (a : A) × (slice_get (xs ++ x ∷ []) s ≡ Some a) × R a b
  each_more xs ys x y long each this s b at = dite (ℕ_discrete s (length ys))
      (λ here. let is : Some y ≡ Some b = sym (ap (slice_get (ys ++ y ∷ [])) here ∙ get_last ys y (length ys) refl) ∙ at in let same : y ≡ b = cc in
      (x, ap (slice_get (xs ++ x ∷ [])) here ∙ get_last xs x (length ys) long, subst (R x) same this))
      (λ ne. let old : slice_get ys s ≡ Some b = ⊎_elim (λ (o : slice_get ys s ≡ Some b). o) (λ (o : (s ≡ length ys) × (y ≡ b)). absurd (ne o.0)) (get_which ys y b s at) in let k = each s b old in (k.0, get_more xs x k.0 s k.1, k.2))
