-- Lists of views, and histories.
use Rattle.std.proofs.Common.{◌≡◌, ◌≢◌, ℕ, zero, suc, ◌+◌, ◌%◌, ◌^◌, ◌<◌, ◌≤◌, ◌⊎◌, Bool, true, false, List, [], ◌∷◌, ◌++◌, cond, length, set, sym, refl, ap, ◌∙◌, subst, inl, inr, ⊎_elim, arith, append_assoc, append-nil, length-append, eqb, eq-eqb, ne_eqb}
use Rattle.std.proofs.Math.Nat.{mod-add-mod}
use mathlib.Core.Option.{some, some-injective, some-ne-none}
use lib.ListN.{get_elem?}
use Rattle.atomic_table.proofs.Lists.{at_set}
use Rattle.lola_intake.specs.declared.view.Turn.{Turn}
use Rattle.lola_intake.specs.Turns.{total, StartsWith, turn_by, calls_by, Runs}

pub is_false : (b : Bool) → ¬ (b ≡ true) → b ≡ false
is_false true h = absurd (h refl)
is_false false h = refl

-- a word that counts, one further
pub wraps : (n : ℕ) → (n % 2 ^ 64 + 1) % 2 ^ 64 ≡ (n + 1) % 2 ^ 64
wraps n = mod-add-mod n (2 ^ 64) 1

module _ {A : Type 0} where
  pub all_set : (F : ℕ → A → Type 0) (vs : List A) (id : ℕ) (w : A) → F id w → ((j : ℕ) (d : A) → j ≢ id → get_elem? vs j ≡ some d → F j d)
      → (j : ℕ) (d : A) → get_elem? (set vs id w) j ≡ some d → F j d
  all_set F vs id w mine others j d e = ⊎_elim (λ (x : (j ≡ id) × (w ≡ d)). subst (λ (y : ℕ × A). F y.0 y.1) (λ i. (sym x.0 i, x.1 i)) mine)
      (λ (x : (j ≢ id) × (get_elem? vs j ≡ some d)). others j d x.0 x.1) (at_set vs id j w d e)

  pub inside : (l : List A) (i : ℕ) (a : A) → get_elem? l i ≡ some a → i < length l
  inside [] i a e = absurd (some-ne-none a (sym e))
  inside (x ∷ xs) zero a e = omega arith
  inside (x ∷ xs) (suc i) a e = omega (arith, inside xs i a e)

  pub same_at : (l : List A) (i : ℕ) (a b : A) → get_elem? l i ≡ some a → get_elem? l i ≡ some b → a ≡ b
  same_at l i a b e f = some-injective a b (sym e ∙ f)

  -- what stands in a list with one more
  pub at_snoc : (l : List A) (a b : A) (j : ℕ) → get_elem? (l ++ a ∷ []) j ≡ some b → (get_elem? l j ≡ some b) ⊎ ((j ≡ length l) × (a ≡ b))
  at_snoc [] a b zero e = inr (refl, some-injective a b e)
  at_snoc [] a b (suc j) e = absurd (some-ne-none b (sym e))
  at_snoc (x ∷ xs) a b zero e = inl e
  at_snoc (x ∷ xs) a b (suc j) e = ⊎_elim inl (λ (t : (j ≡ length xs) × (a ≡ b)). inr (ap suc t.0, t.1)) (at_snoc xs a b j e)

  module _ (f : A → ℕ) where
    pub total_set : (l : List A) (j : ℕ) (v w : A) → get_elem? l j ≡ some v → total f (set l j w) + f v ≡ total f l + f w
    total_set [] j v w e = absurd (some-ne-none v (sym e))
    total_set (x ∷ xs) zero v w e = omega (arith, ap f (some-injective x v e))
    total_set (x ∷ xs) (suc j) v w e = omega (arith, total_set xs j v w e)

    pub total_snoc : (l : List A) (w : A) → total f (l ++ w ∷ []) ≡ total f l + f w
    total_snoc [] w = omega arith
    total_snoc (x ∷ xs) w = omega (arith, total_snoc xs w)

    pub term_le : (l : List A) (j : ℕ) (v : A) → get_elem? l j ≡ some v → f v ≤ total f l
    term_le [] j v e = absurd (some-ne-none v (sym e))
    term_le (x ∷ xs) zero v e = omega (arith, ap f (some-injective x v e))
    term_le (x ∷ xs) (suc j) v e = omega (arith, term_le xs j v e)

    pub terms_le : (l : List A) (j k : ℕ) (v u : A) → k ≢ j → get_elem? l j ≡ some v → get_elem? l k ≡ some u → f v + f u ≤ total f l
    terms_le [] j k v u n e d = absurd (some-ne-none v (sym e))
    terms_le (x ∷ xs) zero zero v u n e d = absurd (n refl)
    terms_le (x ∷ xs) zero (suc k) v u n e d = omega (arith, ap f (some-injective x v e), term_le xs k u d)
    terms_le (x ∷ xs) (suc j) zero v u n e d = omega (arith, ap f (some-injective x u d), term_le xs j v e)
    terms_le (x ∷ xs) (suc j) (suc k) v u n e d = omega (arith, terms_le xs j k v u (λ h. n (ap suc h)) e d)

  pub total_le : (f g : A → ℕ) (l : List A) → ((j : ℕ) (v : A) → get_elem? l j ≡ some v → f v ≤ g v) → total f l ≤ total g l
  total_le f g [] h = omega arith
  total_le f g (x ∷ xs) h = let a = h 0 x refl in let b = total_le f g xs (λ j v e. h (suc j) v e) in omega arith

  pub starts_more : (h s more : List A) → StartsWith h s → StartsWith (h ++ more) s
  starts_more h s more (back, e) = (back ++ more, ap (λ l. l ++ more) e ∙ append_assoc s back more)

  pub starts_all : (h : List A) → StartsWith h h
  starts_all h = ([], sym (append-nil h))

  pub starts_none : (h : List A) → StartsWith h []
  starts_none h = (h, refl)

  pub starts_length : (h s : List A) → StartsWith h s → length s ≤ length h
  starts_length h s (back, e) = omega (arith, ap length e, length-append s back)

  pub starts_whole : (h s : List A) → StartsWith h s → length h ≤ length s → s ≡ h
  starts_whole h s ([], e) le = sym (append-nil s) ∙ sym e
  starts_whole h s (x ∷ xs, e) le = let m : length h ≡ length (s ++ x ∷ xs) = ap length e in absurd (omega (arith, length-append s (x ∷ xs)))

module _ {E : Type 0} where
  pub calls_own : (c : ℕ) (e : E) (h : List (Turn E)) → calls_by c (h ++ turn_by c e ∷ []) ≡ calls_by c h ++ e ∷ []
  calls_own c e [] = ap (λ b. cond b (e ∷ []) []) (eq-eqb c c refl)
  calls_own c e (x ∷ h) = elim (eqb x.by c) as (λ b. cond b (x.event ∷ calls_by c (h ++ turn_by c e ∷ [])) (calls_by c (h ++ turn_by c e ∷ [])) ≡ cond b (x.event ∷ calls_by c h) (calls_by c h) ++ e ∷ [])
      [ true ↦ ap (λ l. x.event ∷ l) (calls_own c e h) | false ↦ calls_own c e h ]

  pub calls_other : (c d : ℕ) (e : E) (h : List (Turn E)) → d ≢ c → calls_by c (h ++ turn_by d e ∷ []) ≡ calls_by c h
  calls_other c d e [] n = ap (λ b. cond b (e ∷ []) []) (ne_eqb d c n)
  calls_other c d e (x ∷ h) n = elim (eqb x.by c) as (λ b. cond b (x.event ∷ calls_by c (h ++ turn_by d e ∷ [])) (calls_by c (h ++ turn_by d e ∷ [])) ≡ cond b (x.event ∷ calls_by c h) (calls_by c h))
      [ true ↦ ap (λ l. x.event ∷ l) (calls_other c d e h n) | false ↦ calls_other c d e h n ]

  pub runs_on : {S : Type 0} (moves : S → Turn E → S → Type 0) (x y z : S) (h : List (Turn E)) (e : Turn E) → Runs moves x h y → moves y e z → Runs moves x (h ++ e ∷ []) z
  runs_on moves x y z [] e r m = (z, subst (λ u. moves u e z) (sym r) m, refl)
  runs_on moves x y z (a ∷ h) e r m = (r.0, r.1, runs_on moves r.0 y z h e r.2 m)
