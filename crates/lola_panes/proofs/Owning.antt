-- What a pane says of its own values.
use Rattle.std.proofs.Common.{◌≡◌, ◌≢◌, ℕ, ◌+◌, ◌≤◌, ◌<◌, List, [], ◌∷◌, ◌++◌, drop, refl, ap, sym, ◌∙◌, subst, arith, Option, Some, None, ℤ, pos, ◌-ℤ◌, true, false, nat_eq, slice_get, add-one, append-nil, inl, inr}
use Rattle.std.specs.Prelude.{filter}
use Rattle.std.proofs.lemmas.Bool.{ne_eqb}
use Rattle.std.proofs.lemmas.Bool.Decides.{nat_tests}
use Rattle.std.proofs.lemmas.Int.{ints}
use Rattle.std.proofs.lemmas.List.Elements.{filter-append}
use Rattle.circular_buffer.proofs.Places.{below_or_not, slice_get-drop}
use Rattle.lola_model.specs.declared.spec.Agg.{Agg}
use Rattle.lola_value.specs.declared.text.Field.{Field}
use Rattle.lola_panes.specs.declared.pane.Pane.{Pane}
use Rattle.lola_panes.specs.Weights.{number_at, best_of}
use Rattle.lola_panes.specs.Rings.{left_count, extreme_of, numbered, count_before, total_before, own_count, IsOwnTotal}
use Rattle.lola_panes.specs.Holding.{AllOf, AllLeft, IsPane, Grouped, HoldsPanes, count_at, total_at}
use Rattle.lola_panes.specs.Parts.{pane_values, partial_of, part}
use Rattle.lola_panes.specs.Tallies.{Tells, weights}
use Rattle.lola_panes.proofs.Noting.{le_yes, le_no}
use Rattle.lola_panes.proofs.Reaching.{reach-fits}
use Rattle.lola_panes.proofs.Telling.{tells-none, tells-part}

pub same_yes : (a b : ℕ) → a ≡ b → nat_eq a b ≡ true
same_yes a b e = grind (arith, nat_tests)

same_so : (a b : ℕ) → nat_eq a b ≡ true → a ≡ b
same_so a b e = grind (arith, nat_tests)

same_not : (a b : ℕ) → nat_eq a b ≡ false → a ≢ b
same_not a b e = λ q. grind (arith, nat_tests)

-- the numbers of offsets are all at least this
abbrev pub AllAtLeast : ℕ → ℕ → List (ℕ × Field) → Type 0
AllAtLeast pane n [] = Unit {0}
AllAtLeast pane n (v ∷ vs) = (n ≤ number_at pane v.0) × AllAtLeast pane n vs

module _ (pane : ℕ) where
  pub own_values : (n : ℕ) (vs : List (ℕ × Field)) → AllOf pane n vs → pane_values pane n vs ≡ vs
  own_values n [] h = refl
  own_values n (v ∷ vs) h = rw (same_yes (number_at pane v.0) n h.0) (ap (λ ws. v ∷ ws) (own_values n vs h.1))

  pub other_values : (n m : ℕ) (vs : List (ℕ × Field)) → AllOf pane m vs → m ≢ n → pane_values pane n vs ≡ []
  other_values n m [] h d = refl
  other_values n m (v ∷ vs) h d = rw (ne_eqb (number_at pane v.0) n (λ q. d (sym h.0 ∙ q))) (other_values n m vs h.1 d)

  pub later_values : (n m : ℕ) (vs : List (ℕ × Field)) → AllAtLeast pane m vs → n < m → pane_values pane n vs ≡ []
  later_values n m [] h l = refl
  later_values n m (v ∷ vs) h l = let k = h.0 in rw (ne_eqb (number_at pane v.0) n (λ q. omega arith)) (later_values n m vs h.1 l)

  pub left_values : (most last n : ℕ) (vs : List (ℕ × Field)) → AllLeft pane most last vs → last < n + most → pane_values pane n vs ≡ []
  left_values most last n [] h l = refl
  left_values most last n (v ∷ vs) h l = let k = h.0 in rw (ne_eqb (number_at pane v.0) n (λ q. omega arith)) (left_values most last n vs h.1 l)

  pub at_least-lower : (n m : ℕ) (vs : List (ℕ × Field)) → m ≤ n → AllAtLeast pane n vs → AllAtLeast pane m vs
  at_least-lower n m [] l h = tt
  at_least-lower n m (v ∷ vs) l h = let k = h.0 in (omega arith, at_least-lower n m vs l h.1)

  pub at_least-append : (n : ℕ) (vs ws : List (ℕ × Field)) → AllAtLeast pane n vs → AllAtLeast pane n ws → AllAtLeast pane n (vs ++ ws)
  at_least-append n [] ws h g = g
  at_least-append n (v ∷ vs) ws h g = (h.0, at_least-append n vs ws h.1 g)

  pub at_least-own : (n m : ℕ) (vs : List (ℕ × Field)) → m ≤ n → AllOf pane n vs → AllAtLeast pane m vs
  at_least-own n m [] l h = tt
  at_least-own n m (v ∷ vs) l h = let e = h.0 in (omega arith, at_least-own n m vs l h.1)

module _ (how : Agg) (pane : ℕ) (sum : ℤ) (added : ℕ) where
  at_least-grouped : (low : ℕ) (rs : List Pane) (vs : List (ℕ × Field)) → Grouped how pane sum added low rs vs → AllAtLeast pane low vs
  at_least-grouped low [] vs h = subst (AllAtLeast pane low) (sym h) tt
  at_least-grouped low (r ∷ rs) vs h =
      let k = h.3.low_le in
      subst (AllAtLeast pane low) (sym h.2)
      (at_least-append pane low h.0 h.1 (at_least-own pane r.number low h.0 k h.3.own)
      (at_least-lower pane (r.number + 1) low h.1 (omega arith) (at_least-grouped (r.number + 1) rs h.1 h.4)))

  -- the pane of a number among others: its own values are those of that number; there are none, where there is no such pane
  HasOwn : Option Pane → List Pane → List (ℕ × Field) → Type 0
  HasOwn None rs vs = vs ≡ []
  HasOwn (Some r) rs vs = IsPane how pane sum added 0 r (count_at added rs) (total_at sum rs) vs

  own_of : (n low : ℕ) (rs : List Pane) (vs : List (ℕ × Field)) → Grouped how pane sum added low rs vs
      → HasOwn (numbered n (slice_get (drop (left_count 1 n rs) rs) 0)) (drop 1 (drop (left_count 1 n rs) rs)) (pane_values pane n vs)
  unfolding HasOwn
  own_of n low [] vs h = subst (λ (ws : List (ℕ × Field)). pane_values pane n ws ≡ []) (sym h) refl
  own_of n low (r ∷ rs) vs h =
      let f = λ (v : ℕ × Field). nat_eq (number_at pane v.0) n in
      let cut : pane_values pane n vs ≡ pane_values pane n h.0 ++ pane_values pane n h.1 = ap (filter f) h.2 ∙ filter-append f h.0 h.1 in
      let p = h.3 in
      elim (below_or_not n (r.number + 1)) [
        | inl l ↦
            rw (le_no (r.number + 1) n l)
            (elim (below_or_not n r.number) [
              | inl m ↦
                  rw (ne_eqb r.number n (λ q. omega arith))
                  (cut ∙ (λ i. other_values pane n r.number h.0 p.own (λ q. omega arith) i ++ later_values pane n (r.number + 1) h.1 (at_least-grouped (r.number + 1) rs h.1 h.4) (omega arith) i))
              | inr m ↦
                  let e : r.number ≡ n = omega arith in
                  let own : AllOf pane n h.0 = subst (λ k. AllOf pane k h.0) e p.own in
                  let all : pane_values pane n vs ≡ h.0 =
                  cut
                  ∙ ((λ i. own_values pane n h.0 own i ++ later_values pane n (r.number + 1) h.1 (at_least-grouped (r.number + 1) rs h.1 h.4) (omega arith) i)
                  ∙ append-nil h.0) in
                  rw (same_yes r.number n e)
                  (subst (IsPane how pane sum added 0 r (count_at added rs) (total_at sum rs)) (sym all)
                  (record { low_le = omega arith; own = p.own; best = p.best; before = p.before; tells = p.tells; reach = p.reach; since = p.since }))
            ])
        | inr l ↦
            rw (le_yes (r.number + 1) n l, add-one)
            (subst (HasOwn (numbered n (slice_get (drop (left_count 1 n rs) rs) 0)) (drop 1 (drop (left_count 1 n rs) rs)))
            (sym (cut ∙ ap (λ ws. ws ++ pane_values pane n h.1) (other_values pane n r.number h.0 p.own (λ q. omega arith)))) (own_of n (r.number + 1) rs h.1 h.4))
      ]

  -- what is read of the pane of a number is the partial result of its values
  own_part : (n : ℕ) (o next : Option Pane) (rs : List Pane) (vs : List (ℕ × Field)) (count : ℕ) (z : ℤ) (best : Option ℤ) → next ≡ slice_get rs 0 → HasOwn o rs vs
      → count ≡ own_count (count_before added next) o → IsOwnTotal (total_before sum next) o z → best ≡ extreme_of o
      → part how count z best ≡ partial_of how vs
  unfolding HasOwn
  own_part n None next rs vs count z best s h c t b =
      tells-part how count z best vs
      (subst (Tells how (pos count) z) (sym h) (subst (λ (k : ℕ). Tells how (pos k) z []) (sym c) (subst (λ (y : ℤ). Tells how (pos 0) y []) (sym t) (tells-none how))))
      (λ x. b ∙ sym (ap (λ ws. best_of how (weights how ws)) h))
  own_part n (Some r) next rs vs count z best s h c t b =
      let nc : count_before added next ≡ count_at added rs = ap (count_before added) s ∙ count-first rs in
      let nt : total_before sum next ≡ total_at sum rs = ap (total_before sum) s ∙ total-first rs in
      let k = h.before in
      let ce : pos (count_at added rs) -ℤ pos r.count_before ≡ pos count = omega (arith, ints, c, nc) in
      let ze : z ≡ total_at sum rs -ℤ r.total_before =
      subst (IsOwnTotal' r z) nt t (reach-fits how added (total_at sum rs -ℤ r.total_before) h.reach) in
      tells-part how count z best vs
      (subst (λ (x : ℤ). Tells how x z vs) ce (subst (λ (y : ℤ). Tells how (pos (count_at added rs) -ℤ pos r.count_before) y vs) (sym ze) h.tells))
      (λ x. b ∙ sym (h.best x))
    where
      IsOwnTotal' : Pane → ℤ → ℤ → Type 0
      IsOwnTotal' r z y = IsOwnTotal y (Some r) z

      count-first : (rs : List Pane) → count_before added (slice_get rs 0) ≡ count_at added rs
      count-first [] = refl
      count-first (r ∷ rs) = refl

      total-first : (rs : List Pane) → total_before sum (slice_get rs 0) ≡ total_at sum rs
      total-first [] = refl
      total-first (r ∷ rs) = refl

  pub read-part : (most last n : ℕ) (ring : List Pane) (all : List (ℕ × Field)) (place : ℕ) (count : ℕ) (z : ℤ) (best : Option ℤ) → last < n + most
      → place ≡ left_count 1 n ring → count ≡ own_count (count_before added (slice_get ring (place + 1))) (numbered n (slice_get ring place))
      → IsOwnTotal (total_before sum (slice_get ring (place + 1))) (numbered n (slice_get ring place)) z → best ≡ extreme_of (numbered n (slice_get ring place))
      → HoldsPanes how pane most last sum added ring all → part how count z best ≡ partial_of how (pane_values pane n all)
  read-part most last n ring all place count z best l e c t b h =
      let f = λ (v : ℕ × Field). nat_eq (number_at pane v.0) n in
      let p = h.2 in
      let here : pane_values pane n all ≡ pane_values pane n h.1 =
      ap (filter f) p.split ∙ (filter-append f h.0 h.1 ∙ ap (λ ws. ws ++ pane_values pane n h.1) (left_values pane most last n h.0 p.left l)) in
      let d = left_count 1 n ring in
      let first : slice_get (drop d ring) 0 ≡ slice_get ring place = slice_get-drop d ring 0 place (omega arith) in
      let next : slice_get (drop 1 (drop d ring)) 0 ≡ slice_get ring (place + 1) = slice_get-drop 1 (drop d ring) 0 1 (omega arith) ∙ slice_get-drop d ring 1 (place + 1) (omega arith) in
      let own = own_of n 0 ring h.1 p.grouped in
      own_part n (numbered n (slice_get ring place)) (slice_get ring (place + 1)) (drop 1 (drop d ring)) (pane_values pane n h.1) count z best (sym next)
      (subst (λ o. HasOwn (numbered n o) (drop 1 (drop d ring)) (pane_values pane n h.1)) first own) c t b
      ∙ ap (partial_of how) (sym here)
