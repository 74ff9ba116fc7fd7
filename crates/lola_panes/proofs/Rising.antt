-- Panes whose numbers rise, and how many of them have left a window.
use Rattle.std.proofs.Common.{◌≡◌, ◌≢◌, ℕ, zero, suc, ◌+◌, ◌≤◌, ◌<◌, List, [], ◌∷◌, ◌++◌, length, drop, refl, ap, sym, ◌∙◌, arith, Some, ℤ, slice_get, nat_le, nat_lt, nat_eq, Bool, true, false, if◌then◌else◌, subst}
use Rattle.std.proofs.lemmas.Bool.Decides.{nat_tests}
use Rattle.lola_model.specs.declared.spec.Agg.{Agg}
use Rattle.lola_panes.specs.declared.pane.Pane.{Pane}
use Rattle.lola_panes.specs.Rings.{new_pane, with_value, noted, left_count, Rising, AllUpTo}

-- no pane is greater

pub AllUpTo-later : (a b : ℕ) (rs : List Pane) → AllUpTo a rs → a ≤ b → AllUpTo b rs
AllUpTo-later a b [] h l = tt
AllUpTo-later a b (r ∷ rs) h l = let k = h.0 in (omega arith, AllUpTo-later a b rs h.1 l)

pub AllUpTo-append : (a : ℕ) (rs qs : List Pane) → AllUpTo a rs → AllUpTo a qs → AllUpTo a (rs ++ qs)
AllUpTo-append a [] qs h g = g
AllUpTo-append a (r ∷ rs) qs h g = (h.0, AllUpTo-append a rs qs h.1 g)

pub AllUpTo-front : (a : ℕ) (rs qs : List Pane) → AllUpTo a (rs ++ qs) → AllUpTo a rs
AllUpTo-front a [] qs h = tt
AllUpTo-front a (r ∷ rs) qs h = (h.0, AllUpTo-front a rs qs h.1)

pub AllUpTo-last : (a : ℕ) (rs : List Pane) (q : Pane) → AllUpTo a (rs ++ q ∷ []) → q.number ≤ a
AllUpTo-last a [] q h = h.0
AllUpTo-last a (r ∷ rs) q h = AllUpTo-last a rs q h.1

pub AllUpTo-drop : (a d : ℕ) (rs : List Pane) → AllUpTo a rs → AllUpTo a (drop d rs)
AllUpTo-drop a zero rs h = h
AllUpTo-drop a (suc d) [] h = tt
AllUpTo-drop a (suc d) (r ∷ rs) h = AllUpTo-drop a d rs h.1

-- numbers rise

pub Rising-lower : (low low' : ℕ) (rs : List Pane) → low' ≤ low → Rising low rs → Rising low' rs
Rising-lower low low' [] l h = tt
Rising-lower low low' (r ∷ rs) l h = let k = h.0 in (omega arith, h.1)

pub Rising-drop : (low d : ℕ) (rs : List Pane) → Rising low rs → Rising low (drop d rs)
Rising-drop low zero rs h = h
Rising-drop low (suc d) [] h = tt
Rising-drop low (suc d) (r ∷ rs) h = let k = h.0 in Rising-drop low d rs (Rising-lower (r.number + 1) low rs (omega arith) h.1)

-- many panes span as many numbers
pub rising-span : (low last : ℕ) (rs : List Pane) → Rising low rs → AllUpTo last rs → 0 < length rs → low + length rs ≤ last + 1
rising-span low last [] h u l = absurd (omega arith)
rising-span low last (r ∷ []) h u l = let k = h.0 in let m = u.0 in omega arith
rising-span low last (r ∷ q ∷ rs) h u l = let k = h.0 in let m = rising-span (r.number + 1) last (q ∷ rs) h.1 u.1 (omega arith) in omega arith

-- with one more value, whose pane is none before the last
module _ (how : Agg) (number added : ℕ) (sum weight : ℤ) where
  noted_last-rising : (low : ℕ) (r : Pane) (b : Bool) → nat_eq r.number number ≡ b → low ≤ r.number → r.number ≤ number
      → Rising low (if b then with_value how weight r ∷ [] else r ∷ new_pane number added sum weight ∷ [])
      × AllUpTo number (if b then with_value how weight r ∷ [] else r ∷ new_pane number added sum weight ∷ [])
  noted_last-rising low r true e l u = ((l, tt), (u, tt))
  noted_last-rising low r false e l u =
      let other : r.number ≢ number = λ q. grind (arith, nat_tests) in
      let more : r.number + 1 ≤ number = omega arith in
      ((l, (more, tt)), (u, (omega arith, tt)))

  pub noted-rising : (low : ℕ) (rs : List Pane) → low ≤ number → Rising low rs → AllUpTo number rs
      → Rising low (noted how number added sum weight rs) × AllUpTo number (noted how number added sum weight rs)
  noted-rising low [] l h u = ((l, tt), (omega arith, tt))
  noted-rising low (r ∷ []) l h u = noted_last-rising low r (nat_eq r.number number) refl h.0 u.0
  noted-rising low (r ∷ q ∷ rs) l h u =
      let k = h.1.0 in let m = u.1.0 in
      let on = noted-rising (r.number + 1) (q ∷ rs) (omega arith) h.1 u.1 in
      ((h.0, on.0), (u.0, on.1))

-- which panes have left

rising_at : (low i : ℕ) (rs : List Pane) (p : Pane) → Rising low rs → slice_get rs i ≡ Some p → low ≤ p.number
rising_at low i [] p h e = absurd (cc)
rising_at low zero (r ∷ rs) p h e = let q : r ≡ p = cc in subst (λ (x : Pane). low ≤ x.number) q h.0
rising_at low (suc i) (r ∷ rs) p h e = let k = h.0 in let m = rising_at (r.number + 1) i rs p h.1 e in omega arith

-- the pane at a place has left exactly where that place is below the number of those that have left
pub rising-left : (most k low i : ℕ) (rs : List Pane) (p : Pane) → Rising low rs → slice_get rs i ≡ Some p → nat_le (p.number + most) k ≡ nat_lt i (left_count most k rs)
rising-left most k low i [] p h e = absurd (cc)
rising-left most k low zero (r ∷ rs) p h e =
    let q : r ≡ p = cc in
    ap (λ (x : Pane). nat_le (x.number + most) k) (sym q)
    ∙ elim (nat_le (r.number + most) k) as (λ b. b ≡ nat_lt 0 (if b then left_count most k rs + 1 else 0)) [ true ↦ positive (left_count most k rs) | false ↦ refl ]
  where
    positive : (a : ℕ) → true ≡ nat_lt 0 (a + 1)
    positive a = grind (arith, nat_tests)
rising-left most k low (suc i) (r ∷ rs) p h e =
    by (nat_le (r.number + most) k) refl (rising-left most k (r.number + 1) i rs p h.1 e) (rising_at (r.number + 1) i rs p h.1 e)
  where
    one_more : (a b : ℕ) → nat_lt a b ≡ nat_lt (suc a) (b + 1)
    one_more a b = grind (arith, nat_tests)

    none : (a : ℕ) → false ≡ nat_lt a 0
    none a = grind (arith, nat_tests)

    later : (a b : ℕ) → a + 1 ≤ b → nat_le (a + most) k ≡ false → nat_le (b + most) k ≡ false
    later a b l f = grind (arith, nat_tests)

    by : (b : Bool) → nat_le (r.number + most) k ≡ b → nat_le (p.number + most) k ≡ nat_lt i (left_count most k rs) → r.number + 1 ≤ p.number
        → nat_le (p.number + most) k ≡ nat_lt (suc i) (if b then left_count most k rs + 1 else 0)
    by true f g l = g ∙ one_more i (left_count most k rs)
    by false f g l = later r.number p.number l f ∙ none (suc i)

-- no more have left than there are
pub left_le : (most k : ℕ) (rs : List Pane) → left_count most k rs ≤ length rs
left_le most k [] = omega arith
left_le most k (r ∷ rs) =
    let l = left_le most k rs in
    elim (nat_le (r.number + most) k) as (λ b. (if b then left_count most k rs + 1 else 0) ≤ length (r ∷ rs)) [ true ↦ omega arith | false ↦ omega arith ]
