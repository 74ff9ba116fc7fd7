-- How large totals become.
use Rattle.std.proofs.Common.{◌≡◌, ℕ, ◌+◌, ◌*◌, ◌≤◌, ◌<◌, ◌^◌, arith, subst, ℤ, pos, ◌+ℤ◌, ◌-ℤ◌, FitsSigned}
use Rattle.std.specs.Int.{w128}
use Rattle.std.proofs.lemmas.Int.{ints}
use Rattle.lola_model.specs.declared.spec.Agg.{Agg}
use Rattle.lola_model.specs.declared.spec.Agg.TheVariants as agg
use Rattle.lola_panes.specs.Tallies.{AtMost, heaviest, spare, InReach}

pub fits_most : (z : ℤ) → AtMost 170141183460469231731687303715884105727 z → FitsSigned w128 z
fits_most z h = let a = h.0 in let b = h.1 in grind (arith, ints, a, b)

pub reach-fits : (how : Agg) (n : ℕ) (z : ℤ) → InReach how n z → FitsSigned w128 z
reach-fits how n z h = fits_most z h.1

at-most-none : (n : ℕ) → AtMost n (pos 0)
at-most-none n = (omega (arith, ints), omega (arith, ints))

pub reach-none : (how : Agg) (n : ℕ) → InReach how n (pos 0)
reach-none how n = (at-most-none (n * 18446744073709551616 + spare how), at-most-none 170141183460469231731687303715884105727)

pub at-most-later : (n m : ℕ) (z : ℤ) → n ≤ m → AtMost n z → AtMost m z
at-most-later n m z l h = let a = h.0 in let b = h.1 in (omega (arith, ints, a), omega (arith, ints, b))

pub at-most-plus : (n m : ℕ) (y z : ℤ) → AtMost n y → AtMost m z → AtMost (n + m) (y +ℤ z)
at-most-plus n m y z g h = let a = g.0 in let b = g.1 in let c = h.0 in let d = h.1 in (omega (arith, ints, a, c), omega (arith, ints, b, d))

pub reach-later : (how : Agg) (n : ℕ) (z : ℤ) → InReach how n z → InReach how (n + 1) z
reach-later how n z h = (at-most-later (n * 18446744073709551616 + spare how) ((n + 1) * 18446744073709551616 + spare how) z (omega arith) h.0, h.1)

-- a value and what was restored are within the size of one value together
heavy : (how : Agg) → heaviest how + spare how ≤ 18446744073709551615
heavy agg.Count = omega arith
heavy agg.Sum = omega arith
heavy agg.Min = omega arith
heavy agg.Max = omega arith
heavy agg.Avg = omega arith
heavy agg.Forall = omega arith
heavy agg.Exists = omega arith

-- one more value
grow : (n s m : ℕ) (z w : ℤ) → m + s ≤ 18446744073709551615 → n < 9223372036854775808 → AtMost m w → AtMost (n * 18446744073709551616 + s) z
    → AtMost ((n + 1) * 18446744073709551616 + s) (z +ℤ w) × AtMost 170141183460469231731687303715884105727 (z +ℤ w)
grow n s m z w l b g h =
    let sum = at-most-plus (n * 18446744073709551616 + s) m z w h g in (
      at-most-later ((n * 18446744073709551616 + s) + m) ((n + 1) * 18446744073709551616 + s) (z +ℤ w) (omega arith) sum,
      at-most-later ((n * 18446744073709551616 + s) + m) 170141183460469231731687303715884105727 (z +ℤ w) (omega arith) sum,
    )

pub reach-grow : (how : Agg) (n : ℕ) (z w : ℤ) → n < 2 ^ 63 → AtMost (heaviest how) w → InReach how n z → InReach how (n + 1) (z +ℤ w)
reach-grow how n z w b g h = grow n (spare how) (heaviest how) z w (heavy how) (omega arith) g h.0

-- the same of what lies behind a total
pub reach-behind : (how : Agg) (n : ℕ) (z w b : ℤ) → n < 2 ^ 63 → AtMost (heaviest how) w → InReach how n (z -ℤ b) → InReach how (n + 1) ((z +ℤ w) -ℤ b)
reach-behind how n z w b l g h =
    let e : (z -ℤ b) +ℤ w ≡ (z +ℤ w) -ℤ b = omega (arith, ints) in
    subst (InReach how (n + 1)) e (reach-grow how n (z -ℤ b) w l g h)

-- of a value that is the first of its pane
pub reach-one : (how : Agg) (n : ℕ) (z w : ℤ) → n < 2 ^ 63 → AtMost (heaviest how) w → InReach how (n + 1) ((z +ℤ w) -ℤ z)
reach-one how n z w l g =
    let e : pos 0 +ℤ w ≡ (z +ℤ w) -ℤ z = omega (arith, ints) in
    subst (InReach how (n + 1)) e (reach-grow how n (pos 0) w l g (reach-none how n))
