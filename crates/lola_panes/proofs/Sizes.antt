-- How large totals of partial results are.
use Rattle.std.proofs.Common.{◌≡◌, ℕ, ◌+◌, ◌-◌, ◌*◌, ◌≤◌, ◌<◌, ◌^◌, List, [], ◌∷◌, length, refl, arith, ℤ, pos, negsuc, ◌+ℤ◌, Bool, true, false, if◌then◌else◌, unsigned_abs, FitsSigned}
use Rattle.std.specs.List.{sum_by}
use Rattle.std.specs.Int.{w128}
use Rattle.std.proofs.lemmas.Int.{ints}
use Rattle.std.proofs.lemmas.List.Sums.{sum_by-cons}
use Rattle.lola_model.specs.declared.spec.Agg.{Agg}
use Rattle.lola_model.specs.declared.spec.Agg.TheVariants as agg
use Rattle.lola_panes.specs.declared.partial.Partial.{Partial}
use Rattle.lola_panes.specs.declared.partial.Partial.TheVariants as partial
use Rattle.lola_panes.specs.Parts.{totalled, total_size}
use Rattle.lola_panes.specs.Restored.{whole_of}
use Rattle.lola_panes.specs.Tallies.{AtMost, spare, InReach}
use Rattle.lola_panes.proofs.Reaching.{at-most-later, at-most-plus, fits_most}

-- how large what partial results add to a total is: beside the totals of numbers, of truth values one each

pub each_more : Agg → ℕ
each_more agg.Forall = 1
each_more agg.Exists = 1
each_more how = 0

at_most-abs : (z : ℤ) → AtMost (unsigned_abs z) z
at_most-abs (pos n) = (omega (arith, ints), omega (arith, ints))
at_most-abs (negsuc n) = (omega (arith, ints), omega (arith, ints))

nothing : (n : ℕ) → AtMost n (pos 0)
nothing n = (omega (arith, ints), omega (arith, ints))

if_all : (b : Bool) → AtMost (0 + 1) (if b then pos 0 else negsuc 0)
if_all true = (omega (arith, ints), omega (arith, ints))
if_all false = (omega (arith, ints), omega (arith, ints))

if_some : (b : Bool) → AtMost (0 + 1) (if b then pos 1 else pos 0)
if_some true = (omega (arith, ints), omega (arith, ints))
if_some false = (omega (arith, ints), omega (arith, ints))

no_more : (z : ℤ) → AtMost (unsigned_abs z + 0) z
no_more z = at-most-later (unsigned_abs z) (unsigned_abs z + 0) z (omega arith) (at_most-abs z)

pub size_one : (how : Agg) (q : Partial) → AtMost (total_size how q + each_more how) (totalled how q)
unfolding each_more
size_one agg.Count (partial.Number z) = nothing (0 + 0)
size_one agg.Count (partial.Extreme o) = nothing (0 + 0)
size_one agg.Count (partial.Mean z n) = nothing (0 + 0)
size_one agg.Count (partial.Truth b) = nothing (0 + 0)
size_one agg.Sum (partial.Number z) = no_more z
size_one agg.Sum (partial.Extreme o) = nothing (0 + 0)
size_one agg.Sum (partial.Mean z n) = nothing (0 + 0)
size_one agg.Sum (partial.Truth b) = nothing (0 + 0)
size_one agg.Min (partial.Number z) = nothing (0 + 0)
size_one agg.Min (partial.Extreme o) = nothing (0 + 0)
size_one agg.Min (partial.Mean z n) = nothing (0 + 0)
size_one agg.Min (partial.Truth b) = nothing (0 + 0)
size_one agg.Max (partial.Number z) = nothing (0 + 0)
size_one agg.Max (partial.Extreme o) = nothing (0 + 0)
size_one agg.Max (partial.Mean z n) = nothing (0 + 0)
size_one agg.Max (partial.Truth b) = nothing (0 + 0)
size_one agg.Avg (partial.Number z) = nothing (0 + 0)
size_one agg.Avg (partial.Extreme o) = nothing (0 + 0)
size_one agg.Avg (partial.Mean z n) = no_more z
size_one agg.Avg (partial.Truth b) = nothing (0 + 0)
size_one agg.Forall (partial.Number z) = nothing (0 + 1)
size_one agg.Forall (partial.Extreme o) = nothing (0 + 1)
size_one agg.Forall (partial.Mean z n) = nothing (0 + 1)
size_one agg.Forall (partial.Truth b) = if_all b
size_one agg.Exists (partial.Number z) = nothing (0 + 1)
size_one agg.Exists (partial.Extreme o) = nothing (0 + 1)
size_one agg.Exists (partial.Mean z n) = nothing (0 + 1)
size_one agg.Exists (partial.Truth b) = if_some b

-- of several together
pub sized : Agg → List Partial → ℕ
sized how [] = 0
sized how (q ∷ qs) = (total_size how q + each_more how) + sized how qs

pub size_all : (how : Agg) (qs : List Partial) → AtMost (sized how qs) (whole_of how qs)
unfolding sized
size_all how [] = nothing 0
size_all how (q ∷ qs) = at-most-plus (total_size how q + each_more how) (sized how qs) (totalled how q) (whole_of how qs) (size_one how q) (size_all how qs)

pub sized_cons : (how : Agg) (q : Partial) (qs : List Partial) → sized how (q ∷ qs) ≡ (total_size how q + each_more how) + sized how qs
unfolding sized
sized_cons how q qs = refl

pub each_at_most : (how : Agg) → each_more how ≤ 1
unfolding each_more
each_at_most agg.Forall = omega arith
each_at_most agg.Exists = omega arith
each_at_most agg.Count = omega arith
each_at_most agg.Sum = omega arith
each_at_most agg.Min = omega arith
each_at_most agg.Max = omega arith
each_at_most agg.Avg = omega arith

pub sized_most : (how : Agg) (qs : List Partial) → sized how qs ≤ sum_by (total_size how) qs + length qs
unfolding sized
sized_most how [] = omega arith
sized_most how (q ∷ qs) = let k = sized_most how qs in let m = each_at_most how in let e = sum_by-cons (total_size how) q qs in omega arith

sized_none : (how : Agg) (qs : List Partial) → each_more how ≡ 0 → sized how qs ≤ sum_by (total_size how) qs
unfolding sized
sized_none how [] z = omega arith
sized_none how (q ∷ qs) z = let k = sized_none how qs z in let e = sum_by-cons (total_size how) q qs in omega arith

-- restored panes are at most 2 ^ 63
sized_spare : (how : Agg) (qs : List Partial) → length qs ≤ 9223372036854775808 → sized how qs ≤ sum_by (total_size how) qs + spare how
unfolding each_more
sized_spare agg.Forall qs l = let k = sized_most agg.Forall qs in omega arith
sized_spare agg.Exists qs l = let k = sized_most agg.Exists qs in omega arith
sized_spare agg.Count qs l = let k = sized_none agg.Count qs refl in omega arith
sized_spare agg.Sum qs l = let k = sized_none agg.Sum qs refl in omega arith
sized_spare agg.Min qs l = let k = sized_none agg.Min qs refl in omega arith
sized_spare agg.Max qs l = let k = sized_none agg.Max qs refl in omega arith
sized_spare agg.Avg qs l = let k = sized_none agg.Avg qs refl in omega arith

few_spare : (how : Agg) → spare how ≤ 9223372036854775808
few_spare agg.Forall = omega arith
few_spare agg.Exists = omega arith
few_spare agg.Count = omega arith
few_spare agg.Sum = omega arith
few_spare agg.Min = omega arith
few_spare agg.Max = omega arith
few_spare agg.Avg = omega arith

-- what is as large as some of them is in reach of so many values
pub IsRoom : Agg → ℕ → ℕ → Type 0
IsRoom how added n = (n ≤ added * 18446744073709551616 + spare how) × (n ≤ 170141183460469231731687303715884105727)

pub room_of : (how : Agg) (added : ℕ) (qs : List Partial) → added < 2 ^ 63 → length qs ≤ 9223372036854775808 → sum_by (total_size how) qs ≤ added * 2 ^ 64 → IsRoom how added (sized how qs)
unfolding IsRoom
room_of how added qs a l s = let k = sized_spare how qs l in let f = few_spare how in (omega arith, omega arith)

pub room_less : (how : Agg) (added n m : ℕ) → m ≤ n → IsRoom how added n → IsRoom how added m
unfolding IsRoom
room_less how added n m l h = let a = h.0 in let b = h.1 in (omega arith, omega arith)

pub room_reach : (how : Agg) (added n : ℕ) (z : ℤ) → IsRoom how added n → AtMost n z → InReach how added z
unfolding IsRoom
room_reach how added n z h m = (at-most-later n (added * 18446744073709551616 + spare how) z h.0 m, at-most-later n 170141183460469231731687303715884105727 z h.1 m)

-- a total before some of the partial results is no larger than the others make it
pub record IsBetween (how : Agg) (z : ℤ) (rest all : List Partial) : Type 0 where
  pub less : sized how rest ≤ sized how all
  pub size : AtMost (sized how all - sized how rest) z

pub between_first : (how : Agg) (all : List Partial) → IsBetween how (pos 0) all all
between_first how all = record { less = omega arith; size = nothing (sized how all - sized how all) }

pub between_next : (how : Agg) (z : ℤ) (q : Partial) (rest all : List Partial) → IsBetween how z (q ∷ rest) all → IsBetween how (z +ℤ totalled how q) rest all
between_next how z q rest all h =
    let w = sized_cons how q rest in
    let l = h.less in
    record {
      less = omega arith;
      size =
          at-most-later ((sized how all - sized how (q ∷ rest)) + (total_size how q + each_more how)) (sized how all - sized how rest) (z +ℤ totalled how q) (omega arith)
          (at-most-plus (sized how all - sized how (q ∷ rest)) (total_size how q + each_more how) z (totalled how q) h.size (size_one how q));
    }

-- so 128 bits hold it
pub between_fits : (how : Agg) (z : ℤ) (rest all : List Partial) → sum_by (total_size how) all + length all < 2 ^ 127 → IsBetween how z rest all → FitsSigned w128 z
between_fits how z rest all l h =
    let m = sized_most how all in
    fits_most z (at-most-later (sized how all - sized how rest) 170141183460469231731687303715884105727 z (omega arith) h.size)
