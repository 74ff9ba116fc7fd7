-- What a number and a total tell of some values, and how large totals may be.
use Rattle.std.specs.Prelude.{ℕ, ◌+◌, ◌*◌, ℤ, pos, ◌+ℤ◌, ◌≤ℤ◌, ◌≡◌, List, length, map, true}
use Rattle.lola_model.specs.declared.spec.Agg.{Agg}
use Rattle.lola_model.specs.declared.spec.Agg.TheVariants as agg
use Rattle.lola_model.specs.Windows.{total, all_true, some_true}
use Rattle.lola_value.specs.declared.text.Field.{Field}
use Rattle.lola_panes.specs.Weights.{weight_of}

-- the values without their offsets
abbrev pub fields_of : List (ℕ × Field) → List Field
fields_of vs = map (λ v. v.1) vs

-- what they count for
abbrev pub weights : Agg → List (ℕ × Field) → List ℤ
weights how vs = map (λ v. weight_of how v.1) vs

-- a number and a total tell of values what an aggregation needs. Of truth values they need not be how many there are and
-- how many are true: the total is as large as the number exactly where all are true, or above 0 exactly where some is
abbrev pub Tells : Agg → ℤ → ℤ → List (ℕ × Field) → Type 0
Tells agg.Count c t vs = c ≡ pos (length vs)
Tells agg.Sum c t vs = t ≡ total (weights agg.Sum vs)
Tells agg.Avg c t vs = (c ≡ pos (length vs)) × (t ≡ total (weights agg.Avg vs))
Tells agg.Forall c t vs = (t ≤ℤ c) × ((all_true (fields_of vs) ≡ true → t ≡ c) × (t ≡ c → all_true (fields_of vs) ≡ true))
Tells agg.Exists c t vs = (pos 0 ≤ℤ t) × ((some_true (fields_of vs) ≡ true → pos 1 ≤ℤ t) × (pos 1 ≤ℤ t → some_true (fields_of vs) ≡ true))
Tells agg.Min c t vs = Unit {0}
Tells agg.Max c t vs = Unit {0}

-- no larger than this in size
abbrev pub AtMost : ℕ → ℤ → Type 0
AtMost n z = (z ≤ℤ pos n) × (pos 0 ≤ℤ (z +ℤ pos n))

-- what a value counts for at most
abbrev pub heaviest : Agg → ℕ
heaviest agg.Forall = 1
heaviest agg.Exists = 1
heaviest how = 18446744073709551615

-- what panes that were restored come to at most beside their values: of truth values one each
abbrev pub spare : Agg → ℕ
spare agg.Forall = 9223372036854775808
spare agg.Exists = 9223372036854775808
spare how = 0

-- a total is no larger than so many values make it, and 128 bits hold it
abbrev pub InReach : Agg → ℕ → ℤ → Type 0
InReach how n z = AtMost (n * 18446744073709551616 + spare how) z × AtMost 170141183460469231731687303715884105727 z
