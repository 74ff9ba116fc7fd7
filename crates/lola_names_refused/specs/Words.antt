-- The words for kinds and for aggregations.
use Rattle.std.specs.Prelude.{ℕ, List, [], ◌∷◌, Option, Some, None, if◌then◌else◌, codes}
use Rattle.std.specs.Str.{bytes_eq}
use Rattle.lola_value.specs.declared.value.Kind.{Kind}
use Rattle.lola_value.specs.declared.value.Kind.TheVariants as kind
use Rattle.lola_model.specs.declared.spec.Agg.{Agg}
use Rattle.lola_model.specs.declared.spec.Agg.TheVariants as agg

-- what a word stands for in a table of words
abbrev pub looked_up : {A : Type 0} → List (List ℕ × A) → List ℕ → Option A
looked_up [] word = None
looked_up (row ∷ rows) word = if bytes_eq word row.0 then Some row.1 else looked_up rows word

abbrev pub kinds : List (List ℕ × Kind)
kinds =
    (codes "Bool", kind.Bool) ∷ (codes "Int8", kind.Int8) ∷ (codes "Int16", kind.Int16) ∷ (codes "Int32", kind.Int32) ∷ (codes "Int64", kind.Int64)
    ∷ (codes "UInt8", kind.UInt8) ∷ (codes "UInt16", kind.UInt16) ∷ (codes "UInt32", kind.UInt32) ∷ (codes "UInt64", kind.UInt64)
    ∷ (codes "String", kind.Text) ∷ []

abbrev pub aggregations : List (List ℕ × Agg)
aggregations =
    (codes "count", agg.Count) ∷ (codes "sum", agg.Sum) ∷ (codes "min", agg.Min) ∷ (codes "max", agg.Max) ∷ (codes "avg", agg.Avg)
    ∷ (codes "forall", agg.Forall) ∷ (codes "exists", agg.Exists) ∷ []

-- the kind that a word names
abbrev pub kind_named : List ℕ → Option Kind
kind_named word = looked_up kinds word

-- the aggregation that a word names
abbrev pub aggregation_named : List ℕ → Option Agg
aggregation_named word = looked_up aggregations word
