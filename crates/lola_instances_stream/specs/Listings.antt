-- Tables of the instances of a stream by their parameters.
use Rattle.std.specs.Prelude.{ℕ, ◌≡◌, Bool, false, cond, List, Option, Some, slice_get, nat_le, length, if◌then◌else◌}
use Rattle.std.specs.Map.{lookup}
use Rattle.lola_instances_one.specs.Bits.{rank}
use Rattle.lola_value.specs.declared.value.Kind.{Kind}
use Rattle.lola_value.specs.declared.value.Params.{Params}
use Rattle.lola_model.specs.Whereabouts.{AreOthers, may_stand_at}
use Rattle.lola_model.specs.declared.store.Whereabouts.{Whereabouts}
use Rattle.lola_instances_one.specs.Holdings.{Holdings}
use Rattle.lola_instances_stream.specs.declared.key.Key.{Key}
use Rattle.lola_instances_stream.specs.Keys.{same_places}

-- whether the table is kept, which cell it has for each key, and how many more there is room for
pub record Listing : Type 0 where
  pub is_kept : Bool
  pub entries : List (Key × ℕ)
  pub room : ℕ

-- the cell that a table has for these parameters
abbrev pub cell_of : Params → List (Key × ℕ) → Option ℕ
cell_of p entries = lookup (λ (k : Key). same_places p k.0) entries

-- a table has this for these parameters, and for all others what it had
abbrev pub HasCell : Params → Option ℕ → List (Key × ℕ) → List (Key × ℕ) → Type 0
HasCell p cell old new = (q : Params) → cell_of q new ≡ cond (same_places p q) cell (cell_of q old)

-- where a cell comes to stand when all before it that are not set move together
abbrev pub packed : List Bool → ℕ → ℕ
packed bits cell = if nat_le cell (length bits) then rank bits cell else cell

-- each of these instances that stands elsewhere has other parameters than these, of these kinds
abbrev pub StandsOnly : Whereabouts → List Kind → Params → List Holdings → Type 0
StandsOnly w kinds p ss = (i : ℕ) (s : Holdings) → slice_get ss i ≡ Some s → may_stand_at w i ≡ false → AreOthers kinds p s.params
