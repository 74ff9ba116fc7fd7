-- How the greatest offsets onto streams are found.
use Rattle.std.specs.Prelude.{ℕ, ◌≡◌, ◌<◌, ◌≤◌, List, [], All, if◌then◌else◌, max, length, nat_eq, slice_index}
use Rattle.lola_model.specs.Bounds.{offset_by, offsets_onto, greatest_offset}
use Rattle.lola_model.specs.declared.spec.Spec.{Spec}
use Rattle.lola_model.specs.declared.part.ReadPart.{ReadPart}
use Rattle.lola_model.specs.declared.part.ReadPart.TheVariants.{Read, Window}

-- no offset of a specification is above 4,096
pub record HasSmallOffsets (spec : Spec) : Type 0 where
  pub small : (n : ℕ) → All (λ k. k ≤ 4096) (offsets_onto n spec)

-- the offset of a part that reads stream n, if it has one
abbrev pub part_offset : ℕ → ReadPart → List ℕ
part_offset n (Read at m how) = if nat_eq m n then offset_by how else []
part_offset n (Window at w) = []

-- of the first streams, as many as there are places, the greatest offsets are raised to these
pub record IsRaised (offsets : ℕ → List ℕ) (old new : List ℕ) : Type 0 where
  pub count : length new ≡ length old
  pub each : (i : ℕ) → i < length old → slice_index new i ≡ max (slice_index old i) (greatest_offset (offsets i))
