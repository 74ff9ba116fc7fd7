-- What is put of the parts of a clause that read.
use Rattle.std.specs.Prelude.{ℕ, List, [], ◌∷◌}
use Rattle.lola_model.specs.Leaves.{followed_by}
use Rattle.lola_model.specs.PacingRefused.{access_use}
use Rattle.lola_model.specs.declared.uses.Use.{Use}
use Rattle.lola_model.specs.declared.uses.Use.TheVariants.{OfWindow}
use Rattle.lola_model.specs.declared.part.ReadPart.{ReadPart}
use Rattle.lola_model.specs.declared.part.ReadPart.TheVariants.{Read, Window}

-- the stream of an access that is followed
abbrev pub followed_part : ReadPart → List ℕ
followed_part (Read at n how) = followed_by how n
followed_part (Window at w) = []

-- a direct access, or a window
abbrev pub used_part : ReadPart → List Use
used_part (Read at n how) = access_use at n how
used_part (Window at w) = OfWindow at w ∷ []
