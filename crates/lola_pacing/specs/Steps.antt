-- Lists that are made stream by stream.
use Rattle.std.specs.Prelude.{ℕ, List, ◌++◌}
use Rattle.lola_model.specs.declared.spec.Part.{Part}
use Rattle.lola_model.specs.declared.spec.Part.TheVariants as part
use Rattle.lola_model.specs.declared.spec.Stream.{Stream}
use Rattle.lola_model.specs.PacingFound.{AreOwn}
use Rattle.lola_model.specs.declared.finding.FoundPacing.{FoundPacing}
use Rattle.lola_model.specs.Pacings.{InStep, IsSpawnFound, IsEvalFound, IsCloseFound}

-- of one of a stream's clauses
abbrev pub IsPartFound : List Stream → List FoundPacing → List FoundPacing → Part → ℕ → Stream → FoundPacing → Type 0
IsPartFound streams owns evals part.Spawn n s finding = IsSpawnFound streams owns n s finding
IsPartFound streams owns evals part.Eval n s finding = IsEvalFound streams owns n s finding
IsPartFound streams owns evals part.Close n s finding = IsCloseFound streams owns evals n s finding

-- what was made for the first streams and is made for the others, from number n on, is made for all
abbrev pub Grows : (ℕ → Stream → FoundPacing → Type 0) → List Stream → ℕ → List Stream → List FoundPacing → Type 0
Grows R all n others made = (rest : List FoundPacing) → InStep R n others rest → InStep R 0 all (made ++ rest)

-- the same of what is a stream's own, with so many inputs before the others
abbrev pub GrowsOwn : List Stream → ℕ → List Stream → List FoundPacing → Type 0
GrowsOwn all inputs others made = (rest : List FoundPacing) → AreOwn inputs others rest → AreOwn 0 all (made ++ rest)
