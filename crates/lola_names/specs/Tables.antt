-- Tables of names.
use Rattle.std.specs.Prelude.{ℕ, ◌≡◌, ◌++◌, List}
use Rattle.lola_names_refused.specs.Table.{meaning_in}
use Rattle.lola_names.specs.Targets.{Targets, Count}
use Rattle.lola_names.specs.declared.targets.Counts.{Counts}

-- one list of names means what another does
abbrev pub Means : Targets → Targets → Type 0
Means table targets = (text : List ℕ) → meaning_in table text ≡ meaning_in targets text

-- a table means what it meant with more names behind it, whatever stands behind both
abbrev pub PutsBehind : Targets → Targets → Targets → Type 0
PutsBehind old more new = (rest : Targets) → Means (new ++ rest) (old ++ (more ++ rest))

-- how many streams, inputs and declarations stand before
abbrev pub count_of : Counts → Count
count_of c = record { streams = c.streams; inputs = c.inputs; declarations = c.declarations }
