use Rattle.std.proofs.Common.{◌≡◌, ◌++◌, drop}
use Rattle.std.specs.List.{flat_map}
use Rattle.lola_names_refused.specs.Refused.{input_places}
use Rattle.lola_names_refused.proofs.refusing.inputs_at.Given as goal

abbrev pub invariant-loop-declaration : goal.invariant-loop-declaration
invariant-loop-declaration l =
    l.places ++ flat_map input_places (drop l.declaration-index l.declarations) ≡ flat_map input_places l.declarations
