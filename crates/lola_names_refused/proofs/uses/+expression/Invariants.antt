use Rattle.std.proofs.Common.{◌≡◌, drop}
use Rattle.std.specs.List.{flat_map}
use Rattle.lola_names_refused.specs.Noted.{noted}
use Rattle.lola_names_refused.specs.Refused as refused
use Rattle.lola_names_refused.proofs.uses.+expression.Given as goal

abbrev pub invariant-argument_uses-loop-x : goal.invariant-argument_uses-loop-x
invariant-argument_uses-loop-x l = noted l.found (flat_map (refused.uses l.parameters l.names) (drop l.x-index l.xs)) ≡ noted l.initial.found (flat_map (refused.uses l.parameters l.names) l.xs)
