use Rattle.std.proofs.Common.{◌≡◌, drop}
use Rattle.std.specs.List.{flat_map}
use Rattle.lola_names_refused.specs.Noted.{noted}
use Rattle.lola_names_refused.specs.Refused as refused
use Rattle.lola_names_refused.proofs.uses.all_uses.Given as goal

abbrev pub invariant-loop-declaration : goal.invariant-loop-declaration
invariant-loop-declaration l = noted l.found (flat_map (refused.declaration_uses l.names) (drop l.declaration-index l.declarations)) ≡ noted l.fn.found (flat_map (refused.declaration_uses l.names) l.declarations)
