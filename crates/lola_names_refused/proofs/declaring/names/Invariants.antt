use Rattle.std.proofs.Common.{◌≡◌, drop, []}
use Rattle.lola_names_refused.specs.Noted.{noted}
use Rattle.lola_names_refused.specs.Known.{with_declarations}
use Rattle.lola_names_refused.specs.Refused.{all_repeats}
use Rattle.lola_names_refused.proofs.declaring.names.Given as goal

abbrev pub invariant-loop-declaration : goal.invariant-loop-declaration
invariant-loop-declaration l =
    (noted l.found (all_repeats l.names (drop l.declaration-index l.declarations)) ≡ noted l.fn.found (all_repeats [] l.declarations))
    × (with_declarations l.names (drop l.declaration-index l.declarations) ≡ with_declarations [] l.declarations)
