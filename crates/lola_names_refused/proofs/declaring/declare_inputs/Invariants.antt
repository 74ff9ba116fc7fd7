use Rattle.std.proofs.Common.{◌≡◌, drop, map}
use Rattle.lola_names_refused.specs.declared.names.Meaning.TheVariants as is
use Rattle.lola_names_refused.specs.Noted.{noted}
use Rattle.lola_names_refused.specs.Known.{with_names}
use Rattle.lola_names_refused.specs.Refused.{repeated}
use Rattle.lola_names_refused.proofs.Repeats.{named}
use Rattle.lola_names_refused.proofs.declaring.declare_inputs.Given as goal

abbrev pub invariant-loop-input : goal.invariant-loop-input
invariant-loop-input l =
    (noted l.found (repeated l.names (map (named is.Input) (drop l.input-index l.inputs))) ≡ noted l.fn.found (repeated l.fn.names (map (named is.Input) l.inputs)))
    × (with_names l.names (map (named is.Input) (drop l.input-index l.inputs)) ≡ with_names l.fn.names (map (named is.Input) l.inputs))
