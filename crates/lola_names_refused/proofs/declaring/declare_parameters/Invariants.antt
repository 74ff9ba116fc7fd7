use Rattle.std.proofs.Common.{◌≡◌, drop, map}
use Rattle.lola_names_refused.specs.declared.names.Meaning.TheVariants as is
use Rattle.lola_names_refused.specs.Noted.{noted}
use Rattle.lola_names_refused.specs.Refused.{repeated_parameters}
use Rattle.lola_names_refused.proofs.Repeats.{named}
use Rattle.lola_names_refused.proofs.declaring.declare_parameters.Given as goal

abbrev pub invariant-loop-parameter : goal.invariant-loop-parameter
invariant-loop-parameter l =
    noted l.found (repeated_parameters l.names l.own (map (named is.Parameter) (drop l.parameter-index l.parameters)))
    ≡ noted l.fn.found (repeated_parameters l.names l.fn.own (map (named is.Parameter) l.parameters))
