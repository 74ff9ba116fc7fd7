use Rattle.std.proofs.Common.{◌≡◌, drop, [], map}
use Rattle.lola_names_refused.specs.declared.names.Meaning.TheVariants as is
use Rattle.lola_names_refused.specs.Known.{with_names}
use Rattle.lola_names_refused.proofs.Repeats.{named}
use Rattle.lola_names_refused.proofs.declaring.parameters.Given as goal

abbrev pub invariant-loop-parameter : goal.invariant-loop-parameter
invariant-loop-parameter l =
    with_names l.own (map (named is.Parameter) (drop l.parameter-index l.parameters)) ≡ with_names [] (map (named is.Parameter) l.parameters)
