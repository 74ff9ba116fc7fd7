use Rattle.std.proofs.Common.{◌++◌, drop}
use Rattle.lola_names.specs.Targets.{Targets, parameter_targets}
use Rattle.lola_names.specs.Tables.{Means}
use Rattle.lola_names.proofs.targets.parameters.Given as goal

abbrev pub invariant-loop-parameter : goal.invariant-loop-parameter
invariant-loop-parameter l = (rest : Targets) → Means (l.table ++ (parameter_targets l.number (drop l.parameter-index l.parameters) ++ rest)) (parameter_targets 0 l.parameters ++ rest)
