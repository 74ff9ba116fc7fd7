use Rattle.std.proofs.Common.{◌++◌, drop}
use Rattle.lola_names.specs.Targets.{Targets, targets_from, targets_of}
use Rattle.lola_names.specs.Tables.{Means, count_of}
use Rattle.lola_names.proofs.targets.targets.Given as goal

abbrev pub invariant-loop-declaration : goal.invariant-loop-declaration
invariant-loop-declaration l = (rest : Targets) → Means (l.table ++ (targets_from (count_of l.counts) (drop l.declaration-index l.declarations) ++ rest)) (targets_of l.declarations ++ rest)
