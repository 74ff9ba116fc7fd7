use Rattle.std.proofs.Common.{◌≡◌, ◌+◌, ◌++◌, drop}
use Rattle.lola_names.specs.Targets.{Targets, input_targets}
use Rattle.lola_names.specs.Tables.{Means}
use Rattle.lola_names.proofs.targets.put_inputs.Given as goal

abbrev pub invariant-loop-input : goal.invariant-loop-input
invariant-loop-input l = record {
  table :
      (rest : Targets) → Means (l.table ++ (input_targets l.stream l.number (drop l.input-index l.inputs) ++ rest)) ((l.initial.table ++ input_targets l.fn.counts.streams l.fn.counts.inputs l.inputs) ++ rest);
  streams : l.stream ≡ l.fn.counts.streams + l.input-index;
  numbers : l.number ≡ l.fn.counts.inputs + l.input-index;
}
