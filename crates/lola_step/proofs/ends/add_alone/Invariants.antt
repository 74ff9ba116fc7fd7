use Rattle.std.proofs.Common.{◌≡◌, ◌+◌, ◌≤◌, ◌++◌, drop, vec_len}
use Rattle.std.specs.Vec.{vec_capacity}
use Rattle.lola_step.specs.Found.{step_values_with}
use Rattle.lola_step.proofs.ends.add_alone.Given as goal

-- the values so far, and those to come
abbrev pub invariant-loop-outcome : goal.invariant-loop-outcome
invariant-loop-outcome l = record {
  bare : l.bare.params ≡ l.initial.bare.params;
  items : l.step_values.items ++ step_values_with l.stream l.initial.bare.params (drop l.outcome-index l.results) ≡ l.initial.step_values.items ++ step_values_with l.stream l.initial.bare.params l.results;
  count : vec_len l.step_values ≤ vec_len l.initial.step_values + l.outcome-index;
  capacity : vec_capacity l.step_values ≡ vec_capacity l.initial.step_values;
}
