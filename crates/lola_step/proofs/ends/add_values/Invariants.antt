use Rattle.std.proofs.Common.{◌≡◌, ◌+◌, ◌≤◌, ◌++◌, drop, vec_len}
use Rattle.std.specs.Vec.{vec_capacity}
use Rattle.lola_step.specs.Found.{FitLayout, step_values_among}
use Rattle.lola_step.proofs.ends.add_values.Given as goal

-- the values so far, and those to come
abbrev pub invariant-loop-i : goal.invariant-loop-i
invariant-loop-i g l =
    let s = g.S.StreamStore.seen l.store in
    record {
      items : l.step_values.items ++ step_values_among s l.stream (drop l.i l.tasks) (drop l.i l.results)
          ≡ l.initial.step_values.items ++ step_values_among s l.stream l.tasks l.results;
      fit : FitLayout s.layout l.initial.step_values.items → FitLayout s.layout l.step_values.items;
      count : vec_len l.step_values ≤ vec_len l.initial.step_values + l.i;
      capacity : vec_capacity l.step_values ≡ vec_capacity l.initial.step_values;
    }
