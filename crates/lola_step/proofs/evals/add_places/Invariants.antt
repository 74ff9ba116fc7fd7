-- The places so far.
use Rattle.std.proofs.Common.{◌≡◌, ◌+◌, ◌++◌, replicate, vec_len}
use Rattle.std.specs.Vec.{vec_capacity}
use Rattle.lola_value.specs.declared.value.Outcome.TheVariants as outcome
use Rattle.lola_step.proofs.evals.add_places.Given as goal

abbrev pub invariant-loop-made : goal.invariant-loop-made
invariant-loop-made l = record {
  items : l.results.items ≡ l.initial.results.items ++ replicate l._made outcome.Missing;
  count : vec_len l.results ≡ vec_len l.initial.results + l._made;
  capacity : vec_capacity l.results ≡ vec_capacity l.initial.results;
}
