-- The tasks so far have their outcomes behind those that stood there.
use Rattle.std.proofs.Common.{◌≡◌, ◌+◌, take, vec_len}
use Rattle.std.specs.Vec.{vec_capacity}
use Rattle.lola_step.specs.Given.{AreAnswered}
use Rattle.lola_step.proofs.evals.answer_in_turn.Given as goal

abbrev pub invariant-loop-i : goal.invariant-loop-i
invariant-loop-i g l = record {
  answered : AreAnswered l.plan l.moment (g.S.StreamStore.remembers l.store) (g.S.StreamStore.seen l.store) (take l.i l.tasks) l.initial.results.items l.results.items;
  count : vec_len l.results ≡ vec_len l.initial.results + l.i;
  capacity : vec_capacity l.results ≡ vec_capacity l.initial.results;
}
