-- The tasks at the places so far.
use Rattle.std.proofs.Common.{◌≡◌, ◌+◌, ◌++◌, take, vec_len}
use Rattle.std.specs.Vec.{vec_capacity}
use Rattle.lola_step.specs.Notes.{tasks_at}
use Rattle.lola_step.proofs.evals.add_listed.Given as goal

abbrev pub invariant-loop-index : goal.invariant-loop-index
invariant-loop-index l = record {
  tasks : l.tasks.items ≡ l.initial.tasks.items ++ tasks_at l.stream (take l.index-index l.places);
  tasks_len : vec_len l.tasks ≡ vec_len l.initial.tasks + l.index-index;
  tasks_room : vec_capacity l.tasks ≡ vec_capacity l.initial.tasks;
}
