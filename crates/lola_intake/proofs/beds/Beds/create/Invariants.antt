use Rattle.std.proofs.Common.{◌≡◌, ◌≤◌, vec_len, vec_capacity}
use Rattle.lola_intake.proofs.beds.Beds.create.Given as goal

abbrev pub invariant-loop-made : goal.invariant-loop-made
invariant-loop-made l = record {
  count : vec_len l.beds ≡ l._made;
  room : 64 ≤ vec_capacity l.beds;
}
