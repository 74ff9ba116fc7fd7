use Rattle.std.proofs.Common.{◌≡◌, ◌-◌, length}
use Rattle.lola_types.specs.LeftOut.{rounds, kinds_of}
use Rattle.lola_types.proofs.left_out.kinds.Given as goal

abbrev pub invariant-loop-turn : goal.invariant-loop-turn
invariant-loop-turn l = record {
  found : rounds (l._turn-end - l._turn) l.spec l.kinds.items ≡ kinds_of l.spec;
  count : length l.kinds.items ≡ length l.spec.streams;
}
