use Rattle.std.proofs.Common.{◌≤◌, length}
use Rattle.lola_instances_one.specs.Bits.{Extends}
use Rattle.lola_instances_one.proofs.bits.BitVector.grow.Given as goal

abbrev pub invariant-loop-turn : goal.invariant-loop-turn
invariant-loop-turn l = record {
  bits : Extends l.initial.self l.self;
  length : l._turn ≤ length l.self;
}
