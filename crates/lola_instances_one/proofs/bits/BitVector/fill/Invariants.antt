use Rattle.std.proofs.Common.{◌≡◌, ℕ, ◌<◌, false, length, get_or, nat_lt}
use Rattle.lola_instances_one.proofs.bits.BitVector.fill.Given as goal

abbrev pub invariant-loop-i : goal.invariant-loop-i
invariant-loop-i l = record {
  length : length l.self ≡ length l.initial.self;
  bits : (k : ℕ) → k < l.i → get_or l.self k false ≡ nat_lt k l.front;
}
