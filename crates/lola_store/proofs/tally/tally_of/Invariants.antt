use Rattle.std.proofs.Common.{◌≡◌, ◌≤◌, ◌*◌, ◌^◌, ◌-◌, ◌+ℤ◌, ◌≤ℤ◌, pos, drop}
use Rattle.lola_store.specs.Tallies.{tallied, inside, empty}
use Rattle.lola_store.proofs.tally.tally_of.Given as goal

-- what is left makes of the tally so far the whole one, and it is small so far
abbrev pub invariant-loop-x : goal.invariant-loop-x
invariant-loop-x l = record {
  far : tallied l.tally (inside l.over l.time (drop l.x-index l.values)) ≡ tallied empty (inside l.over l.time l.values);
  many : l.tally.many ≤ l.x-index;
  low : pos 0 ≤ℤ (l.tally.whole +ℤ pos (l.x-index * 2 ^ 63));
  high : l.tally.whole ≤ℤ pos (l.x-index * (2 ^ 64 - 1));
}
