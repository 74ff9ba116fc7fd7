use Rattle.std.proofs.Common.{◌≡◌, ◌+◌, map, take}
use Rattle.lola_bounds.proofs.kept.one_more.Given as goal

abbrev pub invariant-loop-offset : goal.invariant-loop-offset
invariant-loop-offset l = l.numbers ≡ map (λ k. 1 + k) (take l.offset-index l.greatest)
