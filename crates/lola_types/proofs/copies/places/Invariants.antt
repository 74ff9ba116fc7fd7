use Rattle.std.proofs.Common.{◌≡◌, ◌++◌, drop}
use Rattle.lola_types.proofs.copies.places.Given as goal

abbrev pub invariant-loop-at : goal.invariant-loop-at
invariant-loop-at l = l.copy ++ drop l.at-index l.places ≡ l.places
