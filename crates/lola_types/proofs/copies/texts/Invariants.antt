use Rattle.std.proofs.Common.{◌≡◌, ◌++◌, drop}
use Rattle.lola_types.proofs.copies.texts.Given as goal

abbrev pub invariant-loop-item : goal.invariant-loop-item
invariant-loop-item l = l.copy ++ drop l.item-index l.texts ≡ l.texts
