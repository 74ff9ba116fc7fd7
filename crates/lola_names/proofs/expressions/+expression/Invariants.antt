use Rattle.lola_names.specs.Parted.{GrowsByAll}
use Rattle.std.proofs.Common.{drop}
use Rattle.lola_names.proofs.TreeLemmas.{SoFar}
use Rattle.lola_names.proofs.expressions.+expression.Given as goal

abbrev pub invariant-arguments-loop-x : goal.invariant-arguments-loop-x
invariant-arguments-loop-x l = record {
  resolved : SoFar l.scope l.made l.xs (drop l.x-index l.xs) l.items.items;
  grown : GrowsByAll l.initial.made l.made l.items.items;
}
