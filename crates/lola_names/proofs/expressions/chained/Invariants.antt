use Rattle.std.proofs.Common.{◌≡◌, ◌++◌, vec_len}
use Rattle.lola_names.specs.Parted.{items_of}
use Rattle.lola_names.proofs.expressions.chained.Given as goal

abbrev pub invariant-loop-item : goal.invariant-loop-item
invariant-loop-item l = l.items.items ++ items_of l.rest ≡ l.initial.items.items

abbrev pub decreases-loop-item : goal.decreases-loop-item
decreases-loop-item l = vec_len l.items
