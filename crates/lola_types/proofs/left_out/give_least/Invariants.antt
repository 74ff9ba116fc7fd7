use Rattle.std.proofs.Common.{◌≡◌, ◌++◌, take, drop}
use Rattle.lola_types.specs.LeftOut.{with_least}
use Rattle.lola_types.proofs.left_out.give_least.Given as goal

abbrev pub invariant-loop-number : goal.invariant-loop-number
invariant-loop-number l = record {
  same : l.kinds.items ≡ l.initial.kinds.items;
  passed : with_least l.kinds.items ≡ take l.number l.kinds.items ++ with_least (drop l.number l.kinds.items);
}
