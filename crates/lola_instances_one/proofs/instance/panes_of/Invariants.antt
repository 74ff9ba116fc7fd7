use Rattle.std.proofs.Common.{◌≡◌, ◌++◌, drop, map}
use Rattle.lola_instances_one.specs.Unborn.{empty_panes}
use Rattle.lola_instances_one.proofs.instance.panes_of.Given as goal

abbrev pub invariant-loop-w : goal.invariant-loop-w
invariant-loop-w l = l.made.items ++ map empty_panes (drop l.w-index l.windows) ≡ map empty_panes l.windows
