use Rattle.lola_instances_one.proofs.Passing.{ToldUpTo}
use Rattle.lola_instances_one.proofs.instance.tell_each.Given as goal

abbrev pub invariant-loop-i : goal.invariant-loop-i
invariant-loop-i l = ToldUpTo l.offset l.value l.i l.initial.panes.items l.panes.items
