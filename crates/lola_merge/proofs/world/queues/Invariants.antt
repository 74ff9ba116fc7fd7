use Rattle.std.proofs.Common.{◌≡◌, ◌++◌, map}
use Rattle.lola_merge.proofs.world.queues.Given as goal

abbrev pub invariant-loop-list : goal.invariant-loop-list
invariant-loop-list l = record {
  goes : (goal.iterator-loop-list).can_next l.list-iterator × (goal.iterator-loop-list).is_finite l.list-iterator;
  split : l.yielded ++ l.list-iterator.rest.items ≡ l.initial.list-iterator.rest.items;
  made : map (λ q. q.items) l.queues.items ≡ map (λ v. v.items) l.yielded;
}
