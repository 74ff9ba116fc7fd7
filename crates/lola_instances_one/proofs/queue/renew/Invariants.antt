use Rattle.std.proofs.Common.{◌≤◌}
use Rattle.std.specs.List.Sorted.{IsPermutation}
use Rattle.std.specs.VecDeque.{deque_capacity}
use Rattle.lola_instances_one.specs.Queues.{births_of, IsQueue}
use Rattle.lola_instances_one.proofs.queue.renew.Given as goal

abbrev pub invariant-loop-turn : goal.invariant-loop-turn
invariant-loop-turn l = record {
  queue : IsQueue l.rates l.moment l.queue.items;
  births : IsPermutation (births_of l.initial.queue.items) (births_of l.queue.items);
  capacity : deque_capacity l.initial.queue ≤ deque_capacity l.queue;
}
