use Rattle.std.proofs.Common.{◌≡◌, ◌≤◌, drop, min}
use Rattle.lola_instances_one.specs.Moments.{least_due, after_latest}
use Rattle.lola_instances_one.specs.Queues.{births_of}
use Rattle.lola_instances_one.proofs.queue.least_from.Given as goal

abbrev pub invariant-loop-i : goal.invariant-loop-i
invariant-loop-i l = record {
  within : l.least ≤ after_latest;
  least : min l.least (least_due l.rates l.from (births_of (drop l.i l.queue.items))) ≡ least_due l.rates l.from (births_of l.queue.items);
}
