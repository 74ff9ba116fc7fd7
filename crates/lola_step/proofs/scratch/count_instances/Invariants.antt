use Rattle.std.proofs.Common.{◌≡◌, ◌+◌, drop}
use Rattle.lola_step.specs.Scratches.{instances_to_come, of_streams}
use Rattle.lola_step.proofs.scratch.count_instances.Given as goal

abbrev pub invariant-loop-n : goal.invariant-loop-n
invariant-loop-n g l = l.count + of_streams (drop l.n (g.S.StreamStore.seen l.store).streams) ≡ instances_to_come (g.S.StreamStore.seen l.store)
