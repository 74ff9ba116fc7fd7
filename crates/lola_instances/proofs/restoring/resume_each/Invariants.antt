use Rattle.std.proofs.Common.{◌≡◌}
use Rattle.lola_instances.proofs.Resuming.{up_to}
use Rattle.lola_instances.proofs.restoring.resume_each.Given as goal

abbrev pub invariant-loop-i : goal.invariant-loop-i
invariant-loop-i l = l.streams.items ≡ up_to l.step l.i l.initial.streams.items
