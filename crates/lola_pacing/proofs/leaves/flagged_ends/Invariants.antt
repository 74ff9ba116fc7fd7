use Rattle.lola_pacing.specs.Flags.{AreEndsBelow}
use Rattle.lola_pacing.proofs.leaves.flagged_ends.Given as goal

abbrev pub invariant-loop-stream : goal.invariant-loop-stream
invariant-loop-stream l = AreEndsBelow l.streams l.flags l.stream l.leaves
