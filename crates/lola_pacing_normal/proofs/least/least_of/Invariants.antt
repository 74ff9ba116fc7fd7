use Rattle.std.proofs.Common.{take}
use Rattle.lola_pacing_normal.specs.Kept.{AreKept}
use Rattle.lola_pacing_normal.proofs.least.least_of.Given as goal

abbrev pub invariant-loop-candidate : goal.invariant-loop-candidate
invariant-loop-candidate l = AreKept (take l.candidate-index l.candidates) l.kept.items
