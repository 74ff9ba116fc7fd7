use Rattle.std.proofs.Common.{◌≡◌, take}
use Rattle.lola_pacing_normal.proofs.least.listed.Given as goal

abbrev pub invariant-loop-set : goal.invariant-loop-set
invariant-loop-set l = l.form ≡ take l.set-index l.sets
