use Rattle.std.proofs.Common.{◌≡◌, take}
use Rattle.lola_pacing_normal.specs.Kept.{unions_of}
use Rattle.lola_pacing_normal.proofs.candidates.unions.Given as goal

abbrev pub invariant-loop-set : goal.invariant-loop-set
invariant-loop-set l = l.candidates.items ≡ unions_of (take l.set-index l.first) l.second
