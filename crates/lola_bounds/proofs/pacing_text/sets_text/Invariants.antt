use Rattle.std.proofs.Common.{◌≡◌, ◌++◌, drop, codes, map}
use Rattle.lola_bounds.specs.Report.{joined, set_text, sets_text}
use Rattle.lola_bounds.proofs.pacing_text.sets_text.Given as goal

abbrev pub invariant-loop-set : goal.invariant-loop-set
invariant-loop-set l = l.to ++ joined (codes " || ") l.first (map (set_text l.streams) (drop l.set-index l.sets)) ≡ l.initial.to ++ sets_text l.streams l.sets
