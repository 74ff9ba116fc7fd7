use Rattle.std.proofs.Common.{drop}
use Rattle.lola_model.specs.PacingFound.{any_row, findings_at, forms_of, IsJoined}
use Rattle.lola_model.specs.declared.finding.FoundPacing.{FoundPacing}
use Rattle.lola_pacing.proofs.found.joined.Given as goal

abbrev pub invariant-loop-leaf : goal.invariant-loop-leaf
invariant-loop-leaf l =
    (finding : FoundPacing) → IsJoined l.at l.sets (forms_of (findings_at l.findings (drop l.leaf-index l.leaves))) finding
    → IsJoined l.at any_row (forms_of (findings_at l.findings l.leaves)) finding
