use Rattle.std.proofs.Common.{◌≡◌, drop}
use Rattle.std.specs.List.{list_all}
use Rattle.lola_model.specs.PacingFound.{findings_at, is_periodic}
use Rattle.lola_pacing.proofs.sorts.are_periodic.Given as goal

abbrev pub invariant-loop-stream : goal.invariant-loop-stream
invariant-loop-stream l = list_all is_periodic (findings_at l.findings l.streams) ≡ list_all is_periodic (findings_at l.findings (drop l.stream-index l.streams))
