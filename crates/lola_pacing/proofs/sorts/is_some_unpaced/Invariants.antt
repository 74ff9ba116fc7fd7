use Rattle.std.proofs.Common.{◌≡◌, drop}
use Rattle.std.specs.List.{list_any}
use Rattle.lola_model.specs.PacingFound.{findings_at, is_unpaced}
use Rattle.lola_pacing.proofs.sorts.is_some_unpaced.Given as goal

abbrev pub invariant-loop-stream : goal.invariant-loop-stream
invariant-loop-stream l = list_any is_unpaced (findings_at l.findings l.streams) ≡ list_any is_unpaced (findings_at l.findings (drop l.stream-index l.streams))
