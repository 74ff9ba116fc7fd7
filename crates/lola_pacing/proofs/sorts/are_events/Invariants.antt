use Rattle.std.proofs.Common.{◌≡◌, drop}
use Rattle.std.specs.List.{list_all}
use Rattle.lola_model.specs.PacingFound.{findings_at, is_event}
use Rattle.lola_pacing.proofs.sorts.are_events.Given as goal

abbrev pub invariant-loop-stream : goal.invariant-loop-stream
invariant-loop-stream l = list_all is_event (findings_at l.findings l.streams) ≡ list_all is_event (findings_at l.findings (drop l.stream-index l.streams))
