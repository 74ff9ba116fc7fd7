use Rattle.std.proofs.Common.{◌≡◌, drop}
use Rattle.std.specs.List.{list_all}
use Rattle.lola_model.specs.PacingFound.{findings_at, is_multiple as is_multiple_of, rates_of}
use Rattle.lola_pacing.proofs.rates.are_multiples.Given as goal

abbrev pub invariant-loop-stream : goal.invariant-loop-stream
invariant-loop-stream l = list_all (is_multiple_of l.rate) (rates_of (findings_at l.findings l.streams)) ≡ list_all (is_multiple_of l.rate) (rates_of (findings_at l.findings (drop l.stream-index l.streams)))
