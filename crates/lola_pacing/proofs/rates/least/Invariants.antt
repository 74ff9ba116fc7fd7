use Rattle.std.proofs.Common.{take}
use Rattle.lola_model.specs.PacingFound.{findings_at, rates_of}
use Rattle.lola_pacing.specs.Rates.{IsLeastOf}
use Rattle.lola_pacing.proofs.rates.least.Given as goal

abbrev pub invariant-loop-stream : goal.invariant-loop-stream
invariant-loop-stream l = IsLeastOf (rates_of (findings_at l.findings (take l.stream-index l.streams))) l.least
