-- None of the sources so far.
use Rattle.std.proofs.Common.{◌<◌, ℕ}
use Rattle.lola_replay.specs.EndLines.{IsMalformedAt}
use Rattle.lola_replay.proofs.written.is_malformed.Given as goal

abbrev pub invariant-loop-source : goal.invariant-loop-source
invariant-loop-source l = (s : ℕ) → s < l.source → IsMalformedAt s l.line → ⊥
