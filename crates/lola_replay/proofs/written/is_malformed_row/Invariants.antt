-- None of the kinds so far.
use Rattle.std.proofs.Common.{◌≡◌, ◌<◌, ℕ}
use Rattle.lola_report.specs.Ends.{malformed_text}
use Rattle.lola_replay.specs.EndLines.{kind_at}
use Rattle.lola_replay.proofs.written.is_malformed_row.Given as goal

abbrev pub invariant-loop-number : goal.invariant-loop-number
invariant-loop-number l = (j : ℕ) → j < l.number → l.line ≡ malformed_text l.source l.row (kind_at j) → ⊥
