-- None of the sources so far.
use Rattle.std.proofs.Common.{◌≡◌, ◌<◌, ℕ}
use Rattle.lola_report.specs.Ends.{unreadable_text}
use Rattle.lola_replay.proofs.written.is_unreadable.Given as goal

abbrev pub invariant-loop-source : goal.invariant-loop-source
invariant-loop-source l = (s : ℕ) → s < l.source → l.line ≡ unreadable_text s → ⊥
