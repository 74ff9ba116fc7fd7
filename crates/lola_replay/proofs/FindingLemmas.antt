-- What is found.
use Rattle.std.proofs.Common.{◌≡◌, ◌≢◌, ℕ, ◌+◌, ◌≤◌, List, IfOk, Result, Ok, Err, Some, Bool, true, false, length}
use Rattle.std.specs.Bool.{MatchBool}
use Rattle.lola_model.specs.declared.journal.Entry.{Entry}
use Rattle.lola_model.specs.declared.source.MalformedKind.{MalformedKind}
use Rattle.lola_report.specs.Ends.{malformed_text}
use Rattle.lola_value.specs.declared.text.Memory.{Memory}
use Rattle.lola_replay.specs.EndLines.{IsMalformedAt, malformed_front, number_in}
use Rattle.lola_replay.specs.Ending.{FindsVerdicts}
use Rattle.lola_replay.specs.Ends.{most_rows}
use Rattle.lola_replay.specs.Findings.{Finds, Told}
use Rattle.lola_replay.specs.LinesOf.{lines_of}
use Rattle.lola_replay.specs.Traces.{IsRight}
use Rattle.lola_replay.specs.declared.finding.Finding.{Finding}
use Rattle.lola_replay.specs.declared.finding.Finding.TheVariants as finding
use Rattle.lola_replay.proofs.WrittenLemmas.{not-malformed}

finds-verdicts : (t : Told) (journal : List Entry) → IsRight t.plan t.start (lines_of t.trace) journal → (f : Finding) → FindsVerdicts t.plan t.start t.show t.verdicts journal f → Finds t f
finds-verdicts t journal right (finding.TraceDiffers n) is = absurd is
finds-verdicts t journal right (finding.VerdictsDiffer n) is = record { journal = journal; right = right; first = is }
finds-verdicts t journal right (finding.Same e l) is = record { journal = journal; right = right; verdicts = is.0; entries_are = is.1; lines_are = is.2 }

pub finds-ok : (t : Told) (journal : List Entry) → IsRight t.plan t.start (lines_of t.trace) journal → (r : Result Finding Memory) → IfOk r (FindsVerdicts t.plan t.start t.show t.verdicts journal)
    → IfOk r (Finds t)
finds-ok t journal right (Ok f) is = finds-verdicts t journal right f is
finds-ok t journal right (Err e) is = tt

-- what a line says of a source, in the row that it tells
pub malformed-ok : (source row : ℕ) (line : List ℕ) → number_in line (length (malformed_front source)) ≡ Some row → row ≤ most_rows + 1 → (r : Result Bool Memory)
    → IfOk r (λ is. MatchBool is ((k : MalformedKind) × (line ≡ malformed_text source row k)) ((k : MalformedKind) → line ≢ malformed_text source row k))
    → IfOk r (λ is. MatchBool is (IsMalformedAt source line) (¬ (IsMalformedAt source line)))
malformed-ok source row line some low (Ok true) (k, is) = record { row = row; kind = k; in_range = low; written = is }
malformed-ok source row line some low (Ok false) off = not-malformed source row line some off
malformed-ok source row line some low (Err e) is = tt
