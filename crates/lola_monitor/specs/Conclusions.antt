-- What the last line of a call leaves, and its status.
use Rattle.std.specs.Prelude.{◌≡◌, ◌⊎◌, ℕ}
use Rattle.lola_port.specs.States.{PutBroke, SinkState, grown}
use Rattle.lola_report.specs.Ends.{end_text}
use Rattle.lola_report.specs.declared.end.EndLine.{EndLine}
use Rattle.lola_report.specs.declared.end.EndLine.TheVariants.{Done, Usage, Refused, Malformed, Fault, UnreadableSpecification, UnreadableSource, Analysed}
use Rattle.lola_replay.specs.ReplayEnds.{replay_end_text}
use Rattle.lola_replay.specs.declared.end.ReplayEnd.{ReplayEnd}
use Rattle.lola_replay.specs.declared.end.ReplayEnd.TheVariants.{Found, UnreadableTrace, UnreadableVerdicts}
use Rattle.lola_replay.specs.declared.finding.Finding.{Finding}
use Rattle.lola_replay.specs.declared.finding.Finding.TheVariants.{Same, TraceDiffers, VerdictsDiffer}
use Rattle.lola_save.specs.StateEnds.{state_end_text}
use Rattle.lola_save.specs.declared.end.StateEnd.{StateEnd}
use Rattle.lola_save.specs.declared.end.StateEnd.TheVariants as state_end
use Rattle.lola_monitor.specs.declared.call_end.CallEnd.{CallEnd}
use Rattle.lola_monitor.specs.declared.call_end.CallEnd.TheVariants.{Line, Drilled, Report, Replayed, Stated, CutFault, Put, Memory}

-- the status that goes with a last line
abbrev pub status_with : EndLine → ℕ
status_with (Done a l s v) = 0
status_with Usage = 2
status_with (Refused r) = 3
status_with (Malformed n row kind) = 4
status_with (Fault stream kind time) = 5
status_with UnreadableSpecification = 6
status_with (UnreadableSource n) = 6
status_with (Analysed s w) = 0

-- what a failed put of the last line makes of a status
abbrev pub status_without : EndLine → ℕ
status_without (Done a l s v) = 7
status_without Usage = 2
status_without (Refused r) = 3
status_without (Malformed n row kind) = 7
status_without (Fault stream kind time) = 5
status_without UnreadableSpecification = 6
status_without (UnreadableSource n) = 6
status_without (Analysed s w) = 7

-- the status that goes with what was found of a trace and verdicts
abbrev pub status_found : Finding → ℕ
status_found (Same entries lines) = 0
status_found (TraceDiffers line) = 1
status_found (VerdictsDiffer line) = 1

abbrev pub status_replayed : ReplayEnd → ℕ
status_replayed (Found finding) = status_found finding
status_replayed UnreadableTrace = 6
status_replayed UnreadableVerdicts = 6

-- what a failed put of the last line makes of it
abbrev pub status_found_without : Finding → ℕ
status_found_without (Same entries lines) = 7
status_found_without (TraceDiffers line) = 1
status_found_without (VerdictsDiffer line) = 1

abbrev pub status_replayed_without : ReplayEnd → ℕ
status_replayed_without (Found finding) = status_found_without finding
status_replayed_without UnreadableTrace = 6
status_replayed_without UnreadableVerdicts = 6

-- the status that goes with the last line of a state, whether or not it was put whole
abbrev pub status_stated : StateEnd → ℕ
status_stated state_end.Unreadable = 6
status_stated (state_end.Damaged line) = 9
status_stated state_end.OtherSpecification = 9
status_stated state_end.TooManySteps = 9

-- the last line or the report was put, or a part of it, or there was no memory
abbrev pub Concluded : ℕ → CallEnd → SinkState → SinkState → Type 0
Concluded status (Line line) old new =
    ((status ≡ status_with line) × (new ≡ grown old (end_text line))) ⊎ (((status ≡ status_without line) × PutBroke old new (end_text line)) ⊎ ((status ≡ 8) × (new ≡ old)))
Concluded status (Drilled line) old new =
    ((status ≡ status_with line) × (new ≡ grown old (end_text line))) ⊎ (((status ≡ status_without line) × PutBroke old new (end_text line)) ⊎ ((status ≡ 8) × (new ≡ old)))
Concluded status (Report text) old new = ((status ≡ 0) × (new ≡ grown old text)) ⊎ (((status ≡ 7) × PutBroke old new text) ⊎ ((status ≡ 8) × (new ≡ old)))
Concluded status (Replayed end) old new =
    ((status ≡ status_replayed end) × (new ≡ grown old (replay_end_text end))) ⊎ (((status ≡ status_replayed_without end) × PutBroke old new (replay_end_text end)) ⊎ ((status ≡ 8) × (new ≡ old)))
Concluded status (Stated end) old new =
    ((status ≡ status_stated end) × (new ≡ grown old (state_end_text end))) ⊎ (((status ≡ status_stated end) × PutBroke old new (state_end_text end)) ⊎ ((status ≡ 8) × (new ≡ old)))
Concluded status CutFault old new = (status ≡ 5) × (new ≡ old)
Concluded status Put old new = (status ≡ 7) × (new ≡ old)
Concluded status Memory old new = (status ≡ 8) × (new ≡ old)
