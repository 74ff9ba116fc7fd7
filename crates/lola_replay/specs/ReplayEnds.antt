-- The end lines of a replay.
use Rattle.std.specs.Prelude.{ℕ, List, ◌++◌, codes, decimal}
use Rattle.lola_replay.specs.declared.finding.Finding.{Finding}
use Rattle.lola_replay.specs.declared.finding.Finding.TheVariants as finding
use Rattle.lola_replay.specs.declared.end.ReplayEnd.{ReplayEnd}
use Rattle.lola_replay.specs.declared.end.ReplayEnd.TheVariants as end

-- words and a number
abbrev pub counted_text : List ℕ → ℕ → List ℕ
counted_text words n = words ++ decimal n

-- the same, and the end of a line
abbrev pub counted_line : List ℕ → ℕ → List ℕ
counted_line words n = counted_text words n ++ codes "\n"

-- the line for what was found: a trace and verdicts of one run, with how many entries and verdict lines they have; or the first line of
-- the trace that no run can have there; or the first of the verdicts that is not the run's
abbrev pub finding_text : Finding → List ℕ
finding_text (finding.Same entries lines) = counted_text (codes "= same entries ") entries ++ counted_line (codes " lines ") lines
finding_text (finding.TraceDiffers line) = counted_line (codes "= differs trace ") line
finding_text (finding.VerdictsDiffer line) = counted_line (codes "= differs verdicts ") line

-- the line for an end
abbrev pub replay_end_text : ReplayEnd → List ℕ
replay_end_text (end.Found found) = finding_text found
replay_end_text end.UnreadableTrace = codes "= unreadable trace\n"
replay_end_text end.UnreadableVerdicts = codes "= unreadable verdicts\n"
