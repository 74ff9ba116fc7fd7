-- What reading a trace and verdicts leaves.
use Rattle.std.specs.Prelude.{◌≡◌, ℕ, List, [], ◌∷◌}
use Rattle.lola_port.specs.States.{ShelfState}
use Rattle.lola_model.specs.declared.plan.Plan.{Plan}
use Rattle.lola_replay.specs.Findings.{Finds, Told}
use Rattle.lola_replay.specs.declared.end.ReplayEnd.TheVariants.{Found, UnreadableTrace, UnreadableVerdicts}
use Rattle.lola_replay.specs.declared.finding.Finding.{Finding}
use Rattle.lola_monitor.specs.Command.{ReplayNames}
use Rattle.lola_monitor.specs.Outcomes.{Grew, Marred, noted}
use Rattle.lola_monitor.specs.Replaying.{IsText, told_by}
use Rattle.lola_monitor.specs.declared.call_end.CallEnd.{CallEnd}
use Rattle.lola_monitor.specs.declared.call_end.CallEnd.TheVariants.{Line, Drilled, Report, Replayed, Stated, CutFault, Put, Memory}

-- both were read whole, one after the other, and this was found of them
pub record FoundTexts (finding : Finding) (plan : Plan) (names : ReplayNames) (before after : ShelfState) : Type 0 where
  pub trace : List ℕ
  pub is_trace : IsText (before.told names.trace) trace
  pub verdicts : List ℕ
  pub are_verdicts : IsText (before.told names.verdicts) verdicts
  pub shelf : after ≡ noted (noted before names.trace) names.verdicts
  pub finds : Finds (told_by names plan trace verdicts) finding

-- how a replay of texts that were read ends: with what they are found to be, or for want of memory
abbrev pub Judges : CallEnd → Told → Type 0
Judges (Line line) told = ⊥
Judges (Drilled line) told = ⊥
Judges (Report text) told = ⊥
Judges (Replayed (Found finding)) told = Finds told finding
Judges (Replayed UnreadableTrace) told = ⊥
Judges (Replayed UnreadableVerdicts) told = ⊥
Judges (Stated end) told = ⊥
Judges CutFault told = ⊥
Judges Put told = ⊥
Judges Memory told = Unit {0}

-- a replay of a plan, by how it ends
abbrev pub ReplaysTexts : CallEnd → Plan → ReplayNames → ShelfState → ShelfState → Type 0
ReplaysTexts (Line line) plan names before after = ⊥
ReplaysTexts (Drilled line) plan names before after = ⊥
ReplaysTexts (Report text) plan names before after = ⊥
ReplaysTexts (Replayed (Found finding)) plan names before after = FoundTexts finding plan names before after
ReplaysTexts (Replayed UnreadableTrace) plan names before after = Marred names.trace before after
ReplaysTexts (Replayed UnreadableVerdicts) plan names before after = Marred names.verdicts (noted before names.trace) after
ReplaysTexts (Stated end) plan names before after = ⊥
ReplaysTexts CutFault plan names before after = ⊥
ReplaysTexts Put plan names before after = ⊥
ReplaysTexts Memory plan names before after = Grew (names.trace ∷ names.verdicts ∷ []) before after
