-- The end of a run: all its steps are taken, and the verdicts are judged.
use Rattle.std.specs.Prelude.{ℕ, ◌≡◌, ◌⊎◌, ◌+◌, List, [], ◌∷◌, Option, Some, None, length}
use Rattle.std.specs.Option.{option_map}
use Rattle.lola_model.specs.Runs.{final_lines, first_fault, whole_model}
use Rattle.lola_model.specs.declared.journal.Entry.{Entry}
use Rattle.lola_model.specs.declared.journal.Show.{Show}
use Rattle.lola_model.specs.declared.plan.Plan.{Plan}
use Rattle.lola_report.specs.Ends.{done_text}
use Rattle.lola_replay.specs.Comparing.{IsComparedBy}
use Rattle.lola_replay.specs.Ends.{IsMalformedLine, IsUnreadableLine, fault_line}
use Rattle.lola_replay.specs.LinesOf.{IsFirstLine, lines_of}
use Rattle.lola_replay.specs.Progressing.{the_run_fault}
use Rattle.lola_replay.specs.Tracked.{Tracks}
use Rattle.lola_replay.specs.Verdicts.{AreVerdicts, IsOtherAt}
use Rattle.lola_replay.specs.declared.compare.Compared.{Compared}
use Rattle.lola_replay.specs.declared.written.RunCounts.{RunCounts}
use Rattle.lola_replay.specs.declared.entries.ReplayedRun.{ReplayedRun}
use Rattle.lola_replay.specs.declared.finding.Finding.{Finding}
use Rattle.lola_replay.specs.declared.finding.Finding.TheVariants as finding
use Rattle.lola_replay.specs.declared.progress.Fault.{Fault}

module _ (plan : Plan) (start : Option ℕ) (show : Show) (text : List ℕ) (journal : List Entry) where
  -- all steps of a journal are taken, the last of which has this fault, if any
  pub record IsEnded (fault : Option Fault) (run : ReplayedRun) : Type 0 where
    pub tracks : Tracks start journal run.tracking
    pub fault_is : first_fault plan start journal ≡ option_map the_run_fault fault
    pub steps_are : run.progress.steps ≡ length (whole_model plan start journal)
    pub compared_by : IsComparedBy text (final_lines plan start journal show) run.progress.compared

  -- what the verdicts are found to be
  abbrev pub FindsVerdicts : Finding → Type 0
  FindsVerdicts (finding.TraceDiffers n) = ⊥
  FindsVerdicts (finding.VerdictsDiffer n) = IsFirstLine (IsOtherAt plan start show journal (lines_of text)) n
  FindsVerdicts (finding.Same entries lines) =
      AreVerdicts plan start show journal (lines_of text) × (entries ≡ length journal) × (lines ≡ length (final_lines plan start journal show))

-- the end lines of a run without a fault
abbrev pub IsGoodEnd : RunCounts → List ℕ → Type 0
IsGoodEnd c line = (line ≡ done_text c.accepted c.late c.steps c.lines) ⊎ (IsMalformedLine line ⊎ IsUnreadableLine line)

module _ (plan : Plan) (counts : RunCounts) where
  -- and of any
  abbrev pub IsEndBy : Option Fault → List ℕ → Type 0
  IsEndBy (Some f) line = line ≡ fault_line plan (the_run_fault f)
  IsEndBy None line = IsGoodEnd counts line

  -- the first of these lines, if there is one, is no end line
  abbrev pub HasNoEnd : Option Fault → List (List ℕ) → Type 0
  HasNoEnd fault [] = Unit {0}
  HasNoEnd fault (line ∷ lines) = ¬ (IsEndBy fault line)

  -- an end line is the only one of these
  pub record IsLast (fault : Option Fault) (lines : List (List ℕ)) : Type 0 where
    pub last : List ℕ
    pub end : IsEndBy fault last
    pub only : lines ≡ last ∷ []

  -- behind an end line stands another
  pub record HasMore (fault : Option Fault) (lines : List (List ℕ)) : Type 0 where
    pub last : List ℕ
    pub other : List ℕ
    pub more : List (List ℕ)
    pub end : IsEndBy fault last
    pub whole : lines ≡ last ∷ (other ∷ more)

  -- what is found of the lines that are left behind all verdict lines
  abbrev pub FindsEnd : Option Fault → ℕ → Compared → Finding → Type 0
  FindsEnd fault entries c (finding.TraceDiffers n) = ⊥
  FindsEnd fault entries c (finding.VerdictsDiffer n) =
      (HasNoEnd fault (lines_of c.rest.now) × (n ≡ c.lines + 1)) ⊎ (HasMore fault (lines_of c.rest.now) × (n ≡ c.lines + 2))
  FindsEnd fault entries c (finding.Same e l) = IsLast fault (lines_of c.rest.now) × (e ≡ entries) × (l ≡ c.lines)
