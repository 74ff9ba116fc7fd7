-- How far the lines of a trace are taken.
use Rattle.std.specs.Prelude.{ℕ, ◌≡◌, ◌<◌, ◌≤◌, ◌+◌, ◌^◌, List, [], ◌∷◌, ◌++◌, Option, Some, None, Bool, true, false, length, map}
use Rattle.lola_model.specs.Journal.{accepted}
use Rattle.lola_model.specs.Trace.{trace_line}
use Rattle.lola_model.specs.declared.journal.Entry.{Entry}
use Rattle.lola_model.specs.declared.journal.Show.{Show}
use Rattle.lola_model.specs.declared.plan.Plan.{Plan}
use Rattle.lola_report.specs.Journals.{IsLineOf}
use Rattle.lola_replay.specs.LinesOf.{IsFirstLine, lines_of}
use Rattle.lola_replay.specs.Progressing.{IsFit, IsSettled}
use Rattle.lola_replay.specs.Traces.{AreRightFrom, IsRight, IsRightEntry, IsWrongAt, IsWrongLine}
use Rattle.lola_replay.specs.Tracked.{IsTallied, Tracks}
use Rattle.lola_replay.specs.declared.entries.ReplayedRun.{ReplayedRun}

-- time may count from here
abbrev pub IsStart : Option ℕ → ℕ → Type 0
IsStart None t = Unit {0}
IsStart (Some u) t = u ≡ t

-- whatever was told: entries and rows are counted, and no step is late
pub record IsFitRun (plan : Plan) (run : ReplayedRun) : Type 0 where
  pub tallied : IsTallied run.tracking
  pub room : run.progress.compared.lines + length run.progress.compared.rest.now < 2 ^ 63
  pub fit : run.fault ≡ None → IsFit plan run.progress
  pub rows_are : run.fault ≡ None → run.progress.rows ≡ run.tracking.rows
  pub merged_late : run.fault ≡ None → run.progress.from ≤ run.tracking.merged
  pub limit_late : run.fault ≡ None → run.progress.from ≤ run.tracking.limit

module _ (plan : Plan) (start : Option ℕ) (show : Show) (text : List ℕ) where
  -- the lines that tell a journal are taken
  pub record IsOn (journal : List Entry) (run : ReplayedRun) : Type 0 where
    pub tracks : Tracks start journal run.tracking
    pub settled : (t : ℕ) → IsStart run.tracking.begin t → IsSettled plan show text t (accepted journal) run.fault run.progress

  -- and one more
  pub record IsGoingOn (journal : List Entry) (line : List ℕ) (run : ReplayedRun) : Type 0 where
    pub entry : Entry
    pub line_of : IsLineOf plan line entry
    pub right : IsRightEntry plan start journal entry
    pub on : IsOn (journal ++ entry ∷ []) run

  -- or it is wrong
  abbrev pub IsLineTaken : List Entry → List ℕ → ReplayedRun → Bool → Type 0
  IsLineTaken journal line run true = IsGoingOn journal line run
  IsLineTaken journal line run false = IsWrongLine plan start journal line

  -- some lines of a trace are taken, and these are left
  pub record IsTaking (trace rest : List ℕ) (run : ReplayedRun) : Type 0 where
    pub journal : List Entry
    pub written : lines_of trace ≡ map trace_line journal ++ lines_of rest
    pub right : AreRightFrom plan start [] journal
    pub on : IsOn journal run

  -- all are
  pub record IsWhole (trace : List ℕ) (run : ReplayedRun) : Type 0 where
    pub journal : List Entry
    pub right : IsRight plan start (lines_of trace) journal
    pub on : IsOn journal run

  -- or the first that is wrong is told
  abbrev pub IsTraceTaken : List ℕ → Option ℕ → ReplayedRun → Type 0
  IsTraceTaken trace None run = IsWhole trace run
  IsTraceTaken trace (Some n) run = IsFirstLine (IsWrongAt plan start (lines_of trace)) n

-- the entry of a line that is right, or the line is wrong
abbrev pub IsJudged : Plan → Option ℕ → List Entry → List ℕ → Option Entry → Type 0
IsJudged plan start journal line (Some e) = IsLineOf plan line e × IsRightEntry plan start journal e
IsJudged plan start journal line None = IsWrongLine plan start journal line
