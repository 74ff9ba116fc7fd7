-- Steps that an engine runs one after the other, whatever steps it ran before.
use Rattle.std.specs.Prelude.{ℕ, ◌≡◌, ◌+◌, ◌-◌, ◌^◌, ◌≤◌, List, ◌++◌, Option, Some, None, Result, Ok, Err, length, max}
use Rattle.lola_value.specs.Naming.{Naming}
use Rattle.lola_model.specs.Faults.{RunFault, fault_of_last}
use Rattle.lola_model.specs.Model.{Next, last_row, model}
use Rattle.lola_model.specs.NextStep.{rows_taken}
use Rattle.lola_model.specs.Runs.{content_after}
use Rattle.lola_model.specs.Standing.{StandsBetween}
use Rattle.lola_model.specs.Store.{Memories, Seen, layout_of, new_seen, time_seen}
use Rattle.lola_model.specs.Table.{Step, TableRow}
use Rattle.lola_model.specs.Texts.{table_lines, text_of}
use Rattle.lola_model.specs.declared.journal.Row.{Row}
use Rattle.lola_model.specs.declared.journal.Show.{Show}
use Rattle.lola_model.specs.declared.plan.Plan.{Plan}
use Rattle.lola_step.specs.Progress.{IsRun}
use Rattle.lola_text.specs.Texts.{Texts}
use Rattle.lola_engine.specs.Engines.{IsSound}
use Rattle.lola_engine.specs.Rules.{Come, opened_at}
use Rattle.lola_engine.specs.declared.engine.EngineState.{EngineState}
use Rattle.lola_engine.specs.declared.end.EngineEnd.{EngineEnd}
use Rattle.lola_engine.specs.declared.end.EngineEnd.TheVariants.{Fault, Memory}

-- what steps are run with, and how many steps and lines are counted so far
pub record Tally : Type 0 where
  pub plan : Plan
  pub show : Show
  pub names : Naming
  pub steps : ℕ
  pub lines : ℕ

abbrev pub tally_of : EngineState → Tally
tally_of e = record { plan = e.plan; show = e.show; names = e.texts.held; steps = e.steps; lines = e.lines }

-- the lines of the model over these steps
abbrev pub lines_after : Tally → ℕ → List Step → List (List ℕ)
lines_after t start steps = table_lines t.show t.plan.spec.streams (model t.plan start steps)

-- these steps were run from a start, without a fault: the store stands for what is behind them
pub record HasRun (t : Tally) (start : ℕ) (steps : List Step) (remembers : Memories) (s : Seen) : Type 0 where
  pub fine : fault_of_last (last_row (model t.plan start steps)) ≡ None
  pub run : IsRun t.plan t.names (model t.plan start steps)
  pub stands : StandsBetween t.names remembers s (content_after t.plan start (model t.plan start steps))

-- the lines that more steps bring behind those of these steps
abbrev pub Add : Tally → ℕ → List Step → List Step → List (List ℕ) → Type 0
Add t start steps more lines = lines_after t start (steps ++ more) ≡ lines_after t start steps ++ lines

-- more steps were run: their lines are appended, and both are counted on
pub record RunsOn (start : ℕ) (steps more : List Step) (old new : Tally) (remembers : Memories) (s : Seen) (text0 text1 : List ℕ) : Type 0 where
  pub has : HasRun new start (steps ++ more) remembers s
  pub lines : List (List ℕ)
  pub add : Add old start steps more lines
  pub text : text1 ≡ text0 ++ text_of lines
  pub steps_more : new.steps + length (model old.plan start steps) ≡ old.steps + length (model old.plan start (steps ++ more))
  pub lines_more : new.lines ≡ old.lines + length lines

-- one of them has a fault: the lines of those before it are appended
pub record FaultInSteps (fault : RunFault) (start : ℕ) (steps more : List Step) (old : Tally) (text0 text1 : List ℕ) : Type 0 where
  pub is_fault : fault_of_last (last_row (model old.plan start (steps ++ more))) ≡ Some fault
  pub lines : List (List ℕ)
  pub add : Add old start steps more lines
  pub text : text1 ≡ text0 ++ text_of lines

-- want of memory: a front of their lines may be appended
pub record CutsOn (start : ℕ) (steps more : List Step) (old : Tally) (text0 text1 : List ℕ) : Type 0 where
  pub lines : List (List ℕ)
  pub add : Add old start steps more lines
  pub part : List ℕ
  pub rest : List ℕ
  pub joined : text_of lines ≡ part ++ rest
  pub text : text1 ≡ text0 ++ part

-- what the end of a run comes to
abbrev pub EndsOn : EngineEnd → ℕ → List Step → List Step → Tally → List ℕ → List ℕ → Type 0
EndsOn (Fault stream kind time) start steps more old text0 text1 = FaultInSteps (record { stream = stream; kind = kind; time = time }) start steps more old text0 text1
EndsOn Memory start steps more old text0 text1 = CutsOn start steps more old text0 text1

-- what running more steps comes to by the answer, whatever steps were run before, and whatever later ones were still to come
abbrev pub Goes : Result (Unit {0}) EngineEnd → ℕ → List Step → Tally → Memories → Seen → Tally → Memories → Seen → List ℕ → List ℕ → Type 0
Goes (Ok done) start more old remembers s new remembers' s' text0 text1 =
    (steps : List Step) → HasRun old start steps remembers s → RunsOn start steps more old new remembers' s' text0 text1
Goes (Err end) start more old remembers s new remembers' s' text0 text1 =
    (steps later : List Step) → HasRun old start steps remembers s → EndsOn end start steps (more ++ later) old text0 text1

-- all steps that come by a rule were run
pub record RunsBy (start : ℕ) (next : Next) (steps : List Step) (old new : Tally) (remembers : Memories) (s : Seen) (text0 text1 : List ℕ) : Type 0 where
  pub more : List Step
  pub come : Come old.plan start next steps more
  pub over : next (model old.plan start (steps ++ more)) ≡ None
  pub runs : RunsOn start steps more old new remembers s text0 text1

-- the last of those that came ended the run
pub record EndsBy (end : EngineEnd) (start : ℕ) (next : Next) (steps : List Step) (old : Tally) (text0 text1 : List ℕ) : Type 0 where
  pub more : List Step
  pub come : Come old.plan start next steps more
  pub ends : (later : List Step) → EndsOn end start steps (more ++ later) old text0 text1

-- what running the steps that come by a rule comes to by the answer, whatever steps were run before over whose model this holds
abbrev pub GoesBy : Result (Unit {0}) EngineEnd → ℕ → (List TableRow → Type 0) → Next → Tally → Memories → Seen → Tally → Memories → Seen → List ℕ → List ℕ → Type 0
GoesBy (Ok done) start Holds next old remembers s new remembers' s' text0 text1 =
    (steps : List Step) → HasRun old start steps remembers s → Holds (model old.plan start steps) → RunsBy start next steps old new remembers' s' text0 text1
GoesBy (Err end) start Holds next old remembers s new remembers' s' text0 text1 =
    (steps : List Step) → HasRun old start steps remembers s → Holds (model old.plan start steps) → EndsBy end start next steps old text0 text1

-- behind this table deadlines are open from a moment on
abbrev pub IsOpenAt : ℕ → ℕ → List TableRow → Type 0
IsOpenAt start from table = from ≡ opened_at start (last_row table)

-- and it has taken these rows
abbrev pub IsOpenBehind : ℕ → ℕ → List Row → List TableRow → Type 0
IsOpenBehind start from rows table = IsOpenAt start from table × (rows_taken table ≡ length rows)

-- what stays while steps are run
pub record HasKept (old new : EngineState) : Type 0 where
  pub plan : new.plan ≡ old.plan
  pub given_start : new.given_start ≡ old.given_start
  pub show : new.show ≡ old.show
  pub texts : new.texts ≡ old.texts
  pub ids : new.ids ≡ old.ids
  pub swept : new.swept ≡ old.swept
  pub behind : new.behind ≡ old.behind
  pub rows : new.rows ≡ old.rows
  pub merged : new.merged ≡ old.merged
  pub ended : new.ended ≡ old.ended

-- and while a row is taken
pub record HasStayed (old new : EngineState) : Type 0 where
  pub plan : new.plan ≡ old.plan
  pub given_start : new.given_start ≡ old.given_start
  pub show : new.show ≡ old.show
  pub behind : new.behind ≡ old.behind
  pub ended : new.ended ≡ old.ended

-- a state that may run the steps below a moment, where deadlines are open from another on: the last step is not behind that, all deadlines
-- of the clock before it are passed, and numbers stay in their ranges
pub record IsBelow (e : EngineState) (s : Seen) (start from limit : ℕ) : Type 0 where
  pub sound : IsSound e s
  pub start_is : e.clock.start ≡ Some start
  pub low : start ≤ from
  pub time : time_seen s ≤ from
  pub passed : e.clock.passed ≡ max start (from - 1)
  pub below : from ≤ limit
  pub few_behind : e.behind ≤ 2 ^ 62
  pub few_rows : e.rows ≤ 2 ^ 47
  pub few_steps : s.steps ≤ e.behind + e.rows + from

-- the deadlines below a moment were run
pub record HasPassed (e : EngineState) (s : Seen) (start limit : ℕ) : Type 0 where
  pub from : ℕ
  pub below : IsBelow e s start from limit

-- and the row at that moment
pub record HasTaken (old new : EngineState) (s : Seen) (start limit : ℕ) : Type 0 where
  pub sound : IsSound new s
  pub start_is : new.clock.start ≡ Some start
  pub passed : new.clock.passed ≡ max start (limit - 1)
  pub time : time_seen s ≡ limit
  pub few_steps : s.steps ≤ old.behind + old.rows + limit + 1

-- the state of an engine that is new, over a table of texts
pub record IsMade (plan : Plan) (texts : Texts) (given_start : Option ℕ) (show : Show) (workers : ℕ) (e : EngineState) : Type 0 where
  pub sound : IsSound e (new_seen (layout_of plan))
  pub plan_is : e.plan ≡ plan
  pub given_start_is : e.given_start ≡ given_start
  pub show_is : e.show ≡ show
  pub clock : (e.clock.start ≡ None) × (e.clock.passed ≡ 0)
  pub texts_are : e.texts ≡ texts
  pub swept_is : e.swept ≡ length e.texts.held
  pub few_swept : e.swept ≤ e.texts.given
  pub nothing : (e.rows ≡ 0) × (e.merged ≡ 0) × (e.steps ≡ 0) × (e.lines ≡ 0) × (e.ended ≡ None) × (e.behind ≡ 0)
