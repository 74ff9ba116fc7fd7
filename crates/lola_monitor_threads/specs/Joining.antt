-- What a run comes to, once the threads of its sources were joined.
use Rattle.std.specs.Prelude.{◌≡◌, ◌<◌, ◌≤◌, ℕ, List, Option, None, Some, Result, Ok, Err, length, slice_get, All}
use Rattle.lola_model.specs.Journal.{IsLegalFrom, rows_of}
use Rattle.lola_model.specs.declared.journal.Row.{Row}
use Rattle.lola_model.specs.declared.journal.Entry.{Entry}
use Rattle.lola_feed.specs.declared.worker.SourceEnd.{SourceEnd}
use Rattle.lola_feed.specs.declared.worker.SourceEnd.TheVariants.{End, Malformed, ReadFailed, Closed, Memory}
use Rattle.lola_monitor_run.specs.Verdicts.{AreOfSources, most_rows}
use Rattle.lola_monitor_run.specs.declared.stop.Stop.{Stop}
use Rattle.lola_monitor_run.specs.Feeds.{BeganWith, HasEnded, HaveBegun, Supply, World}
use Rattle.lola_monitor_threads.specs.Seated.{Seated}
use Rattle.lola_monitor_threads.specs.Takings.{HasRun, Place, StopsAt, place}
use Rattle.lola_monitor_threads.specs.declared.halt.Halt.{Halt}
use Rattle.lola_monitor_threads.specs.declared.halt.Halt.TheVariants as halt

-- each seated worker is of a source that has one of so many flags
abbrev pub HaveFlags : ℕ → List Seated → Type 0
HaveFlags flags workers = All (λ (p : Seated). p.seat.source < flags) workers

-- where a world stands, whatever its sources do
abbrev pub place_in : World → Place
place_in w = place w.kept w.out w.trace

-- how a source ended all of whose rows were taken: for want of memory, or as one ends that is read in turns
abbrev pub IsOver : Option SourceEnd → Supply → Supply → List Row → Type 0
IsOver None old new rows = ⊥
IsOver (Some End) old new rows = HasEnded (Some End) old new rows
IsOver (Some (Malformed kind row)) old new rows = HasEnded (Some (Malformed kind row)) old new rows
IsOver (Some ReadFailed) old new rows = HasEnded (Some ReadFailed) old new rows
IsOver (Some Closed) old new rows = ⊥
IsOver (Some Memory) old new rows = Unit {0}

-- all rows of a source were taken
pub record HasCome (old new : Supply) (rows : List Row) : Type 0 where
  pub few : length rows ≤ most_rows
  pub began : BeganWith old.rest rows
  pub over : IsOver new.end old new rows

-- all rows of all sources stand in a journal, and were run
pub record AllCame (first last : World) : Type 0 where
  pub journal : List Entry
  pub legal : IsLegalFrom first.kept.state.merged journal
  pub sources : AreOfSources (length first.sources) journal
  pub run : HasRun (place_in first) journal (place_in last)
  pub many : length last.sources ≡ length first.sources
  pub each : (s : ℕ) (old new : Supply) → slice_get first.sources s ≡ Some old → slice_get last.sources s ≡ Some new → HasCome old new (rows_of s journal)

-- the first rows of the sources stand in a journal, at which the run was stopped
pub record SomeCame (how : Stop) (first last : World) : Type 0 where
  pub journal : List Entry
  pub legal : IsLegalFrom first.kept.state.merged journal
  pub sources : AreOfSources (length first.sources) journal
  pub begun : HaveBegun first.sources journal
  pub stops : StopsAt how (place_in first) journal (place_in last)

-- how all rows of a run came that were taken out of an intake
abbrev pub Joins : Result (Unit {0}) Halt → World → World → Type 0
Joins (Ok done) first last = AllCame first last
Joins (Err (halt.Stopped how)) first last = SomeCame how first last
Joins (Err halt.Unfit) first last = ⊥
