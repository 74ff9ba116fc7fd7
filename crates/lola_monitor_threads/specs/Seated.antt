-- A source's worker with its seat at an intake, and what its calls so far come to.
use Rattle.std.specs.Prelude.{◌≡◌, ◌≤◌, ℕ, Bool, false, List, [], ◌∷◌, Option, None, Some, All, length, map, slice_get}
use Rattle.std.specs.List.{AllZip}
use Rattle.lola_value.specs.Times.{latest}
use Rattle.lola_model.specs.Trace.{IsFieldOf}
use Rattle.lola_model.specs.declared.journal.Row.{Row}
use Rattle.lola_rows.specs.Reading.{Keeps, Shape}
use Rattle.lola_feed.specs.Feeding.{Working, to_come}
use Rattle.lola_feed.specs.declared.worker.SourceEnd.{SourceEnd}
use Rattle.lola_feed.specs.declared.worker.SourceEnd.TheVariants.{End, Malformed, ReadFailed, Closed, Memory}
use Rattle.lola_feed.specs.SharedIntakes.{IntakeId, IsSameSeat, SeatShown, SeatedAt}
use Rattle.lola_monitor_run.specs.Feeds.{BeganWith, HasEnded, Supply, supply_of}

-- a worker and its seat
pub record Seated : Type 0 where
  pub working : Working
  pub seat : SeatShown

abbrev pub seated : Working → SeatShown → Seated
seated working seat = record { working = working; seat = seat }

-- a row of a source of this shape: a time, and a field of its kind or an absent one for each input
pub record IsRowIn (shape : Shape) (row : Row) : Type 0 where
  pub source : row.source ≡ shape.index
  pub stamp : row.stamp ≤ latest
  pub fields : AllZip IsFieldOf (map (λ i. i.kind) shape.inputs) row.fields

-- how a source stands by its worker's end, once these rows were let in. Of one that met a closed intake, or that had no memory for
-- a row, nothing more is known
abbrev pub HasStopped : Option SourceEnd → Supply → Supply → List Row → Type 0
HasStopped None old new rows = HasEnded None old new rows
HasStopped (Some End) old new rows = HasEnded (Some End) old new rows
HasStopped (Some (Malformed kind row)) old new rows = HasEnded (Some (Malformed kind row)) old new rows
HasStopped (Some ReadFailed) old new rows = HasEnded (Some ReadFailed) old new rows
HasStopped (Some Closed) old new rows = Unit {0}
HasStopped (Some Memory) old new rows = Unit {0}

-- a source whose worker goes on, or met a closed intake, has not told its end
abbrev pub IsUntold : Option SourceEnd → Bool → Type 0
IsUntold None told = told ≡ false
IsUntold (Some End) told = Unit {0}
IsUntold (Some (Malformed kind row)) told = Unit {0}
IsUntold (Some ReadFailed) told = Unit {0}
IsUntold (Some Closed) told = told ≡ false
IsUntold (Some Memory) told = Unit {0}

-- a worker at the desk of its source
pub record IsSeated (w : Working) (d : SeatedAt) : Type 0 where
  pub source : w.reader.shape.index ≡ d.seat.source
  pub untold : IsUntold w.end d.told

-- a worker and the seat of its source, which has not finished
abbrev pub IsNewPair : Working → SeatShown → Type 0
IsNewPair w p = (w.reader.shape.index ≡ p.source) × (p.finished ≡ false)

-- what the calls of a seated worker come to, whose worker began like this
pub record HasOffered (from : Working) (now : Seated) : Type 0 where
  pub few : length now.seat.rows ≤ from.reader.shape.most
  pub began : BeganWith (to_come from) now.seat.rows
  pub rows : All (IsRowIn from.reader.shape) now.seat.rows
  pub end : HasStopped now.working.end (supply_of from) (supply_of now.working) now.seat.rows
  pub untold : IsUntold now.working.end now.seat.finished
  pub shape : now.working.reader.shape ≡ from.reader.shape

-- a seated worker went on: it has the same source and the same seat, and whatever worker it began as, what its calls come to stands again
pub record WentOn (old new : Seated) : Type 0 where
  pub seat : IsSameSeat old.seat new.seat
  pub kept : Keeps old.working.reader new.working.reader
  pub offers : (from : Working) → HasOffered from old → HasOffered from new

-- these seated workers have their seats at an intake
abbrev pub AreAt : IntakeId → List Seated → Type 0
AreAt id workers = All (λ (p : Seated). p.seat.intake ≡ id) workers

-- each worker with the seat at its place
abbrev pub all_seated : List Working → List SeatShown → List Seated
all_seated [] seats = []
all_seated (w ∷ workers) [] = []
all_seated (w ∷ workers) (p ∷ seats) = seated w p ∷ all_seated workers seats

-- one of these workers has ended for want of memory
pub record SomeOutOfMemory (workers : List Working) : Type 0 where
  pub at : ℕ
  pub worker : Working
  pub is : slice_get workers at ≡ Some worker
  pub end : worker.end ≡ Some Memory
