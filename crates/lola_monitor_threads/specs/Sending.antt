-- What the threads of sources are started with, and what they leave once they were joined.
use Rattle.std.specs.Prelude.{◌≡◌, ◌≤◌, ℕ, true, List, [], Result, OnOk, length}
use Rattle.std.specs.List.{AllZip}
use Rattle.lola_model.specs.Journal.{IsLegal}
use Rattle.lola_feed.specs.SharedIntakes.{IntakeId}
use Rattle.lola_monitor_run.specs.Verdicts.{AreOfSources}
use Rattle.lola_monitor_threads.specs.Seated.{AreAt, Seated, WentOn}
use Rattle.lola_monitor_threads.specs.Takings.{Halts, HasRun, HasRunTaken, IsReady, IsSameTaker, Place, Taking}
use Rattle.lola_monitor_threads.specs.Joining.{HaveFlags}
use Rattle.lola_monitor_threads.specs.declared.halt.Halt.{Halt}

-- Workers wait for their threads: they have their seats at the intake, one of so many flags each, and room here and among those that
-- came back, where none is. A taker is ready to take, and what it took before was run.
pub record MaySend (id : IntakeId) (flags : ℕ) (waiting here back : List Seated) (room_here room_back : ℕ) (taker : Taking) (now : Place) : Type 0 where
  pub ready : IsReady taker id now.kept
  pub waiting_at : AreAt id waiting
  pub none_here : here ≡ []
  pub none_back : back ≡ []
  pub have_flags : HaveFlags flags waiting
  pub fit_here : length waiting ≤ room_here
  pub fit_back : length waiting ≤ room_back
  pub run : HasRunTaken taker now

-- All have come back, each of which went on. What was taken was run, until all was done or the run was halted.
pub record HasSent (halted : Result (Unit {0}) Halt) (waiting came : List Seated) (old new : Taking) (before after : Place) : Type 0 where
  pub halts : (first : Place) → HasRun first old.seat.taken before → AreOfSources old.inputs.count old.seat.taken → Halts halted old.inputs.count first new.seat.taken after
  pub done : OnOk halted (new.seat.done ≡ true)
  pub marked : IsLegal old.seat.start new.seat.taken
  pub seat : IsSameTaker old.seat new.seat
  pub plan : after.kept.state.plan ≡ before.kept.state.plan
  pub back : AllZip WentOn waiting came
