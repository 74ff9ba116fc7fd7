-- How many steps a state has where a run behind it may come to more than a state can have.
use Rattle.std.specs.Prelude.{◌≡◌, ◌<◌, ◌+◌, ◌^◌, ℕ, List, Option, Some}
use Rattle.lola_value.specs.Times.{latest}
use Rattle.lola_port.specs.States.{ShelfState}
use Rattle.lola_model.specs.declared.plan.Plan.{Plan}
use Rattle.lola_engine.specs.Resuming.{times_of}
use Rattle.lola_save_text.specs.Damage.{IsStateText}
use Rattle.lola_save_text.specs.Fitting.{most_steps}
use Rattle.lola_monitor_run.specs.Running.{Keeping}
use Rattle.lola_monitor.specs.Replaying.{IsText}

-- how many steps a run has come to by its engine's own count, those behind the state that it goes on from included
abbrev pub counted : Keeping → ℕ
counted kept = (times_of kept.state).steps

-- so many steps that one run may come to more than a state can have: each of its own has a row, of which there are 2^47 at most, or a
-- moment of its own
abbrev pub IsNearMost : ℕ → Type 0
IsNearMost steps = most_steps < steps + (2 ^ 47 + latest)

-- a state is named, and the text of that name is one of a state with so many steps
pub record IsLongState (state : Option (List ℕ)) (shelf : ShelfState) : Type 0 where
  pub name : List ℕ
  pub is_named : state ≡ Some name
  pub specification : List ℕ
  pub plan : Plan
  pub bytes : List ℕ
  pub is_text : IsText (shelf.told name) bytes
  pub is_state : IsStateText specification plan bytes
  pub near : IsNearMost is_state.state.steps
