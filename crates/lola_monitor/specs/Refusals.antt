-- Why a run that goes on from a state, or a snapshot, took no row: all but the last line, where a text that is asked for first was not read or is
-- refused.
use Rattle.std.specs.Prelude.{◌≡◌, ℕ, List, [], ◌∷◌, Option, Some}
use Rattle.lola_port.specs.Asks.{given_ask}
use Rattle.lola_port.specs.States.{Rose}
use Rattle.lola_value.specs.declared.front.Refusal.{Refusal}
use Rattle.lola_model.specs.declared.journal.Entry.{Entry}
use Rattle.lola_model.specs.declared.plan.Plan.{Plan}
use Rattle.lola_save.specs.declared.end.StateEnd.{StateEnd}
use Rattle.lola_monitor.specs.Monitor.{IsRefusedBy, Outside, Plans, asks_between, first_failed_ask}
use Rattle.lola_monitor.specs.Outcomes.{AreUntouched}
use Rattle.lola_monitor.specs.Pasts.{IsFrontIn, IsRefusedStateOf}

-- the specification is refused
pub record StoodRefused (r : Refusal) (name : List ℕ) (before after : Outside) : Type 0 where
  pub cause : IsRefusedBy (before.shelf.told name) r
  pub asks : asks_between before.shelf after.shelf ≡ given_ask name ∷ []
  pub count : after.shelf.count ≡ before.shelf.count
  pub early : AreUntouched before after

-- the text that is asked for at this place was not read
pub record StoodUnread (place : ℕ) (before after : Outside) : Type 0 where
  pub has_failed : first_failed_ask (asks_between before.shelf after.shelf) ≡ Some place
  pub rose : Rose before.shelf.count after.shelf.count
  pub early : AreUntouched before after

-- the state was read and is refused, and so is that of no journal
pub record StoodStateRefused (end : StateEnd) (specification state : List ℕ) (before after : Outside) : Type 0 where
  pub plan : Plan
  pub is_plan : Plans (before.shelf.told specification) plan
  pub cause : IsRefusedStateOf (before.shelf.told specification) plan (before.shelf.told state) end
  pub none : (start : Option ℕ) (front : List Entry) → IsFrontIn before.shelf specification state start front → ⊥
  pub asks : asks_between before.shelf after.shelf ≡ given_ask specification ∷ given_ask state ∷ []
  pub count : after.shelf.count ≡ before.shelf.count
  pub early : AreUntouched before after
