-- Sources that hand in their rows in some order, and an engine that is given what was taken.
use Rattle.std.specs.Prelude.{ℕ, ◌≡◌, List, ◌++◌, All, Option, Result}
use Rattle.lola_model.specs.Journal.{IsLegal, rows_of}
use Rattle.lola_model.specs.Store.{Memories, Seen}
use Rattle.lola_model.specs.declared.journal.Entry.{Entry}
use Rattle.lola_model.specs.declared.journal.Row.{Row}
use Rattle.lola_model.specs.declared.plan.Plan.{Plan}
use Rattle.lola_merge.specs.Interleaving.{Interleaves, Situation, list_of}
use Rattle.lola_engine.specs.declared.engine.EngineState.{EngineState}
use Rattle.lola_engine.specs.declared.end.EngineEnd.{EngineEnd}
use Rattle.lola_monitor_run.specs.Handing.{Hands, IsRowFor}

-- a world in which rows that an engine of a plan takes came in some order
pub record HasRowsFor (plan : Plan) (start : Option ℕ) (w : Situation) : Type 0 where
  pub lists : List (List Row)
  pub fit : (source : ℕ) → All (IsRowFor plan) (list_of lists source)
  pub interleaves : Interleaves lists start w

-- the rows of each source in a journal are the first of its list, in their order
abbrev pub AreFirst : List (List Row) → List Entry → Type 0
AreFirst lists journal = (source : ℕ) → (later : List Row) × (list_of lists source ≡ rows_of source journal ++ later)

-- what was taken in some order is a legal journal of first rows of these lists, and the engine has run it as it runs any journal
pub record RunsOrder (result : Result (Unit {0}) EngineEnd) (lists : List (List Row)) (taken : List Entry) (old new : EngineState) (s : Seen) (remembers : Memories) (text0 text1 : List ℕ) : Type 0 where
  pub legal : IsLegal old.given_start taken
  pub first : AreFirst lists taken
  pub hands : Hands result taken old new s remembers text0 text1
