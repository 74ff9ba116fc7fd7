-- What the start of a saved state serves for.
use Rattle.std.specs.Prelude.{ℕ, ◌≡◌, ◌↔◌, ◌++◌, List, Option}
use Rattle.lola_model.specs.Journal.{accepted, IsLegal, known_start}
use Rattle.lola_model.specs.Runs.{settled_model, whole_model}
use Rattle.lola_model.specs.declared.journal.Entry.{Entry}
use Rattle.lola_model.specs.declared.plan.Plan.{Plan}
use Rattle.lola_save_text.specs.JournalStates.{state_of}

-- with this start option a longer journal is legal exactly where it is with the start of its first part, and comes to the same
pub record IsStartedBy (plan : Plan) (start : Option ℕ) (before since : List Entry) : Type 0 where
  pub legal : IsLegal start (before ++ since) ↔ IsLegal (known_start start (accepted before)) (before ++ since)
  pub settled : settled_model plan (known_start start (accepted before)) (before ++ since) ≡ settled_model plan start (before ++ since)
  pub whole : whole_model plan (known_start start (accepted before)) (before ++ since) ≡ whole_model plan start (before ++ since)
  pub state : state_of plan (known_start start (accepted before)) (before ++ since) ≡ state_of plan start (before ++ since)

-- so it is for each legal journal and whatever comes behind it
abbrev pub ServesAsStart : Plan → Type 0
ServesAsStart plan = (start : Option ℕ) (before since : List Entry) → IsLegal start before → IsStartedBy plan start before since
