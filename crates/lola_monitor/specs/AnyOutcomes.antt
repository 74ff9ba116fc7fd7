-- What any command leaves, before its last line.
use Rattle.std.specs.Prelude.{◌≡◌, ◌⊎◌, ℕ, List, Some}
use Rattle.lola_monitor.specs.Causes.{Causes}
use Rattle.lola_monitor.specs.Command.{IsWithoutState, Resumption, SnapshotNames, resumption_of, snapshot_of}
use Rattle.lola_monitor.specs.Monitor.{Outside}
use Rattle.lola_monitor.specs.Outcomes.{Works}
use Rattle.lola_monitor.specs.ResumedOutcomes.{WorksResumed}
use Rattle.lola_monitor.specs.SnapshotOutcomes.{WorksSnapshot}
use Rattle.lola_monitor.specs.Resumed.{inputs_of as inputs_of_resumed}
use Rattle.lola_monitor.specs.Snapshots.{inputs_of as inputs_of_snapshot}
use Rattle.lola_monitor.specs.declared.call_end.CallEnd.{CallEnd}

-- a run that goes on from a state
pub record HasResumed (outcome : CallEnd) (words : List (List ℕ)) (before after : Outside) : Type 0 where
  pub names : Resumption
  pub is_command : resumption_of words ≡ Some names
  pub works : WorksResumed outcome names before after
  pub cause : Causes outcome (inputs_of_resumed names) before after

-- a snapshot
pub record HasSnapped (outcome : CallEnd) (words : List (List ℕ)) (before after : Outside) : Type 0 where
  pub names : SnapshotNames
  pub is_command : snapshot_of words ≡ Some names
  pub works : WorksSnapshot outcome names before after
  pub cause : Causes outcome (inputs_of_snapshot names) before after

-- a command of a state, or any other
abbrev pub WorksAny : CallEnd → List (List ℕ) → Outside → Outside → Type 0
WorksAny outcome words before after = (IsWithoutState words × Works outcome words before after) ⊎ (HasResumed outcome words before after ⊎ HasSnapped outcome words before after)
