-- The order in which words say what they say of a run, a replay and a snapshot.
use Rattle.std.specs.Prelude.{◌≡◌, ◌≤◌, ◌↔◌, ◌⊎◌, List, ◌∷◌, ◌++◌, Some, None, Bool, true, false, length, map}
use Rattle.std.specs.List.{list_all}
use Rattle.lola_monitor_command.specs.Command.{come_once, suit_replay, suit_snapshot, show_said, workers_said, start_said, in_turns_said, intake_said, state_said, run_of, replay_of, snapshot_of}
use Rattle.lola_monitor_command.specs.declared.said.Said.{Said}
use Rattle.lola_monitor_command.specs.declared.said.Said.TheVariants as said
use Rattle.lola_monitor_command.specs.declared.command.Command.TheVariants as command
use Rattle.lola_monitor_command.specs.declared.command.ReplayCommand.{ReplayCommand}
use Rattle.lola_monitor_command.specs.declared.command.RunCommand.{RunCommand}
use Rattle.lola_monitor_command.specs.declared.command.SnapshotCommand.{SnapshotCommand}

-- an option, and no name
abbrev pub is_setting : Said → Bool
is_setting (said.Name at) = false
is_setting (said.Show s) = true
is_setting (said.Workers n) = true
is_setting (said.Start t) = true
is_setting said.InTurns = true
is_setting (said.Intake kind) = true
is_setting (said.Resume place) = true

-- options, the specification, options, from 1 to 64 sources with nothing between them, options; each option comes at most once, and
-- not both a start and a state
pub record IsRunOf (ss : List Said) (r : RunCommand) : Type 0 where
  pub before : List Said
  pub between : List Said
  pub behind : List Said
  pub order : ss ≡ before ++ (said.Name r.specification ∷ (between ++ (map said.Name r.sources ++ behind)))
  pub options_before : list_all is_setting before ≡ true
  pub options_between : list_all is_setting between ≡ true
  pub options_behind : list_all is_setting behind ≡ true
  pub some : 1 ≤ length r.sources
  pub few : length r.sources ≤ 64
  pub once : come_once ss ≡ true
  pub one_beginning : (r.start ≡ None) ⊎ (r.state ≡ None)
  pub show : r.show ≡ show_said ss
  pub workers : r.workers ≡ workers_said ss
  pub start : r.start ≡ start_said ss
  pub in_turns : r.in_turns ≡ in_turns_said ss
  pub intake : r.intake ≡ intake_said ss
  pub state : r.state ≡ state_said ss

-- what is said is a run exactly where it stands in that order
abbrev pub RunsAreInOrder : Type 0
RunsAreInOrder = (ss : List Said) (r : RunCommand) → (run_of ss ≡ Some (command.Run r)) ↔ IsRunOf ss r

-- options, the specification, the trace and the verdicts with nothing between them, options; none of the options is one that a replay
-- does not have, and each comes at most once
pub record IsReplayOf (ss : List Said) (r : ReplayCommand) : Type 0 where
  pub before : List Said
  pub behind : List Said
  pub order : ss ≡ before ++ (said.Name r.specification ∷ (said.Name r.trace ∷ (said.Name r.verdicts ∷ behind)))
  pub options_before : list_all is_setting before ≡ true
  pub options_behind : list_all is_setting behind ≡ true
  pub suited : suit_replay ss ≡ true
  pub once : come_once ss ≡ true
  pub show : r.show ≡ show_said ss
  pub start : r.start ≡ start_said ss

-- what is said is a replay exactly where it stands in that order
abbrev pub ReplaysAreInOrder : Type 0
ReplaysAreInOrder = (ss : List Said) (r : ReplayCommand) → (replay_of ss ≡ Some (command.Replay r)) ↔ IsReplayOf ss r

-- options, the specification, options, from 1 to 64 sources with nothing between them, options; none of the options is one that a
-- snapshot does not have, each comes at most once, and not both a start and a state
pub record IsSnapshotOf (ss : List Said) (r : SnapshotCommand) : Type 0 where
  pub before : List Said
  pub between : List Said
  pub behind : List Said
  pub order : ss ≡ before ++ (said.Name r.specification ∷ (between ++ (map said.Name r.sources ++ behind)))
  pub options_before : list_all is_setting before ≡ true
  pub options_between : list_all is_setting between ≡ true
  pub options_behind : list_all is_setting behind ≡ true
  pub some : 1 ≤ length r.sources
  pub few : length r.sources ≤ 64
  pub suited : suit_snapshot ss ≡ true
  pub once : come_once ss ≡ true
  pub one_beginning : (r.start ≡ None) ⊎ (r.state ≡ None)
  pub start : r.start ≡ start_said ss
  pub state : r.state ≡ state_said ss

-- what is said is a snapshot exactly where it stands in that order
abbrev pub SnapshotsAreInOrder : Type 0
SnapshotsAreInOrder = (ss : List Said) (r : SnapshotCommand) → (snapshot_of ss ≡ Some (command.Snapshot r)) ↔ IsSnapshotOf ss r
