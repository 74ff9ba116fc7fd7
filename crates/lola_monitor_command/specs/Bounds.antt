-- The bounds of what is said of a command.
use Rattle.std.specs.Prelude.{◌≤◌, IfSome, length, ⊤}
use Rattle.lola_value.specs.Times.{latest}
use Rattle.lola_monitor_command.specs.declared.command.Command.{Command}
use Rattle.lola_monitor_command.specs.declared.command.Command.TheVariants as command
use Rattle.lola_monitor_command.specs.declared.command.DrillCommand.{DrillCommand}
use Rattle.lola_monitor_command.specs.declared.command.ReplayCommand.{ReplayCommand}
use Rattle.lola_monitor_command.specs.declared.command.RunCommand.{RunCommand}
use Rattle.lola_monitor_command.specs.declared.command.SnapshotCommand.{SnapshotCommand}

-- a run: its workers, where time begins, if that is said, and its sources
pub record IsRunInBounds (r : RunCommand) : Type 0 where
  pub workers : (1 ≤ r.workers) × (r.workers ≤ 64)
  pub start : IfSome r.start (λ t. t ≤ latest)
  pub sources : (1 ≤ length r.sources) × (length r.sources ≤ 64)

pub record IsSnapshotInBounds (s : SnapshotCommand) : Type 0 where
  pub start : IfSome s.start (λ t. t ≤ latest)
  pub sources : (1 ≤ length s.sources) × (length s.sources ≤ 64)

pub record IsReplayInBounds (r : ReplayCommand) : Type 0 where
  pub start : IfSome r.start (λ t. t ≤ latest)

pub record IsDrillInBounds (d : DrillCommand) : Type 0 where
  pub number : d.number ≤ 2147483646
  pub rows : (1 ≤ d.rows) × (d.rows ≤ 1000000)
  pub workers : (1 ≤ d.workers) × (d.workers ≤ 64)

-- what is said of a command is in its bounds; an analysis has none
abbrev pub IsInBounds : Command → Type 0
IsInBounds (command.Run r) = IsRunInBounds r
IsInBounds (command.Analyse specification) = ⊤
IsInBounds (command.Drill d) = IsDrillInBounds d
IsInBounds (command.Replay r) = IsReplayInBounds r
IsInBounds (command.Snapshot s) = IsSnapshotInBounds s
