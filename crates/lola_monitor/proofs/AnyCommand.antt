-- Which commands neither go on from a state nor save one.
use Rattle.std.proofs.Common.{◌≡◌, ◌∙◌, ℕ, List, Option, None, Some, ap}
use Rattle.std.specs.Option.{option_map}
use Rattle.lola_monitor_command.specs.Command.{command_of}
use Rattle.lola_monitor_command.specs.declared.command.Command.TheVariants.{Run, Analyse, Drill, Replay}
use Rattle.lola_monitor_command.specs.declared.command.DrillCommand.{DrillCommand}
use Rattle.lola_monitor_command.specs.declared.command.ReplayCommand.{ReplayCommand}
use Rattle.lola_monitor_command.specs.declared.command.RunCommand.{RunCommand}
use Rattle.lola_monitor_command.specs.declared.said.NamePlace.{NamePlace}
use Rattle.lola_monitor.specs.Command.{IsWithoutState, resumption_by, resumption_with, snapshot_by}

module _ (words : List (List ℕ)) where
  pub run_without : (r : RunCommand) → command_of words ≡ Some (Run r) → r.state ≡ None → IsWithoutState words
  run_without r is anew = record {
    no_resumption = ap (resumption_by words) is ∙ ap (λ (o : Option NamePlace). option_map (resumption_with words r) o) anew;
    no_snapshot = ap (snapshot_by words) is;
  }

  pub analysis_without : (n : ℕ) → command_of words ≡ Some (Analyse n) → IsWithoutState words
  analysis_without n is = record { no_resumption = ap (resumption_by words) is; no_snapshot = ap (snapshot_by words) is }

  pub drill_without : (d : DrillCommand) → command_of words ≡ Some (Drill d) → IsWithoutState words
  drill_without d is = record { no_resumption = ap (resumption_by words) is; no_snapshot = ap (snapshot_by words) is }

  pub replay_without : (r : ReplayCommand) → command_of words ≡ Some (Replay r) → IsWithoutState words
  replay_without r is = record { no_resumption = ap (resumption_by words) is; no_snapshot = ap (snapshot_by words) is }

  pub none_without : command_of words ≡ None → IsWithoutState words
  none_without is = record { no_resumption = ap (resumption_by words) is; no_snapshot = ap (snapshot_by words) is }
