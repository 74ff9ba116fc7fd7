-- What the words of a command name.
use Rattle.std.proofs.Common.{◌≡◌, ◌∙◌, ℕ, List, [], ◌∷◌, ◌++◌, Option, None, Some, map, ap}
use Rattle.std.specs.Option.{option_map}
use Rattle.lola_monitor_command.specs.Command.{command_of, state_of}
use Rattle.lola_monitor_command.specs.Said.{name_at}
use Rattle.lola_monitor_command.specs.declared.command.Command.TheVariants.{Run, Analyse, Drill, Replay, Snapshot}
use Rattle.lola_monitor_command.specs.declared.command.DrillCommand.{DrillCommand}
use Rattle.lola_monitor_command.specs.declared.command.ReplayCommand.{ReplayCommand}
use Rattle.lola_monitor_command.specs.declared.command.RunCommand.{RunCommand}
use Rattle.lola_monitor_command.specs.declared.command.SnapshotCommand.{SnapshotCommand}
use Rattle.lola_monitor_command.specs.declared.said.NamePlace.{NamePlace}
use Rattle.lola_value.specs.Words.{word_at}
use Rattle.lola_monitor.specs.Command.{all_names, analysed_named, analysed_of, drill_named, drill_of, if_anew, names_asked, names_with, replay_named, replay_names, replay_of, replay_with, resumption_by, resumption_of, resumption_with, run_by, run_of, snapshot_by, snapshot_of, snapshot_with, specification_named, specification_of, texts_named}

module _ (words : List (List ℕ)) (r : RunCommand) (is : command_of words ≡ Some (Run r)) where
  module _ (anew : r.state ≡ None) where
    pub specification_is : specification_of words ≡ Some (word_at words r.specification)
    specification_is = ap (specification_named words) is ∙ ap (λ (o : Option NamePlace). if_anew o (word_at words r.specification)) anew

    pub names_are : names_asked words ≡ word_at words r.specification ∷ map (word_at words) r.sources
    names_are = ap (all_names words) is ∙ ap (λ (o : Option NamePlace). texts_named words r.specification o ++ map (word_at words) r.sources) anew

    pub run_is : run_of words ≡ Some (names_with words r)
    run_is = ap (run_by words) is ∙ ap (λ (o : Option NamePlace). if_anew o (names_with words r)) anew

  module _ (place : NamePlace) (stated : r.state ≡ Some place) where
    pub resumption_is : resumption_of words ≡ Some (resumption_with words r place)
    resumption_is = ap (resumption_by words) is ∙ ap (λ (o : Option NamePlace). option_map (resumption_with words r) o) stated

    pub resumed_names : names_asked words ≡ word_at words r.specification ∷ name_at words place ∷ map (word_at words) r.sources
    resumed_names = ap (all_names words) is ∙ ap (λ (o : Option NamePlace). texts_named words r.specification o ++ map (word_at words) r.sources) stated

    pub resumed_state : state_of (command_of words) ≡ Some place
    resumed_state = ap state_of is ∙ stated

module _ (words : List (List ℕ)) (r : SnapshotCommand) (is : command_of words ≡ Some (Snapshot r)) where
  pub snapshot_is : snapshot_of words ≡ Some (snapshot_with words r)
  snapshot_is = ap (snapshot_by words) is

  pub snapshot_names : names_asked words ≡ texts_named words r.specification r.state ++ map (word_at words) r.sources
  snapshot_names = ap (all_names words) is

  pub snapshot_state : state_of (command_of words) ≡ r.state
  snapshot_state = ap state_of is

module _ (words : List (List ℕ)) (n : ℕ) (is : command_of words ≡ Some (Analyse n)) where
  pub analysed_specification : specification_of words ≡ Some (word_at words n)
  analysed_specification = ap (specification_named words) is

  pub analysed_is : analysed_of words ≡ Some (word_at words n)
  analysed_is = ap (analysed_named words) is

  pub analysed_names : names_asked words ≡ word_at words n ∷ []
  analysed_names = ap (all_names words) is

module _ (words : List (List ℕ)) (d : DrillCommand) (is : command_of words ≡ Some (Drill d)) where
  pub drill_is : drill_of words ≡ Some d
  drill_is = ap drill_named is

  pub drill_names : names_asked words ≡ []
  drill_names = ap (all_names words) is

module _ (words : List (List ℕ)) (r : ReplayCommand) (is : command_of words ≡ Some (Replay r)) where
  pub replayed_specification : specification_of words ≡ Some (word_at words r.specification)
  replayed_specification = ap (specification_named words) is

  pub replay_is : replay_of words ≡ Some (replay_with words r)
  replay_is = ap (replay_named words) is

  pub replayed_names : names_asked words ≡ replay_names (replay_with words r)
  replayed_names = ap (all_names words) is
