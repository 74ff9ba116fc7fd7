-- What is named by words that are one command and no other.
use Rattle.std.proofs.Common.{◌≡◌, ℕ, List, Option, None, Some, ap}
use Rattle.lola_monitor_command.specs.declared.command.Command.{Command}
use Rattle.lola_monitor_command.specs.declared.command.Command.TheVariants.{Run, Analyse, Drill, Replay, Snapshot}
use Rattle.lola_value.specs.Words.{word_at}
use Rattle.lola_monitor_command.specs.declared.command.DrillCommand.{DrillCommand}
use Rattle.lola_monitor_command.specs.declared.command.RunCommand.{RunCommand}
use Rattle.lola_monitor_command.specs.declared.said.NamePlace.{NamePlace}
use Rattle.lola_monitor.specs.Command.{Names, ReplayNames, analysed_named, drill_named, if_anew, names_with, replay_named, replay_of, replay_with, run_by, run_of, specification_named, specification_of}

-- two ways to name a command
pub same_names : (words : List (List ℕ)) (a b : Names) → run_of words ≡ Some a → run_of words ≡ Some b → a ≡ b
same_names words a b first second = cc

pub same_replays : (words : List (List ℕ)) (a b : ReplayNames) → replay_of words ≡ Some a → replay_of words ≡ Some b → a ≡ b
same_replays words a b first second = cc

pub same_name : (words : List (List ℕ)) (a b : List ℕ) → specification_of words ≡ Some a → specification_of words ≡ Some b → a ≡ b
same_name words a b first second = cc

anew : (words : List (List ℕ)) (r : RunCommand) (names : Names) (state : Option NamePlace) → if_anew state (names_with words r) ≡ Some names → if_anew state (word_at words r.specification) ≡ Some names.specification
anew words r names None is = let same : names_with words r ≡ names = cc in ap (λ (n : Names). Some n.specification) same
anew words r names (Some place) is = absurd (cc)

-- the specification of a run is that of the command
pub run_specification : (words : List (List ℕ)) (c : Option Command) (names : Names) → run_by words c ≡ Some names → specification_named words c ≡ Some names.specification
run_specification words None names is = absurd (cc)
run_specification words (Some (Run r)) names is = anew words r names r.state is
run_specification words (Some (Analyse n)) names is = absurd (cc)
run_specification words (Some (Drill d)) names is = absurd (cc)
run_specification words (Some (Replay r)) names is = absurd (cc)
run_specification words (Some (Snapshot r)) names is = absurd (cc)

pub analysed_specification : (words : List (List ℕ)) (c : Option Command) (name : List ℕ) → analysed_named words c ≡ Some name → specification_named words c ≡ Some name
analysed_specification words None name is = absurd (cc)
analysed_specification words (Some (Run r)) name is = absurd (cc)
analysed_specification words (Some (Analyse n)) name is = is
analysed_specification words (Some (Drill d)) name is = absurd (cc)
analysed_specification words (Some (Replay r)) name is = absurd (cc)
analysed_specification words (Some (Snapshot r)) name is = absurd (cc)

-- and that of a replay
pub replay_specification : (words : List (List ℕ)) (c : Option Command) (names : ReplayNames) → replay_named words c ≡ Some names → specification_named words c ≡ Some names.specification
replay_specification words None names is = absurd (cc)
replay_specification words (Some (Run r)) names is = absurd (cc)
replay_specification words (Some (Analyse n)) names is = absurd (cc)
replay_specification words (Some (Drill d)) names is = absurd (cc)
replay_specification words (Some (Replay r)) names is = let same : replay_with words r ≡ names = cc in ap (λ (n : ReplayNames). Some n.specification) same
replay_specification words (Some (Snapshot r)) names is = absurd (cc)

-- an analysis is no run
pub no_run : (words : List (List ℕ)) (c : Option Command) (names : Names) (name : List ℕ) → run_by words c ≡ Some names → analysed_named words c ≡ Some name → ⊥
no_run words None names name first second = absurd (cc)
no_run words (Some (Run r)) names name first second = absurd (cc)
no_run words (Some (Analyse n)) names name first second = absurd (cc)
no_run words (Some (Drill d)) names name first second = absurd (cc)
no_run words (Some (Replay r)) names name first second = absurd (cc)
no_run words (Some (Snapshot r)) names name first second = absurd (cc)

-- nor is a replay
pub no_replayed_run : (words : List (List ℕ)) (c : Option Command) (names : Names) (replay : ReplayNames) → run_by words c ≡ Some names → replay_named words c ≡ Some replay → ⊥
no_replayed_run words None names replay first second = absurd (cc)
no_replayed_run words (Some (Run r)) names replay first second = absurd (cc)
no_replayed_run words (Some (Analyse n)) names replay first second = absurd (cc)
no_replayed_run words (Some (Drill d)) names replay first second = absurd (cc)
no_replayed_run words (Some (Replay r)) names replay first second = absurd (cc)
no_replayed_run words (Some (Snapshot r)) names replay first second = absurd (cc)

-- and no analysis
pub no_replayed_analysis : (words : List (List ℕ)) (c : Option Command) (name : List ℕ) (replay : ReplayNames) → analysed_named words c ≡ Some name → replay_named words c ≡ Some replay → ⊥
no_replayed_analysis words None name replay first second = absurd (cc)
no_replayed_analysis words (Some (Run r)) name replay first second = absurd (cc)
no_replayed_analysis words (Some (Analyse n)) name replay first second = absurd (cc)
no_replayed_analysis words (Some (Drill d)) name replay first second = absurd (cc)
no_replayed_analysis words (Some (Replay r)) name replay first second = absurd (cc)
no_replayed_analysis words (Some (Snapshot r)) name replay first second = absurd (cc)

-- a drill has no specification of its command's
pub no_drill : (words : List (List ℕ)) (c : Option Command) (d : DrillCommand) (name : List ℕ) → drill_named c ≡ Some d → specification_named words c ≡ Some name → ⊥
no_drill words None d name first second = absurd (cc)
no_drill words (Some (Run r)) d name first second = absurd (cc)
no_drill words (Some (Analyse n)) d name first second = absurd (cc)
no_drill words (Some (Drill e)) d name first second = absurd (cc)
no_drill words (Some (Replay r)) d name first second = absurd (cc)
no_drill words (Some (Snapshot r)) d name first second = absurd (cc)
