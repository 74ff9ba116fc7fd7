-- What the words of a command ask for.
use Rattle.std.specs.Prelude.{ℕ, ◌≡◌, Bool, List, [], ◌∷◌, ◌++◌, Option, Some, None, map}
use Rattle.std.specs.Option.{option_map, option_to_list}
use Rattle.lola_value.specs.Words.{word_at}
use Rattle.lola_model.specs.declared.journal.Show.{Show}
use Rattle.lola_monitor_command.specs.Said.{Word, name_at}
use Rattle.lola_monitor_command.specs.Command.{command_of}
use Rattle.lola_monitor_command.specs.declared.command.Command.{Command}
use Rattle.lola_monitor_command.specs.declared.command.Command.TheVariants.{Run, Analyse, Drill, Replay, Snapshot}
use Rattle.lola_monitor_command.specs.declared.command.DrillCommand.{DrillCommand}
use Rattle.lola_monitor_command.specs.declared.command.ReplayCommand.{ReplayCommand}
use Rattle.lola_monitor_command.specs.declared.command.RunCommand.{RunCommand}
use Rattle.lola_monitor_command.specs.declared.command.SnapshotCommand.{SnapshotCommand}
use Rattle.lola_monitor_command.specs.declared.said.NamePlace.{NamePlace}

-- what a run is of: a specification and sources, where time begins if that is told, what is shown, how many workers there are, and
-- whether its sources are to be read in turns
pub record Names : Type 0 where
  pub specification : List ℕ
  pub sources : List (List ℕ)
  pub start : Option ℕ
  pub show : Show
  pub workers : ℕ
  pub in_turns : Bool

-- in the order of fetching
abbrev pub names_of : Names → List (List ℕ)
names_of names = names.specification ∷ names.sources

abbrev pub names_with : List Word → RunCommand → Names
names_with words r = record {
  specification = word_at words r.specification;
  sources = map (word_at words) r.sources;
  start = r.start;
  show = r.show;
  workers = r.workers;
  in_turns = r.in_turns;
}

-- of a run that begins anew: one that no state is named for
abbrev pub if_anew : {X : Type 0} → Option NamePlace → X → Option X
if_anew None x = Some x
if_anew (Some place) x = None

abbrev pub run_by : List Word → Option Command → Option Names
run_by words None = None
run_by words (Some (Run r)) = if_anew r.state (names_with words r)
run_by words (Some (Analyse n)) = None
run_by words (Some (Drill d)) = None
run_by words (Some (Replay r)) = None
run_by words (Some (Snapshot r)) = None

-- the run that the words are, if it begins anew
abbrev pub run_of : List Word → Option Names
run_of words = run_by words (command_of words)

abbrev pub specification_named : List Word → Option Command → Option Word
specification_named words None = None
specification_named words (Some (Run r)) = if_anew r.state (word_at words r.specification)
specification_named words (Some (Analyse n)) = Some (word_at words n)
specification_named words (Some (Drill d)) = None
specification_named words (Some (Replay r)) = Some (word_at words r.specification)
specification_named words (Some (Snapshot r)) = None

-- the specification of a run that begins anew, of an analysis or of a replay, which is asked for first
abbrev pub specification_of : List Word → Option Word
specification_of words = specification_named words (command_of words)

abbrev pub analysed_named : List Word → Option Command → Option Word
analysed_named words None = None
analysed_named words (Some (Run r)) = None
analysed_named words (Some (Analyse n)) = Some (word_at words n)
analysed_named words (Some (Drill d)) = None
analysed_named words (Some (Replay r)) = None
analysed_named words (Some (Snapshot r)) = None

-- the specification that is to be analysed
abbrev pub analysed_of : List Word → Option Word
analysed_of words = analysed_named words (command_of words)

abbrev pub drill_named : Option Command → Option DrillCommand
drill_named None = None
drill_named (Some (Run r)) = None
drill_named (Some (Analyse n)) = None
drill_named (Some (Drill d)) = Some d
drill_named (Some (Replay r)) = None
drill_named (Some (Snapshot r)) = None

-- the drill that the words are
abbrev pub drill_of : List Word → Option DrillCommand
drill_of words = drill_named (command_of words)

-- what a replay is of: a specification, a trace and verdicts, where the run's time began if that is told, and what it showed
pub record ReplayNames : Type 0 where
  pub specification : List ℕ
  pub trace : List ℕ
  pub verdicts : List ℕ
  pub start : Option ℕ
  pub show : Show

-- in the order of fetching
abbrev pub replay_names : ReplayNames → List (List ℕ)
replay_names names = names.specification ∷ names.trace ∷ names.verdicts ∷ []

abbrev pub replay_with : List Word → ReplayCommand → ReplayNames
replay_with words r = record {
  specification = word_at words r.specification;
  trace = word_at words r.trace;
  verdicts = word_at words r.verdicts;
  start = r.start;
  show = r.show;
}

abbrev pub replay_named : List Word → Option Command → Option ReplayNames
replay_named words None = None
replay_named words (Some (Run r)) = None
replay_named words (Some (Analyse n)) = None
replay_named words (Some (Drill d)) = None
replay_named words (Some (Replay r)) = Some (replay_with words r)
replay_named words (Some (Snapshot r)) = None

-- the replay that the words are
abbrev pub replay_of : List Word → Option ReplayNames
replay_of words = replay_named words (command_of words)

-- what a run is of that goes on from a state: a specification, that state and sources, what is shown, how many workers there are, and
-- whether its sources are to be read in turns
pub record Resumption : Type 0 where
  pub specification : List ℕ
  pub state : List ℕ
  pub sources : List (List ℕ)
  pub show : Show
  pub workers : ℕ
  pub in_turns : Bool

abbrev pub resumption_with : List Word → RunCommand → NamePlace → Resumption
resumption_with words r place = record {
  specification = word_at words r.specification;
  state = name_at words place;
  sources = map (word_at words) r.sources;
  show = r.show;
  workers = r.workers;
  in_turns = r.in_turns;
}

abbrev pub resumption_by : List Word → Option Command → Option Resumption
resumption_by words None = None
resumption_by words (Some (Run r)) = option_map (resumption_with words r) r.state
resumption_by words (Some (Analyse n)) = None
resumption_by words (Some (Drill d)) = None
resumption_by words (Some (Replay r)) = None
resumption_by words (Some (Snapshot r)) = None

-- the run that the words are, if it goes on from a state
abbrev pub resumption_of : List Word → Option Resumption
resumption_of words = resumption_by words (command_of words)

-- what a snapshot is of: a specification and sources, and where time begins or the state that it goes on from, if one of them is told
pub record SnapshotNames : Type 0 where
  pub specification : List ℕ
  pub sources : List (List ℕ)
  pub start : Option ℕ
  pub state : Option (List ℕ)

abbrev pub snapshot_with : List Word → SnapshotCommand → SnapshotNames
snapshot_with words r = record {
  specification = word_at words r.specification;
  sources = map (word_at words) r.sources;
  start = r.start;
  state = option_map (name_at words) r.state;
}

abbrev pub snapshot_by : List Word → Option Command → Option SnapshotNames
snapshot_by words None = None
snapshot_by words (Some (Run r)) = None
snapshot_by words (Some (Analyse n)) = None
snapshot_by words (Some (Drill d)) = None
snapshot_by words (Some (Replay r)) = None
snapshot_by words (Some (Snapshot r)) = Some (snapshot_with words r)

-- the snapshot that the words are
abbrev pub snapshot_of : List Word → Option SnapshotNames
snapshot_of words = snapshot_by words (command_of words)

-- the words neither go on from a state nor save one
pub record IsWithoutState (words : List Word) : Type 0 where
  pub no_resumption : resumption_of words ≡ None
  pub no_snapshot : snapshot_of words ≡ None

-- the specification, and the state if one is named
abbrev pub texts_named : List Word → ℕ → Option NamePlace → List Word
texts_named words specification state = word_at words specification ∷ option_to_list (option_map (name_at words) state)

abbrev pub all_names : List Word → Option Command → List Word
all_names words None = []
all_names words (Some (Run r)) = texts_named words r.specification r.state ++ map (word_at words) r.sources
all_names words (Some (Analyse n)) = word_at words n ∷ []
all_names words (Some (Drill d)) = []
all_names words (Some (Replay r)) = replay_names (replay_with words r)
all_names words (Some (Snapshot r)) = texts_named words r.specification r.state ++ map (word_at words) r.sources

-- a command's names in the order of fetching: of a run and a snapshot the specification, the state if one is named, and then each source,
-- of an analysis the specification, of a drill none, of a replay the specification, the trace and the verdicts
abbrev pub names_asked : List Word → List Word
names_asked words = all_names words (command_of words)
