-- The commands, by what their words say.
use Rattle.std.specs.Prelude.{ℕ, List, [], ◌∷◌, Option, Some, None, Bool, true, false, ◌&&◌, ◌||◌, if◌then◌else◌, nat_eq, nat_le, length, filter, codes}
use Rattle.std.specs.List.{list_all}
use Rattle.std.specs.Str.{bytes_eq}
use Rattle.lola_value.specs.Times.{is_digit, number_of}
use Rattle.lola_value.specs.Words.{word_at}
use Rattle.lola_model.specs.declared.journal.Show.{Show}
use Rattle.lola_model.specs.declared.journal.Show.TheVariants as show
use Rattle.lola_monitor_command.specs.Said.{Word, said_from}
use Rattle.lola_monitor_command.specs.declared.said.IntakeKind.{IntakeKind}
use Rattle.lola_monitor_command.specs.declared.said.IntakeKind.TheVariants as intake
use Rattle.lola_monitor_command.specs.declared.said.NamePlace.{NamePlace}
use Rattle.lola_monitor_command.specs.declared.said.Said.{Said}
use Rattle.lola_monitor_command.specs.declared.said.Said.TheVariants as said
use Rattle.lola_monitor_command.specs.declared.command.Command.{Command}
use Rattle.lola_monitor_command.specs.declared.command.Command.TheVariants as command

-- which option is said

abbrev pub is_show : Said → Bool
is_show (said.Show s) = true
is_show _ = false

abbrev pub is_workers : Said → Bool
is_workers (said.Workers n) = true
is_workers _ = false

abbrev pub is_start : Said → Bool
is_start (said.Start t) = true
is_start _ = false

abbrev pub is_in_turns : Said → Bool
is_in_turns said.InTurns = true
is_in_turns _ = false

abbrev pub is_intake : Said → Bool
is_intake (said.Intake kind) = true
is_intake _ = false

abbrev pub is_resume : Said → Bool
is_resume (said.Resume place) = true
is_resume _ = false

-- none of these is so
abbrev pub nowhere : (Said → Bool) → List Said → Bool
nowhere f ss = nat_eq (length (filter f ss)) 0

-- at most one of these is so
abbrev pub at_most_once : (Said → Bool) → List Said → Bool
at_most_once f ss = nat_le (length (filter f ss)) 1

-- each option comes at most once
abbrev pub come_once : List Said → Bool
come_once ss = at_most_once is_show ss && (at_most_once is_workers ss && (at_most_once is_start ss && (at_most_once is_in_turns ss && (at_most_once is_intake ss && at_most_once is_resume ss))))

-- not both where time begins and the state from which a run goes on
abbrev pub start_or_state : List Said → Bool
start_or_state ss = nowhere is_start ss || nowhere is_resume ss

-- an option that a replay has too, or a name
abbrev pub suits_replay : Said → Bool
suits_replay (said.Workers n) = false
suits_replay said.InTurns = false
suits_replay (said.Intake kind) = false
suits_replay (said.Resume place) = false
suits_replay _ = true

abbrev pub suit_replay : List Said → Bool
suit_replay ss = list_all suits_replay ss

-- an option that a snapshot has too, or a name
abbrev pub suits_snapshot : Said → Bool
suits_snapshot (said.Name at) = true
suits_snapshot (said.Start t) = true
suits_snapshot (said.Resume place) = true
suits_snapshot _ = false

abbrev pub suit_snapshot : List Said → Bool
suit_snapshot ss = list_all suits_snapshot ss

-- what the options say, or what holds where they are left out

abbrev pub show_said : List Said → Show
show_said [] = show.Triggers
show_said (said.Show s ∷ ss) = s
show_said (s ∷ ss) = show_said ss

abbrev pub workers_said : List Said → ℕ
workers_said [] = 1
workers_said (said.Workers n ∷ ss) = n
workers_said (s ∷ ss) = workers_said ss

abbrev pub start_said : List Said → Option ℕ
start_said [] = None
start_said (said.Start t ∷ ss) = Some t
start_said (s ∷ ss) = start_said ss

abbrev pub in_turns_said : List Said → Bool
in_turns_said [] = false
in_turns_said (said.InTurns ∷ ss) = true
in_turns_said (s ∷ ss) = in_turns_said ss

abbrev pub intake_said : List Said → IntakeKind
intake_said [] = intake.Lock
intake_said (said.Intake kind ∷ ss) = kind
intake_said (s ∷ ss) = intake_said ss

abbrev pub state_said : List Said → Option NamePlace
state_said [] = None
state_said (said.Resume place ∷ ss) = Some place
state_said (s ∷ ss) = state_said ss

-- the names at the front, and what stands behind them
abbrev pub front_names : List Said → List ℕ
front_names (said.Name at ∷ ss) = at ∷ front_names ss
front_names _ = []

abbrev pub behind_names : List Said → List Said
behind_names (said.Name at ∷ ss) = behind_names ss
behind_names ss = ss

-- what stands behind the options at the front
abbrev pub behind_options : List Said → List Said
behind_options [] = []
behind_options (said.Name at ∷ ss) = said.Name at ∷ ss
behind_options (s ∷ ss) = behind_options ss

abbrev pub is_empty : List Said → Bool
is_empty [] = true
is_empty (s ∷ ss) = false

-- from 1 to 64 sources, and only options behind them
abbrev pub are_sources : List ℕ → List Said → Bool
are_sources sources rest = nat_le 1 (length sources) && (nat_le (length sources) 64 && is_empty (behind_options rest))

-- a run over a specification, with what stands behind its name and the options there
abbrev pub run_over : List Said → ℕ → List Said → Option Command
run_over ss specification rest =
    if come_once ss && (start_or_state ss && are_sources (front_names rest) (behind_names rest))
    then Some (command.Run (record {
      specification = specification;
      sources = front_names rest;
      show = show_said ss;
      workers = workers_said ss;
      start = start_said ss;
      in_turns = in_turns_said ss;
      intake = intake_said ss;
      state = state_said ss;
    }))
    else None

-- options, the specification, options, the sources, options
abbrev pub run_by : List Said → List Said → Option Command
run_by ss (said.Name specification ∷ rest) = run_over ss specification (behind_options rest)
run_by ss _ = None

abbrev pub run_of : List Said → Option Command
run_of ss = run_by ss (behind_options ss)

-- the specification alone
abbrev pub analyse_of : List Said → Option Command
analyse_of (said.Name specification ∷ []) = Some (command.Analyse specification)
analyse_of _ = None

-- a number of 1 to so many digits, between two others
abbrev pub is_number : ℕ → ℕ → ℕ → Word → Bool
is_number digits least most w = nat_le 1 (length w) && (nat_le (length w) digits && (list_all is_digit w && (nat_le least (number_of w) && nat_le (number_of w) most)))

-- a drill: its number, how many rows each source has, and how many workers there are
abbrev pub drill_with : Word → Word → Word → Option Command
drill_with number rows workers =
    if is_number 10 0 2147483646 number && (is_number 7 1 1000000 rows && is_number 2 1 64 workers)
    then Some (command.Drill (record { number = number_of number; rows = number_of rows; workers = number_of workers }))
    else None

-- three words and no option
abbrev pub drill_of : List Word → List Said → Option Command
drill_of words (said.Name number ∷ said.Name rows ∷ said.Name workers ∷ []) = drill_with (word_at words number) (word_at words rows) (word_at words workers)
drill_of words _ = None

-- a replay of what these words name, with this behind them
abbrev pub replay_with : List Said → ℕ → ℕ → ℕ → List Said → Option Command
replay_with ss specification trace verdicts rest =
    if come_once ss && (suit_replay ss && is_empty (behind_options rest))
    then Some (command.Replay (record {
      specification = specification;
      trace = trace;
      verdicts = verdicts;
      show = show_said ss;
      start = start_said ss;
    }))
    else None

-- options, the specification, the trace, the verdicts, options
abbrev pub replay_by : List Said → List Said → Option Command
replay_by ss (said.Name specification ∷ said.Name trace ∷ said.Name verdicts ∷ rest) = replay_with ss specification trace verdicts rest
replay_by ss _ = None

abbrev pub replay_of : List Said → Option Command
replay_of ss = replay_by ss (behind_options ss)

-- a snapshot over a specification, with what stands behind its name and the options there
abbrev pub snapshot_over : List Said → ℕ → List Said → Option Command
snapshot_over ss specification rest =
    if come_once ss && (start_or_state ss && (suit_snapshot ss && are_sources (front_names rest) (behind_names rest)))
    then Some (command.Snapshot (record {
      specification = specification;
      sources = front_names rest;
      start = start_said ss;
      state = state_said ss;
    }))
    else None

-- options, the specification, options, the sources, options
abbrev pub snapshot_by : List Said → List Said → Option Command
snapshot_by ss (said.Name specification ∷ rest) = snapshot_over ss specification (behind_options rest)
snapshot_by ss _ = None

abbrev pub snapshot_of : List Said → Option Command
snapshot_of ss = snapshot_by ss (behind_options ss)

-- where no word is wrong
abbrev pub of_said : (List Said → Option Command) → Option (List Said) → Option Command
of_said f None = None
of_said f (Some ss) = f ss

-- the words: the program's name, the command, and what is said of it
abbrev pub command_of : List Word → Option Command
command_of (program ∷ word ∷ words) =
    if bytes_eq word (codes "run") then of_said run_of (said_from false 2 words)
    else if bytes_eq word (codes "analyse") then of_said analyse_of (said_from false 2 words)
    else if bytes_eq word (codes "drill") then of_said (drill_of (program ∷ word ∷ words)) (said_from false 2 words)
    else if bytes_eq word (codes "replay") then of_said replay_of (said_from false 2 words)
    else if bytes_eq word (codes "snapshot") then of_said snapshot_of (said_from false 2 words) else None
command_of _ = None

-- the saved state from which what a command does goes on, if it names one
abbrev pub state_of : Option Command → Option NamePlace
state_of (Some (command.Run r)) = r.state
state_of (Some (command.Snapshot s)) = s.state
state_of _ = None
