-- What the words behind a command say, one after another: names, and options with their values.
use Rattle.std.specs.Prelude.{ℕ, ◌+◌, List, [], ◌∷◌, ◌++◌, Option, Some, None, Bool, true, false, not, ◌&&◌, if◌then◌else◌, nat_eq, nat_le, nat_lt, length, take, drop, slice_get, option_map, codes}
use Rattle.std.specs.List.{list_all, position}
use Rattle.std.specs.Str.{bytes_eq}
use Rattle.lola_value.specs.Words.{word_at}
use Rattle.lola_value.specs.Times.{is_digit, number_of, read_time}
use Rattle.lola_model.specs.declared.journal.Show.TheVariants as show
use Rattle.lola_monitor_command.specs.declared.said.IntakeKind.TheVariants as intake
use Rattle.lola_monitor_command.specs.declared.said.NamePlace.{NamePlace}
use Rattle.lola_monitor_command.specs.declared.said.Said.{Said}
use Rattle.lola_monitor_command.specs.declared.said.Said.TheVariants as said
use Rattle.lola_monitor_command.specs.declared.said.WordSense.{WordSense}
use Rattle.lola_monitor_command.specs.declared.said.WordSense.TheVariants as thing

abbrev pub Word : Type 0
Word = List ℕ

-- the name that stands there
abbrev pub name_at : List Word → NamePlace → Word
name_at words place = drop place.from (word_at words place.word)

abbrev pub begins_with_minus : Word → Bool
begins_with_minus [] = false
begins_with_minus (b ∷ w) = nat_eq b 45

-- a word that begins with a minus and has more than that
abbrev pub is_option : Word → Bool
is_option w = begins_with_minus w && nat_lt 1 (length w)

-- an option that says what is shown
abbrev pub show_by : Word → Option Said
show_by v =
    if bytes_eq v (codes "triggers") then Some (said.Show show.Triggers)
    else if bytes_eq v (codes "outputs") then Some (said.Show show.Outputs) else None

-- how many workers there are: one digit or two, and from 1 to 64
abbrev pub is_worker_count : Word → Bool
is_worker_count v = nat_le 1 (length v) && (nat_le (length v) 2 && (list_all is_digit v && (nat_le 1 (number_of v) && nat_le (number_of v) 64)))

abbrev pub workers_by : Word → Option Said
workers_by v = if is_worker_count v then Some (said.Workers (number_of v)) else None

-- where time begins: a time as a row has it, without blanks
abbrev pub start_by : Word → Option Said
start_by v = option_map (λ t. said.Start t) (read_time v)

-- what sources hand their rows in at
abbrev pub intake_by : Word → Option Said
intake_by v =
    if bytes_eq v (codes "lock") then Some (said.Intake intake.Lock)
    else if bytes_eq v (codes "queue") then Some (said.Intake intake.Queue) else None

-- an option of this name, with this value, which stands there
abbrev pub option_by : Word → Word → NamePlace → Option Said
option_by name v place =
    if bytes_eq name (codes "--show") then show_by v
    else if bytes_eq name (codes "--workers") then workers_by v
    else if bytes_eq name (codes "--start") then start_by v
    else if bytes_eq name (codes "--intake") then intake_by v
    else if bytes_eq name (codes "--resume") then Some (said.Resume place) else None

-- an option, by its number and its name, with the next word as its value; that does not begin with a minus
abbrev pub option_with : ℕ → Word → Option Word → Option Said
option_with at name None = None
option_with at name (Some v) = if begins_with_minus v then None else option_by name v (record { word = at + 1; from = 0 })

abbrev pub is_equals : ℕ → Bool
is_equals b = nat_eq b 61

-- what is said, if anything is, and whether the next word belongs to it
abbrev pub says : Bool → Option Said → WordSense
says takes_next None = thing.Wrong
says takes_next (Some s) = thing.Says s takes_next

-- an option whose first `=` is there, between its name and its value; without one its value is the next word
abbrev pub valued : ℕ → Word → Option Word → Option ℕ → WordSense
valued at w next None = says true (option_with at w next)
valued at w next (Some equals) = says false (option_by (take equals w) (drop (equals + 1) w) (record { word = at; from = equals + 1 }))

-- what a word says, by its number, with the word behind it
abbrev pub thing_of : ℕ → Word → Option Word → WordSense
thing_of at w next =
    if bytes_eq w (codes "--") then thing.Dashes
    else if not (is_option w) then thing.Says (said.Name at) false
    else if bytes_eq w (codes "--in-turns") then thing.Says said.InTurns false
    else valued at w next (position is_equals w)

-- so many words from this number on, all of them names
abbrev pub names_from : ℕ → List Word → List Said
names_from at [] = []
names_from at (w ∷ ws) = said.Name at ∷ names_from (at + 1) ws

-- in front of what is said behind it, unless that is wrong
abbrev pub with_front : List Said → Option (List Said) → Option (List Said)
with_front front None = None
with_front front (Some ss) = Some (front ++ ss)

-- what a thing says, and then the words behind it; the function is given whether the next word belongs to it
abbrev pub after : ℕ → List Word → WordSense → (Bool → Option (List Said)) → Option (List Said)
after at ws thing.Dashes rest = Some (names_from (at + 1) ws)
after at ws (thing.Says s takes_next) rest = with_front (s ∷ []) (rest takes_next)
after at ws thing.Wrong rest = None

-- what the words from number `at` on say, the next of which may belong to what stood before; none where a word is wrong
abbrev pub said_from : Bool → ℕ → List Word → Option (List Said)
said_from skip at [] = Some []
said_from true at (w ∷ ws) = said_from false (at + 1) ws
said_from false at (w ∷ ws) = after at ws (thing_of at w (slice_get ws 0)) (λ skip. said_from skip (at + 1) ws)
