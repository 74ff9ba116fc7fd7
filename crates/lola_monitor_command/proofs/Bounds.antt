-- What a command is told is in its bounds.
use Rattle.std.proofs.Common.{◌≡◌, refl, subst, sym, ℕ, ◌≤◌, ◌+◌, List, [], ◌∷◌, Option, None, Some, Result, Ok, Err, Bool, true, false, ◌&&◌, if◌then◌else◌, IfOk, IfSome, arith, codes, drop, length, nat_le, option_map, slice_get, take}
use Rattle.std.proofs.lemmas.Bool.Decides.{nat_tests}
use Rattle.std.proofs.lemmas.Bool.{and_parts}
use Rattle.std.specs.List.{after_first, before_first, list_all}
use Rattle.std.specs.Prelude.{⊤}
use Rattle.std.specs.Str.{bytes_eq}
use Rattle.lola_value.specs.Times.{is_digit, is_point, is_time, latest, nanoseconds, number_of, up_to_latest}
use Rattle.lola_value.specs.Words.{word_at}
use Rattle.lola_model.specs.declared.journal.Show.TheVariants as show
use Rattle.lola_monitor_command.specs.Bounds.{IsInBounds}
use Rattle.lola_monitor_command.specs.Command.{analyse_of, are_sources, behind_names, behind_options, come_once, drill_of, front_names, is_empty, is_number, of_said, replay_by, replay_of, run_by, run_of, show_said, snapshot_by, snapshot_of, start_or_state, start_said, suit_replay, suit_snapshot, workers_said}
use Rattle.lola_monitor_command.specs.Said.{Word, after, begins_with_minus, intake_by, is_worker_count, names_from, option_by, option_with, said_from, says, show_by, start_by, thing_of, valued, with_front, workers_by}
use Rattle.lola_monitor_command.specs.declared.command.Command.{Command}
use Rattle.lola_monitor_command.specs.declared.command.Command.TheVariants as command
use Rattle.lola_monitor_command.specs.declared.said.IntakeKind.TheVariants as intake
use Rattle.lola_monitor_command.specs.declared.said.NamePlace.{NamePlace}
use Rattle.lola_monitor_command.specs.declared.said.Said.{Said}
use Rattle.lola_monitor_command.specs.declared.said.Said.TheVariants as said
use Rattle.lola_monitor_command.specs.declared.said.WordSense.{WordSense}
use Rattle.lola_monitor_command.specs.declared.said.WordSense.TheVariants as thing
use Rattle.lola_monitor_command.proofs.InOrder.{told as run_told}
use Rattle.lola_monitor_command.proofs.SnapshotInOrder.{told as snapshot_told}

-- what holds of a choice, where its test may be used on the first side
by_test : {X : Type 0} (P : X → Type 0) (b : Bool) (x y : X) → (b ≡ true → P x) → P y → P (if b then x else y)
by_test P true x y first second = first refl
by_test P false x y first second = second

-- ---- what the words say

-- an option in its bounds
abbrev IsRight : Said → Type 0
IsRight (said.Workers n) = (1 ≤ n) × (n ≤ 64)
IsRight (said.Start t) = t ≤ latest
IsRight _ = ⊤

abbrev AllRight : List Said → Type 0
AllRight [] = ⊤
AllRight (s ∷ ss) = IsRight s × AllRight ss

abbrev IfRight : Option Said → Type 0
IfRight o = IfSome o IsRight

abbrev IfAllRight : Option (List Said) → Type 0
IfAllRight o = IfSome o AllRight

abbrev SaysRight : WordSense → Type 0
SaysRight (thing.Says s takes_next) = IsRight s
SaysRight _ = ⊤

workers_right : (v : Word) → IfRight (workers_by v)
workers_right v =
    by_test IfRight (is_worker_count v) (Some (said.Workers (number_of v))) None (λ is.
    let first = and_parts (nat_le 1 (length v)) _ is in
    let second = and_parts (nat_le (length v) 2) _ first.1 in
    let third = and_parts (list_all is_digit v) _ second.1 in
    let last = and_parts (nat_le 1 (number_of v)) (nat_le (number_of v) 64) third.1 in
    (grind (arith, nat_tests, last.0), grind (arith, nat_tests, last.1))) tt

abbrev StartsRight : Option ℕ → Type 0
StartsRight o = IfRight (option_map (λ (t : ℕ). said.Start t) o)

start_right : (v : Word) → IfRight (start_by v)
start_right v =
    let t = nanoseconds (before_first is_point v) (after_first is_point v) in
    by_test StartsRight (is_time (before_first is_point v) (after_first is_point v)) (up_to_latest t) None
    (λ timed. by_test StartsRight (nat_le t latest) (Some t) None (λ is. grind (arith, nat_tests, is)) tt) tt

show_right : (v : Word) → IfRight (show_by v)
show_right v = by_test IfRight (bytes_eq v (codes "triggers")) (Some (said.Show show.Triggers)) _ (λ is. tt) (by_test IfRight (bytes_eq v (codes "outputs")) (Some (said.Show show.Outputs)) None (λ is. tt) tt)

intake_right : (v : Word) → IfRight (intake_by v)
intake_right v = by_test IfRight (bytes_eq v (codes "lock")) (Some (said.Intake intake.Lock)) _ (λ is. tt) (by_test IfRight (bytes_eq v (codes "queue")) (Some (said.Intake intake.Queue)) None (λ is. tt) tt)

option_right : (name v : Word) (place : NamePlace) → IfRight (option_by name v place)
option_right name v place =
    by_test IfRight (bytes_eq name (codes "--show")) (show_by v) _ (λ is. show_right v)
    (by_test IfRight (bytes_eq name (codes "--workers")) (workers_by v) _ (λ is. workers_right v)
    (by_test IfRight (bytes_eq name (codes "--start")) (start_by v) _ (λ is. start_right v)
    (by_test IfRight (bytes_eq name (codes "--intake")) (intake_by v) _ (λ is. intake_right v)
    (by_test IfRight (bytes_eq name (codes "--resume")) (Some (said.Resume place)) None (λ is. tt) tt))))

with_right : (at : ℕ) (name : Word) (next : Option Word) → IfRight (option_with at name next)
with_right at name None = tt
with_right at name (Some v) =
    let place : NamePlace = record { word = at + 1; from = 0 } in
    by_test IfRight (begins_with_minus v) None (option_by name v place) (λ is. tt) (option_right name v place)

says_right : (takes_next : Bool) (o : Option Said) → IfRight o → SaysRight (says takes_next o)
says_right takes_next None right = tt
says_right takes_next (Some s) right = right

valued_right : (at : ℕ) (w : Word) (next : Option Word) (equals : Option ℕ) → SaysRight (valued at w next equals)
valued_right at w next None = says_right true (option_with at w next) (with_right at w next)
valued_right at w next (Some equals) =
    let place : NamePlace = record { word = at; from = equals + 1 } in
    says_right false (option_by (take equals w) (drop (equals + 1) w) place) (option_right (take equals w) (drop (equals + 1) w) place)

thing_right : (at : ℕ) (w : Word) (next : Option Word) → SaysRight (thing_of at w next)
thing_right at w next =
    by_test SaysRight (bytes_eq w (codes "--")) thing.Dashes _ (λ is. tt)
    (by_test SaysRight _ (thing.Says (said.Name at) false) _ (λ is. tt)
    (by_test SaysRight (bytes_eq w (codes "--in-turns")) (thing.Says said.InTurns false) _ (λ is. tt) (valued_right at w next _)))

names_right : (at : ℕ) (ws : List Word) → AllRight (names_from at ws)
names_right at [] = tt
names_right at (w ∷ ws) = (tt, names_right (at + 1) ws)

front_right : (s : Said) (o : Option (List Said)) → IsRight s → IfAllRight o → IfAllRight (with_front (s ∷ []) o)
front_right s None first rest = tt
front_right s (Some ss) first rest = (first, rest)

after_right : (at : ℕ) (ws : List Word) (t : WordSense) (rest : Bool → Option (List Said)) → SaysRight t → ((takes_next : Bool) → IfAllRight (rest takes_next)) → IfAllRight (after at ws t rest)
after_right at ws thing.Dashes rest first behind = names_right (at + 1) ws
after_right at ws (thing.Says s takes_next) rest first behind = front_right s (rest takes_next) first (behind takes_next)
after_right at ws thing.Wrong rest first behind = tt

said_right : (skip : Bool) (at : ℕ) (ws : List Word) → IfAllRight (said_from skip at ws)
said_right skip at [] = tt
said_right true at (w ∷ ws) = said_right false (at + 1) ws
said_right false at (w ∷ ws) =
    after_right at ws (thing_of at w (slice_get ws 0)) (λ skip. said_from skip (at + 1) ws) (thing_right at w (slice_get ws 0)) (λ skip. said_right skip (at + 1) ws)

-- ---- what the options say together

workers_bound : (ss : List Said) → AllRight ss → (1 ≤ workers_said ss) × (workers_said ss ≤ 64)
workers_bound [] right = (omega arith, omega arith)
workers_bound (said.Name n ∷ ss) right = workers_bound ss right.1
workers_bound (said.Show s ∷ ss) right = workers_bound ss right.1
workers_bound (said.Workers n ∷ ss) right = right.0
workers_bound (said.Start t ∷ ss) right = workers_bound ss right.1
workers_bound (said.InTurns ∷ ss) right = workers_bound ss right.1
workers_bound (said.Intake kind ∷ ss) right = workers_bound ss right.1
workers_bound (said.Resume place ∷ ss) right = workers_bound ss right.1

start_bound : (ss : List Said) → AllRight ss → IfSome (start_said ss) (λ t. t ≤ latest)
start_bound [] right = tt
start_bound (said.Name n ∷ ss) right = start_bound ss right.1
start_bound (said.Show s ∷ ss) right = start_bound ss right.1
start_bound (said.Workers n ∷ ss) right = start_bound ss right.1
start_bound (said.Start t ∷ ss) right = right.0
start_bound (said.InTurns ∷ ss) right = start_bound ss right.1
start_bound (said.Intake kind ∷ ss) right = start_bound ss right.1
start_bound (said.Resume place ∷ ss) right = start_bound ss right.1

-- from 1 to 64 sources
sources_bound : (z : List Said) → are_sources (front_names z) (behind_names z) ≡ true → (1 ≤ length (front_names z)) × (length (front_names z) ≤ 64)
sources_bound z are =
    let first = and_parts (nat_le 1 (length (front_names z))) _ are in
    let second = and_parts (nat_le (length (front_names z)) 64) _ first.1 in
    (grind (arith, nat_tests, first.0), grind (arith, nat_tests, second.0))

-- a number of a drill
number_bound : (digits least most : ℕ) (w : Word) → is_number digits least most w ≡ true → (least ≤ number_of w) × (number_of w ≤ most)
number_bound digits least most w is =
    let first = and_parts (nat_le 1 (length w)) _ is in
    let second = and_parts (nat_le (length w) digits) _ first.1 in
    let third = and_parts (list_all is_digit w) _ second.1 in
    let last = and_parts (nat_le least (number_of w)) (nat_le (number_of w) most) third.1 in
    (grind (arith, nat_tests, last.0), grind (arith, nat_tests, last.1))

-- ---- what a command is told

abbrev IfInBounds : Option Command → Type 0
IfInBounds o = IfSome o IsInBounds

run_bound : (ss front : List Said) → AllRight ss → IfInBounds (run_by ss front)
run_bound ss (said.Name specification ∷ rest) right =
    let z = behind_options rest in
    by_test IfInBounds (come_once ss && (start_or_state ss && are_sources (front_names z) (behind_names z))) (Some (command.Run (run_told ss specification (front_names z)))) None (λ is.
    let once = and_parts (come_once ss) _ is in
    let one = and_parts (start_or_state ss) _ once.1 in
    record { workers = workers_bound ss right; start = start_bound ss right; sources = sources_bound z one.1 }) tt
run_bound ss _ right = tt

snapshot_bound : (ss front : List Said) → AllRight ss → IfInBounds (snapshot_by ss front)
snapshot_bound ss (said.Name specification ∷ rest) right =
    let z = behind_options rest in
    by_test IfInBounds (come_once ss && (start_or_state ss && (suit_snapshot ss && are_sources (front_names z) (behind_names z)))) (Some (command.Snapshot (snapshot_told ss specification (front_names z)))) None (λ is.
    let once = and_parts (come_once ss) _ is in
    let one = and_parts (start_or_state ss) _ once.1 in
    let suits = and_parts (suit_snapshot ss) _ one.1 in
    record { start = start_bound ss right; sources = sources_bound z suits.1 }) tt
snapshot_bound ss _ right = tt

analysis_bound : (ss : List Said) → IfInBounds (analyse_of ss)
analysis_bound (said.Name specification ∷ []) = tt
analysis_bound _ = tt

drill_bound : (words : List Word) (ss : List Said) → IfInBounds (drill_of words ss)
drill_bound words (said.Name a ∷ said.Name b ∷ said.Name c ∷ []) =
    let number = word_at words a in
    let rows = word_at words b in
    let workers = word_at words c in
    by_test IfInBounds (is_number 10 0 2147483646 number && (is_number 7 1 1000000 rows && is_number 2 1 64 workers))
    (Some (command.Drill (record { number = number_of number; rows = number_of rows; workers = number_of workers }))) None (λ is.
    let first = and_parts (is_number 10 0 2147483646 number) _ is in
    let second = and_parts (is_number 7 1 1000000 rows) (is_number 2 1 64 workers) first.1 in
    let small = number_bound 10 0 2147483646 number first.0 in
    record { number = small.1; rows = number_bound 7 1 1000000 rows second.0; workers = number_bound 2 1 64 workers second.1 }) tt
drill_bound words _ = tt

replay_bound : (ss front : List Said) → AllRight ss → IfInBounds (replay_by ss front)
replay_bound ss (said.Name specification ∷ said.Name trace ∷ said.Name verdicts ∷ rest) right =
    by_test IfInBounds (come_once ss && (suit_replay ss && is_empty (behind_options rest)))
    (Some (command.Replay (record { specification = specification; trace = trace; verdicts = verdicts; show = show_said ss; start = start_said ss }))) None (λ is. record { start = start_bound ss right }) tt
replay_bound ss _ right = tt

by_said : (f : List Said → Option Command) (o : Option (List Said)) → IfAllRight o → ((ss : List Said) → AllRight ss → IfInBounds (f ss)) → IfInBounds (of_said f o)
by_said f None right each = tt
by_said f (Some ss) right each = each ss right

-- ---- what is answered, by what the words behind the command's say

module _ {E : Type 0} (ws : List Word) (result : Result (Option Command) E) where
  -- what this makes of the words behind the command's
  abbrev pub Gives : (List Said → Option Command) → Type 0
  Gives f = IfOk result (λ o. o ≡ of_said f (said_from false 2 ws))

  given : (f : List Said → Option Command) → ((ss : List Said) → AllRight ss → IfInBounds (f ss)) → Gives f → IfOk result IfInBounds
  given f each = answered result
    where
      answered : (r : Result (Option Command) E) → IfOk r (λ o. o ≡ of_said f (said_from false 2 ws)) → IfOk r IfInBounds
      answered (Ok o) is = subst IfInBounds (sym is) (by_said f (said_from false 2 ws) (said_right false 2 ws) each)
      answered (Err e) is = tt

  pub run_in_bounds : Gives run_of → IfOk result (λ o. IfSome o IsInBounds)
  run_in_bounds is = given run_of (λ ss right. run_bound ss (behind_options ss) right) is

  pub analysis_in_bounds : Gives analyse_of → IfOk result (λ o. IfSome o IsInBounds)
  analysis_in_bounds is = given analyse_of (λ ss right. analysis_bound ss) is

  pub drill_in_bounds : (words : List Word) → Gives (drill_of words) → IfOk result (λ o. IfSome o IsInBounds)
  drill_in_bounds words is = given (drill_of words) (λ ss right. drill_bound words ss) is

  pub replay_in_bounds : Gives replay_of → IfOk result (λ o. IfSome o IsInBounds)
  replay_in_bounds is = given replay_of (λ ss right. replay_bound ss (behind_options ss) right) is

  pub snapshot_in_bounds : Gives snapshot_of → IfOk result (λ o. IfSome o IsInBounds)
  snapshot_in_bounds is = given snapshot_of (λ ss right. snapshot_bound ss (behind_options ss) right) is
