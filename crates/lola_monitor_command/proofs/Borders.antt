-- A name stands at the beginning of its word, or where a character of it begins.
use Rattle.std.proofs.Common.{◌≡◌, refl, ap, subst, sym, ◌∙◌, ℕ, zero, suc, ◌+◌, ◌<◌, ◌&&◌, String, string_bytes, List, [], ◌∷◌, Option, Some, None, Bool, true, false, not, if◌then◌else◌, drop, map, take, get_or, option_map, arith}
use Rattle.std.specs.Prelude.{codes, ⊤}
use Rattle.std.specs.List.{position, slice_get}
use Rattle.std.specs.Str.{bytes_eq, IsUtf8, IsCharBoundary}
use Rattle.std.proofs.lemmas.List.Quantifiers.{position-Some}
use Rattle.std.proofs.lemmas.Str.{IsCharBoundary-after_ascii, IsUtf8-nil, IsUtf8-string_bytes}
use Rattle.lola_value.specs.Words.{word_at}
use Rattle.lola_value.specs.Times.{number_of, read_time}
use Rattle.lola_model.specs.declared.journal.Show.TheVariants as show
use Rattle.lola_monitor_command.specs.Said.{Word, after, begins_with_minus, intake_by, is_equals, is_option, is_worker_count, names_from, option_by, option_with, said_from, says, show_by, start_by, thing_of, valued, with_front, workers_by}
use Rattle.lola_monitor_command.specs.Command.{analyse_of, are_sources, behind_names, behind_options, come_once, command_of, drill_of, front_names, is_empty, is_number, of_said, replay_by, replay_of, run_by, run_of, show_said, snapshot_by, snapshot_of, start_or_state, start_said, state_of, state_said, suit_replay, suit_snapshot}
use Rattle.lola_monitor_command.specs.declared.said.IntakeKind.TheVariants as intake
use Rattle.lola_monitor_command.specs.declared.said.NamePlace.{NamePlace}
use Rattle.lola_monitor_command.specs.declared.said.Said.{Said}
use Rattle.lola_monitor_command.specs.declared.said.Said.TheVariants as said
use Rattle.lola_monitor_command.specs.declared.said.WordSense.{WordSense}
use Rattle.lola_monitor_command.specs.declared.said.WordSense.TheVariants as thing
use Rattle.lola_monitor_command.specs.declared.command.Command.{Command}
use Rattle.lola_monitor_command.specs.declared.command.Command.TheVariants as command
use Rattle.lola_monitor_command.proofs.InOrder.{told as run_told}
use Rattle.lola_monitor_command.proofs.SnapshotInOrder.{told as snapshot_told}

-- what holds of both sides of a choice
either_way : {X : Type 0} (P : X → Type 0) (b : Bool) (x y : X) → P x → P y → P (if b then x else y)
either_way P true x y at_x at_y = at_x
either_way P false x y at_x at_y = at_y

-- ---- what an option says

-- if it is a state, its name stands there
abbrev Stands : NamePlace → Option Said → Type 0
Stands place o = (p : NamePlace) → o ≡ Some (said.Resume p) → p ≡ place

no_state : (place : NamePlace) (s : Said) → ((p : NamePlace) → s ≡ said.Resume p → ⊥) → Stands place (Some s)
no_state place s never p e = absurd (never p (some_is s (said.Resume p) e))
  where
    some_is : (s t : Said) → Some s ≡ Some t → s ≡ t
    some_is s t e = grind (arith, e)

nothing : (place : NamePlace) → Stands place None
nothing place p e = absurd (grind (arith, e))

times : (place : NamePlace) (o : Option ℕ) → Stands place (option_map (λ t. said.Start t) o)
times place None = nothing place
times place (Some t) = no_state place (said.Start t) (λ p e. grind (arith, e))

shows : (place : NamePlace) (v : Word) → Stands place (show_by v)
shows place v =
    either_way (Stands place) (bytes_eq v (codes "triggers")) (Some (said.Show show.Triggers)) (if bytes_eq v (codes "outputs") then Some (said.Show show.Outputs) else None)
    (no_state place (said.Show show.Triggers) (λ p e. grind (arith, e)))
    (either_way (Stands place) (bytes_eq v (codes "outputs")) (Some (said.Show show.Outputs)) None (no_state place (said.Show show.Outputs) (λ p e. grind (arith, e))) (nothing place))

counts : (place : NamePlace) (v : Word) → Stands place (workers_by v)
counts place v = either_way (Stands place) (is_worker_count v) (Some (said.Workers (number_of v))) None (no_state place (said.Workers (number_of v)) (λ p e. grind (arith, e))) (nothing place)

intakes : (place : NamePlace) (v : Word) → Stands place (intake_by v)
intakes place v =
    either_way (Stands place) (bytes_eq v (codes "lock")) (Some (said.Intake intake.Lock)) (if bytes_eq v (codes "queue") then Some (said.Intake intake.Queue) else None)
    (no_state place (said.Intake intake.Lock) (λ p e. grind (arith, e)))
    (either_way (Stands place) (bytes_eq v (codes "queue")) (Some (said.Intake intake.Queue)) None (no_state place (said.Intake intake.Queue) (λ p e. grind (arith, e))) (nothing place))

state_there : (place : NamePlace) → Stands place (Some (said.Resume place))
state_there place p e = sym (same_place place p e)
  where
    same_place : (p q : NamePlace) → Some (said.Resume p) ≡ Some (said.Resume q) → p ≡ q
    same_place p q e = grind (arith, e)

options : (name v : Word) (place : NamePlace) → Stands place (option_by name v place)
options name v place =
    let resume = if bytes_eq name (codes "--resume") then Some (said.Resume place) else None in
    let intake = if bytes_eq name (codes "--intake") then intake_by v else resume in
    let start = if bytes_eq name (codes "--start") then start_by v else intake in
    let workers = if bytes_eq name (codes "--workers") then workers_by v else start in
    either_way (Stands place) (bytes_eq name (codes "--show")) (show_by v) workers (shows place v)
    (either_way (Stands place) (bytes_eq name (codes "--workers")) (workers_by v) start (counts place v)
    (either_way (Stands place) (bytes_eq name (codes "--start")) (start_by v) intake (times place (read_time v))
    (either_way (Stands place) (bytes_eq name (codes "--intake")) (intake_by v) resume (intakes place v)
    (either_way (Stands place) (bytes_eq name (codes "--resume")) (Some (said.Resume place)) None (state_there place) (nothing place)))))

-- ---- what words say

module _ (words : List Word) (plain : (n : ℕ) → IsUtf8 (word_at words n)) where
  -- at the beginning of the word behind, and behind the first `=` of the word
  abbrev next_place : ℕ → NamePlace
  next_place at = record { word = at + 1; from = 0 }

  abbrev place_behind : ℕ → ℕ → NamePlace
  place_behind at equals = record { word = at; from = equals + 1 }

  -- at the beginning of its word, or where a character begins
  abbrev pub IsBorder : NamePlace → Type 0
  IsBorder p = 0 < p.from → IsCharBoundary (word_at words p.word) p.from

  -- what one word says, if it is a state
  abbrev SaysBorder : WordSense → Type 0
  SaysBorder t = (p : NamePlace) (takes_next : Bool) → t ≡ thing.Says (said.Resume p) takes_next → IsBorder p

  by_option : (takes_next : Bool) (o : Option Said) (place : NamePlace) → Stands place o → IsBorder place → SaysBorder (says takes_next o)
  by_option takes_next None place stands border p next e = absurd (grind (arith, e))
  by_option takes_next (Some s) place stands border p next e = subst IsBorder (sym (stands p (said_is s p takes_next next e))) border
    where
      said_is : (s : Said) (p : NamePlace) (b c : Bool) → thing.Says s b ≡ thing.Says (said.Resume p) c → Some s ≡ Some (said.Resume p)
      said_is s p b c e = grind (arith, e)

  -- the beginning of the word behind
  next_word : (at : ℕ) → IsBorder (next_place at)
  next_word at some = absurd (omega (arith, some))

  with_next : (at : ℕ) (w : Word) (next : Option Word) → Stands (next_place at) (option_with at w next)
  with_next at w None = nothing (next_place at)
  with_next at w (Some v) =
      either_way (Stands (next_place at)) (begins_with_minus v) None (option_by w v (next_place at)) (nothing (next_place at)) (options w v (next_place at))

  -- behind the first `=`
  behind_equals : (at equals : ℕ) → position is_equals (word_at words at) ≡ Some equals → IsBorder (place_behind at equals)
  behind_equals at equals is some =
      let found = position-Some is_equals (word_at words at) equals 0 is in
      IsCharBoundary-after_ascii (word_at words at) equals (plain at) found.0 (ascii (get_or (word_at words at) equals 0) found.1)
    where
      ascii : (b : ℕ) → is_equals b ≡ true → b < 128
      ascii b e = grind (arith, e)

  by_equals : (at : ℕ) (next : Option Word) (o : Option ℕ) → position is_equals (word_at words at) ≡ o → SaysBorder (valued at (word_at words at) next o)
  by_equals at next None is = by_option true (option_with at (word_at words at) next) (next_place at) (with_next at (word_at words at) next) (next_word at)
  by_equals at next (Some equals) is =
      let place = place_behind at equals in
      let w = word_at words at in
      by_option false (option_by (take equals w) (drop (equals + 1) w) place) place (options (take equals w) (drop (equals + 1) w) place) (behind_equals at equals is)

  no_border : (t : WordSense) → ((p : NamePlace) (b : Bool) → t ≡ thing.Says (said.Resume p) b → ⊥) → SaysBorder t
  no_border t never p b e = absurd (never p b e)

  by_word : (at : ℕ) (next : Option Word) → SaysBorder (thing_of at (word_at words at) next)
  by_word at next =
      let w = word_at words at in
      let option = valued at w next (position is_equals w) in
      let turns = if bytes_eq w (codes "--in-turns") then thing.Says said.InTurns false else option in
      let name = if not (is_option w) then thing.Says (said.Name at) false else turns in
      either_way SaysBorder (bytes_eq w (codes "--")) thing.Dashes name (no_border thing.Dashes (λ p b e. grind (arith, e)))
      (either_way SaysBorder (not (is_option w)) (thing.Says (said.Name at) false) turns (no_border (thing.Says (said.Name at) false) (λ p b e. grind (arith, e)))
      (either_way SaysBorder (bytes_eq w (codes "--in-turns")) (thing.Says said.InTurns false) option (no_border (thing.Says said.InTurns false) (λ p b e. grind (arith, e)))
      (by_equals at next (position is_equals w) refl)))

  -- the state among what is said
  abbrev pub HasBorder : List Said → Type 0
  HasBorder ss = (p : NamePlace) → state_said ss ≡ Some p → IsBorder p

  abbrev pub MayHaveBorder : Option (List Said) → Type 0
  MayHaveBorder None = ⊤
  MayHaveBorder (Some ss) = HasBorder ss

  only_names : (at : ℕ) (ws : List Word) → HasBorder (names_from at ws)
  only_names at [] p e = absurd (grind (arith, e))
  only_names at (w ∷ ws) p e = only_names (at + 1) ws p e

  in_front : (s : Said) (ss : List Said) → ((p : NamePlace) → s ≡ said.Resume p → IsBorder p) → HasBorder ss → HasBorder (s ∷ ss)
  in_front (said.Name at) ss first rest p e = rest p e
  in_front (said.Show shown) ss first rest p e = rest p e
  in_front (said.Workers n) ss first rest p e = rest p e
  in_front (said.Start t) ss first rest p e = rest p e
  in_front said.InTurns ss first rest p e = rest p e
  in_front (said.Intake kind) ss first rest p e = rest p e
  in_front (said.Resume place) ss first rest p e = first p (ap said.Resume (some_place place p e))
    where
      some_place : (p q : NamePlace) → Some p ≡ Some q → p ≡ q
      some_place p q e = grind (arith, e)

  with_one : (s : Said) (o : Option (List Said)) → ((p : NamePlace) → s ≡ said.Resume p → IsBorder p) → MayHaveBorder o → MayHaveBorder (with_front (s ∷ []) o)
  with_one s None first rest = tt
  with_one s (Some ss) first rest = in_front s ss first rest

  by_thing : (at : ℕ) (ws : List Word) (t : WordSense) (rest : Bool → Option (List Said)) → SaysBorder t → ((skip : Bool) → MayHaveBorder (rest skip)) → MayHaveBorder (after at ws t rest)
  by_thing at ws thing.Dashes rest first behind = only_names (at + 1) ws
  by_thing at ws (thing.Says s takes_next) rest first behind = with_one s (rest takes_next) (λ p e. first p takes_next (ap (λ z. thing.Says z takes_next) e)) (behind takes_next)
  by_thing at ws thing.Wrong rest first behind = tt

  -- the words from a number on are those behind it
  abbrev Behind : ℕ → List Word → Type 0
  Behind at ws = (i : ℕ) → word_at words (at + i) ≡ word_at ws i

  one_more : (at : ℕ) (w : Word) (ws : List Word) → Behind at (w ∷ ws) → Behind (at + 1) ws
  one_more at w ws same i = let next : at + 1 + i ≡ at + suc i = omega arith in ap (word_at words) next ∙ same (suc i)

  first_word : (at : ℕ) (w : Word) (ws : List Word) → Behind at (w ∷ ws) → word_at words at ≡ w
  first_word at w ws same = let here : at ≡ at + 0 = omega arith in ap (word_at words) here ∙ same 0

  from_word : (skip : Bool) (at : ℕ) (ws : List Word) → Behind at ws → MayHaveBorder (said_from skip at ws)
  from_word skip at [] same = λ p e. absurd (grind (arith, e))
  from_word true at (w ∷ ws) same = from_word false (at + 1) ws (one_more at w ws same)
  from_word false at (w ∷ ws) same =
      by_thing at ws (thing_of at w (slice_get ws 0)) (λ skip. said_from skip (at + 1) ws)
      (subst (λ v. SaysBorder (thing_of at v (slice_get ws 0))) (first_word at w ws same) (by_word at (slice_get ws 0)))
      (λ skip. from_word skip (at + 1) ws (one_more at w ws same))

  -- ---- what a command names

  abbrev pub StateHasBorder : Option Command → Type 0
  StateHasBorder o = (p : NamePlace) → state_of o ≡ Some p → IsBorder p

  by_said : (f : List Said → Option Command) (o : Option (List Said)) → MayHaveBorder o → ((ss : List Said) → HasBorder ss → StateHasBorder (f ss)) → StateHasBorder (of_said f o)
  by_said f None may each = λ p e. absurd (grind (arith, e))
  by_said f (Some ss) may each = each ss may

  no_command : StateHasBorder None
  no_command p e = absurd (grind (arith, e))

  of_run : (ss front : List Said) → HasBorder ss → StateHasBorder (run_by ss front)
  of_run ss (said.Name specification ∷ rest) has =
      let z = behind_options rest in
      either_way StateHasBorder (come_once ss && (start_or_state ss && are_sources (front_names z) (behind_names z))) (Some (command.Run (run_told ss specification (front_names z)))) None (λ p e. has p e) no_command
  of_run ss _ has = λ p e. absurd (grind (arith, e))

  of_snapshot : (ss front : List Said) → HasBorder ss → StateHasBorder (snapshot_by ss front)
  of_snapshot ss (said.Name specification ∷ rest) has =
      let z = behind_options rest in
      either_way StateHasBorder (come_once ss && (start_or_state ss && (suit_snapshot ss && are_sources (front_names z) (behind_names z))))
      (Some (command.Snapshot (snapshot_told ss specification (front_names z)))) None (λ p e. has p e) no_command
  of_snapshot ss _ has = λ p e. absurd (grind (arith, e))

  of_analysis : (ss : List Said) → StateHasBorder (analyse_of ss)
  of_analysis (said.Name specification ∷ []) p e = absurd (grind (arith, e))
  of_analysis _ p e = absurd (grind (arith, e))

  of_drill : (ws : List Word) (ss : List Said) → StateHasBorder (drill_of ws ss)
  of_drill ws (said.Name number ∷ said.Name rows ∷ said.Name workers ∷ []) =
      let n = word_at ws number in
      let r = word_at ws rows in
      let w = word_at ws workers in
      either_way StateHasBorder (is_number 10 0 2147483646 n && (is_number 7 1 1000000 r && is_number 2 1 64 w))
      (Some (command.Drill (record { number = number_of n; rows = number_of r; workers = number_of w }))) None (λ p e. absurd (grind (arith, e))) no_command
  of_drill ws _ = λ p e. absurd (grind (arith, e))

  of_replay : (ss front : List Said) → StateHasBorder (replay_by ss front)
  of_replay ss (said.Name specification ∷ said.Name trace ∷ said.Name verdicts ∷ rest) =
      either_way StateHasBorder (come_once ss && (suit_replay ss && is_empty (behind_options rest)))
      (Some (command.Replay (record { specification = specification; trace = trace; verdicts = verdicts; show = show_said ss; start = start_said ss }))) None (λ p e. absurd (grind (arith, e))) no_command
  of_replay ss _ = λ p e. absurd (grind (arith, e))

  by_second : (program word : Word) (ws : List Word) → words ≡ program ∷ word ∷ ws → StateHasBorder (command_of (program ∷ word ∷ ws))
  by_second program word ws is =
      let o = said_from false 2 ws in
      let may = from_word false 2 ws (λ i. ap (λ z. word_at z (2 + i)) is ∙ past_two program word ws i) in
      let snapshot = if bytes_eq word (codes "snapshot") then of_said snapshot_of o else None in
      let replay = if bytes_eq word (codes "replay") then of_said replay_of o else snapshot in
      let drill = if bytes_eq word (codes "drill") then of_said (drill_of (program ∷ word ∷ ws)) o else replay in
      let analysis = if bytes_eq word (codes "analyse") then of_said analyse_of o else drill in
      either_way StateHasBorder (bytes_eq word (codes "run")) (of_said run_of o) analysis (by_said run_of o may (λ ss has. of_run ss (behind_options ss) has))
      (either_way StateHasBorder (bytes_eq word (codes "analyse")) (of_said analyse_of o) drill (by_said analyse_of o may (λ ss has. of_analysis ss))
      (either_way StateHasBorder (bytes_eq word (codes "drill")) (of_said (drill_of (program ∷ word ∷ ws)) o) replay (by_said (drill_of (program ∷ word ∷ ws)) o may (λ ss has. of_drill (program ∷ word ∷ ws) ss))
      (either_way StateHasBorder (bytes_eq word (codes "replay")) (of_said replay_of o) snapshot (by_said replay_of o may (λ ss has. of_replay ss (behind_options ss)))
      (either_way StateHasBorder (bytes_eq word (codes "snapshot")) (of_said snapshot_of o) None (by_said snapshot_of o may (λ ss has. of_snapshot ss (behind_options ss) has)) no_command))))
    where
      past_two : (program word : Word) (ws : List Word) (i : ℕ) → word_at (program ∷ word ∷ ws) (2 + i) ≡ word_at ws i
      past_two program word ws i = let two : 2 + i ≡ suc (suc i) = omega arith in ap (word_at (program ∷ word ∷ ws)) two

pub borders : (words : List Word) (plain : (n : ℕ) → IsUtf8 (word_at words n)) → StateHasBorder words plain (command_of words)
borders [] plain = λ p e. absurd (grind (arith, e))
borders (program ∷ []) plain = λ p e. absurd (grind (arith, e))
borders (program ∷ word ∷ ws) plain = by_second (program ∷ word ∷ ws) plain program word ws refl

-- the words of a command line are texts
texts : {Z : Type 0} (xs : List (String Z)) (n : ℕ) → IsUtf8 (word_at (map string_bytes xs) n)
texts [] n = IsUtf8-nil
texts (x ∷ xs) zero = IsUtf8-string_bytes x
texts (x ∷ xs) (suc n) = texts xs n

pub state_border : {Z : Type 0} (xs : List (String Z)) (p : NamePlace) → state_of (command_of (map string_bytes xs)) ≡ Some p → 0 < p.from → IsCharBoundary (word_at (map string_bytes xs) p.word) p.from
state_border xs p e = borders (map string_bytes xs) (texts xs) p e
