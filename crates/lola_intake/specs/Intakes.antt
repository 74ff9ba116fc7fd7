-- What seats show, what a call tells its caller, and what is known at the end.
use Rattle.std.specs.Prelude.{◌≡◌, ◌<◌, ◌⊎◌, ℕ, false, List, [], ◌∷◌, ◌++◌, Option, Some, None, slice_get, All, true}
use Rattle.atomic_table.specs.Seated.{TableId}
use Rattle.lola_intake.specs.declared.view.Turn.{Turn}
use Rattle.lola_intake.specs.declared.view.View.{View}
use Rattle.lola_intake.specs.Turns.{turn_by, calls_by, StartsWith}
use Rattle.lola_model.specs.Journal.{opening_time, IsLegalFrom}
use Rattle.lola_model.specs.declared.journal.Entry.{Entry}
use Rattle.lola_intake.specs.declared.event.Setting.{Setting}
use Rattle.lola_intake.specs.declared.event.Event.{Event}
use Rattle.lola_intake.specs.Histories.{IsLegal, events, entries, taken, entries_of, has_finish, times, Rises, EndsDone, FinishesLast}

-- A seat shows of which intake it is, how many sources that has and from when on, which caller it is and of which
-- source, the history that it has seen, and its own calls. The engine is caller 0, and source s is caller s + 1.
pub record Shown : Type 0 where
  pub intake : TableId
  pub setting : Setting
  pub caller : ℕ
  pub source : ℕ
  pub seen : List (Turn Event)
  pub mine : List Event

abbrev pub setting_or : Option Setting → Setting
setting_or (Some k) = k
setting_or None = record { sources = 0; start = None }

abbrev pub setting_of : View Setting Event → Setting
setting_of v = setting_or v.setting

abbrev pub shown : TableId → ℕ → View Setting Event → Shown
shown id source v = record { intake = id; setting = setting_of v; caller = v.caller; source = source; seen = v.seen; mine = v.mine }

-- so many sources, from then on
abbrev pub setting : ℕ → Option ℕ → Setting
setting sources start = record { sources = sources; start = start }

-- a seat that was told nothing
abbrev pub new_seat : TableId → Setting → ℕ → ℕ → Shown
new_seat id k caller source = record { intake = id; setting = k; caller = caller; source = source; seen = []; mine = [] }

-- these seats are all of one intake
abbrev pub AreSeatsOf : TableId → List Shown → Type 0
AreSeatsOf id [] = Unit {0}
AreSeatsOf id (seat ∷ seats) = (seat.intake ≡ id) × AreSeatsOf id seats

-- What a call tells. What the seat has seen is legal, begins with what it had seen, and ends with the call. Its own
-- calls stand there, each once, and the call is one more of them. The merged times that it was told do not fall.
pub record Told (event : Event) (old new : Shown) : Type 0 where
  pub intake : new.intake ≡ old.intake
  pub setting : new.setting ≡ old.setting
  pub caller : new.caller ≡ old.caller
  pub source : new.source ≡ old.source
  pub legal : IsLegal old.setting new.seen
  pub seen : (between : List (Turn Event)) × (new.seen ≡ (old.seen ++ between) ++ turn_by old.caller event ∷ [])
  pub own : calls_by old.caller new.seen ≡ new.mine
  pub mine : new.mine ≡ old.mine ++ event ∷ []
  pub times : Rises (opening_time old.setting.start) (times new.mine)

-- Whatever stands before the call in what was seen
abbrev pub Before : Event → Shown → Shown → (List Event → Type 0) → Type 0
Before event old new P = (before : List (Turn Event)) → new.seen ≡ before ++ turn_by old.caller event ∷ [] → P (events before)

-- What is known at the end. There is one legal history, the longest that a seat has seen. It begins with what each
-- seat has seen, and has just the seats' own calls. The rows that were taken, and then those that are left, are those
-- that were let in, rightly marked, and of each source those that its own calls let in, in their order and with their
-- marks, and no others. Where the last take was answered that all is done, each source has finished, and where each
-- source's last call was its only finish, none is left.
pub record Whole (engine : Shown) (seats : List Shown) (left : List Entry) : Type 0 where
  pub history : List (Turn Event)
  pub legal : IsLegal engine.setting history
  pub engine_seen : StartsWith history engine.seen
  pub engine_own : calls_by 0 history ≡ engine.mine
  pub seats_seen : (s : ℕ) (p : Shown) → slice_get seats s ≡ Some p → StartsWith history p.seen
  pub seats_own : (s : ℕ) (p : Shown) → slice_get seats s ≡ Some p → calls_by p.caller history ≡ p.mine
  pub nobody : (c : ℕ) → engine.setting.sources < c → calls_by c history ≡ []
  pub longest : (engine.seen ≡ history) ⊎ ((s : ℕ) × (p : Shown) × (slice_get seats s ≡ Some p) × (p.seen ≡ history))
  pub let_in : taken engine.mine ++ left ≡ entries (events history)
  pub marked : IsLegalFrom (opening_time engine.setting.start) (taken engine.mine ++ left)
  pub sources : (s : ℕ) (p : Shown) → slice_get seats s ≡ Some p → entries_of p.source (taken engine.mine ++ left) ≡ entries p.mine
  pub theirs : All (λ (e : Entry). e.row.source < engine.setting.sources) (taken engine.mine ++ left)
  pub finished : EndsDone engine.mine false → (s : ℕ) (p : Shown) → slice_get seats s ≡ Some p → has_finish p.mine p.source ≡ true
  pub done : EndsDone engine.mine false → ((s : ℕ) (p : Shown) → slice_get seats s ≡ Some p → FinishesLast p.mine) → left ≡ []
