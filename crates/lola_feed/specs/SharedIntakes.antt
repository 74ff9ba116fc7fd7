-- What an intake shows that threads share, whatever it is made of: by the seats of its sources and of its taker.
use Rattle.std.specs.Prelude.{◌≡◌, ℕ, ◌<◌, Bool, true, false, not, List, [], ◌∷◌, ◌++◌, length, Option, Some, slice_get, All}
use Rattle.atomic_table.specs.Seated.{TableId}
use Rattle.lola_model.specs.Journal.{IsLegal, rows_of}
use Rattle.lola_model.specs.declared.journal.Row.{Row}
use Rattle.lola_model.specs.declared.journal.Entry.{Entry}
use Rattle.lola_merge.specs.declared.state.Offer.{Offer}
use Rattle.lola_merge.specs.declared.state.Offer.TheVariants as reply
use Rattle.lola_merge.specs.declared.state.Take.{Take}
use Rattle.lola_merge.specs.declared.state.Take.TheVariants.{Rows, AllDone, Nothing}
use Rattle.lola_feed.specs.declared.intake.Finish.{Finish}
use Rattle.lola_feed.specs.declared.intake.Finish.TheVariants as finish

-- which intake it is: the tables that it is made of
abbrev pub IntakeId : Type 0
IntakeId = List TableId

-- A source's seat shows of which intake and source it is, the rows that were let in, in their order, whether it has finished,
-- whether no call came behind its finish, and whether a call found the intake closed.
pub record SeatShown : Type 0 where
  pub intake : IntakeId
  pub source : ℕ
  pub rows : List Row
  pub finished : Bool
  pub in_order : Bool
  pub met_closed : Bool

-- The taker's seat shows of which intake it is, how many sources that has and from when on, the entries that were taken, in
-- their order, whether it was told that all is done, and whether it has closed.
pub record TakerShown : Type 0 where
  pub intake : IntakeId
  pub sources : ℕ
  pub start : Option ℕ
  pub taken : List Entry
  pub done : Bool
  pub closed : Bool

-- a source's seat that was not called
abbrev pub new_seat : IntakeId → ℕ → SeatShown
new_seat id source = record { intake = id; source = source; rows = []; finished = false; in_order = true; met_closed = false }

-- the taker's at first
abbrev pub new_taker : IntakeId → ℕ → Option ℕ → TakerShown
new_taker id sources start = record { intake = id; sources = sources; start = start; taken = []; done = false; closed = false }

-- a seat for each of so many sources, in their order, that was not called
pub record AreNewSeats (id : IntakeId) (count : ℕ) (seats : List SeatShown) : Type 0 where
  pub many : length seats ≡ count
  pub each : (s : ℕ) → s < count → slice_get seats s ≡ Some (new_seat id s)

-- these seats are all of one intake
abbrev pub AreSeatsOf : IntakeId → List SeatShown → Type 0
AreSeatsOf id seats = All (λ (p : SeatShown). p.intake ≡ id) seats

-- a source's seat after a row was offered
abbrev pub after_offer : SeatShown → Row → Offer → SeatShown
after_offer p row reply.Accepted = record p { rows = p.rows ++ row ∷ [] }
after_offer p row (reply.Late m) = record p { rows = p.rows ++ row ∷ [] }
after_offer p row (reply.Full back) = p
after_offer p row (reply.Closed back) = record p { met_closed = true }

-- a source's seat after it has finished
abbrev pub after_finish : SeatShown → Finish → SeatShown
after_finish p finish.Finished = record p { finished = true }
after_finish p finish.Full = p
after_finish p finish.Closed = record p { met_closed = true }

-- what a take is answered that moved these entries
abbrev pub IsAnswered : Take → List Entry → Bool → Type 0
IsAnswered (Rows n) moved done = (n ≡ length moved) × (0 < n)
IsAnswered AllDone moved done = (moved ≡ []) × (done ≡ true)
IsAnswered Nothing moved done = (moved ≡ []) × (done ≡ false)

-- What a take tells. The entries that it moved are one more part of those that were taken, which are rightly marked. It is
-- answered that all is done, or that there is nothing yet, only where it moved none.
pub record Takes (t : Take) (moved : List Entry) (old new : TakerShown) : Type 0 where
  pub intake : new.intake ≡ old.intake
  pub sources : new.sources ≡ old.sources
  pub start : new.start ≡ old.start
  pub closed : new.closed ≡ old.closed
  pub taken : new.taken ≡ old.taken ++ moved
  pub marked : IsLegal old.start new.taken
  pub answer : IsAnswered t moved new.done

-- What is known at the end, where these entries were left. What was taken, and then what is left, is a legal journal. Of each
-- source it has the rows that were let in at its seat, in their order, and it has no others. A seat that found the intake
-- closed was told so since the taker has closed. Where the taker was told that all is done, each source has finished, and
-- nothing is left unless a seat was called behind its finish.
pub record IsWhole (taker : TakerShown) (seats : List SeatShown) (left : List Entry) : Type 0 where
  pub marked : IsLegal taker.start (taker.taken ++ left)
  pub rows : (s : ℕ) (p : SeatShown) → slice_get seats s ≡ Some p → rows_of p.source (taker.taken ++ left) ≡ p.rows
  pub theirs : All (λ (e : Entry). e.row.source < taker.sources) (taker.taken ++ left)
  pub warranted : (s : ℕ) (p : SeatShown) → slice_get seats s ≡ Some p → p.met_closed ≡ true → taker.closed ≡ true
  pub finished : taker.done ≡ true → (s : ℕ) (p : SeatShown) → slice_get seats s ≡ Some p → p.finished ≡ true
  pub done : taker.done ≡ true → ((s : ℕ) (p : SeatShown) → slice_get seats s ≡ Some p → p.in_order ≡ true) → left ≡ []

-- a source's seat at its desk: whether the source has told its end, and whether the intake has yet to be told so
pub record SeatedAt : Type 0 where
  pub seat : SeatShown
  pub told : Bool
  pub owes : Bool

-- before the first call
abbrev pub new_desk : SeatShown → SeatedAt
new_desk p = record { seat = p; told = false; owes = false }

-- whether a finish is to be made again
abbrev pub is_owed : Finish → Bool
is_owed finish.Finished = false
is_owed finish.Full = true
is_owed finish.Closed = false

-- an offer is one of the seat, until the source has told its end; from then on nothing is let in
pub record OffersBy (row : Row) (r : Offer) (old new : SeatedAt) : Type 0 where
  pub going : old.told ≡ false → new ≡ record old { seat = after_offer old.seat row r }
  pub over : old.told ≡ true → (r ≡ reply.Closed row) × (new ≡ old)

-- a source tells its end once, which is a finish of the seat; it is owed where there was no room
pub record FinishesBy (old new : SeatedAt) : Type 0 where
  pub going : old.told ≡ false → (f : Finish) × (new ≡ record { seat = after_finish old.seat f; told = true; owes = is_owed f })
  pub over : old.told ≡ true → new ≡ old

-- a finish that is owed is made again; it is settled where none is owed any more
pub record FinishesOwedBy (settled : Bool) (old new : SeatedAt) : Type 0 where
  pub owed : old.owes ≡ true → (old.told ≡ true) × ((f : Finish) × (new ≡ record old { seat = after_finish old.seat f; owes = is_owed f }))
  pub none : old.owes ≡ false → new ≡ old
  pub answer : settled ≡ not new.owes

-- a seat stays that of its intake and its source, and its calls stay in order
pub record IsSameSeat (old new : SeatShown) : Type 0 where
  pub intake : new.intake ≡ old.intake
  pub source : new.source ≡ old.source
  pub in_order : new.in_order ≡ old.in_order
