-- What seats show, what a call tells, and what is known at the end.
use Rattle.std.specs.Prelude.{◌≡◌, ℕ, ◌+◌, ◌<◌, ◌⊎◌, nat_lt, Bool, true, false, if◌then◌else◌, List, [], ◌∷◌, ◌++◌, length, Option, Some, slice_get, All}
use Rattle.atomic_table.specs.Seated.{TableId}
use Rattle.lola_model.specs.Journal.{opening_time, time_after, merged_from, IsLegal, rows_of}
use Rattle.lola_model.specs.declared.journal.Row.{Row}
use Rattle.lola_model.specs.declared.journal.Entry.{Entry}
use Rattle.lola_model.specs.declared.journal.Mark.{Mark}
use Rattle.lola_model.specs.declared.journal.Mark.TheVariants as mark
use Rattle.lola_merge.specs.Merging.{Merging, marked, sources_of, has_finished, offer_after, finish_after, TakeIsDue}
use Rattle.lola_merge.specs.declared.state.Take.{Take}
use Rattle.lola_queue_intake.specs.declared.item.Item.{Item}
use Rattle.lola_queue_intake.specs.declared.item.Item.TheVariants as item
use Rattle.lola_queue_intake.specs.declared.answer.Push.{Push}
use Rattle.lola_queue_intake.specs.declared.answer.Push.TheVariants as push
use Rattle.lola_feed.specs.declared.intake.Finish.{Finish}
use Rattle.lola_feed.specs.declared.intake.Finish.TheVariants as finish
use Rattle.lola_queue_intake.specs.declared.delivery.Known.{Known}
use Rattle.lola_queue_intake.specs.Deliveries.{most_items, items_of, rows_in, has_finish}

-- which intake it is: its queue, and its closing word
pub record IntakeId : Type 0 where
  pub queue : TableId
  pub word : TableId

-- A source's seat shows of which intake and source it is, the rows that it queued, whether it has finished, how many of its
-- looks at the closing word found 1, and how many of its pushes found the queue full.
pub record SourceShown : Type 0 where
  pub intake : IntakeId
  pub source : ℕ
  pub queued : List Row
  pub finished : Bool
  pub closed : ℕ
  pub full : ℕ

-- The taker's seat shows of which intake it is, how many sources that has and from when on, the items that it popped, how many
-- of its pops found the queue empty, and whether it has closed.
pub record TakerShown : Type 0 where
  pub intake : IntakeId
  pub sources : ℕ
  pub start : Option ℕ
  pub popped : List Item
  pub empty : ℕ
  pub closed : Bool

abbrev pub source_shown : TableId → TableId → ℕ → List Item → ℕ → ℕ → SourceShown
source_shown queue word source mine closed full = record {
  intake = record { queue = queue; word = word };
  source = source;
  queued = rows_in mine;
  finished = has_finish mine;
  closed = closed;
  full = full;
}

abbrev pub taker_shown : TableId → TableId → ℕ → Option ℕ → List Item → ℕ → Bool → TakerShown
taker_shown queue word sources start popped empty closed = record {
  intake = record { queue = queue; word = word };
  sources = sources;
  start = start;
  popped = popped;
  empty = empty;
  closed = closed;
}

-- a source's seat before its first call
abbrev pub new_source : IntakeId → ℕ → SourceShown
new_source id source = record { intake = id; source = source; queued = []; finished = false; closed = 0; full = 0 }

-- the taker's at first
abbrev pub new_taker : IntakeId → ℕ → Option ℕ → TakerShown
new_taker id sources start = record { intake = id; sources = sources; start = start; popped = []; empty = 0; closed = false }

-- these seats are all of one intake
abbrev pub AreSeatsOf : IntakeId → List SourceShown → Type 0
AreSeatsOf id [] = Unit {0}
AreSeatsOf id (seat ∷ seats) = (seat.intake ≡ id) × AreSeatsOf id seats

-- a row that is popped at this merged time, with its mark
abbrev pub mark_at : ℕ → Row → Mark
mark_at merged row = if nat_lt row.stamp merged then mark.Late merged else mark.Accepted

abbrev pub entry_at : ℕ → Row → Entry
entry_at merged row = marked row (mark_at merged row)

-- the rows among popped items, each marked by the merged time at its pop
abbrev pub entries : ℕ → List Item → List Entry
entries merged [] = []
entries merged (item.Row row ∷ xs) = entry_at merged row ∷ entries (time_after merged (entry_at merged row)) xs
entries merged (item.Finish source ∷ xs) = entries merged xs

-- the entries that the taker took
abbrev pub taken : TakerShown → List Entry
taken t = entries (opening_time t.start) t.popped

-- whether the finish of this source was popped
abbrev pub has_popped_finish : TakerShown → ℕ → Bool
has_popped_finish t source = has_finish (items_of source t.popped)

-- the finish of each source was popped
abbrev pub HasPoppedAll : TakerShown → Type 0
HasPoppedAll t = (source : ℕ) → source < t.sources → has_popped_finish t source ≡ true

-- a source's seat after a push
abbrev pub after_push : SourceShown → Row → Push → SourceShown
after_push p row push.Queued = record p { queued = p.queued ++ row ∷ [] }
after_push p row (push.Full back) = record p { full = p.full + 1 }
after_push p row (push.Closed back) = record p { closed = p.closed + 1 }

-- a row that was not queued comes back
abbrev pub IsBack : Row → Push → Type 0
IsBack row push.Queued = Unit {0}
IsBack row (push.Full back) = back ≡ row
IsBack row (push.Closed back) = back ≡ row

-- the seat is of the same intake and source, and has finished where it had
abbrev pub IsSameSeat : SourceShown → SourceShown → Type 0
IsSameSeat old new = (new.intake ≡ old.intake) × (new.source ≡ old.source) × (new.finished ≡ old.finished)

-- a source's seat after a finish
abbrev pub after_finish : SourceShown → Finish → SourceShown
after_finish p finish.Finished = record p { finished = true }
after_finish p finish.Full = record p { full = p.full + 1 }
after_finish p finish.Closed = record p { closed = p.closed + 1 }

-- What a take tells. The entries that it moved are one more part of those that the taker took, and the taker popped the items
-- that have them. The answer is the first that fits: some row was moved, each finish was popped, or neither. Where fewer
-- entries than there is room for were moved, and not each finish was popped before, a pop found the queue empty. Where each
-- finish was popped before, nothing is popped.
pub record Took (t : Take) (moved : List Entry) (old new : TakerShown) : Type 0 where
  pub intake : new.intake ≡ old.intake
  pub sources : new.sources ≡ old.sources
  pub start : new.start ≡ old.start
  pub closed : new.closed ≡ old.closed
  pub popped : (more : List Item) × (new.popped ≡ old.popped ++ more)
  pub took : taken new ≡ taken old ++ moved
  pub marked : IsLegal old.start (taken new)
  pub answer : TakeIsDue (length moved) old.sources (has_popped_finish new) t
  pub stopped : HasPoppedAll old ⊎ ((length moved ≡ most_items) × (new.empty ≡ old.empty)) ⊎ (new.empty ≡ old.empty + 1)
  pub done : HasPoppedAll old → new ≡ old

-- What is known at the end, where these entries were left. What was taken, and then what is left, is a legal journal. Of each
-- source it has the rows that its seat queued, in their order, and it has no others. Where a look of a source found the closing
-- word 1, the taker has closed. Where the taker had popped each finish, each source has finished, and nothing is left.
pub record Whole (taker : TakerShown) (seats : List SourceShown) (left : List Entry) : Type 0 where
  pub legal : IsLegal taker.start (taken taker ++ left)
  pub rows : (s : ℕ) (p : SourceShown) → slice_get seats s ≡ Some p → rows_of p.source (taken taker ++ left) ≡ p.queued
  pub theirs : All (λ (e : Entry). e.row.source < taker.sources) (taken taker ++ left)
  pub warranted : (s : ℕ) (p : SourceShown) → slice_get seats s ≡ Some p → 0 < p.closed → taker.closed ≡ true
  pub finished : HasPoppedAll taker → (s : ℕ) (p : SourceShown) → slice_get seats s ≡ Some p → p.finished ≡ true
  pub done : HasPoppedAll taker → left ≡ []

-- The taker's own merge object stands for the items that it popped: of their entries these are done and the rest is pending, the
-- merged time is theirs, and the sources have finished whose finish is among them.
pub record Mirrors (start : Option ℕ) (popped : List Item) (done : List Entry) (m : Merging) : Type 0 where
  pub pending : entries (opening_time start) popped ≡ done ++ m.pending
  pub merged : m.merged ≡ merged_from (opening_time start) (entries (opening_time start) popped)
  pub finished : (source : ℕ) → source < sources_of m → has_finished m source ≡ has_finish (items_of source popped)
  pub closed : m.closed ≡ false

-- what the taker knows of a source that came back is what the source's seat shows
abbrev pub AgreesWith : Known → SourceShown → Type 0
AgreesWith k p = (k.source ≡ p.source) × (rows_in k.queued ≡ p.queued) × (has_finish k.queued ≡ p.finished)

-- the merge object after an item
abbrev pub after_item : Merging → Item → Merging
after_item m (item.Row row) = offer_after m row
after_item m (item.Finish source) = finish_after m source
