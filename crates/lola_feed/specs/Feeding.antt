-- A source's worker: which rows are still to come of its source, and what a turn of it does.
use Rattle.std.specs.Prelude.{◌≡◌, ◌⊎◌, ◌+◌, ◌-◌, ◌<◌, ℕ, Bool, true, false, IsTrue, [], ◌∷◌, ◌++◌, Option, Some, None, Result, Ok, Err, option_map, length}
use Rattle.std.specs.Option.{option_to_list}
use Rattle.lola_model.specs.declared.journal.Row.{Row}
use Rattle.lola_rows.specs.Reading.{IsRowOf, Passes, Reading, Stops, is_behind_heading, rest_of, size_of}
use Rattle.lola_rows.specs.Rows.{SourceRows}
use Rattle.lola_rows.specs.Steps.{Goes}
use Rattle.lola_rows.specs.declared.answer.Ending.{Ending}
use Rattle.lola_rows.specs.declared.answer.Ending.TheVariants as ending
use Rattle.lola_rows.specs.declared.answer.RowAnswer.{RowAnswer}
use Rattle.lola_rows.specs.declared.answer.RowAnswer.TheVariants as answer
use Rattle.lola_merge.specs.Merging.{Merging, finish_after, offer_after, offer_reply}
use Rattle.lola_merge.specs.declared.state.Offer.{Offer}
use Rattle.lola_merge.specs.declared.state.Offer.TheVariants as reply
use Rattle.lola_feed.specs.declared.worker.SourceEnd.{SourceEnd}
use Rattle.lola_feed.specs.declared.worker.SourceEnd.TheVariants.{End, Malformed, ReadFailed, Closed, Memory}
use Rattle.lola_feed.specs.declared.worker.TurnEnd.{TurnEnd}
use Rattle.lola_feed.specs.declared.worker.TurnEnd.TheVariants as turn

-- a row that comes back is the one that was offered
abbrev pub IsBack : Row → Offer → Type 0
IsBack row reply.Accepted = Unit {0}
IsBack row (reply.Late m) = Unit {0}
IsBack row (reply.Full r) = r ≡ row
IsBack row (reply.Closed r) = r ≡ row

-- a row was let in
abbrev pub IsLetIn : Offer → Type 0
IsLetIn reply.Accepted = Unit {0}
IsLetIn (reply.Late m) = Unit {0}
IsLetIn (reply.Full r) = ⊥
IsLetIn (reply.Closed r) = ⊥

-- a merge object, and the source for which it is called
pub record StateIs : Type 0 where
  pub merging : Merging
  pub source : ℕ

-- an offer at a merge object, by its table
abbrev pub offers_at : Row → Offer → StateIs → StateIs → Type 0
offers_at row r old new = (r ≡ offer_reply old.merging row) × (new ≡ record { merging = offer_after old.merging row; source = old.source })

-- a finish there
abbrev pub finishes_at : StateIs → StateIs → Type 0
finishes_at old new = new ≡ record { merging = finish_after old.merging old.source; source = old.source }

-- a worker: its reader, the row that waits in hand, and how it ended
pub record Working : Type 0 where
  pub reader : Reading
  pub kept : Option Row
  pub end : Option SourceEnd

-- before its first turn
abbrev pub beginning : Reading → Working
beginning reader = record { reader = reader; kept = None; end = None }

-- rows and an end, with a row in front if there is one
abbrev pub led_by : Option Row → SourceRows → SourceRows
led_by row more = record { rows = option_to_list row ++ more.rows; end = more.end }

-- the rows still to come and the end behind them, where the source tells its bytes
abbrev pub to_come : Working → Option SourceRows
to_come w = option_map (led_by w.kept) (rest_of w.reader)

-- what a reader's end is to a worker
abbrev pub end_of : Ending → SourceEnd
end_of ending.End = End
end_of (ending.Malformed kind row) = Malformed kind row
end_of ending.ReadFailed = ReadFailed
end_of ending.Memory = Memory

-- a number of rows without the one that waits
abbrev pub without : Option Row → ℕ → ℕ
without None given = given
without (Some row) given = given - 1

-- a row, or what the answer of a reader that has none is to a worker
abbrev pub row_or_end : RowAnswer → Result Row SourceEnd
row_or_end (answer.Row row) = Ok row
row_or_end answer.End = Err End
row_or_end (answer.Malformed kind row) = Err (Malformed kind row)
row_or_end answer.ReadFailed = Err ReadFailed
row_or_end answer.Memory = Err Memory

-- how many rows were handed in
abbrev pub handed_in : Working → ℕ
handed_in w = without w.kept w.reader.given

-- a bound on the rows still to come
abbrev pub bound_of : Working → ℕ
bound_of w = size_of w.reader + length (option_to_list w.kept)

-- the row that is next of those to come, and the reader then
pub record IsNext (row : Row) (old : Working) (reader : Reading) : Type 0 where
  pub is_row : IsRowOf old.reader.shape (handed_in old) row
  pub passes : Passes (to_come old) (rest_of reader) (row ∷ [])
  pub given : reader.given ≡ row.number
  pub less : size_of reader < bound_of old
  pub count : reader.source.count ≡ old.reader.source.count

-- a row that waits is the last that its reader gave, and a reader has not ended while its worker has not
pub record IsWorking (w : Working) : Type 0 where
  pub waits : (row : Row) → w.kept ≡ Some row → IsRowOf w.reader.shape (w.reader.given - 1) row
  pub given : (row : Row) → w.kept ≡ Some row → w.reader.given ≡ row.number
  pub going : w.end ≡ None → w.reader.ended ≡ None

-- the next row of a worker that has not ended, or how it ended since its reader did
abbrev pub NextRow : Result Row SourceEnd → Working → Working → Type 0
NextRow (Ok row) old new = IsNext row old new.reader × (new.kept ≡ None) × (new.end ≡ None)
NextRow (Err end) old new = (how : Ending) × (end ≡ end_of how) × (old.kept ≡ None) × Stops how old.reader new.reader × (new.kept ≡ None) × (new.end ≡ Some end)

-- what became of a row that was offered, by the answer of the turn
abbrev pub Offers : {D : Type 0} → (Row → Offer → D → D → Type 0) → Row → D → D → TurnEnd → Working → Type 0
Offers offers row d0 d1 turn.Moved new = (r : Offer) × IsLetIn r × offers row r d0 d1 × (new.kept ≡ None) × (new.end ≡ None)
Offers offers row d0 d1 turn.Full new = offers row (reply.Full row) d0 d1 × (new.kept ≡ Some row) × (new.end ≡ None)
Offers offers row d0 d1 (turn.Done end) new = (end ≡ Closed) × offers row (reply.Closed row) d0 d1 × (new.kept ≡ None) × (new.end ≡ Some end)

module _ {D : Type 0} (offers : Row → Offer → D → D → Type 0) (finishes : D → D → Type 0) (d0 d1 : D) where
  -- the next row was let in
  pub record Moves (row : Row) (r : Offer) (old new : Working) : Type 0 where
    pub next : IsNext row old new.reader
    pub let_in : IsLetIn r
    pub offered : offers row r d0 d1
    pub kept : new.kept ≡ None
    pub end : new.end ≡ None

  -- the next row met a full desk, and waits
  pub record Waits (row : Row) (old new : Working) : Type 0 where
    pub next : IsNext row old new.reader
    pub offered : offers row (reply.Full row) d0 d1
    pub kept : new.kept ≡ Some row
    pub end : new.end ≡ None

  -- the next row met a closed desk
  pub record IsShut (row : Row) (old new : Working) : Type 0 where
    pub next : IsNext row old new.reader
    pub offered : offers row (reply.Closed row) d0 d1
    pub kept : new.kept ≡ None
    pub end : new.end ≡ Some Closed

  -- the reader had no row, and the desk was told
  pub record Finishes (how : Ending) (old new : Working) : Type 0 where
    pub none : old.kept ≡ None
    pub stops : Stops how old.reader new.reader
    pub finished : finishes d0 d1
    pub kept : new.kept ≡ None
    pub end : new.end ≡ Some (end_of how)

  -- the next row waits, and was not offered
  pub record Holds (row : Row) (old new : Working) : Type 0 where
    pub next : IsNext row old new.reader
    pub desk : d1 ≡ d0
    pub kept : new.kept ≡ Some row
    pub end : new.end ≡ None

  -- a worker that has ended calls nothing
  pub record Rests (end : SourceEnd) (old new : Working) : Type 0 where
    pub ended : old.end ≡ Some end
    pub same : new ≡ old
    pub desk : d1 ≡ d0

  -- a turn, by its answer
  abbrev pub Turns : TurnEnd → Working → Working → Type 0
  Turns turn.Moved old new = (old.end ≡ None) × ((row : Row) × (r : Offer) × Moves row r old new)
  Turns turn.Full old new = (old.end ≡ None) × ((row : Row) × Waits row old new)
  Turns (turn.Done end) old new =
      Rests end old new
      ⊎ ((old.end ≡ None) × (((end ≡ Closed) × ((row : Row) × IsShut row old new)) ⊎ ((how : Ending) × (end ≡ end_of how) × Finishes how old new)))

  -- a look at the next row, by the stamp that it answers: the row waits, or the worker has ended
  abbrev pub Looks : Option ℕ → Working → Working → Type 0
  Looks (Some stamp) old new = (old.end ≡ None) × ((row : Row) × (row.stamp ≡ stamp) × Holds row old new)
  Looks None old new = ((end : SourceEnd) × Rests end old new) ⊎ ((old.end ≡ None) × ((how : Ending) × Finishes how old new))

  -- the heading stands behind, and no row was read
  pub record GoesOn (old new : Working) : Type 0 where
    pub going : old.end ≡ None
    pub goes : Goes old.reader new.reader
    pub behind : old.kept ≡ None → IsTrue (is_behind_heading new.reader.stage)
    pub desk : d1 ≡ d0
    pub kept : new.kept ≡ old.kept
    pub end : new.end ≡ None

  -- the heading was asked for: the worker goes on, or has ended
  abbrev pub Begun : Bool → Working → Working → Type 0
  Begun true old new = GoesOn old new
  Begun false old new = Looks None old new
