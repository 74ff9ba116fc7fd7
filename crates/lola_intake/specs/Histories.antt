-- A history of the merge object under the lock: each call of each caller, in the order of their turns.
-- Caller 0 is the engine, and caller s + 1 is the source s.
use Rattle.std.specs.Prelude.{◌≡◌, ℕ, ◌+◌, ◌-◌, ◌≤◌, ◌==◌, Bool, true, false, if◌then◌else◌, List, [], ◌∷◌, ◌++◌, length}
use Rattle.lola_intake.specs.declared.view.Turn.{Turn}
use Rattle.lola_intake.specs.Turns.{Reached}
use Rattle.lola_model.specs.Journal.{opening_time, merged_from}
use Rattle.lola_model.specs.declared.journal.Row.{Row}
use Rattle.lola_model.specs.declared.journal.Entry.{Entry}
use Rattle.lola_merge.specs.declared.state.Offer.{Offer}
use Rattle.lola_merge.specs.declared.state.Offer.TheVariants as reply
use Rattle.lola_merge.specs.declared.state.Take.{Take}
use Rattle.lola_merge.specs.declared.state.Take.TheVariants.{Rows, AllDone, Nothing}
use Rattle.lola_merge.specs.Merging.{Merging, opening, offer_reply, offer_after, take_reply, take_after, finish_after, close_after, let_in, OfferIsDue, TakeIsDue}
use Rattle.lola_intake.specs.declared.event.Setting.{Setting}
use Rattle.lola_intake.specs.declared.event.Event.{Event}
use Rattle.lola_intake.specs.declared.event.Event.TheVariants.{Offered, Finished, Took, Closed}

-- how the merge object is at first
abbrev pub Begins : Setting → Merging → Type 0
Begins k m = m ≡ opening k.sources k.start

-- which caller may make a call, what is answered, and what it changes
abbrev pub Does : ℕ → Event → Merging → Merging → Type 0
Does by (Offered row r) m n = (by ≡ row.source + 1) × (r ≡ offer_reply m row) × (n ≡ offer_after m row)
Does by (Finished s) m n = (by ≡ s + 1) × (n ≡ finish_after m s)
Does by (Took t rows) m n = (by ≡ 0) × (t ≡ take_reply m) × (rows ≡ m.pending) × (n ≡ take_after m)
Does by Closed m n = (by ≡ 0) × (n ≡ close_after m)

abbrev pub Changes : Merging → Turn Event → Merging → Type 0
Changes m turn n = Does turn.by turn.event m n

-- each answer is the merge object's after the calls before it
abbrev pub IsLegal : Setting → List (Turn Event) → Type 0
IsLegal k history = (m : Merging) × Reached Begins Changes k history m

-- the calls, whoever made them
abbrev pub events : List (Turn Event) → List Event
events [] = []
events (turn ∷ turns) = turn.event ∷ events turns

-- the rows that were let in, with their marks
abbrev pub entries : List Event → List Entry
entries [] = []
entries (Offered row r ∷ es) = let_in row r ++ entries es
entries (Finished s ∷ es) = entries es
entries (Took t rows ∷ es) = entries es
entries (Closed ∷ es) = entries es

-- the rows that were taken
abbrev pub taken : List Event → List Entry
taken [] = []
taken (Offered row r ∷ es) = taken es
taken (Finished s ∷ es) = taken es
taken (Took t rows ∷ es) = rows ++ taken es
taken (Closed ∷ es) = taken es

-- the entries of one source
abbrev pub entries_of : ℕ → List Entry → List Entry
entries_of source [] = []
entries_of source (e ∷ es) = if e.row.source == source then e ∷ entries_of source es else entries_of source es

-- how many rows are pending
abbrev pub waiting : List Event → ℕ
waiting es = length (entries es) - length (taken es)

-- whether somebody closed
abbrev pub has_close : List Event → Bool
has_close [] = false
has_close (Offered row r ∷ es) = has_close es
has_close (Finished s ∷ es) = has_close es
has_close (Took t rows ∷ es) = has_close es
has_close (Closed ∷ es) = true

-- whether this source finished
abbrev pub has_finish : List Event → ℕ → Bool
has_finish [] source = false
has_finish (Offered row r ∷ es) source = has_finish es source
has_finish (Finished s ∷ es) source = if s == source then true else has_finish es source
has_finish (Took t rows ∷ es) source = has_finish es source
has_finish (Closed ∷ es) source = has_finish es source

-- a row that is not let in comes back
abbrev pub IsBack : Offer → Row → Type 0
IsBack reply.Accepted row = Unit {0}
IsBack (reply.Late m) row = Unit {0}
IsBack (reply.Full r) row = r ≡ row
IsBack (reply.Closed r) row = r ≡ row

-- the answer to an offer has its cause in the calls before it
abbrev pub OfferIsCaused : Setting → List Event → Row → Offer → Type 0
OfferIsCaused k before row r = OfferIsDue (has_close before) (waiting before) (merged_from (opening_time k.start) (entries before)) row r

-- so has the answer to a take
abbrev pub TakeIsCaused : Setting → List Event → Take → Type 0
TakeIsCaused k before t = TakeIsDue (waiting before) k.sources (has_finish before) t

-- the merged times that answers told
abbrev pub told_in : Row → Offer → List ℕ
told_in row reply.Accepted = row.stamp ∷ []
told_in row (reply.Late m) = m ∷ []
told_in row (reply.Full r) = []
told_in row (reply.Closed r) = []

abbrev pub times : List Event → List ℕ
times [] = []
times (Offered row r ∷ es) = told_in row r ++ times es
times (Finished s ∷ es) = times es
times (Took t rows ∷ es) = times es
times (Closed ∷ es) = times es

-- none is below one before it, and none is below m
abbrev pub Rises : ℕ → List ℕ → Type 0
Rises m [] = Unit {0}
Rises m (t ∷ ts) = (m ≤ t) × Rises t ts

-- the last take was answered that all is done; done says so of a take before these calls
abbrev pub EndsDone : List Event → Bool → Type 0
EndsDone [] done = done ≡ true
EndsDone (Offered row r ∷ es) done = EndsDone es done
EndsDone (Finished s ∷ es) done = EndsDone es done
EndsDone (Took AllDone rows ∷ es) done = EndsDone es true
EndsDone (Took (Rows n) rows ∷ es) done = EndsDone es false
EndsDone (Took Nothing rows ∷ es) done = EndsDone es false
EndsDone (Closed ∷ es) done = EndsDone es done

-- the last call is the only finish
abbrev pub FinishesLast : List Event → Type 0
FinishesLast [] = ⊥
FinishesLast (Offered row r ∷ es) = FinishesLast es
FinishesLast (Finished s ∷ es) = es ≡ []
FinishesLast (Took t rows ∷ es) = FinishesLast es
FinishesLast (Closed ∷ es) = FinishesLast es
