-- Every order in which sources and the taker of their rows can take turns at the merge object.
use Rattle.std.specs.Prelude.{◌≡◌, ◌≢◌, ◌≤◌, ◌<◌, ℕ, Bool, true, false, List, [], ◌∷◌, ◌++◌, length, slice_index_or, slice_set, Option}
use Rattle.lola_model.specs.Journal.{opening_time, merged_from, IsLegal, rows_of}
use Rattle.lola_model.specs.declared.journal.Row.{Row}
use Rattle.lola_model.specs.declared.journal.Entry.{Entry}
use Rattle.lola_merge.specs.declared.state.Offer.{Offer}
use Rattle.lola_merge.specs.declared.state.Offer.TheVariants.{Accepted, Late, Full, Closed}
use Rattle.lola_merge.specs.declared.world.Actor.{Actor}
use Rattle.lola_merge.specs.declared.world.Actor.TheVariants.{Source, Engine}
use Rattle.lola_merge.specs.Merging.{Merging, opening, offer_reply, replied, take_after, finish_after, most_pending}

-- the rows still to come of each source, the merge object, and what was taken of it
pub record Situation : Type 0 where
  pub to_come : List (List Row)
  pub merging : Merging
  pub taken : List Entry

-- at first, where these rows are to come
abbrev pub beginning : List (List Row) → Option ℕ → Situation
beginning lists start = record { to_come = lists; merging = opening (length lists) start; taken = [] }

-- the list of one source, which is empty where there is no such source
abbrev pub list_of : List (List Row) → ℕ → List Row
list_of lists source = slice_index_or lists source []

-- after a source's first row was answered: it is to come no more, unless there was no room for it
abbrev pub after_reply : Situation → ℕ → Row → List Row → Offer → Situation
after_reply w source row rows (Full r) = w
after_reply w source row rows Accepted = record w { to_come = slice_set w.to_come source rows; merging = replied w.merging row Accepted }
after_reply w source row rows (Late t) = record w { to_come = slice_set w.to_come source rows; merging = replied w.merging row (Late t) }
after_reply w source row rows (Closed r) = record w { to_come = slice_set w.to_come source rows; merging = replied w.merging row (Closed r) }

-- after a source's turn: it offers its first row to come, or else it has finished
abbrev pub after_source : Situation → ℕ → List Row → Situation
after_source w source [] = record w { merging = finish_after w.merging source }
after_source w source (row ∷ rows) = after_reply w source row rows (offer_reply w.merging row)

-- after a turn
abbrev pub after_turn : Situation → Actor → Situation
after_turn w (Source source) = after_source w source (list_of w.to_come source)
after_turn w Engine = record w { merging = take_after w.merging; taken = w.taken ++ w.merging.pending }

-- after a list of turns
abbrev pub run : Situation → List Actor → Situation
run w [] = w
run w (actor ∷ actors) = run (after_turn w actor) actors

-- whether the turn changed anything
abbrev pub Changed : Bool → Situation → Situation → Type 0
Changed true old new = new ≢ old
Changed false old new = new ≡ old

-- the actor is the taker or one of the sources
abbrev pub IsActor : Situation → Actor → Type 0
IsActor w (Source source) = source < length w.to_come
IsActor w Engine = Unit {0}

-- the rows are of this source
abbrev pub AreOf : ℕ → List Row → Type 0
AreOf source [] = Unit {0}
AreOf source (row ∷ rows) = (row.source ≡ source) × AreOf source rows

-- each row stands in the list of its source
abbrev pub StandRight : List (List Row) → Type 0
StandRight lists = (source : ℕ) → AreOf source (list_of lists source)

-- What holds where these lists were to come at first. What was taken and then what is pending is a legal journal;
-- its rows of a source, and then those that are to come of it, are that source's list; what is pending fits;
-- the merged time is that of the journal; and nobody closed.
pub record Interleaves (lists : List (List Row)) (start : Option ℕ) (w : Situation) : Type 0 where
  pub legal : IsLegal start (w.taken ++ w.merging.pending)
  pub rows : (source : ℕ) → rows_of source (w.taken ++ w.merging.pending) ++ list_of w.to_come source ≡ list_of lists source
  pub fits : length w.merging.pending ≤ most_pending
  pub time : merged_from (opening_time start) (w.taken ++ w.merging.pending) ≡ w.merging.merged
  pub not_closed : w.merging.closed ≡ false

-- whatever the lists, the start and the order of turns
abbrev pub EveryOrderInterleaves : Type 0
EveryOrderInterleaves = (lists : List (List Row)) (start : Option ℕ) (actors : List Actor) → StandRight lists → Interleaves lists start (run (beginning lists start) actors)
