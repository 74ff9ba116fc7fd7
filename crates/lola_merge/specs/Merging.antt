-- The merge object: what each call answers, and what it changes.
use Rattle.std.specs.Prelude.{◌≡◌, ℕ, ◌<◌, ◌≤◌, Bool, true, false, if◌then◌else◌, nat_lt, nat_le, List, [], ◌∷◌, ◌++◌, length, replicate, slice_index_or, slice_set, Option}
use Rattle.std.specs.List.{list_all}
use Rattle.lola_model.specs.Journal.{opening_time}
use Rattle.lola_model.specs.declared.journal.Row.{Row}
use Rattle.lola_model.specs.declared.journal.Entry.{Entry}
use Rattle.lola_model.specs.declared.journal.Mark.{Mark}
use Rattle.lola_model.specs.declared.journal.Mark.TheVariants as mark
use Rattle.lola_merge.specs.declared.state.Offer.{Offer}
use Rattle.lola_merge.specs.declared.state.Offer.TheVariants.{Accepted, Late, Full, Closed}
use Rattle.lola_merge.specs.declared.state.Take.{Take}
use Rattle.lola_merge.specs.declared.state.Take.TheVariants.{Rows, AllDone, Nothing}

-- the rows that came and are not yet taken, the merged time, for each source whether it has finished, and whether no row is let in
pub record Merging : Type 0 where
  pub pending : List Entry
  pub merged : ℕ
  pub finished : List Bool
  pub closed : Bool

-- how many sources there are, which no call changes
abbrev pub sources_of : Merging → ℕ
sources_of m = length m.finished

-- how many rows can be pending
abbrev pub most_pending : ℕ
most_pending = 1024

-- at first
abbrev pub opening : ℕ → Option ℕ → Merging
opening sources start = record { pending = []; merged = opening_time start; finished = replicate sources false; closed = false }

-- the answer to an offered row: the first that fits
abbrev pub offer_reply : Merging → Row → Offer
offer_reply m row =
    if m.closed then Closed row
    else if nat_le most_pending (length m.pending) then Full row
    else if nat_lt row.stamp m.merged then Late m.merged
    else Accepted

abbrev pub marked : Row → Mark → Entry
marked row m = record { row = row; mark = m }

-- what an answer lets in
abbrev pub let_in : Row → Offer → List Entry
let_in row Accepted = marked row mark.Accepted ∷ []
let_in row (Late m) = marked row (mark.Late m) ∷ []
let_in row (Full r) = []
let_in row (Closed r) = []

-- after an answer: what is let in is pending, behind what was, and an accepted stamp is the merged time
abbrev pub replied : Merging → Row → Offer → Merging
replied m row Accepted = record m { pending = m.pending ++ marked row mark.Accepted ∷ []; merged = row.stamp }
replied m row (Late t) = record m { pending = m.pending ++ marked row (mark.Late t) ∷ [] }
replied m row (Full r) = m
replied m row (Closed r) = m

-- after an offer
abbrev pub offer_after : Merging → Row → Merging
offer_after m row = replied m row (offer_reply m row)

-- when each answer to an offer comes, where it is known whether it is closed, how many rows are pending, and the merged time
abbrev pub OfferIsDue : Bool → ℕ → ℕ → Row → Offer → Type 0
OfferIsDue closed waiting merged row (Closed r) = (r ≡ row) × (closed ≡ true)
OfferIsDue closed waiting merged row (Full r) = (r ≡ row) × (closed ≡ false) × (most_pending ≤ waiting)
OfferIsDue closed waiting merged row (Late t) = (t ≡ merged) × (closed ≡ false) × (waiting < most_pending) × (row.stamp < merged)
OfferIsDue closed waiting merged row Accepted = (closed ≡ false) × (waiting < most_pending) × (merged ≤ row.stamp)

-- the answer where all pending rows are asked for: the first that fits
abbrev pub take_reply : Merging → Take
take_reply m =
    if nat_lt 0 (length m.pending) then Rows (length m.pending)
    else if list_all (λ done. done) m.finished then AllDone
    else Nothing

-- after all pending rows were taken
abbrev pub take_after : Merging → Merging
take_after m = record m { pending = [] }

-- whether a source has finished
abbrev pub has_finished : Merging → ℕ → Bool
has_finished m source = slice_index_or m.finished source false

-- when each of these answers comes, where it is known how many rows are pending, how many sources there are, and which of them have finished
abbrev pub TakeIsDue : ℕ → ℕ → (ℕ → Bool) → Take → Type 0
TakeIsDue waiting sources finished (Rows n) = (n ≡ waiting) × (0 < n)
TakeIsDue waiting sources finished AllDone = (waiting ≡ 0) × ((source : ℕ) → source < sources → finished source ≡ true)
TakeIsDue waiting sources finished Nothing = (waiting ≡ 0) × ((source : ℕ) × (source < sources) × (finished source ≡ false))

-- after a source has finished
abbrev pub finish_after : Merging → ℕ → Merging
finish_after m s = record m { finished = slice_set m.finished s true }

-- after closing
abbrev pub close_after : Merging → Merging
close_after m = record m { closed = true }
