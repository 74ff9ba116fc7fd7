-- Lists of rows that are taken from the front.
use Rattle.std.specs.Prelude.{◌≡◌, ◌<◌, ℕ, List, [], ◌∷◌, length, slice_get, slice_set, Some}
use Rattle.lola_model.specs.declared.journal.Row.{Row}
use Rattle.lola_merge.specs.Interleaving.{list_of}

-- the list at this place has no row, and nothing changed
abbrev pub PopsNone : List (List Row) → ℕ → List (List Row) → Type 0
PopsNone old at new = (list_of old at ≡ []) × (new ≡ old)

-- the row was the first of the list at this place, and is gone from it
abbrev pub PopsRow : List (List Row) → ℕ → Row → List (List Row) → Type 0
PopsRow old at row new = (list_of old at ≡ row ∷ list_of new at) × (new ≡ slice_set old at (list_of new at))

-- the queue at this place is there and has room for a row
abbrev pub HasSpare : {Q : Type 0} → (Q → ℕ) → (Q → ℕ) → List Q → ℕ → Type 0
HasSpare {Q} len room queues at = (at < length queues) × ((queue : Q) → slice_get queues at ≡ Some queue → len queue < room queue)
