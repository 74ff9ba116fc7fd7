-- What becomes of the instances of a stream that are given what they come to in a step.
use Rattle.std.specs.Prelude.{ℕ, ◌≡◌, ◌<◌, List, [], ◌∷◌, Option, Some, None, length, slice_get, slice_index_or}
use Rattle.lola_value.specs.declared.value.Outcome.{Outcome}
use Rattle.lola_value.specs.declared.value.Outcome.TheVariants as outcome
use Rattle.lola_instances_one.specs.Holdings.{Holdings}
use Rattle.lola_instances_one.specs.Telling.{AllReady}
use Rattle.lola_instances_stream.specs.Cells.{IsSlotChanged}
use Rattle.lola_instances_stream.specs.Changes.{WasPoisoned, HasTold}

-- an instance was given an outcome in the step of a number, at an offset from the start: a value was added, a fault or poison poisoned it,
-- and where there is none it is as it was
abbrev pub HasGiven : ℕ → ℕ → Outcome → Holdings → Holdings → Type 0
HasGiven step offset (outcome.Value v) x y = HasTold step offset v x y
HasGiven step offset outcome.Missing x y = y ≡ x
HasGiven step offset (outcome.Fault k) x y = WasPoisoned step x y
HasGiven step offset outcome.Poison x y = WasPoisoned step x y

-- each of these instances was given its outcome
abbrev pub AreGiven : ℕ → ℕ → List Holdings → List Outcome → List Holdings → Type 0
AreGiven step offset [] [] [] = Unit {0}
AreGiven step offset (x ∷ xs) (r ∷ rs) (y ∷ ys) = HasGiven step offset r x y × AreGiven step offset xs rs ys
AreGiven step offset _ _ _ = ⊥

-- an instance can be given an outcome
abbrev pub IsReadyFor : ℕ → Outcome → Holdings → Type 0
IsReadyFor offset (outcome.Value v) x = AllReady offset v x.panes
IsReadyFor offset outcome.Missing x = Unit {0}
IsReadyFor offset (outcome.Fault k) x = Unit {0}
IsReadyFor offset outcome.Poison x = Unit {0}

-- each of these can be given its outcome
abbrev pub AreReadyFor : ℕ → List Holdings → List Outcome → Type 0
AreReadyFor offset [] [] = Unit {0}
AreReadyFor offset (x ∷ xs) (r ∷ rs) = IsReadyFor offset r x × AreReadyFor offset xs rs
AreReadyFor offset _ _ = ⊥

-- there is an outcome, and an instance in a cell that can be given it
abbrev pub IsReadyAt : ℕ → Option Outcome → Option Holdings → Type 0
IsReadyAt offset None cell = ⊥
IsReadyAt offset (Some r) None = ⊥
IsReadyAt offset (Some r) (Some x) = IsReadyFor offset r x

-- there is an outcome, and the instance was given it
abbrev pub HasGivenAt : ℕ → ℕ → Option Outcome → Holdings → Holdings → Type 0
HasGivenAt step offset None x y = ⊥
HasGivenAt step offset (Some r) x y = HasGiven step offset r x y

-- there is an outcome for each of these cells, and an instance in it that can be given it
pub record AreCellsReady (offset : ℕ) (outcomes : List Outcome) (cells : List (Option Holdings)) : Type 0 where
  pub count : length outcomes ≡ length cells
  pub each : (i : ℕ) (d : Option Holdings) → i < length cells → IsReadyAt offset (slice_get outcomes i) (slice_index_or cells i d)

-- the instance in each of these cells was given its outcome
pub record AreCellsGiven (step offset : ℕ) (outcomes : List Outcome) (old new : List (Option Holdings)) : Type 0 where
  pub count : length new ≡ length old
  pub each : (i : ℕ) (d : Option Holdings) → i < length old
      → IsSlotChanged (HasGivenAt step offset (slice_get outcomes i)) (slice_index_or old i d) (slice_index_or new i d)
