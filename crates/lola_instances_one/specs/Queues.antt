-- A queue of births, in the order of their next deadlines.
use Rattle.std.specs.Prelude.{ℕ, ◌≡◌, ◌≤◌, ◌<◌, ◌+◌, List, All, map, nat_eq, length, count_by, slice_index_or}
use Rattle.std.specs.List.{remove}
use Rattle.std.specs.List.Sorted.{IsNonDecreasingBy}
use Rattle.lola_value.specs.Ratio.{Ratio}
use Rattle.lola_model.specs.StepOrder.{AreRates}
use Rattle.lola_instances_one.specs.declared.queue.Birth.{Birth}
use Rattle.lola_instances_one.specs.Moments.{due_at}

abbrev pub births_of : List Birth → List ℕ
births_of queue = map (λ (e : Birth). e.born) queue

abbrev pub AreInOrder : List Birth → Type 0
AreInOrder queue = IsNonDecreasingBy (λ (e : Birth). e.due) queue

-- from a moment on until it is due, a birth's deadline is the next of its instance
pub record IsEntry (rates : List Ratio) (passed : ℕ) (e : Birth) : Type 0 where
  pub are : AreRates rates
  pub next : (from : ℕ) → passed ≤ from → from ≤ e.due → due_at rates e.born from ≡ e.due

pub record IsQueue (rates : List Ratio) (passed : ℕ) (queue : List Birth) : Type 0 where
  pub order : AreInOrder queue
  pub entries : All (IsEntry rates passed) queue

-- how many of the births are at a moment
abbrev pub births_at : ℕ → List ℕ → ℕ
births_at b bs = count_by (λ x. nat_eq x b) bs

-- the same births, in some order
pub record HasBirths (births : List ℕ) (queue : List ℕ) : Type 0 where
  pub many : length births ≡ length queue
  pub same : (b : ℕ) → births_at b births ≡ births_at b queue

-- a birth at this time was taken out
pub record IsWithout (born : ℕ) (old new : List Birth) : Type 0 where
  pub place : ℕ
  pub within : place < length old
  pub is : (d : Birth) → (slice_index_or old place d).born ≡ born
  pub rest : new ≡ remove old place

-- the births and the queue of instances, with room for so many more
pub record IsTimetable (rates : List Ratio) (passed : ℕ) (births : List ℕ) (queue : List Birth) (room births_capacity queue_capacity : ℕ) : Type 0 where
  pub right : IsQueue rates passed queue
  pub same : HasBirths births (births_of queue)
  pub in_births : length births + room ≤ births_capacity
  pub in_queue : length queue + room ≤ queue_capacity
