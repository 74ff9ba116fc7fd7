-- The rule of the queue.
-- What was ever queued is what was popped and then what the queue holds. Of each source it has the items that the source queued, in their order.
use Rattle.std.specs.Prelude.{◌≡◌, ℕ, ◌+◌, ◌<◌, ◌≤◌, ◌==◌, Bool, true, false, if◌then◌else◌, List, [], ◌∷◌, ◌++◌, length, Some, slice_get}
use mathlib.Core.Option.{some}
use lib.ListN.{get_elem?}
use Rattle.lola_model.specs.declared.journal.Row.{Row}
use Rattle.lola_queue_intake.specs.declared.item.Item.{Item}
use Rattle.lola_queue_intake.specs.declared.item.Item.TheVariants as item
use Rattle.lola_queue_intake.specs.declared.delivery.Role.{Role}
use Rattle.lola_queue_intake.specs.declared.delivery.Role.TheVariants.{Taker, Source, Returned}
use Rattle.lola_queue_intake.specs.declared.delivery.Known.{Known}
use Rattle.lola_queue_intake.specs.declared.delivery.View.{View}

-- how many items the queue has room for
abbrev pub most_items : ℕ
most_items = 1024

-- the sum of a number of each
abbrev pub total : {A : Type 0} → (A → ℕ) → List A → ℕ
total f [] = 0
total f (x ∷ xs) = f x + total f xs

-- whose item it is
abbrev pub source_of : Item → ℕ
source_of (item.Row row) = row.source
source_of (item.Finish source) = source

-- the items of one source, in order
abbrev pub items_of : ℕ → List Item → List Item
items_of source [] = []
items_of source (x ∷ xs) = if source_of x == source then x ∷ items_of source xs else items_of source xs

-- the rows among items, in order
abbrev pub rows_in : List Item → List Row
rows_in [] = []
rows_in (item.Row row ∷ xs) = row ∷ rows_in xs
rows_in (item.Finish source ∷ xs) = rows_in xs

-- whether there is a finish among items
abbrev pub has_finish : List Item → Bool
has_finish [] = false
has_finish (item.Row row ∷ xs) = has_finish xs
has_finish (item.Finish source ∷ xs) = true

-- where there is a finish, it is the last item
abbrev pub FinishesLast : List Item → Type 0
FinishesLast [] = Unit {0}
FinishesLast (item.Row row ∷ xs) = FinishesLast xs
FinishesLast (item.Finish source ∷ xs) = xs ≡ []

-- how many items the sources queued that came back
abbrev pub items_of_known : List Known → ℕ
items_of_known known = total (λ k. length k.queued) known

-- one of a pass of a source
abbrev pub source_passes : Role → ℕ
source_passes Taker = 0
source_passes (Source source) = 1
source_passes Returned = 0

-- how many items are queued by whom a pass answers for: a source for itself, and the taker for those that came back
abbrev pub answers_for : Role → List Item → List Known → ℕ
answers_for Taker mine known = items_of_known known
answers_for (Source source) mine known = length mine
answers_for Returned mine known = 0

-- the taker's pass at first
abbrev pub taker : View
taker = record { role = Taker; mine = []; made = 0; known = [] }

-- the taker makes the pass of one more source
abbrev pub with_source_made : View → View
with_source_made v = record v { made = v.made + 1 }

-- the pass that it makes, of the source with the next number
abbrev pub pass_made : View → View
pass_made v = record { role = Source v.made; mine = []; made = 0; known = [] }

-- the number of a source
abbrev pub number_of : Role → ℕ
number_of Taker = 0
number_of (Source source) = source
number_of Returned = 0

-- what the taker knows of a source that came back
abbrev pub known_of : View → Known
known_of v = record { source = number_of v.role; queued = v.mine }

-- the taker takes a source's pass back
abbrev pub with_returned : View → View → View
with_returned v w = record v { known = v.known ++ known_of w ∷ [] }

-- what is left of it
abbrev pub spent : View
spent = record { role = Returned; mine = []; made = 0; known = [] }

-- after it has queued or popped this item
abbrev pub with_item : View → Item → View
with_item v x = record v { mine = v.mine ++ x ∷ [] }

-- after it has queued or popped these items
abbrev pub with_items : View → List Item → View
with_items v xs = record v { mine = v.mine ++ xs }

-- What holds of the pass i, where these items were ever queued and these popped
pub record IsViewOf (all popped : List Item) (made : ℕ) (known : List Known) (seat : ℕ → ℕ) (i : ℕ) (v : View) : Type 0 where
  pub source : (s : ℕ) → v.role ≡ Source s → (seat s ≡ i) × (s < made) × (items_of s all ≡ v.mine)
  pub with_returned : v.role ≡ Taker → (i ≡ 0) × (v.mine ≡ popped) × (v.made ≡ made) × (v.known ≡ known)
  pub first : i ≡ 0 → v.role ≡ Taker

-- The rule. The pass of the source s is `seat s`, or the taker's, which is the pass 0, once that has it back. All that was
-- queued is of the sources that were made, and what they answer for. Of each source a finish is the last item.
pub record Delivers (items : List Item) (views : List View) : Type 0 where
  pub all : List Item
  pub popped : List Item
  pub made : ℕ
  pub known : List Known
  pub seat : ℕ → ℕ
  pub split : all ≡ popped ++ items
  pub fits : length items ≤ most_items
  pub theirs : (s : ℕ) → made ≤ s → items_of s all ≡ []
  pub last : (s : ℕ) → FinishesLast (items_of s all)
  pub living : total (λ v. source_passes v.role) views + length known ≡ made
  pub counted : total (λ v. answers_for v.role v.mine v.known) views ≡ length all
  pub each_known : (j : ℕ) (k : Known) → slice_get known j ≡ Some k → (seat k.source ≡ 0) × (k.source < made) × (items_of k.source all ≡ k.queued)
  pub each_pass : (i : ℕ) (v : View) → get_elem? views i ≡ some v → IsViewOf all popped made known seat i v

-- What a pop tells the taker: the item is one more of those that it popped. Where all sources came back, it had not popped all that they queued.
abbrev pub AfterPop : View → Item → View → Type 0
AfterPop v x w = (w ≡ with_item v x) × (length v.known ≡ v.made → length v.mine < items_of_known v.known)

-- What the taker learns of the items that the queue holds: with those that it popped they are all that was queued
pub record Accounts (v : View) (items : List Item) : Type 0 where
  pub theirs : (s : ℕ) → v.made ≤ s → items_of s (v.mine ++ items) ≡ []
  pub last : (s : ℕ) → FinishesLast (items_of s (v.mine ++ items))
  pub known : (j : ℕ) (k : Known) → slice_get v.known j ≡ Some k → (k.source < v.made) × (items_of k.source (v.mine ++ items) ≡ k.queued)
  pub room : length v.known ≡ v.made → items_of_known v.known ≤ length v.mine + most_items
