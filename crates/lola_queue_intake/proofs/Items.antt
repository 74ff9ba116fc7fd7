-- The items of each source.
use Rattle.std.proofs.Common.{◌≡◌, ◌≢◌, ℕ, true, false, true≢false, List, [], ◌∷◌, ◌++◌, cond, sym, refl, ap, ◌∙◌, append-nil, eqb, eq-eqb, ne_eqb}
use Rattle.lola_queue_intake.specs.declared.item.Item.{Item}
use Rattle.lola_queue_intake.specs.declared.item.Item.TheVariants as item
use Rattle.lola_queue_intake.specs.Deliveries.{source_of, items_of, has_finish, FinishesLast}

pub items_of-append : (s : ℕ) (xs ys : List Item) → items_of s (xs ++ ys) ≡ items_of s xs ++ items_of s ys
items_of-append s [] ys = refl
items_of-append s (x ∷ xs) ys = elim (eqb (source_of x) s) as (λ b. cond b (x ∷ items_of s (xs ++ ys)) (items_of s (xs ++ ys)) ≡ cond b (x ∷ items_of s xs) (items_of s xs) ++ items_of s ys)
    [ true ↦ ap (λ l. x ∷ l) (items_of-append s xs ys) | false ↦ items_of-append s xs ys ]

-- one more of this source
pub own_item : (s : ℕ) (x : Item) (xs : List Item) → source_of x ≡ s → items_of s (xs ++ x ∷ []) ≡ items_of s xs ++ x ∷ []
own_item s x xs is = items_of-append s xs (x ∷ []) ∙ ap (λ b. items_of s xs ++ cond b (x ∷ []) []) (eq-eqb (source_of x) s is)

-- one more of another source
pub other_item : (s : ℕ) (x : Item) (xs : List Item) → source_of x ≢ s → items_of s (xs ++ x ∷ []) ≡ items_of s xs
other_item s x xs ne = items_of-append s xs (x ∷ []) ∙ (ap (λ b. items_of s xs ++ cond b (x ∷ []) []) (ne_eqb (source_of x) s ne) ∙ append-nil (items_of s xs))

-- behind items with no finish any item may be the last
pub finishes_last : (xs : List Item) (x : Item) → has_finish xs ≡ false → FinishesLast (xs ++ x ∷ [])
finishes_last [] (item.Row row) none = tt
finishes_last [] (item.Finish s) none = refl
finishes_last (item.Row row ∷ xs) x none = finishes_last xs x none
finishes_last (item.Finish s ∷ xs) x none = absurd (true≢false none)

-- behind a finish there is nothing
pub nothing_behind : (xs ys : List Item) → FinishesLast (xs ++ ys) → has_finish xs ≡ true → ys ≡ []
nothing_behind [] ys last has = absurd (true≢false (sym has))
nothing_behind (item.Row row ∷ xs) ys last has = nothing_behind xs ys last has
nothing_behind (item.Finish s ∷ []) ys last has = last
nothing_behind (item.Finish s ∷ x ∷ xs) ys last has = let no : x ∷ (xs ++ ys) ≡ [] = last in absurd (cc)
