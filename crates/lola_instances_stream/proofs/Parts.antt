-- Cells that are given their outcomes in two parts.
use Rattle.std.proofs.Common.{◌≡◌, ◌∙◌, ℕ, zero, suc, ◌<◌, ◌++◌, List, [], ◌∷◌, Option, length, take, drop, ap, arith, sym, subst, slice_get, get_or}
use Rattle.std.proofs.lemmas.List.{length-append, take-append-drop}
use Rattle.lola_value.specs.declared.value.Outcome.{Outcome}
use Rattle.lola_instances_one.specs.Holdings.{Holdings}
use Rattle.lola_instances_stream.specs.Cells.{IsSlotChanged}
use Rattle.lola_instances_stream.specs.Givings.{AreCellsGiven, AreCellsReady, HasGivenAt, IsReadyAt}

module _ {X Y : Type 0} (P : Option Y → X → Type 0) where
  -- what is true of each place of two parts is true of those of the first part
  pub each_front : (xs ys : List X) (rs ss : List Y) → length rs ≡ length xs → ((i : ℕ) (d : X) → i < length (xs ++ ys) → P (slice_get (rs ++ ss) i) (get_or (xs ++ ys) i d))
      → (i : ℕ) (d : X) → i < length xs → P (slice_get rs i) (get_or xs i d)
  each_front [] ys rs ss e h i d l = absurd (omega arith)
  each_front (x ∷ xs) ys [] ss e h i d l = absurd (omega arith)
  each_front (x ∷ xs) ys (r ∷ rs) ss e h zero d l = h zero d (omega arith)
  each_front (x ∷ xs) ys (r ∷ rs) ss e h (suc i) d l = each_front xs ys rs ss (omega arith) (λ j w u. h (suc j) w (omega arith)) i d (omega arith)

  -- and of those of the second
  pub each_back : (xs ys : List X) (rs ss : List Y) → length rs ≡ length xs → ((i : ℕ) (d : X) → i < length (xs ++ ys) → P (slice_get (rs ++ ss) i) (get_or (xs ++ ys) i d))
      → (i : ℕ) (d : X) → i < length ys → P (slice_get ss i) (get_or ys i d)
  each_back [] ys [] ss e h = h
  each_back [] ys (r ∷ rs) ss e h = absurd (omega arith)
  each_back (x ∷ xs) ys [] ss e h = absurd (omega arith)
  each_back (x ∷ xs) ys (r ∷ rs) ss e h = each_back xs ys rs ss (omega arith) (λ j w u. h (suc j) w (omega arith))

module _ {X Y : Type 0} (R : Option Y → X → X → Type 0) where
  -- what became of each place of one part and of the other became of each place of both
  pub changed_both : (xs ys : List X) (rs ss : List Y) (us vs : List X) → length rs ≡ length xs → length us ≡ length xs
      → ((i : ℕ) (d : X) → i < length xs → R (slice_get rs i) (get_or xs i d) (get_or us i d))
      → ((i : ℕ) (d : X) → i < length ys → R (slice_get ss i) (get_or ys i d) (get_or vs i d))
      → (i : ℕ) (d : X) → i < length (xs ++ ys) → R (slice_get (rs ++ ss) i) (get_or (xs ++ ys) i d) (get_or (us ++ vs) i d)
  changed_both [] ys [] ss [] vs e f h k i d l = k i d l
  changed_both [] ys [] ss (u ∷ us) vs e f h k i d l = absurd (omega arith)
  changed_both [] ys (r ∷ rs) ss us vs e f h k i d l = absurd (omega arith)
  changed_both (x ∷ xs) ys [] ss us vs e f h k i d l = absurd (omega arith)
  changed_both (x ∷ xs) ys (r ∷ rs) ss [] vs e f h k i d l = absurd (omega arith)
  changed_both (x ∷ xs) ys (r ∷ rs) ss (u ∷ us) vs e f h k zero d l = h zero d (omega arith)
  changed_both (x ∷ xs) ys (r ∷ rs) ss (u ∷ us) vs e f h k (suc i) d l =
      changed_both xs ys rs ss us vs (omega arith) (omega arith) (λ j w p. h (suc j) w (omega arith)) k i d (omega arith)

-- a list is its first so many and the others
pub halves : {Y : Type 0} (size : ℕ) (rs own later : List Y) → own ≡ take size rs → later ≡ drop size rs → rs ≡ own ++ later
halves size rs own later a b = sym (take-append-drop size rs) ∙ (ap (λ xs. xs ++ drop size rs) (sym a) ∙ ap (λ xs. own ++ xs) (sym b))

-- both parts are ready where the whole is
module _ (offset size : ℕ) (outcomes own later : List Outcome) (cells first others : List (Option Holdings))
    (outcomes_are : outcomes ≡ own ++ later) (cells_are : cells ≡ first ++ others) (own_count : length own ≡ size) (first_count : length first ≡ size) where
  ready_whole : AreCellsReady offset outcomes cells → AreCellsReady offset (own ++ later) (first ++ others)
  ready_whole h = subst (λ rs. AreCellsReady offset rs (first ++ others)) outcomes_are (subst (λ cs. AreCellsReady offset outcomes cs) cells_are h)

  pub first_ready : AreCellsReady offset outcomes cells → AreCellsReady offset own first
  first_ready h = record {
    count = own_count ∙ sym first_count;
    each = each_front (λ r c. IsReadyAt offset r c) first others own later (own_count ∙ sym first_count) (ready_whole h).each;
  }

  pub others_ready : AreCellsReady offset outcomes cells → AreCellsReady offset later others
  others_ready h = record {
    count = let k = (ready_whole h).count in omega (arith, length-append own later, length-append first others);
    each = each_back (λ r c. IsReadyAt offset r c) first others own later (own_count ∙ sym first_count) (ready_whole h).each;
  }

  -- and the whole was given its outcomes where both parts were
  pub both_given : (step : ℕ) (us vs : List (Option Holdings)) → AreCellsGiven step offset own first us → AreCellsGiven step offset later others vs
      → AreCellsGiven step offset outcomes cells (us ++ vs)
  both_given step us vs h k =
      let whole : AreCellsGiven step offset (own ++ later) (first ++ others) (us ++ vs) = record {
        count = let a = h.count in let b = k.count in omega (arith, length-append us vs, length-append first others);
        each = changed_both (λ r x y. IsSlotChanged (HasGivenAt step offset r) x y) first others own later us vs (own_count ∙ sym first_count) h.count h.each k.each;
      } in
      subst (λ cs. AreCellsGiven step offset outcomes cs (us ++ vs)) (sym cells_are)
      (subst (λ rs. AreCellsGiven step offset rs (first ++ others) (us ++ vs)) (sym outcomes_are) whole)
