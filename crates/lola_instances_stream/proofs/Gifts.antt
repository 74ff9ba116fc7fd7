-- The instances of a stream are given what they come to.
use Rattle.std.proofs.Common.{◌≡◌, ℕ, zero, suc, ◌+◌, ◌-◌, ◌^◌, ◌≤◌, ◌<◌, List, [], ◌∷◌, length, map, take, drop, ◌++◌, refl, ap, sym, ◌∙◌, subst, arith, Option, Some, None, slice_get, get_or, Bool, true, IsTrue}
use Rattle.std.proofs.lemmas.List.{take-append-le, take_all}
use Rattle.lola_value.specs.declared.text.Field.{Field}
use Rattle.lola_value.specs.declared.value.Outcome.{Outcome}
use Rattle.lola_value.specs.declared.value.Outcome.TheVariants as outcome
use Rattle.lola_value.specs.Kinds.{is_outcome_of, is_well_formed}
use Rattle.lola_value.specs.Naming.{Naming, IsHeldIn}
use Rattle.lola_model.specs.Given.{AreHeldIn, AreOutcomesOf, given, given_each}
use Rattle.lola_model.specs.Store.{StreamLayout, is_silent}
use Rattle.lola_instances_one.specs.declared.window.WindowPanes.{WindowPanes}
use Rattle.lola_instances_one.specs.Holdings.{Holdings, shown, slot_seen}
use Rattle.lola_instances_stream.specs.Births.{births_of}
use Rattle.lola_instances_stream.specs.Cells.{AreKnown, AreFlagged, IsSlotChanged, living}
use Rattle.lola_instances_stream.specs.Crowds.{RemembersAt, shown_at}
use Rattle.lola_instances_stream.specs.Each.{Each}
use Rattle.lola_instances_stream.specs.Givings.{AreGiven, AreReadyFor, HasGiven, HasGivenAt, IsReadyAt, IsReadyFor}
use Rattle.lola_instances_stream.specs.Listings.{Listing, cell_of}
use Rattle.lola_instances_stream.specs.Rights.{SlotRight}
use Rattle.lola_instances_stream.proofs.Outcomes.{poisoned_right, poisoned_seen, is_missing, ready, told_right, told_seen}

each_more : (P : Holdings → Type 0) (y : Holdings) (ys : List Holdings) → P y → Each P ys → Each P (y ∷ ys)
each_more P y ys p h zero z e = let q : y ≡ z = cc in subst P q p
each_more P y ys p h (suc i) z e = h i z e

-- one instance

module _ (step offset : ℕ) where
  own_params : (r : Outcome) (x y : Holdings) → HasGiven step offset r x y → y.params ≡ x.params
  own_params (outcome.Value v) x y h = h.params
  own_params outcome.Missing x y h = ap (λ (s : Holdings). s.params) h
  own_params (outcome.Fault k) x y h = ap (λ (s : Holdings). s.params) h.slot
  own_params outcome.Poison x y h = ap (λ (s : Holdings). s.params) h.slot

  own_born : (r : Outcome) (x y : Holdings) → HasGiven step offset r x y → y.born ≡ x.born
  own_born (outcome.Value v) x y h = h.born
  own_born outcome.Missing x y h = ap (λ (s : Holdings). s.born) h
  own_born (outcome.Fault k) x y h = ap (λ (s : Holdings). s.born) h.slot
  own_born outcome.Poison x y h = ap (λ (s : Holdings). s.born) h.slot

  own_seen : (r : Outcome) (x y : Holdings) → HasGiven step offset r x y → slot_seen step y ≡ given (slot_seen step x) r
  own_seen (outcome.Value v) x y h = told_seen step offset v x y h
  own_seen outcome.Missing x y h = ap (slot_seen step) h
  own_seen (outcome.Fault k) x y h = poisoned_seen step x y h
  own_seen outcome.Poison x y h = poisoned_seen step x y h

  own_right : (layout : StreamLayout) (windows : List WindowPanes) (r : Outcome) (x y : Holdings) → SlotRight layout windows true step offset x → IsTrue (is_silent (shown step x))
      → IsTrue (is_outcome_of layout.kind r) → 2 ≤ step → 1 ≤ layout.kept → HasGiven step offset r x y → SlotRight layout windows true step offset y
  own_right layout windows (outcome.Value v) x y p s k l m h = told_right layout windows step offset v x y p h s k l m
  own_right layout windows outcome.Missing x y p s k l m h = subst (SlotRight layout windows true step offset) (sym h) p
  own_right layout windows (outcome.Fault f) x y p s k l m h = poisoned_right layout windows step offset x y p h
  own_right layout windows outcome.Poison x y p s k l m h = poisoned_right layout windows step offset x y p h

  own_past : (start time : ℕ) (names : Naming) (values : List (ℕ × Field)) → offset ≡ time - start → start ≤ time → (r : Outcome) (x y : Holdings) → IsTrue (is_silent (shown step x)) → IsHeldIn names r
      → HasGiven step offset r x y → RemembersAt start time step names (Some x) values → RemembersAt start time step names (Some y) values
  own_past start time names values o l (outcome.Value v) x y s held h p = h.past start time names values p held (is_missing (shown step x) s) o l
  own_past start time names values o l outcome.Missing x y s held h p = subst (λ z. RemembersAt start time step names (Some z) values) (sym h) p
  own_past start time names values o l (outcome.Fault k) x y s held h p = h.past start time names values p (is_missing (shown step x) s)
  own_past start time names values o l outcome.Poison x y s held h p = h.past start time names values p (is_missing (shown step x) s)

  own_ready : (layout : StreamLayout) (windows : List WindowPanes) (r : Outcome) (x : Holdings) → SlotRight layout windows true step offset x → IsTrue (is_silent (shown step x))
      → IsTrue (is_outcome_of layout.kind r) → step ≤ 2 ^ 63 + 1 → IsReadyFor offset r x
  own_ready layout windows (outcome.Value v) x p s k l = ready layout windows step offset v x p s k l
  own_ready layout windows outcome.Missing x p s k l = tt
  own_ready layout windows (outcome.Fault f) x p s k l = tt
  own_ready layout windows outcome.Poison x p s k l = tt

  -- all of them

  pub given_count : (xs : List Holdings) (rs : List Outcome) (ys : List Holdings) → AreGiven step offset xs rs ys → length ys ≡ length xs
  given_count [] [] [] h = refl
  given_count [] [] (y ∷ ys) h = absurd h
  given_count [] (r ∷ rs) ys h = absurd h
  given_count (x ∷ xs) [] ys h = absurd h
  given_count (x ∷ xs) (r ∷ rs) [] h = absurd h
  given_count (x ∷ xs) (r ∷ rs) (y ∷ ys) h = ap suc (given_count xs rs ys h.1)

  pub given_births : (xs : List Holdings) (rs : List Outcome) (ys : List Holdings) → AreGiven step offset xs rs ys → births_of ys ≡ births_of xs
  given_births [] [] [] h = refl
  given_births [] [] (y ∷ ys) h = absurd h
  given_births [] (r ∷ rs) ys h = absurd h
  given_births (x ∷ xs) [] ys h = absurd h
  given_births (x ∷ xs) (r ∷ rs) [] h = absurd h
  given_births (x ∷ xs) (r ∷ rs) (y ∷ ys) h = (let a = own_born r x y h.0 in let b = given_births xs rs ys h.1 in λ i. a i ∷ b i)

  pub given_seen : (xs : List Holdings) (rs : List Outcome) (ys : List Holdings) → AreGiven step offset xs rs ys → map (slot_seen step) ys ≡ given_each (map (slot_seen step) xs) rs
  given_seen [] [] [] h = refl
  given_seen [] [] (y ∷ ys) h = absurd h
  given_seen [] (r ∷ rs) ys h = absurd h
  given_seen (x ∷ xs) [] ys h = absurd h
  given_seen (x ∷ xs) (r ∷ rs) [] h = absurd h
  given_seen (x ∷ xs) (r ∷ rs) (y ∷ ys) h = (let a = own_seen r x y h.0 in let b = given_seen xs rs ys h.1 in λ i. a i ∷ b i)

  -- what was silent in each place
  silent_rest : (x : Holdings) (xs : List Holdings) → ((i : ℕ) → IsTrue (is_silent (shown_at step (slice_get (x ∷ xs) i)))) → (i : ℕ) → IsTrue (is_silent (shown_at step (slice_get xs i)))
  silent_rest x xs h i = h (suc i)

  pub given_right : (layout : StreamLayout) (windows : List WindowPanes) → 2 ≤ step → 1 ≤ layout.kept → (xs : List Holdings) (rs : List Outcome) (ys : List Holdings) → AreGiven step offset xs rs ys
      → Each (SlotRight layout windows true step offset) xs → ((i : ℕ) → IsTrue (is_silent (shown_at step (slice_get xs i)))) → AreOutcomesOf layout.kind rs → Each (SlotRight layout windows true step offset) ys
  given_right layout windows l m [] [] [] h p s k = λ i y e. absurd (cc)
  given_right layout windows l m [] [] (y ∷ ys) h p s k = absurd h
  given_right layout windows l m [] (r ∷ rs) ys h p s k = absurd h
  given_right layout windows l m (x ∷ xs) [] ys h p s k = absurd h
  given_right layout windows l m (x ∷ xs) (r ∷ rs) [] h p s k = absurd h
  given_right layout windows l m (x ∷ xs) (r ∷ rs) (y ∷ ys) h p s k =
      each_more (SlotRight layout windows true step offset) y ys (own_right layout windows r x y (p zero x refl) (s zero) k.0 l m h.0)
      (given_right layout windows l m xs rs ys h.1 (λ j w q. p (suc j) w q) (silent_rest x xs s) k.1)

  pub given_past : (start time : ℕ) (names : Naming) (values : List (ℕ × Field)) → offset ≡ time - start → start ≤ time → (xs : List Holdings) (rs : List Outcome) (ys : List Holdings) → AreGiven step offset xs rs ys
      → ((i : ℕ) → IsTrue (is_silent (shown_at step (slice_get xs i)))) → AreHeldIn names rs → (i : ℕ) → RemembersAt start time step names (slice_get xs i) values → RemembersAt start time step names (slice_get ys i) values
  given_past start time names values o l [] [] [] h s held i p = absurd p
  given_past start time names values o l [] [] (y ∷ ys) h s held i p = absurd h
  given_past start time names values o l [] (r ∷ rs) ys h s held i p = absurd h
  given_past start time names values o l (x ∷ xs) [] ys h s held i p = absurd h
  given_past start time names values o l (x ∷ xs) (r ∷ rs) [] h s held i p = absurd h
  given_past start time names values o l (x ∷ xs) (r ∷ rs) (y ∷ ys) h s held zero p = own_past start time names values o l r x y (s zero) held.0 h.0 p
  given_past start time names values o l (x ∷ xs) (r ∷ rs) (y ∷ ys) h s held (suc i) p = given_past start time names values o l xs rs ys h.1 (silent_rest x xs s) held.1 i p

  pub are_ready : (layout : StreamLayout) (windows : List WindowPanes) → step ≤ 2 ^ 63 + 1 → (xs : List Holdings) (rs : List Outcome) → length rs ≡ length xs
      → Each (SlotRight layout windows true step offset) xs → ((i : ℕ) → IsTrue (is_silent (shown_at step (slice_get xs i)))) → AreOutcomesOf layout.kind rs → AreReadyFor offset xs rs
  are_ready layout windows l [] [] c p s k = tt
  are_ready layout windows l [] (r ∷ rs) c p s k = absurd (omega arith)
  are_ready layout windows l (x ∷ xs) [] c p s k = absurd (omega arith)
  are_ready layout windows l (x ∷ xs) (r ∷ rs) c p s k =
      (own_ready layout windows r x (p zero x refl) (s zero) k.0 l, are_ready layout windows l xs rs (omega arith) (λ j w q. p (suc j) w q) (silent_rest x xs s) k.1)

pub ready_count : (offset : ℕ) (xs : List Holdings) (rs : List Outcome) → AreReadyFor offset xs rs → length rs ≡ length xs
ready_count offset [] [] h = refl
ready_count offset [] (r ∷ rs) h = absurd h
ready_count offset (x ∷ xs) [] h = absurd h
ready_count offset (x ∷ xs) (r ∷ rs) h = ap suc (ready_count offset xs rs h.1)

-- an instance in each cell

-- cells of which none is empty
pub cells_full : (cs : List (Option Holdings)) → length (living cs) ≡ length cs → cs ≡ map Some (living cs)
cells_full [] e = refl
cells_full (None ∷ cs) e = absurd (omega (arith, living_few cs))
  where
    living_few : (ds : List (Option Holdings)) → length (living ds) ≤ length ds
    living_few [] = omega arith
    living_few (None ∷ ds) = omega (arith, living_few ds)
    living_few (Some x ∷ ds) = omega (arith, living_few ds)
cells_full (Some x ∷ cs) e = ap (λ ds. Some x ∷ ds) (cells_full cs (omega arith))

living_full : (xs : List Holdings) → living (map Some xs) ≡ xs
living_full [] = refl
living_full (x ∷ xs) = ap (λ ys. x ∷ ys) (living_full xs)

pub cells_ready : (offset : ℕ) (xs : List Holdings) (rs : List Outcome) → AreReadyFor offset xs rs → (i : ℕ) (d : Option Holdings) → i < length (map Some xs) → IsReadyAt offset (slice_get rs i) (get_or (map Some xs) i d)
cells_ready offset [] [] h i d l = absurd (omega arith)
cells_ready offset [] (r ∷ rs) h i d l = absurd h
cells_ready offset (x ∷ xs) [] h i d l = absurd h
cells_ready offset (x ∷ xs) (r ∷ rs) h zero d l = h.0
cells_ready offset (x ∷ xs) (r ∷ rs) h (suc i) d l = cells_ready offset xs rs h.1 i d (omega arith)

-- what was given to the instance in each cell
module _ (step offset : ℕ) where
  one_given : (r : Outcome) (x y : Holdings) → IsSlotChanged (HasGivenAt step offset (Some r)) (Some x) (Some y) → HasGiven step offset r x y
  one_given r x y h =
      let a : h.x ≡ x = (let w = h.was in cc) in
      let b : h.y ≡ y = (let w = h.is in cc) in
      subst (λ z. HasGiven step offset r x z) b (subst (λ z. HasGiven step offset r z h.y) a h.related)

  pub cells_given : (xs : List Holdings) (rs : List Outcome) (ds : List (Option Holdings)) → length rs ≡ length xs → length ds ≡ length xs
      → ((i : ℕ) (d : Option Holdings) → i < length (map Some xs) → IsSlotChanged (HasGivenAt step offset (slice_get rs i)) (get_or (map Some xs) i d) (get_or ds i d))
      → (ds ≡ map Some (living ds)) × AreGiven step offset xs rs (living ds)
  cells_given [] [] [] e f h = (refl, tt)
  cells_given [] [] (d ∷ ds) e f h = absurd (omega arith)
  cells_given [] (r ∷ rs) ds e f h = absurd (omega arith)
  cells_given (x ∷ xs) [] ds e f h = absurd (omega arith)
  cells_given (x ∷ xs) (r ∷ rs) [] e f h = absurd (omega arith)
  cells_given (x ∷ xs) (r ∷ rs) (None ∷ ds) e f h = absurd (let w = (h zero None (omega arith)).is in cc)
  cells_given (x ∷ xs) (r ∷ rs) (Some y ∷ ds) e f h =
      let rest = cells_given xs rs ds (omega arith) (omega arith) (λ i d l. h (suc i) d (omega arith)) in
      (ap (λ zs. Some y ∷ zs) rest.0, (one_given r x y (h zero None (omega arith)), rest.1))

  -- what is known of the cells stays so
  flagged_given : (xs : List Holdings) (rs : List Outcome) (ys : List Holdings) → AreGiven step offset xs rs ys → (bits : List Bool) → AreFlagged (map Some xs) bits → AreFlagged (map Some ys) bits
  flagged_given [] [] [] h bits m = m
  flagged_given [] [] (y ∷ ys) h bits m = absurd h
  flagged_given [] (r ∷ rs) ys h bits m = absurd h
  flagged_given (x ∷ xs) [] ys h bits m = absurd h
  flagged_given (x ∷ xs) (r ∷ rs) [] h bits m = absurd h
  flagged_given (x ∷ xs) (r ∷ rs) (y ∷ ys) h [] m = absurd m
  flagged_given (x ∷ xs) (r ∷ rs) (y ∷ ys) h (b ∷ bits) m = (m.0, flagged_given xs rs ys h.1 bits m.1)

  params_given : (xs : List Holdings) (rs : List Outcome) (ys : List Holdings) → AreGiven step offset xs rs ys → (c : ℕ) (s : Holdings) → slice_get (map Some ys) c ≡ Some (Some s)
      → (t : Holdings) × (slice_get (map Some xs) c ≡ Some (Some t)) × (s.params ≡ t.params)
  params_given [] [] [] h c s e = absurd (cc)
  params_given [] [] (y ∷ ys) h c s e = absurd h
  params_given [] (r ∷ rs) ys h c s e = absurd h
  params_given (x ∷ xs) [] ys h c s e = absurd h
  params_given (x ∷ xs) (r ∷ rs) [] h c s e = absurd h
  params_given (x ∷ xs) (r ∷ rs) (y ∷ ys) h zero s e = let q : y ≡ s = cc in (x, refl, subst (λ (z : Holdings). z.params ≡ x.params) q (own_params step offset r x y h.0))
  params_given (x ∷ xs) (r ∷ rs) (y ∷ ys) h (suc c) s e = params_given xs rs ys h.1 c s e

  pub known_given : (xs : List Holdings) (rs : List Outcome) (ys : List Holdings) → AreGiven step offset xs rs ys → (bits : List Bool) (table : Listing) → AreKnown (map Some xs) bits table → AreKnown (map Some ys) bits table
  known_given xs rs ys h bits table known = record {
    flagged = flagged_given xs rs ys h bits known.flagged;
    formed = λ c s e. let t = params_given xs rs ys h c s e in subst (λ p. IsTrue (is_well_formed p)) (sym t.2) (known.formed c t.0 t.1);
    listed = λ is c s e. let t = params_given xs rs ys h c s e in subst (λ p. cell_of p table.entries ≡ Some c) (sym t.2) (known.listed is c t.0 t.1);
  }

-- a list of which all was lent, and came back
pub written_back : {X : Type 0} (n : ℕ) (xs ys : List X) → n ≡ length xs → length ys ≡ length xs → take n (ys ++ drop (length ys) xs) ≡ ys
written_back n xs ys e f = take-append-le n ys (drop (length ys) xs) (omega arith) ∙ take_all n ys (omega arith)
