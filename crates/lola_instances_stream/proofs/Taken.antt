-- Cells that are taken, and the places of their instances among those that live.
use Rattle.std.proofs.Common.{◌≡◌, ℕ, zero, suc, ◌+◌, ◌≤◌, ◌<◌, inl, inr, Bool, true, false, List, [], ◌∷◌, ◌++◌, length, take, get_or, filter, refl, ap, sym, ◌∙◌, subst, arith, Option, Some, None, is_some, slice_get, slice_set, nat_lt}
use Rattle.std.specs.Prelude.{remove, replicate}
use Rattle.std.proofs.lemmas.List.Sums.{sum_by-cons, sum_by-append}
use Rattle.lola_instances_one.specs.Bits.{bit, ones, rank}
use Rattle.lola_instances_one.proofs.Parts.{below_or_not}
use Rattle.lola_panes.proofs.Noting.{lt_yes, lt_no}
use Rattle.lola_instances_one.specs.Holdings.{Holdings}
use Rattle.lola_instances_stream.specs.Cells.{AreFlagged, IsTaken, StandsIn, living}

-- an instance in a cell

pub stands_get : (cs : List (Option Holdings)) (cell place : ℕ) (s : Holdings) → StandsIn cs cell place s → slice_get cs cell ≡ Some (Some s)
stands_get [] cell place s h = absurd h
stands_get (None ∷ cs) zero place s h = absurd h
stands_get (None ∷ cs) (suc cell) place s h = stands_get cs cell place s h
stands_get (Some x ∷ cs) zero zero s h = ap (λ (y : Holdings). Some (Some y)) h
stands_get (Some x ∷ cs) zero (suc place) s h = absurd h
stands_get (Some x ∷ cs) (suc cell) zero s h = absurd h
stands_get (Some x ∷ cs) (suc cell) (suc place) s h = stands_get cs cell place s h

pub stands_place : (cs : List (Option Holdings)) (cell place : ℕ) (s : Holdings) → StandsIn cs cell place s → slice_get (living cs) place ≡ Some s
stands_place [] cell place s h = absurd h
stands_place (None ∷ cs) zero place s h = absurd h
stands_place (None ∷ cs) (suc cell) place s h = stands_place cs cell place s h
stands_place (Some x ∷ cs) zero zero s h = ap Some h
stands_place (Some x ∷ cs) zero (suc place) s h = absurd h
stands_place (Some x ∷ cs) (suc cell) zero s h = absurd h
stands_place (Some x ∷ cs) (suc cell) (suc place) s h = stands_place cs cell place s h

pub stands_taken : (cs : List (Option Holdings)) (cell place : ℕ) (s : Holdings) → StandsIn cs cell place s → IsTaken (slice_get cs cell)
stands_taken cs cell place s h = subst IsTaken (sym (stands_get cs cell place s h)) tt

pub stands_remove : (cs : List (Option Holdings)) (cell place : ℕ) (s : Holdings) → StandsIn cs cell place s → living (slice_set cs cell None) ≡ remove (living cs) place
stands_remove [] cell place s h = absurd h
stands_remove (None ∷ cs) zero place s h = absurd h
stands_remove (None ∷ cs) (suc cell) place s h = stands_remove cs cell place s h
stands_remove (Some x ∷ cs) zero zero s h = refl
stands_remove (Some x ∷ cs) zero (suc place) s h = absurd h
stands_remove (Some x ∷ cs) (suc cell) zero s h = absurd h
stands_remove (Some x ∷ cs) (suc cell) (suc place) s h = ap (λ ss. x ∷ ss) (stands_remove cs cell place s h)

pub stands_set : (cs : List (Option Holdings)) (cell place : ℕ) (s t : Holdings) → StandsIn cs cell place s → living (slice_set cs cell (Some t)) ≡ slice_set (living cs) place t
stands_set [] cell place s t h = absurd h
stands_set (None ∷ cs) zero place s t h = absurd h
stands_set (None ∷ cs) (suc cell) place s t h = stands_set cs cell place s t h
stands_set (Some x ∷ cs) zero zero s t h = refl
stands_set (Some x ∷ cs) zero (suc place) s t h = absurd h
stands_set (Some x ∷ cs) (suc cell) zero s t h = absurd h
stands_set (Some x ∷ cs) (suc cell) (suc place) s t h = ap (λ ss. x ∷ ss) (stands_set cs cell place s t h)

pub stands_one : (cs : List (Option Holdings)) (cell i j : ℕ) (s t : Holdings) → StandsIn cs cell i s → StandsIn cs cell j t → i ≡ j
stands_one [] cell i j s t h k = absurd h
stands_one (None ∷ cs) zero i j s t h k = absurd h
stands_one (None ∷ cs) (suc cell) i j s t h k = stands_one cs cell i j s t h k
stands_one (Some x ∷ cs) zero zero zero s t h k = refl
stands_one (Some x ∷ cs) zero zero (suc j) s t h k = absurd k
stands_one (Some x ∷ cs) zero (suc i) j s t h k = absurd h
stands_one (Some x ∷ cs) (suc cell) zero j s t h k = absurd h
stands_one (Some x ∷ cs) (suc cell) (suc i) zero s t h k = absurd k
stands_one (Some x ∷ cs) (suc cell) (suc i) (suc j) s t h k = ap suc (stands_one cs cell i j s t h k)

pub stands_at : (cs : List (Option Holdings)) (place : ℕ) (s : Holdings) → slice_get (living cs) place ≡ Some s → (cell : ℕ) × StandsIn cs cell place s
stands_at [] place s e = absurd (cc)
stands_at (None ∷ cs) place s e = let r = stands_at cs place s e in (suc r.0, r.1)
stands_at (Some x ∷ cs) zero s e = let q : x ≡ s = cc in (zero, q)
stands_at (Some x ∷ cs) (suc place) s e = let r = stands_at cs place s e in (suc r.0, r.1)

pub living_more : (cs : List (Option Holdings)) (s : Holdings) → living (cs ++ Some s ∷ []) ≡ living cs ++ s ∷ []
living_more [] s = refl
living_more (None ∷ cs) s = living_more cs s
living_more (Some x ∷ cs) s = ap (λ ss. x ∷ ss) (living_more cs s)

pub few_living : (cs : List (Option Holdings)) → length (living cs) ≤ length cs
few_living [] = omega arith
few_living (None ∷ cs) = let k = few_living cs in omega arith
few_living (Some x ∷ cs) = let k = few_living cs in omega arith

-- where no cell is empty, a place and a cell are the same
pub full_stands : (cs : List (Option Holdings)) → length cs ≤ length (living cs) → (cell : ℕ) (s : Holdings) → slice_get cs cell ≡ Some (Some s) → StandsIn cs cell cell s
full_stands [] f cell s e = absurd (cc)
full_stands (None ∷ cs) f cell s e = let k = few_living cs in absurd (omega arith)
full_stands (Some x ∷ cs) f zero s e = let q : x ≡ s = cc in q
full_stands (Some x ∷ cs) f (suc cell) s e = full_stands cs (omega arith) cell s e

pub full_taken : (cs : List (Option Holdings)) → length cs ≤ length (living cs) → (cell : ℕ) → cell < length cs → (s : Holdings) × StandsIn cs cell cell s
full_taken [] f cell l = absurd (omega arith)
full_taken (None ∷ cs) f cell l = let k = few_living cs in absurd (omega arith)
full_taken (Some x ∷ cs) f zero l = (x, refl)
full_taken (Some x ∷ cs) f (suc cell) l = full_taken cs (omega arith) cell (omega arith)

-- cells that move together
pub living_packed : (cs : List (Option Holdings)) → living (filter is_some cs) ≡ living cs
living_packed [] = refl
living_packed (None ∷ cs) = living_packed cs
living_packed (Some x ∷ cs) = ap (λ ss. x ∷ ss) (living_packed cs)

pub packed_full : (cs : List (Option Holdings)) → length (living (filter is_some cs)) ≡ length (filter is_some cs)
packed_full [] = refl
packed_full (None ∷ cs) = packed_full cs
packed_full (Some x ∷ cs) = ap suc (packed_full cs)

pub packed_few : (cs : List (Option Holdings)) → length (filter is_some cs) ≤ length cs
packed_few [] = omega arith
packed_few (None ∷ cs) = let k = packed_few cs in omega arith
packed_few (Some x ∷ cs) = let k = packed_few cs in omega arith

-- bits

pub flagged_ones : (cs : List (Option Holdings)) (bs : List Bool) → AreFlagged cs bs → ones bs ≡ length (living cs)
flagged_ones [] bs h = h
flagged_ones (c ∷ cs) [] h = absurd h
flagged_ones (None ∷ cs) (b ∷ bs) h = let k = flagged_ones cs bs h.1 in let n = ap bit h.0 in let s = sum_by-cons bit b bs in omega arith
flagged_ones (Some x ∷ cs) (b ∷ bs) h = let k = flagged_ones cs bs h.1 in let n = ap bit h.0 in let s = sum_by-cons bit b bs in omega arith

pub flagged_long : (cs : List (Option Holdings)) (bs : List Bool) → AreFlagged cs bs → length cs ≤ length bs
flagged_long [] bs h = omega arith
flagged_long (c ∷ cs) [] h = absurd h
flagged_long (None ∷ cs) (b ∷ bs) h = let k = flagged_long cs bs h.1 in omega arith
flagged_long (Some x ∷ cs) (b ∷ bs) h = let k = flagged_long cs bs h.1 in omega arith

none_set : (bs : List Bool) → ones bs ≡ 0 → (i : ℕ) → get_or bs i false ≡ true → ⊥
none_set [] z i e = cc
none_set (b ∷ bs) z zero e = let n = ap bit e in let s = sum_by-cons bit b bs in omega arith
none_set (b ∷ bs) z (suc i) e = let s = sum_by-cons bit b bs in none_set bs (omega arith) i e

pub flagged_select : (cs : List (Option Holdings)) (bs : List Bool) → AreFlagged cs bs → (cell place : ℕ) → get_or bs cell false ≡ true → rank bs cell ≡ place → (s : Holdings) × StandsIn cs cell place s
flagged_select [] bs h cell place e r = absurd (none_set bs h cell e)
flagged_select (c ∷ cs) [] h cell place e r = absurd h
flagged_select (None ∷ cs) (b ∷ bs) h zero place e r = let n = h.0 in absurd (cc)
flagged_select (None ∷ cs) (b ∷ bs) h (suc cell) place e r =
    let n = ap bit h.0 in
    let s = sum_by-cons bit b (take cell bs) in
    flagged_select cs bs h.1 cell place e (omega arith)
flagged_select (Some x ∷ cs) (b ∷ bs) h zero zero e r = (x, refl)
flagged_select (Some x ∷ cs) (b ∷ bs) h zero (suc place) e r = absurd (omega arith)
flagged_select (Some x ∷ cs) (b ∷ bs) h (suc cell) zero e r =
    let n = ap bit h.0 in
    let s = sum_by-cons bit b (take cell bs) in
    absurd (omega arith)
flagged_select (Some x ∷ cs) (b ∷ bs) h (suc cell) (suc place) e r =
    let n = ap bit h.0 in
    let s = sum_by-cons bit b (take cell bs) in
    flagged_select cs bs h.1 cell place e (omega arith)

-- the place of a cell is how many before it are taken
pub flagged_rank : (cs : List (Option Holdings)) (bs : List Bool) → AreFlagged cs bs → (cell place : ℕ) (s : Holdings) → slice_get cs cell ≡ Some (Some s) → rank bs cell ≡ place → StandsIn cs cell place s
flagged_rank [] bs h cell place s e r = absurd (cc)
flagged_rank (c ∷ cs) [] h cell place s e r = absurd h
flagged_rank (None ∷ cs) (b ∷ bs) h zero place s e r = absurd (cc)
flagged_rank (None ∷ cs) (b ∷ bs) h (suc cell) place s e r =
    let n = ap bit h.0 in
    let t = sum_by-cons bit b (take cell bs) in
    flagged_rank cs bs h.1 cell place s e (omega arith)
flagged_rank (Some x ∷ cs) (b ∷ bs) h zero zero s e r = let q : x ≡ s = cc in q
flagged_rank (Some x ∷ cs) (b ∷ bs) h zero (suc place) s e r = absurd (omega arith)
flagged_rank (Some x ∷ cs) (b ∷ bs) h (suc cell) zero s e r =
    let n = ap bit h.0 in
    let t = sum_by-cons bit b (take cell bs) in
    absurd (omega arith)
flagged_rank (Some x ∷ cs) (b ∷ bs) h (suc cell) (suc place) s e r =
    let n = ap bit h.0 in
    let t = sum_by-cons bit b (take cell bs) in
    flagged_rank cs bs h.1 cell place s e (omega arith)

pub flagged_clear : (cs : List (Option Holdings)) (bs : List Bool) (cell : ℕ) → AreFlagged cs bs → cell < length cs → AreFlagged (slice_set cs cell None) (slice_set bs cell false)
flagged_clear [] bs cell h l = absurd (omega arith)
flagged_clear (c ∷ cs) [] cell h l = absurd h
flagged_clear (None ∷ cs) (b ∷ bs) zero h l = (refl, h.1)
flagged_clear (Some x ∷ cs) (b ∷ bs) zero h l = (refl, h.1)
flagged_clear (None ∷ cs) (b ∷ bs) (suc cell) h l = (h.0, flagged_clear cs bs cell h.1 (omega arith))
flagged_clear (Some x ∷ cs) (b ∷ bs) (suc cell) h l = (h.0, flagged_clear cs bs cell h.1 (omega arith))

pub flagged_change : (cs : List (Option Holdings)) (bs : List Bool) (cell : ℕ) (x y : Holdings) → AreFlagged cs bs → slice_get cs cell ≡ Some (Some x) → AreFlagged (slice_set cs cell (Some y)) bs
flagged_change [] bs cell x y h e = absurd (cc)
flagged_change (c ∷ cs) [] cell x y h e = absurd h
flagged_change (None ∷ cs) (b ∷ bs) zero x y h e = absurd (cc)
flagged_change (Some z ∷ cs) (b ∷ bs) zero x y h e = h
flagged_change (None ∷ cs) (b ∷ bs) (suc cell) x y h e = (h.0, flagged_change cs bs cell x y h.1 e)
flagged_change (Some z ∷ cs) (b ∷ bs) (suc cell) x y h e = (h.0, flagged_change cs bs cell x y h.1 e)

pub flagged_more : (cs : List (Option Holdings)) (bs : List Bool) (s : Holdings) → AreFlagged cs bs → length cs < length bs → AreFlagged (cs ++ Some s ∷ []) (slice_set bs (length cs) true)
flagged_more [] [] s h l = absurd (omega arith)
flagged_more [] (b ∷ bs) s h l = let t = sum_by-cons bit b bs in (refl, omega arith)
flagged_more (c ∷ cs) [] s h l = absurd h
flagged_more (None ∷ cs) (b ∷ bs) s h l = (h.0, flagged_more cs bs s h.1 (omega arith))
flagged_more (Some x ∷ cs) (b ∷ bs) s h l = (h.0, flagged_more cs bs s h.1 (omega arith))

unset : (n : ℕ) → ones (replicate n false) ≡ 0
unset zero = refl
unset (suc n) = let s = sum_by-cons bit false (replicate n false) in let k = unset n in omega arith

pub flagged_longer : (cs : List (Option Holdings)) (bs : List Bool) (n : ℕ) → AreFlagged cs bs → AreFlagged cs (bs ++ replicate n false)
flagged_longer [] bs n h = let a = sum_by-append bit bs (replicate n false) in let u = unset n in omega arith
flagged_longer (c ∷ cs) [] n h = absurd h
flagged_longer (None ∷ cs) (b ∷ bs) n h = (h.0, flagged_longer cs bs n h.1)
flagged_longer (Some x ∷ cs) (b ∷ bs) n h = (h.0, flagged_longer cs bs n h.1)

none_flagged : (bs : List Bool) → ((i : ℕ) → i < length bs → get_or bs i false ≡ false) → ones bs ≡ 0
none_flagged [] h = refl
none_flagged (b ∷ bs) h =
    let n = ap bit (h 0 (omega arith)) in
    let k = none_flagged bs (λ i l. h (suc i) (omega arith)) in
    let s = sum_by-cons bit b bs in
    omega arith

below_next : (i n : ℕ) → nat_lt (suc i) (suc n) ≡ nat_lt i n
below_next i n = elim (below_or_not i n) [
  | inl l ↦ lt_yes (suc i) (suc n) (omega arith) ∙ sym (lt_yes i n l)
  | inr l ↦ lt_no (suc i) (suc n) (omega arith) ∙ sym (lt_no i n l)
]

-- where no cell is empty, the first bits are set and the others not
pub flagged_full : (cs : List (Option Holdings)) (bs : List Bool) → length cs ≤ length (living cs) → length cs ≤ length bs → ((i : ℕ) → i < length bs → get_or bs i false ≡ nat_lt i (length cs)) → AreFlagged cs bs
flagged_full [] bs f l h = none_flagged bs (λ i k. h i k ∙ lt_no i 0 (omega arith))
flagged_full (None ∷ cs) bs f l h = let k = few_living cs in absurd (omega arith)
flagged_full (Some x ∷ cs) [] f l h = absurd (omega arith)
flagged_full (Some x ∷ cs) (b ∷ bs) f l h = (
  h 0 (omega arith) ∙ lt_yes 0 (suc (length cs)) (omega arith),
  flagged_full cs bs (omega arith) (omega arith) (λ i k. h (suc i) (omega arith) ∙ below_next i (length cs)),
)

-- a cell that is left, before and after
pub record CameFrom (cs : List (Option Holdings)) (bs : List Bool) (to : ℕ) (s : Holdings) : Type 0 where
  pub cell : ℕ
  pub at : slice_get cs cell ≡ Some (Some s)
  pub moves : rank bs cell ≡ to
  pub within : cell ≤ length bs

pub came_from : (cs : List (Option Holdings)) (bs : List Bool) → AreFlagged cs bs → (to : ℕ) (s : Holdings) → slice_get (filter is_some cs) to ≡ Some (Some s) → CameFrom cs bs to s
came_from [] bs h to s e = absurd (cc)
came_from (c ∷ cs) [] h to s e = absurd h
came_from (None ∷ cs) (b ∷ bs) h to s e =
    let r = came_from cs bs h.1 to s e in
    let n = ap bit h.0 in
    let t = sum_by-cons bit b (take r.cell bs) in
    let m = r.moves in
    let w = r.within in
    record { cell = suc r.cell; at = r.at; moves = omega arith; within = omega arith }
came_from (Some x ∷ cs) (b ∷ bs) h zero s e = record { cell = zero; at = e; moves = refl; within = omega arith }
came_from (Some x ∷ cs) (b ∷ bs) h (suc to) s e =
    let r = came_from cs bs h.1 to s e in
    let n = ap bit h.0 in
    let t = sum_by-cons bit b (take r.cell bs) in
    let m = r.moves in
    let w = r.within in
    record { cell = suc r.cell; at = r.at; moves = omega arith; within = omega arith }

pub taken_there : (cs : List (Option Holdings)) (cell : ℕ) → IsTaken (slice_get cs cell) → (s : Holdings) × (slice_get cs cell ≡ Some (Some s))
taken_there [] cell h = absurd h
taken_there (None ∷ cs) zero h = absurd h
taken_there (Some x ∷ cs) zero h = (x, refl)
taken_there (c ∷ cs) (suc cell) h = taken_there cs cell h

pub remove_one : {X : Type 0} (xs : List X) (i : ℕ) → i < length xs → length (remove xs i) + 1 ≡ length xs
remove_one [] i l = absurd (omega arith)
remove_one (x ∷ xs) zero l = omega arith
remove_one (x ∷ xs) (suc i) l = let k = remove_one xs i (omega arith) in omega arith
