-- Seats of one intake.
use Rattle.std.proofs.Common.{◌≡◌, ◌<◌, ◌+◌, ◌++◌, ℕ, zero, suc, List, [], ◌∷◌, length, Some, slice_get, refl, subst, sym, arith, ◌∙◌}
use Rattle.atomic_table.specs.Seated.{TableId}
use Rattle.lola_intake.specs.declared.event.Setting.{Setting}
use Rattle.lola_intake.specs.Intakes.{Shown, new_seat, AreSeatsOf}

-- each of them is of it
pub seat_of : (id : TableId) (seats : List Shown) → AreSeatsOf id seats → (s : ℕ) (p : Shown) → slice_get seats s ≡ Some p → p.intake ≡ id
seat_of id [] all s p e = absurd (cc)
seat_of id (x ∷ seats) all zero p e = let same : x ≡ p = cc in subst (λ (q : Shown). q.intake ≡ id) same all.0
seat_of id (x ∷ seats) all (suc s) p e = seat_of id seats all.1 s p e

-- where each is, all are
pub all_of : (id : TableId) (seats : List Shown) → ((s : ℕ) (p : Shown) → slice_get seats s ≡ Some p → p.intake ≡ id) → AreSeatsOf id seats
all_of id [] each = tt
all_of id (x ∷ seats) each = (each 0 x refl, all_of id seats (λ s p e. each (suc s) p e))

-- all but the last, and the last
pub of_front : (id : TableId) (xs ys : List Shown) (p : Shown) → ys ≡ xs ++ p ∷ [] → AreSeatsOf id ys → AreSeatsOf id xs × (p.intake ≡ id)
of_front id xs ys p e all = split xs (subst (AreSeatsOf id) e all)
  where
    split : (xs : List Shown) → AreSeatsOf id (xs ++ p ∷ []) → AreSeatsOf id xs × (p.intake ≡ id)
    split [] a = (tt, a.0)
    split (x ∷ xs) a = let r = split xs a.1 in ((a.0, r.0), r.1)

-- one more
pub of_more : (id : TableId) (xs ys : List Shown) (p : Shown) → ys ≡ xs ++ p ∷ [] → AreSeatsOf id xs → p.intake ≡ id → AreSeatsOf id ys
of_more id xs ys p e all this = subst (AreSeatsOf id) (sym e) (more xs all)
  where
    more : (xs : List Shown) → AreSeatsOf id xs → AreSeatsOf id (xs ++ p ∷ [])
    more [] a = (this, tt)
    more (x ∷ xs) a = (a.0, more xs a.1)

get_below : (xs : List Shown) (s : ℕ) (p : Shown) → slice_get xs s ≡ Some p → s < length xs
get_below [] s p e = absurd (cc)
get_below (x ∷ xs) zero p e = omega arith
get_below (x ∷ xs) (suc s) p e = omega (arith, get_below xs s p e)

-- those that were made
pub of_new : (id : TableId) (k : Setting) (xs : List Shown) (n : ℕ) → length xs ≡ n → ((s : ℕ) → s < n → slice_get xs s ≡ Some (new_seat id k (s + 1) s)) → AreSeatsOf id xs
of_new id k xs n long new = all_of id xs (λ s p e.
    let same : new_seat id k (s + 1) s ≡ p = is_p s p (new s (omega (arith, get_below xs s p e))) e in subst (λ (q : Shown). q.intake ≡ id) same refl)
  where
    is_p : (s : ℕ) (p : Shown) → slice_get xs s ≡ Some (new_seat id k (s + 1) s) → slice_get xs s ≡ Some p → new_seat id k (s + 1) s ≡ p
    is_p s p e f = let g : Some (new_seat id k (s + 1) s) ≡ Some p = sym e ∙ f in cc
