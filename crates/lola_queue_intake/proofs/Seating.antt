-- Seats of one intake.
use Rattle.std.proofs.Common.{◌≡◌, ◌<◌, ℕ, zero, suc, List, [], ◌∷◌, length, Some, slice_get, refl, subst, sym, ◌∙◌}
use Rattle.atomic_table.specs.Seated.{TableId}
use Rattle.lola_queue_intake.specs.declared.item.Item.{Item}
use Rattle.lola_queue_intake.specs.Intakes.{IntakeId, SourceShown, source_shown, new_source, AreSeatsOf}
use Rattle.lola_queue_intake.proofs.Views.{get_below}

-- each of them is of it
pub seat_of : (id : IntakeId) (seats : List SourceShown) → AreSeatsOf id seats → (s : ℕ) (p : SourceShown) → slice_get seats s ≡ Some p → p.intake ≡ id
seat_of id [] all s p e = absurd (cc)
seat_of id (x ∷ seats) all zero p e = let same : x ≡ p = cc in subst (λ (q : SourceShown). q.intake ≡ id) same all.0
seat_of id (x ∷ seats) all (suc s) p e = seat_of id seats all.1 s p e

-- where each is, all are
pub all_of : (id : IntakeId) (seats : List SourceShown) → ((s : ℕ) (p : SourceShown) → slice_get seats s ≡ Some p → p.intake ≡ id) → AreSeatsOf id seats
all_of id [] each = tt
all_of id (x ∷ seats) each = (each 0 x refl, all_of id seats (λ s p e. each (suc s) p e))

-- those that were made
pub of_new : (id : IntakeId) (xs : List SourceShown) (n : ℕ) → length xs ≡ n → ((s : ℕ) → s < n → slice_get xs s ≡ Some (new_source id s)) → AreSeatsOf id xs
of_new id xs n long new = all_of id xs (λ s p e.
    let same : new_source id s ≡ p = is_p s p (new s (subst (λ k. s < k) long (get_below xs s p e))) e in subst (λ (q : SourceShown). q.intake ≡ id) same refl)
  where
    is_p : (s : ℕ) (p : SourceShown) → slice_get xs s ≡ Some (new_source id s) → slice_get xs s ≡ Some p → new_source id s ≡ p
    is_p s p e f = let g : Some (new_source id s) ≡ Some p = sym e ∙ f in cc

-- a seat of a pass and a look that know nothing
pub seat_made : (queue queue' word word' : TableId) (n : ℕ) (mine : List Item) (found full : ℕ) → queue' ≡ queue → word' ≡ word → mine ≡ [] → found ≡ 0 → full ≡ 0
    → source_shown queue' word' n mine found full ≡ new_source record { queue = queue; word = word } n
seat_made queue queue' word word' n mine found full a b c d e = λ i. source_shown (a i) (b i) n (c i) (d i) (e i)
