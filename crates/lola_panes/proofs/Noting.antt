-- Lemmas on what is done to a ring of panes.
use Rattle.std.proofs.Common.{◌≡◌, ◌≢◌, ℕ, ◌-◌, ◌≤◌, ◌<◌, List, [], ◌∷◌, ◌++◌, length, take, refl, ap, sym, ◌∙◌, arith, Some, None, ℤ, length-append, take_at, eq-eqb, subst, nat_eq, nat_le, nat_lt, true, false}
use Rattle.std.proofs.lemmas.Bool.Decides.{nat_tests}
use Rattle.std.proofs.lemmas.Bool.{ne_eqb}
use Rattle.circular_buffer.specs.Buffer.{last_item, Buffer, buffer, keep_last}
use Rattle.circular_buffer.proofs.Places.{cut_end, slice_get-last}
use Rattle.lola_model.specs.declared.spec.Agg.{Agg}
use Rattle.lola_panes.specs.declared.pane.Pane.{Pane}
use Rattle.lola_panes.specs.Rings.{new_pane, with_value, noted}

-- one more value behind a list with a last pane: in it, or in a new one
module _ (how : Agg) (number added : ℕ) (sum weight : ℤ) where
  pub noted-same : (us : List Pane) (r : Pane) → r.number ≡ number → noted how number added sum weight (us ++ r ∷ []) ≡ us ++ with_value how weight r ∷ []
  noted-same [] r e = rw (eq-eqb r.number number e) refl
  noted-same (u ∷ []) r e = ap (λ l. u ∷ l) (noted-same [] r e)
  noted-same (u ∷ w ∷ us) r e = ap (λ l. u ∷ l) (noted-same (w ∷ us) r e)

  pub noted-other : (us : List Pane) (r : Pane) → r.number ≢ number → noted how number added sum weight (us ++ r ∷ []) ≡ (us ++ r ∷ []) ++ new_pane number added sum weight ∷ []
  noted-other [] r e = rw (ne_eqb r.number number e) refl
  noted-other (u ∷ []) r e = ap (λ l. u ∷ l) (noted-other [] r e)
  noted-other (u ∷ w ∷ us) r e = ap (λ l. u ∷ l) (noted-other (w ∷ us) r e)

-- tests of numbers

pub le_yes : (a b : ℕ) → a ≤ b → nat_le a b ≡ true
le_yes a b h = grind (arith, nat_tests)

pub le_no : (a b : ℕ) → b < a → nat_le a b ≡ false
le_no a b h = grind (arith, nat_tests)

pub lt_yes : (a b : ℕ) → a < b → nat_lt a b ≡ true
lt_yes a b h = grind (arith, nat_tests)

pub lt_no : (a b : ℕ) → b ≤ a → nat_lt a b ≡ false
lt_no a b h = grind (arith, nat_tests)

eq_yes : (a b : ℕ) → nat_eq a b ≡ true → a ≡ b
eq_yes a b h = grind (arith, nat_tests)

eq_no : (a b : ℕ) → nat_eq a b ≡ false → a ≢ b
eq_no a b h = λ e. grind (arith, nat_tests)

-- a list with a last item is what is before it and that item
pub last_cut : (rs : List Pane) (r : Pane) → last_item rs ≡ Some r → rs ≡ take (length rs - 1) rs ++ r ∷ []
last_cut [] r e = absurd (cc)
last_cut (x ∷ xs) r e =
    let on = cut_end (x ∷ xs) (omega arith) in
    let all = on.0 ++ on.1 ∷ [] in
    let less : length all - 1 ≡ length on.0 = omega (arith, length-append on.0 (on.1 ∷ [])) in
    let got : last_item all ≡ Some on.1 = slice_get-last on.0 on.1 (length all - 1) less in
    let e' : last_item all ≡ Some r = subst (λ l. last_item l ≡ Some r) on.2 e in
    let q : on.1 ≡ r = cc in
    subst (λ l. l ≡ take (length l - 1) l ++ r ∷ []) (sym on.2)
    (ap (λ z. on.0 ++ z ∷ []) q ∙ ap (λ l. l ++ r ∷ []) (sym (take_at on.0 (on.1 ∷ []) (length all - 1) (sym less))))

-- a list with no last item is empty
pub no_last : (rs : List Pane) → last_item rs ≡ None → rs ≡ []
no_last [] e = refl
no_last (x ∷ xs) e =
    let on = cut_end (x ∷ xs) (omega arith) in
    let all = on.0 ++ on.1 ∷ [] in
    let less : length all - 1 ≡ length on.0 = omega (arith, length-append on.0 (on.1 ∷ [])) in
    let got : last_item all ≡ Some on.1 = slice_get-last on.0 on.1 (length all - 1) less in
    let e' : last_item all ≡ None = subst (λ l. last_item l ≡ None) on.2 e in
    absurd (cc)

-- what the ring's calls come to, in the last pane, in a new one, and in the first one
module _ (how : Agg) (number added : ℕ) (sum weight : ℤ) where
  pub note_same : (items : List Pane) (capacity : ℕ) (r q : Pane) (popped pushed : Buffer Pane) → last_item items ≡ Some r → nat_eq r.number number ≡ true → q ≡ with_value how weight r
      → popped ≡ buffer (take (length items - 1) items) capacity → pushed ≡ buffer (keep_last popped.capacity (popped.items ++ q ∷ [])) popped.capacity
      → pushed ≡ buffer (keep_last capacity (noted how number added sum weight items)) capacity
  note_same items capacity r q popped pushed e n w p h =
      h ∙ (ap (λ (b : Buffer Pane). buffer (keep_last b.capacity (b.items ++ q ∷ [])) b.capacity) p
      ∙ ap (λ l. buffer (keep_last capacity l) capacity)
      (ap (λ z. take (length items - 1) items ++ z ∷ []) w
      ∙ (sym (noted-same how number added sum weight (take (length items - 1) items) r (eq_yes r.number number n))
      ∙ ap (noted how number added sum weight) (sym (last_cut items r e)))))

  pub note_other : (items : List Pane) (capacity : ℕ) (r q : Pane) (pushed : Buffer Pane) → last_item items ≡ Some r → nat_eq r.number number ≡ false → q ≡ new_pane number added sum weight
      → pushed ≡ buffer (keep_last capacity (items ++ q ∷ [])) capacity
      → pushed ≡ buffer (keep_last capacity (noted how number added sum weight items)) capacity
  note_other items capacity r q pushed e n w h =
      let cut = last_cut items r e in
      h ∙ ap (λ l. buffer (keep_last capacity l) capacity)
      (ap (λ z. items ++ z ∷ []) w
      ∙ (ap (λ l. l ++ new_pane number added sum weight ∷ []) cut
      ∙ (sym (noted-other how number added sum weight (take (length items - 1) items) r (eq_no r.number number n))
      ∙ ap (noted how number added sum weight) (sym cut))))

  pub note_first : (items : List Pane) (capacity : ℕ) (q : Pane) (pushed : Buffer Pane) → last_item items ≡ None → q ≡ new_pane number added sum weight
      → pushed ≡ buffer (keep_last capacity (items ++ q ∷ [])) capacity
      → pushed ≡ buffer (keep_last capacity (noted how number added sum weight items)) capacity
  note_first items capacity q pushed e w h =
      let none = no_last items e in
      h ∙ ap (λ l. buffer (keep_last capacity l) capacity)
      (ap (λ z. items ++ z ∷ []) w
      ∙ (ap (λ l. l ++ new_pane number added sum weight ∷ []) none
      ∙ ap (noted how number added sum weight) (sym none)))
