-- What it does to layers to raise one of them.
use Rattle.std.proofs.Common.{◌≡◌, ◌≢◌, refl, ap, sym, ◌∙◌, ℕ, zero, suc, ◌+◌, ◌*◌, ◌<◌, ◌≤◌, List, [], ◌∷◌, ◌++◌, Bool, true, false, ◌||◌, pos, arith, length, replicate, slice_set, inl, inr}
use Rattle.std.specs.Prelude.{slice_index}
use Rattle.std.specs.List.{Contains}
use Rattle.std.proofs.lemmas.Bool.{cases_eq, cases_lt}
use Rattle.std.proofs.lemmas.List.{get_or-set_same, get_or-set_other}
use Rattle.std.proofs.lemmas.List.Elements.{Contains-append_cases, Contains-push_cases}
use Rattle.lola_model.specs.declared.graph.Edge.{Edge}
use Rattle.lola_layers.specs.Raised.{AreReached, total, IsRaised}

only_one : (e x : Edge) → Contains (e ∷ []) x → e ≡ x
only_one e x c = elim (Contains-push_cases [] e x c) [ inl a ↦ (let k : a.0 < 0 = a.1 in absurd (omega arith)) | inr p ↦ p ]

total-set : (xs : List ℕ) (k y : ℕ) → k < length xs → slice_index xs k < y → total xs < total (slice_set xs k y)
total-set [] k y lt h = absurd (omega arith)
total-set (x ∷ xs) zero y lt h = omega (arith, h)
total-set (x ∷ xs) (suc k) y lt h = omega (arith, total-set xs k y (omega arith) h)

-- layers of at most so much each
pub total_low : (xs : List ℕ) → ((k : ℕ) → slice_index xs k ≤ 2048) → total xs ≤ length xs * 2048
total_low [] h = omega arith
total_low (x ∷ xs) h = omega (arith, h 0, total_low xs (λ k. h (suc k)))

none_at : (count n : ℕ) → slice_index (replicate count 0) n ≡ 0
none_at zero n = refl
none_at (suc count) zero = refl
none_at (suc count) (suc n) = none_at count n

-- no layer is raised yet
pub reached_none : (edges : List Edge) (count : ℕ) → AreReached edges (replicate count 0)
reached_none edges count n = ([], n, refl, tt, sym (none_at count n))

module _ (e : Edge) (layers : List ℕ) where
  -- a read of an earlier step
  pub raised_none : e.weight ≢ pos 0 → IsRaised (e ∷ []) layers layers false
  raised_none ne = (refl, λ x c w. (let q : e ≡ x = only_one e x c in absurd (ne (ap (λ (y : Edge). y.weight) q ∙ w))))

  -- a read of a lower layer
  pub raised_low : slice_index layers e.to < slice_index layers e.from → IsRaised (e ∷ []) layers layers false
  raised_low h = (refl, λ x c w. (let q : e ≡ x = only_one e x c in rw (← q) h))

  -- any other read
  pub raised_high : e.from < length layers → slice_index layers e.from ≤ slice_index layers e.to → IsRaised (e ∷ []) layers (slice_set layers e.from (slice_index layers e.to + 1)) true
  raised_high lt h = total-set layers e.from (slice_index layers e.to + 1) lt (omega arith)

  -- the raised layer is reached over the read
  pub reached_high : (edges : List Edge) → Contains edges e → e.weight ≡ pos 0 → e.from < length layers → AreReached edges layers → AreReached edges (slice_set layers e.from (slice_index layers e.to + 1))
  reached_high edges c w lt h n =
      elim (cases_eq n e.from) [
        | inl q ↦ (let r = h e.to in
            let at : slice_index (slice_set layers e.from (slice_index layers e.to + 1)) e.from ≡ slice_index layers e.to + 1 = get_or-set_same layers e.from (slice_index layers e.to + 1) 0 lt in
            rw (q, at) (e ∷ r.0, r.1, (c, refl, r.2), (w, r.3), omega (arith, r.4)))
        | inr ne ↦ rw (get_or-set_other layers e.from n (slice_index layers e.to + 1) 0 ne) (h n)
      ]

-- along some edges, and then along others
pub raised_both : (xs ys : List Edge) (a b c : List ℕ) (r s : Bool) → IsRaised xs a b r → IsRaised ys b c s → IsRaised (xs ++ ys) a c (r || s)
raised_both xs ys a b c true true f g = omega (arith, f, g)
raised_both xs ys a b c true false f g = rw g.0 f
raised_both xs ys a b c false true f g = rw (← f.0) g
raised_both xs ys a b c false false f g = (g.0 ∙ f.0, λ x k w. elim (Contains-append_cases xs ys x k) [ inl i ↦ rw g.0 (f.1 x i w) | inr j ↦ g.1 x j w ])

-- a test that failed
pub not_below : (a b : ℕ) (t : Bool) → t ≡ false → (a < b → t ≡ true) → b ≤ a
not_below a b t e h = elim (cases_lt a b) [ inl lt ↦ (let k : t ≡ true = h lt in let q : true ≡ false = cc in absurd (cc)) | inr le ↦ le ]
