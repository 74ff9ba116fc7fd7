-- What is kept of streams, from the greatest offsets.
use Rattle.std.proofs.Common.{◌≡◌, refl, ap, sym, ◌∙◌, ℕ, zero, suc, ◌+◌, ◌<◌, ◌≤◌, max, List, [], ◌∷◌, Some, length, map, replicate, get_or, arith}
use Rattle.std.proofs.lemmas.List.{get_or_default}
use Rattle.std.proofs.lemmas.List.Elements.{All-head, All-tail}
use Rattle.std.specs.List.{All, slice_get}
use Rattle.lola_model.specs.Bounds.{greatest_offset, offsets_onto, IsKept}
use Rattle.lola_model.specs.declared.spec.Spec.{Spec}
use Rattle.lola_bounds.specs.Offsets.{HasSmallOffsets, IsRaised}

-- of small offsets the greatest is small
pub greatest_small : (ks : List ℕ) → All (λ k. k ≤ 4096) ks → greatest_offset ks ≤ 4096
greatest_small [] h = omega arith
greatest_small (k ∷ ks) h =
    let first : k ≤ 4096 = All-head (λ k. k ≤ 4096) k ks h in
    let rest : greatest_offset ks ≤ 4096 = greatest_small ks (All-tail (λ k. k ≤ 4096) k ks h) in
    omega arith

-- a number of a list of one more than others
one_more_at : (xs : List ℕ) (n k : ℕ) → slice_get (map (λ x. 1 + x) xs) n ≡ Some k → (n < length xs) × (k ≡ 1 + get_or xs n 0)
one_more_at [] n k e = absurd (cc)
one_more_at (x ∷ xs) zero k e = let f : 1 + x ≡ k = cc in (omega arith, sym f)
one_more_at (x ∷ xs) (suc n) k e = let w = one_more_at xs n k e in (omega (arith, w.0), w.1)

zero_at : (count n : ℕ) → get_or {A = ℕ} (replicate {A = ℕ} count 0) n 0 ≡ 0
zero_at zero n = refl
zero_at (suc count) zero = refl
zero_at (suc count) (suc n) = zero_at count n

-- of all streams
raised_at : (spec : Spec) (count n : ℕ) (old new : List ℕ) → old ≡ replicate count 0 → IsRaised (λ n. offsets_onto n spec) old new → n < length new → get_or new n 0 ≡ greatest_offset (offsets_onto n spec)
raised_at spec count n old new e h lt =
    let len : length new ≡ length old = h.count in
    let a : get_or new n 0 ≡ max (get_or old n 0) (greatest_offset (offsets_onto n spec)) = h.each n (omega arith) in
    let b : get_or old n 0 ≡ 0 = ap (λ (xs : List ℕ). get_or xs n 0) e ∙ zero_at count n in
    omega arith

pub raised_small : (spec : Spec) (count : ℕ) (old new : List ℕ) → HasSmallOffsets spec → old ≡ replicate count 0 → IsRaised (λ n. offsets_onto n spec) old new → All (λ k. k ≤ 4096) new
raised_small spec count old new small e h = λ n d lt.
    let a : get_or new n 0 ≡ greatest_offset (offsets_onto n spec) = raised_at spec count n old new e h lt in
    let b : get_or new n d ≡ get_or new n 0 = get_or_default new n d 0 lt in
    let m : greatest_offset (offsets_onto n spec) ≤ 4096 = greatest_small (offsets_onto n spec) (small.small n) in
    omega arith

pub kept_each : (spec : Spec) (count : ℕ) (old new : List ℕ) → old ≡ replicate count 0 → IsRaised (λ n. offsets_onto n spec) old new → (n k : ℕ) → slice_get (map (λ x. 1 + x) new) n ≡ Some k → IsKept spec n k
kept_each spec count old new e h n k at =
    let w = one_more_at new n k at in
    w.1 ∙ ap (λ x. 1 + x) (raised_at spec count n old new e h w.0)
