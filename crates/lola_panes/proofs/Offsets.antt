-- Which offsets a pane has, and when it has left a window.
use Rattle.std.proofs.Common.{◌≡◌, ℕ, zero, suc, refl, ◌+◌, ◌*◌, ◌/◌, ◌%◌, ◌<◌, ◌≤◌, arith, sub-one, inl, inr, ap, sym, ◌∙◌, nat_lt}
use Rattle.lola_panes.proofs.Noting.{lt_yes, lt_no}
use Rattle.std.proofs.Math.Dec.{eqb-suc-zero}
use Rattle.std.proofs.Math.Nat.{mul-le-mul_right, mod-lt, mul-div_right}
use Rattle.std.proofs.lemmas.Nat.{div-add-mod'}
use Rattle.circular_buffer.proofs.Places.{below_or_not}
use Rattle.lola_panes.specs.Weights.{number_at}
use Rattle.lola_panes.specs.Restored.{first_offset}

number_suc : (g o : ℕ) → number_at g (suc o) ≡ o / g + 1
number_suc g o = rw (eqb-suc-zero o) (simp sub-one)

-- an offset lies in its pane: above its beginning, at most its end
pub number_bounds : (g o : ℕ) → 1 ≤ g → (o ≤ number_at g o * g) × (number_at g o * g < o + g)
number_bounds g zero h = (omega arith, omega arith)
number_bounds g (suc o) h =
    let e : o / g * g + o % g ≡ o = div-add-mod' o g in
    let r : o % g < g = mod-lt o (omega arith) in
    let m : (o / g + 1) * g ≡ o / g * g + g = omega arith in
    let n : number_at g (suc o) * g ≡ (o / g + 1) * g = ap (λ z. z * g) (number_suc g o) in
    (omega arith, omega arith)

-- the pane has left the window that ends with pane k, and then the offset has; else neither has
pub left_window : (g most k o : ℕ) → 1 ≤ g → number_at g o + most ≤ k → o + most * g ≤ k * g
left_window g most k o h l =
    let b = number_bounds g o h in
    let m : (number_at g o + most) * g ≤ k * g = mul-le-mul_right g l in
    omega (arith, b.0, m)

pub in_window : (g most k o : ℕ) → 1 ≤ g → k < number_at g o + most → k * g < o + most * g
in_window g most k o h l =
    let b = number_bounds g o h in
    let l' : k + 1 ≤ number_at g o + most = omega arith in
    let m : (k + 1) * g ≤ (number_at g o + most) * g = mul-le-mul_right g l' in
    omega (arith, b.1, m)

-- an offset that is at most that of pane k's end is of no later pane
pub number_le : (g k o : ℕ) → 1 ≤ g → o ≤ k * g → number_at g o ≤ k
number_le g k o h l =
    elim (below_or_not k (number_at g o)) [
      | inl m ↦
          let b = number_bounds g o h in
          let m' : k + 1 ≤ number_at g o = omega arith in
          let n : (k + 1) * g ≤ number_at g o * g = mul-le-mul_right g m' in
          absurd (omega (arith, b.1, n))
      | inr m ↦ m
    ]

-- a later offset is of no earlier pane
pub number_monotone : (g o q : ℕ) → 1 ≤ g → o ≤ q → number_at g o ≤ number_at g q
number_monotone g o q h l = number_le g (number_at g q) o h (let b = number_bounds g q h in omega (arith, b.0))

-- a multiple of the length of a pane
pub whole_div : (pane offset k : ℕ) → 1 ≤ pane → offset ≡ k * pane → offset / pane ≡ k
whole_div pane offset k g e =
    let l : 0 < pane = omega arith in
    let swap : offset ≡ pane * k = omega arith in
    ap (λ o. o / pane) swap ∙ mul-div_right k l

pub whole_again : (pane offset k : ℕ) → 1 ≤ pane → offset ≡ k * pane → offset / pane * pane ≡ offset
whole_again pane offset k g e = ap (λ q. q * pane) (whole_div pane offset k g e) ∙ sym e

-- the window reaches before the start exactly where it has more panes than passed
pub early_same : (pane most offset k : ℕ) → 1 ≤ pane → offset ≡ k * pane → nat_lt (offset / pane) most ≡ nat_lt offset (most * pane)
early_same pane most offset k g e =
    let q = whole_div pane offset k g e in
    elim (below_or_not k most) [
      | inl l ↦
          let l' : k + 1 ≤ most = omega arith in
          let m : (k + 1) * pane ≤ most * pane = mul-le-mul_right pane l' in
          lt_yes (offset / pane) most (omega arith) ∙ sym (lt_yes offset (most * pane) (omega arith))
      | inr l ↦
          let m : most * pane ≤ k * pane = mul-le-mul_right pane l in
          lt_no (offset / pane) most (omega arith) ∙ sym (lt_no offset (most * pane) (omega arith))
    ]

-- the least offset that lies in a pane does
pub first_number : (pane n : ℕ) → 1 ≤ pane → number_at pane (first_offset pane n) ≡ n
first_number pane zero g = refl
first_number pane (suc n) g =
    let e : first_offset pane (suc n) ≡ suc (n * pane) = rw (eqb-suc-zero n) (rw sub-one (omega arith)) in
    ap (number_at pane) e ∙ (number_suc pane (n * pane) ∙ (ap (λ k. k + 1) (whole_div pane (n * pane) n g refl) ∙ omega arith))
