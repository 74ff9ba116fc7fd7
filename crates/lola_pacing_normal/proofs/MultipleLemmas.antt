-- When one product is a whole multiple of another.
use Rattle.std.proofs.Common.{◌≡◌, ap, ◌∙◌, ℕ, zero, suc, ◌+◌, ◌*◌, ◌/◌, ◌%◌, ◌<◌, ◌↔◌, IsTrue, nat_eq, arith}
use Rattle.std.proofs.lemmas.Bool.{eqb-true, eq-eqb}
use Rattle.std.proofs.lemmas.Nat.{div-add-mod', mod-mul-add}

-- a product of numbers above 0 is above 0
pub above_zero : (a b : ℕ) → 0 < a → 0 < b → 0 < a * b
above_zero zero b h g = absurd (omega arith)
above_zero (suc a) zero h g = absurd (omega arith)
above_zero (suc a) (suc b) h g = grind arith

-- without a rest is a whole number of times
pub whole_times : (a b : ℕ) → 0 < b → IsTrue (nat_eq (a % b) 0) ↔ ((times : ℕ) × (a ≡ times * b))
whole_times a b h = (
  λ e. let rest : a % b ≡ 0 = eqb-true (a % b) 0 e in let all : a / b * b + a % b ≡ a = div-add-mod' a b in (a / b, omega arith),
  λ w.
      let rest : (w.0 * b + 0) % b ≡ 0 = mod-mul-add w.0 b 0 h in
      let same : a ≡ w.0 * b + 0 = omega (arith, w.1) in
      eq-eqb (a % b) 0 (ap (λ x. x % b) same ∙ rest),
)
