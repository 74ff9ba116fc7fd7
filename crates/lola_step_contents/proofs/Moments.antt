-- A deadline of a rate is a whole number of panes after where the rate counts from.
use Rattle.std.proofs.Common.{◌≡◌, ap, sym, subst, ◌∙◌, ℕ, zero, suc, ◌-◌, ◌*◌, ◌/◌, ◌%◌, ◌<◌, List, Option, Some, None, true, nat_lt, nat_eq, arith}
use Rattle.std.specs.Int.{◌∣◌}
use Rattle.std.proofs.Math.Nat.{div-mul_cancel, div-zero, dvd-mul_left_of_dvd, mul-div_cancel}
use Rattle.std.proofs.lemmas.Bool.{eqb-true, ltb-true}
use Rattle.std.proofs.lemmas.Nat.Gcd.{dvd_of_mod-eq-zero, mod-eq-zero_of_dvd}
use Rattle.lola_value.specs.Ratio.{Ratio}
use Rattle.lola_value.specs.Rate.{deadline, next_deadline, next_number, period_over}
use Rattle.lola_value.specs.declared.text.Field.{Field}
use Rattle.lola_model.specs.Activity.{is_active, is_active_at, is_active_for, is_deadline}
use Rattle.lola_model.specs.Bounds.{ArePanesOf}
use Rattle.lola_model.specs.Store.{pane_of}
use Rattle.lola_model.specs.Table.{Step}
use Rattle.lola_model.specs.declared.pacing.Pacing.{Pacing}
use Rattle.lola_model.specs.declared.pacing.Pacing.TheVariants.{Event, Periodic, Local}
use Rattle.lola_model.specs.declared.plan.PaneSize.{PaneSize}
use Rattle.lola_expr.proofs.OperandLemmas.{first, second}

-- so many times a number by what divides it
times_quotient : (k x n : ℕ) → x % n ≡ 0 → 0 < k * x / n → k * x / n ≡ k * (x / n)
times_quotient k x zero whole above = absurd (let none : k * x / 0 ≡ 0 = div-zero (k * x) in omega arith)
times_quotient k x (suc n) whole above =
    let cancels : x / suc n * suc n ≡ x = div-mul_cancel (suc n) (dvd_of_mod-eq-zero (suc n) whole) in
    let product : k * x ≡ k * (x / suc n) * suc n = ap (λ y. k * y) (sym cancels) ∙ omega arith in
    ap (λ y. y / suc n) product ∙ mul-div_cancel (k * (x / suc n)) (omega arith)

-- a deadline is a multiple of each part of a period that is whole
part_of_deadline : (r : Ratio) (after pane : ℕ) → period_over r % r.num ≡ 0 → pane ∣ period_over r / r.num → is_deadline r after ≡ true → after % pane ≡ 0
part_of_deadline r after pane whole part due =
    let above : 0 < after = ltb-true 0 after (first (nat_lt 0 after) (nat_eq (next_deadline r (after - 1)) after) due) in
    let k = next_number r (after - 1) in
    let is : deadline r k ≡ after = eqb-true (next_deadline r (after - 1)) after (second (nat_lt 0 after) (nat_eq (next_deadline r (after - 1)) after) due) in
    let times : deadline r k ≡ k * (period_over r / r.num) = times_quotient k (period_over r) r.num whole (subst (λ (t : ℕ). 0 < t) (sym is) above) in
    mod-eq-zero_of_dvd pane (subst (λ (t : ℕ). pane ∣ t) (sym times ∙ is) (dvd-mul_left_of_dvd pane part k))

-- what is active for all instances is active for each
pub active_for : (start born : ℕ) (step : Step) (o : Option Pacing) → is_active start step o ≡ true → is_active_for start born step o ≡ true
active_for start born step None active = active
active_for start born step (Some (Event sets)) active = active
active_for start born step (Some (Periodic r)) active = active
active_for start born step (Some (Local r)) active = absurd (never step.fields active)
  where
    never : (fields : Option (List Field)) → is_active_at start step.time fields (Local r) ≡ true → ⊥
    never None active = cc
    never (Some fields) active = cc

-- where a clause is active that a window with these panes stands in, the moment is whole panes after the start: no local clause has
-- panes
pub whole_panes : (start born : ℕ) (step : Step) (o : Option Pacing) (over : ℕ) (q : Option PaneSize) → ArePanesOf o over q → is_active_for start born step o ≡ true
    → (step.time - start) % pane_of q ≡ 0
whole_panes start born step None over q panes active = absurd (cc)
whole_panes start born step (Some (Event sets)) over q panes active = absurd panes
whole_panes start born step (Some (Local r)) over q panes active = absurd panes
whole_panes start born step (Some (Periodic r)) over None panes active = absurd panes
whole_panes start born step (Some (Periodic r)) over (Some p) panes active = at step.fields active
  where
    at : (fields : Option (List Field)) → is_active_at start step.time fields (Periodic r) ≡ true → (step.time - start) % p.pane ≡ 0
    at None active = part_of_deadline r (step.time - start) p.pane panes.whole panes.pane.0 active
    at (Some fields) active = absurd (cc)
