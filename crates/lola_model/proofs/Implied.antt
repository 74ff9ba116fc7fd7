-- What implication of pacings comes to: by the sets of normal forms, by formulas, and in each step of a run.
use Rattle.std.proofs.Common.{get_or, ◌≡◌, ap, sym, subst, ◌∙◌, ℕ, ◌-◌, ◌*◌, ◌/◌, ◌<◌, ◌≤◌, min, ◌⊎◌, inl, inr, ◌↔◌, List, [], ◌∷◌, Option, Some, None, Bool, true, ◌||◌, nat_eq, nat_lt, arith}
use Rattle.std.proofs.lemmas.Bool.{cases_lt, ltb-true, lt-ltb, eqb-true, eq-eqb, or_cases, or_left, or_right, and_parts, and_from}
use Rattle.std.proofs.lemmas.Nat.{and_assoc, and_comm}
use Rattle.std.specs.Int.Bits.{bit_and, and_self}
use Rattle.std.proofs.lemmas.Nat.Bits.{bit_at_and, bit_at-lt}
use Rattle.std.proofs.lemmas.List.Elements.{All-contains}
use Rattle.std.proofs.lemmas.List.{get_or_default}
use Rattle.std.proofs.Math.Nat.{mul_comm, mul-div-mul_right}
use Rattle.std.specs.Int.{bit_at}
use Rattle.std.specs.List.{AllPairs, All, Contains}
use Rattle.lola_value.specs.Ratio.{Ratio}
use Rattle.lola_value.specs.Rate.{deadline, next_deadline, next_number}
use Rattle.lola_value.specs.declared.text.Field.{Field}
use Rattle.lola_model.proofs.Strictly.{Contains-here, Contains-there, Contains-cases, Contains-none, All-from_members}
use Rattle.lola_model.proofs.Deadlines.{IsPositiveRate, next_deadline_above, next_deadline_least}
use Rattle.lola_model.specs.Table.{Step}
use Rattle.lola_model.specs.Activity.{satisfies, satisfies_some, present, is_deadline, is_active_at, is_active}
use Rattle.lola_model.specs.Implication.{IsWithin, AreApart, AreLeastSets, has_input, satisfies_formula, IsNormalFormOf, FormulaImplies, IsWholeMultipleOf, IsPacing, Implies, MeansImplication}
use Rattle.lola_model.specs.declared.pacing.InputSet.{InputSet}
use Rattle.lola_model.specs.declared.pacing.Pacing.{Pacing}
use Rattle.lola_model.specs.declared.pacing.Pacing.TheVariants.{Event, Periodic, Local}
use Rattle.lola_model.specs.declared.spec.Formula.{Formula}
use Rattle.lola_model.specs.declared.spec.Formula.TheVariants.{Input, And', Or'}

-- tests

-- one of two tests

-- by the first

-- by the second

-- both of two tests

-- by both

-- sets of inputs

-- a set within inputs is their common part
within_is : (inputs : ℕ) (s : InputSet) → satisfies inputs s ≡ true → bit_and s.0 inputs ≡ s.0
within_is inputs s h = eqb-true (bit_and s.0 inputs) s.0 h

-- a set has all of itself
pub satisfies-self : (s : InputSet) → satisfies s.0 s ≡ true
satisfies-self s = eq-eqb (bit_and s.0 s.0) s.0 (and_self s.0)

-- inputs that have all of a set have all that it has
pub satisfies-through : (inputs : ℕ) (s t : InputSet) → satisfies inputs s ≡ true → satisfies s.0 t ≡ true → satisfies inputs t ≡ true
satisfies-through inputs s t h g =
    let a : bit_and s.0 inputs ≡ s.0 = within_is inputs s h in
    let b : bit_and t.0 s.0 ≡ t.0 = within_is s.0 t g in
    eq-eqb (bit_and t.0 inputs) t.0
    (ap (λ x. bit_and x inputs) (sym b) ∙ (and_assoc inputs t.0 s.0 ∙ (ap (λ x. bit_and t.0 x) a ∙ b)))

-- they satisfy some set of a list exactly where they have all of a member
pub satisfies_some-member : (inputs : ℕ) (sets : List InputSet) → satisfies_some inputs sets ≡ true → (s : InputSet) × Contains sets s × (satisfies inputs s ≡ true)
satisfies_some-member inputs [] h = absurd (cc)
satisfies_some-member inputs (s ∷ sets) h = go (or_cases (satisfies inputs s) (satisfies_some inputs sets) h) (satisfies_some-member inputs sets)
  where
    go : (satisfies inputs s ≡ true) ⊎ (satisfies_some inputs sets ≡ true) → (satisfies_some inputs sets ≡ true → (t : InputSet) × Contains sets t × (satisfies inputs t ≡ true))
        → (t : InputSet) × Contains (s ∷ sets) t × (satisfies inputs t ≡ true)
    go (inl e) more = (s, Contains-here s sets, e)
    go (inr e) more = let w = more e in (w.0, Contains-there s w.0 sets w.1, w.2)

-- and back
pub satisfies_some-by_member : (inputs : ℕ) (sets : List InputSet) (s : InputSet) → Contains sets s → satisfies inputs s ≡ true → satisfies_some inputs sets ≡ true
satisfies_some-by_member inputs [] s c h = absurd (Contains-none s c)
satisfies_some-by_member inputs (t ∷ sets) s c h = go (Contains-cases t s sets c) (satisfies_some-by_member inputs sets s)
  where
    go : (t ≡ s) ⊎ Contains sets s → (Contains sets s → satisfies inputs s ≡ true → satisfies_some inputs sets ≡ true) → satisfies_some inputs (t ∷ sets) ≡ true
    go (inl e) more = or_left (satisfies inputs t) (satisfies_some inputs sets) (subst (λ (x : InputSet). satisfies inputs x ≡ true) (sym e) h)
    go (inr d) more = or_right (satisfies inputs t) (satisfies_some inputs sets) (more d h)

-- more inputs satisfy no less
pub satisfies_some-through : (inputs : ℕ) (s : InputSet) (sets : List InputSet) → satisfies inputs s ≡ true → satisfies_some s.0 sets ≡ true → satisfies_some inputs sets ≡ true
satisfies_some-through inputs s sets h g =
    let w = satisfies_some-member s.0 sets g in
    satisfies_some-by_member inputs sets w.0 w.1 (satisfies-through inputs s w.0 h w.2)

-- one pacing by inputs implies another exactly where each of its least sets satisfies the other
pub implies_by_sets : (a b : List InputSet) → Implies (Event a) (Event b) ↔ All (λ (s : InputSet). satisfies_some s.0 b ≡ true) a
implies_by_sets a b = (
  λ h. All-from_members (λ (s : InputSet). satisfies_some s.0 b ≡ true) a (λ s c. h s.0 (satisfies_some-by_member s.0 a s c (satisfies-self s))),
  λ h inputs g.
      let w = satisfies_some-member inputs a g in
      satisfies_some-through inputs w.0 b w.2 (All-contains (λ (s : InputSet). satisfies_some s.0 b ≡ true) a w.0 h w.1),
)

-- formulas

-- more inputs satisfy no less
has_more : (inputs : ℕ) (s : InputSet) (n : ℕ) → satisfies inputs s ≡ true → has_input s.0 n ≡ true → has_input inputs n ≡ true
has_more inputs s n h g =
    let a : bit_and s.0 inputs ≡ s.0 = within_is inputs s h in
    let b : bit_at s.0 n ≡ 1 = eqb-true (bit_at s.0 n) 1 g in
    let e : bit_at (bit_and s.0 inputs) n ≡ min (bit_at s.0 n) (bit_at inputs n) = bit_at_and s.0 inputs n in
    let f : bit_at (bit_and s.0 inputs) n ≡ bit_at s.0 n = ap (λ x. bit_at x n) a in
    let low : bit_at inputs n < 2 = bit_at-lt inputs n in
    eq-eqb (bit_at inputs n) 1 (omega arith)

-- of formulas
pub satisfies_formula-through : (inputs : ℕ) (s : InputSet) (f : Formula) → satisfies inputs s ≡ true → satisfies_formula s.0 f ≡ true → satisfies_formula inputs f ≡ true
satisfies_formula-through inputs s (Input n) h g = has_more inputs s n h g
satisfies_formula-through inputs s (And' u a v b) h g =
    let w = and_parts (satisfies_formula s.0 a) (satisfies_formula s.0 b) g in
    and_from (satisfies_formula inputs a) (satisfies_formula inputs b) (satisfies_formula-through inputs s a h w.0) (satisfies_formula-through inputs s b h w.1)
satisfies_formula-through inputs s (Or' u a v b) h g =
    go (or_cases (satisfies_formula s.0 a) (satisfies_formula s.0 b) g) (satisfies_formula-through inputs s a h) (satisfies_formula-through inputs s b h)
  where
    go : (satisfies_formula s.0 a ≡ true) ⊎ (satisfies_formula s.0 b ≡ true) → (satisfies_formula s.0 a ≡ true → satisfies_formula inputs a ≡ true)
        → (satisfies_formula s.0 b ≡ true → satisfies_formula inputs b ≡ true) → (satisfies_formula inputs a || satisfies_formula inputs b) ≡ true
    go (inl e) l r = or_left (satisfies_formula inputs a) (satisfies_formula inputs b) (l e)
    go (inr e) l r = or_right (satisfies_formula inputs a) (satisfies_formula inputs b) (r e)

-- two members of a list whose elements stand apart are the same where one has all of the other
member_by_within : (sets : List InputSet) (s w : InputSet) → AllPairs AreApart sets → Contains sets s → Contains sets w → IsWithin w s → w ≡ s
member_by_within sets s w apart c d h =
    let at_s : get_or sets c.0 s ≡ s = c.2 in
    let at_w : get_or sets d.0 s ≡ w = get_or_default sets d.0 s w d.1 ∙ d.2 in
    elim (cases_lt c.0 d.0) [
      | inl lt ↦ absurd ((apart c.0 d.0 s lt d.1).1 (subst (λ x. IsWithin x (get_or sets c.0 s)) (sym at_w) (subst (λ x. IsWithin w x) (sym at_s) h)))
      | inr le ↦
          elim (cases_lt d.0 c.0) [
            | inl lt ↦ absurd ((apart d.0 c.0 s lt c.1).0 (subst (λ x. IsWithin x (get_or sets c.0 s)) (sym at_w) (subst (λ x. IsWithin w x) (sym at_s) h)))
            | inr ge ↦ let e : d.0 ≡ c.0 = omega arith in sym at_w ∙ (ap (λ x. get_or sets x s) e ∙ at_s)
          ]
    ]

-- sets that have all of each other are the same
same_by_within : (s t : InputSet) → IsWithin s t → IsWithin t s → s ≡ t
same_by_within s t h g =
    let a : bit_and s.0 t.0 ≡ s.0 = within_is t.0 s h in
    let b : bit_and t.0 s.0 ≡ t.0 = within_is s.0 t g in
    let e : s.0 ≡ t.0 = sym a ∙ (and_comm s.0 t.0 ∙ b) in
    ap (λ (x : ℕ). let r : InputSet = record { 0 = x } in r) e

-- a test has no other least sets than these
pub least_sets_are_the_same : (passes : ℕ → Bool) (a b : List InputSet) → AreLeastSets passes a → AreLeastSets passes b → (s : InputSet) → Contains a s → Contains b s
least_sets_are_the_same passes a b h g s c =
    let u = satisfies_some-member s.0 b (g.enough s.0 (All-contains (λ (x : InputSet). passes x.0 ≡ true) a s h.passing c)) in
    let w = satisfies_some-member u.0.0 a (h.enough u.0.0 (All-contains (λ (x : InputSet). passes x.0 ≡ true) b u.0 g.passing u.1)) in
    let e : w.0 ≡ s = member_by_within a s w.0 h.apart c w.1 (satisfies-through s.0 u.0 w.0 u.2 w.2) in
    let back : IsWithin s u.0 = subst (λ (x : InputSet). IsWithin x u.0) e w.2 in
    subst (λ (x : InputSet). Contains b x) (same_by_within u.0 s u.2 back) u.1

-- a set of inputs satisfies a formula exactly where it satisfies some set of its normal form
pub normal_form_decides : (f : Formula) (sets : List InputSet) → IsNormalFormOf f sets → (inputs : ℕ) → (satisfies_formula inputs f ≡ true) ↔ (satisfies_some inputs sets ≡ true)
normal_form_decides f sets h inputs = (
  h.enough inputs,
  λ g.
      let w = satisfies_some-member inputs sets g in
      satisfies_formula-through inputs w.0 f w.2 (All-contains (λ (s : InputSet). satisfies_formula s.0 f ≡ true) sets w.0 h.passing w.1),
)

-- one formula implies another exactly where the pacings of their normal forms do
pub formulas_imply : (f g : Formula) (a b : List InputSet) → IsNormalFormOf f a → IsNormalFormOf g b → FormulaImplies f g ↔ Implies (Event a) (Event b)
formulas_imply f g a b h k = (
  λ i inputs e. (normal_form_decides g b k inputs).0 (i inputs ((normal_form_decides f a h inputs).1 e)),
  λ i inputs e. (normal_form_decides g b k inputs).1 (i inputs ((normal_form_decides f a h inputs).0 e)),
)

-- rates

-- equal fractions have the same whole part
same_quotient : (a b c d : ℕ) → 0 < b → 0 < d → a * d ≡ c * b → a / b ≡ c / d
same_quotient a b c d pb pd e =
    sym (mul-div-mul_right a b pd) ∙ (ap (λ x. x / (b * d)) e ∙ (ap (λ x. c * b / x) (mul_comm b d) ∙ mul-div-mul_right c d pb))

-- the products of two equal fractions
products : (k m rd rn qd qn g : ℕ) → qn * rd ≡ m * (qd * rn) → k * (rd * g) * qn ≡ k * m * (qd * g) * rn
products k m rd rn qd qn g h =
    let a : k * (rd * g) * qn ≡ k * g * (qn * rd) = grind arith in
    let b : k * g * (m * (qd * rn)) ≡ k * m * (qd * g) * rn = grind arith in
    a ∙ (ap (λ x. k * g * x) h ∙ b)

-- each deadline of a rate is one of each whole multiple of it
pub deadline_of_multiple : (r q : Ratio) (w : IsWholeMultipleOf q r) → IsPositiveRate r → IsPositiveRate q → (k : ℕ) → deadline r k ≡ deadline q (k * w.0)
deadline_of_multiple r q w h g k =
    same_quotient (k * (r.den * 1000000000)) r.num (k * w.0 * (q.den * 1000000000)) q.num h.num g.num
    (products k w.0 r.den r.num q.den q.num 1000000000 w.1)

-- a deadline is told by the next after the moment before it
is_deadline_by : (r : Ratio) (t k : ℕ) → IsPositiveRate r → 0 < t → deadline r k ≡ t → is_deadline r t ≡ true
is_deadline_by r t k h above e =
    let low : t - 1 < next_deadline r (t - 1) = next_deadline_above r (t - 1) h in
    let high : next_deadline r (t - 1) ≤ deadline r k = next_deadline_least r (t - 1) k h (omega arith) in
    and_from (nat_lt 0 t) (nat_eq (next_deadline r (t - 1)) t) (lt-ltb 0 t above) (eq-eqb (next_deadline r (t - 1)) t (omega arith))

-- where a rate has a deadline, each whole multiple of it has one
multiple_is_due : (r q : Ratio) → IsWholeMultipleOf q r → IsPositiveRate r → IsPositiveRate q → (t : ℕ) → is_deadline r t ≡ true → is_deadline q t ≡ true
multiple_is_due r q w h g t e =
    let p = and_parts (nat_lt 0 t) (nat_eq (next_deadline r (t - 1)) t) e in
    let at : next_deadline r (t - 1) ≡ t = eqb-true (next_deadline r (t - 1)) t p.1 in
    is_deadline_by q t (next_number r (t - 1) * w.0) g (ltb-true 0 t p.0) (sym (deadline_of_multiple r q w h g (next_number r (t - 1))) ∙ at)

-- at a row, or at deadlines
implied_at : (start time : ℕ) (fields : Option (List Field)) (p q : Pacing) → IsPacing p → IsPacing q → Implies p q → is_active_at start time fields p ≡ true → is_active_at start time fields q ≡ true
implied_at start time (Some fields) (Event a) (Event b) hp hq i e = i (present fields) e
implied_at start time None (Event a) (Event b) hp hq i e = absurd (cc)
implied_at start time fields (Event a) (Periodic q) hp hq i e = absurd i
implied_at start time fields (Periodic r) (Event b) hp hq i e = absurd i
implied_at start time (Some fields) (Periodic r) (Periodic q) hp hq i e = absurd (cc)
implied_at start time None (Periodic r) (Periodic q) hp hq i e = multiple_is_due r q i hp hq (time - start) e
implied_at start time fields (Local r) q hp hq i e = absurd i
implied_at start time fields (Event a) (Local q) hp hq i e = absurd i
implied_at start time fields (Periodic r) (Local q) hp hq i e = absurd i

-- in each step in which a pacing is active, each that it implies is
pub implied_is_active : (start : ℕ) (step : Step) (p q : Pacing) → IsPacing p → IsPacing q → Implies p q → is_active start step (Some p) ≡ true → is_active start step (Some q) ≡ true
implied_is_active start step p q hp hq i e = implied_at start step.time step.fields p q hp hq i e

-- the law
pub means_implication : (p q : Pacing) → MeansImplication p q
means_implication p q = record {
  active = λ hp hq i start step e. implied_is_active start step p q hp hq i e;
  by_sets = λ a b e f. subst (λ x. Implies x q ↔ All (λ (s : InputSet). satisfies_some s.0 b ≡ true) a) (sym e) (subst (λ y. Implies (Event a) y ↔ All (λ (s : InputSet). satisfies_some s.0 b ≡ true) a) (sym f) (implies_by_sets a b));
  by_formulas = λ f g a b e k h i. subst (λ x. FormulaImplies f g ↔ Implies x q) (sym e) (subst (λ y. FormulaImplies f g ↔ Implies (Event a) y) (sym k) (formulas_imply f g a b h i));
}
