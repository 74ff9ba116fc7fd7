-- Implication of pacings, tried on small ones.
use Rattle.std.proofs.Common.{◌≡◌, refl, ap, ◌∙◌, ◌*◌, List, [], ◌∷◌, Bool, true, false, ◌||◌, ◌&&◌, nat_eq, arith}
use Rattle.std.proofs.lemmas.Bool.{eqb-true, eq-eqb}
use Rattle.std.proofs.lemmas.Nat.{and_comm}
use Rattle.std.proofs.lemmas.Nat.Bits.{and_pow}
use Rattle.std.proofs.lemmas.List.Elements.{All-nil, All-cons}
use Rattle.std.specs.Int.{bit_at}
use Rattle.std.specs.Int.Bits.{bit_and}
use Rattle.lola_model.proofs.Build.{Around}
use Rattle.lola_model.proofs.Strictly.{AllPairs-nil, AllPairs-cons}
use Rattle.lola_model.proofs.Implied.{implies_by_sets}
use Rattle.lola_model.specs.Activity.{satisfies_some}
use Rattle.lola_model.specs.Implication.{satisfies_formula, AreApart, IsNormalFormOf, Implies}
use Rattle.lola_model.specs.declared.pacing.InputSet.{InputSet}
use Rattle.lola_model.specs.declared.pacing.Pacing.TheVariants.{Event, Periodic}
use Rattle.lola_model.specs.declared.spec.Formula.{Formula}
use Rattle.lola_model.specs.declared.spec.Formula.TheVariants.{Input, And', Or'}

-- the inputs a and b, alone and together
abbrev a_alone : List InputSet
a_alone = record { 0 = 1 } ∷ []

abbrev both_inputs : List InputSet
both_inputs = record { 0 = 3 } ∷ []

-- a || (a && b)
abbrev a_or_both : Around → Formula
a_or_both u = Or' u (Input 0) u (And' u (Input 0) u (Input 1))

absorbed : (x y : Bool) → (x || (x && y)) ≡ true → x ≡ true
absorbed true y h = refl
absorbed false y h = h

-- its one least set is a alone
the_least_set_is_a_alone : (u : Around) → IsNormalFormOf (a_or_both u) a_alone
the_least_set_is_a_alone u = record {
  passing = All-cons (λ (s : InputSet). satisfies_formula s.0 (a_or_both u) ≡ true) (record { 0 = 1 }) [] refl (All-nil (λ (s : InputSet). satisfies_formula s.0 (a_or_both u) ≡ true));
  enough = λ inputs h.
      let has : bit_at inputs 0 ≡ 1 = eqb-true (bit_at inputs 0) 1 (absorbed (nat_eq (bit_at inputs 0) 1) (nat_eq (bit_at inputs 1) 1) h) in
      let e : bit_and 1 inputs ≡ 1 = and_comm 1 inputs ∙ (and_pow inputs 0 ∙ ap (λ x. x * 1) has) in
      ap (λ b. b || false) (eq-eqb (bit_and 1 inputs) 1 e);
  apart = AllPairs-cons AreApart (record { 0 = 1 }) [] (All-nil (AreApart (record { 0 = 1 }))) (AllPairs-nil AreApart);
}

-- the two together imply a alone, and not the other way round
both_imply_one : Implies (Event both_inputs) (Event a_alone)
both_imply_one = (implies_by_sets both_inputs a_alone).1 (All-cons (λ (s : InputSet). satisfies_some s.0 a_alone ≡ true) (record { 0 = 3 }) [] refl (All-nil (λ (s : InputSet). satisfies_some s.0 a_alone ≡ true)))

one_does_not_imply_both : ¬ (Implies (Event a_alone) (Event both_inputs))
one_does_not_imply_both h = let e : false ≡ true = h 1 refl in cc

-- once a second implies twice a second, and not the other way round; nor does 2 Hz imply 3 Hz
one_hertz_implies_two : Implies (Periodic (record { num = 1; den = 1 })) (Periodic (record { num = 2; den = 1 }))
one_hertz_implies_two = (2, refl)

two_hertz_do_not_imply_one : ¬ (Implies (Periodic (record { num = 2; den = 1 })) (Periodic (record { num = 1; den = 1 })))
two_hertz_do_not_imply_one h = let e : 1 ≡ h.0 * 2 = h.1 in omega arith

two_hertz_do_not_imply_three : ¬ (Implies (Periodic (record { num = 2; den = 1 })) (Periodic (record { num = 3; den = 1 })))
two_hertz_do_not_imply_three h = let e : 3 ≡ h.0 * 2 = h.1 in omega arith

-- once in two seconds implies one and a half times a second
half_a_hertz_implies_three_halves : Implies (Periodic (record { num = 1; den = 2 })) (Periodic (record { num = 3; den = 2 }))
half_a_hertz_implies_three_halves = (3, refl)
