-- The laws of what is found.
use Rattle.std.proofs.Common.{◌≡◌, refl, ap, sym, subst, ◌∙◌, ℕ, ◌*◌, ◌/◌, ◌%◌, ◌+◌, ◌↔◌, List, [], ◌∷◌, Bool, true, false, ◌&&◌, arith, inl, inr}
use Rattle.std.specs.List.{list_all}
use Rattle.std.proofs.Math.Nat.{mul-mod_left}
use Rattle.std.proofs.lemmas.Bool.{eqb-true, eq-eqb, and_from}
use Rattle.std.proofs.lemmas.Nat.{div-add-mod'}
use Rattle.std.proofs.lemmas.List.Sums.{AllPass-from_list_all, list_all-from_AllPass}
use Rattle.lola_value.specs.Ratio.{Ratio}
use Rattle.lola_model.specs.Activity.{satisfies_some}
use Rattle.lola_model.specs.Implication.{Implies, IsWholeMultipleOf, AreLeastSets}
use Rattle.lola_model.specs.declared.pacing.InputSet.{InputSet}
use Rattle.lola_model.specs.declared.pacing.Pacing.{Pacing}
use Rattle.lola_model.specs.declared.pacing.Pacing.TheVariants.{Event, Periodic, Local}
use Rattle.lola_model.proofs.Implied.{implies_by_sets, satisfies_some-member, satisfies_some-through}
use Rattle.lola_model.specs.PacingFound.{IsJoined, any_row, is_multiple, satisfies_both}
use Rattle.lola_pacing.specs.Laws.{MeansConjunction}
use Rattle.lola_model.specs.PacingRefused.{does_imply}
use Rattle.lola_model.specs.declared.finding.FoundPacing.TheVariants.{Paced}

multiple_told : (r q : Ratio) → (is_multiple r q ≡ true) ↔ IsWholeMultipleOf q r
multiple_told r q =
    let a = q.num * r.den in
    let b = q.den * r.num in (
      λ e. (let rest : a % b ≡ 0 = eqb-true (a % b) 0 e in let all : a / b * b + a % b ≡ a = div-add-mod' a b in (a / b, omega (arith, rest, all))),
      λ w. eq-eqb (a % b) 0 (ap (λ (x : ℕ). x % b) w.1 ∙ mul-mod_left w.0 b),
    )

sets_told : (a b : List InputSet) → (does_imply (Event a) (Event b) ≡ true) ↔ Implies (Event a) (Event b)
sets_told a b = (
  λ e. (implies_by_sets a b).1 (AllPass-from_list_all (λ (s : InputSet). satisfies_some s.0 b) a e),
  λ h. list_all-from_AllPass (λ (s : InputSet). satisfies_some s.0 b) a ((implies_by_sets a b).0 h),
)

pub told : (p q : Pacing) → (does_imply p q ≡ true) ↔ Implies p q
told (Event a) (Event b) = sets_told a b
told (Event a) (Periodic q) = (λ e. absurd (cc), λ h. absurd h)
told (Periodic r) (Event b) = (λ e. absurd (cc), λ h. absurd h)
told (Periodic r) (Periodic q) = multiple_told r q
told (Local r) q = (λ e. absurd (cc), λ h. absurd h)
told (Event a) (Local q) = (λ e. absurd (cc), λ h. absurd h)
told (Periodic r) (Local q) = (λ e. absurd (cc), λ h. absurd h)

-- two tests that hold together are equal
pub same_test : (a b : Bool) → (a ≡ true → b ≡ true) → (b ≡ true → a ≡ true) → a ≡ b
same_test true true f g = refl
same_test true false f g = sym (f refl)
same_test false true f g = g refl
same_test false false f g = refl

first_true : (a b : Bool) → (a && b) ≡ true → a ≡ true
first_true true b h = refl
first_true false b h = absurd (cc)

second_true : (a b : Bool) → (a && b) ≡ true → b ≡ true
second_true true b h = h
second_true false b h = absurd (cc)

module _ (a b sets : List InputSet) (least : AreLeastSets (satisfies_both a b) sets) (inputs : ℕ) where
  up : satisfies_some inputs sets ≡ true → satisfies_both a b inputs ≡ true
  up h =
      let m = satisfies_some-member inputs sets h in
      let k = m.1 in
      let here : satisfies_both a b m.0.0 ≡ true = subst (λ (s : InputSet). satisfies_both a b s.0 ≡ true) k.2 (least.passing k.0 m.0 k.1) in
      and_from (satisfies_some inputs a) (satisfies_some inputs b)
      (satisfies_some-through inputs m.0 a m.2 (first_true (satisfies_some m.0.0 a) (satisfies_some m.0.0 b) here))
      (satisfies_some-through inputs m.0 b m.2 (second_true (satisfies_some m.0.0 a) (satisfies_some m.0.0 b) here))

  both_told : satisfies_some inputs sets ≡ satisfies_both a b inputs
  both_told = same_test (satisfies_some inputs sets) (satisfies_both a b inputs) up (least.enough inputs)

and_grouped : (a b c : Bool) → ((a && b) && c) ≡ (a && (b && c))
and_grouped true b c = refl
and_grouped false b c = refl

and_true : (a : Bool) → a ≡ (a && true)
and_true true = refl
and_true false = refl

joined_told : (at : ℕ) (sets result : List InputSet) (forms : List (List InputSet)) → IsJoined at sets forms (Paced (Event result))
    → (inputs : ℕ) → satisfies_some inputs result ≡ list_all (satisfies_some inputs) (sets ∷ forms)
joined_told at sets result [] j inputs = let e : result ≡ sets = cc in ap (satisfies_some inputs) e ∙ and_true (satisfies_some inputs sets)
joined_told at sets result (form ∷ forms) (inl j) inputs = absurd (cc)
joined_told at sets result (form ∷ forms) (inr j) inputs =
    joined_told at j.0 result forms j.2 inputs
    ∙ ap (λ (x : Bool). x && list_all (satisfies_some inputs) forms) (both_told sets form j.0 j.1.least inputs)
    ∙ and_grouped (satisfies_some inputs sets) (satisfies_some inputs form) (list_all (satisfies_some inputs) forms)

any_told : (inputs : ℕ) → satisfies_some inputs any_row ≡ true
any_told inputs = refl

pub means_conjunction : MeansConjunction
means_conjunction = record { every = any_told; joined = joined_told }
