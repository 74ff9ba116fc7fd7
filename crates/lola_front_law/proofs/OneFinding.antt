-- What is found of a clause is one: of the pacing that is written, and of the pacings of its leaves.
use Rattle.std.proofs.Common.{◌≡◌, sym, ap, subst, ◌∙◌, ℕ, ◌*◌, ◌⊎◌, inl, inr, List, [], ◌∷◌, Bool, true, false, MatchBool, All, Some, None, arith}
use Rattle.std.proofs.lemmas.List.Elements.{All-nil, All-cons, All-head, All-tail, All-append, All-contains}
use Rattle.std.specs.List.{list_all, list_any}
use Rattle.lola_value.specs.Ratio.{Ratio}
use Rattle.lola_value.proofs.Divisors.{lowest_is_one, same_ratio}
use Rattle.lola_model.specs.PacingFound.{too_wide, IsGivenEvent, given_rate, given_local, IsGiven, is_unpaced, is_event, is_periodic, rate_of, forms_of, rates_of, satisfies_both, IsJoined, any_row, IsAtMost, IsLeastRate, rate_pacing, IsRateFound, IsCombined, IsFound}
use Rattle.lola_model.specs.NormalForms.{IsTooWide, ListsLeast}
use Rattle.lola_model.specs.declared.finding.FoundPacing.{FoundPacing}
use Rattle.lola_model.specs.declared.finding.FoundPacing.TheVariants.{Paced, Refused, Unpaced}
use Rattle.lola_model.specs.declared.pacing.InputSet.{InputSet}
use Rattle.lola_model.specs.declared.pacing.Pacing.TheVariants.{Event, Periodic, Local}
use Rattle.lola_model.specs.declared.spec.Formula.{Formula}
use Rattle.lola_model.specs.declared.spec.Pace.{Pace}
use Rattle.lola_model.specs.declared.spec.Pace.TheVariants as pace
use Rattle.lola_types.specs.Filled.{SamePace}
use Rattle.lola_front_law.specs.OnePacing.{IsLowestRate}
use Rattle.lola_front_law.proofs.AlikeKinds.{two}
use Rattle.lola_front_law.proofs.OneForm.{one_least, one_form, form_or_wide, formula_back}

pub on_both : {E : Type 0} (b : Bool) (A B C D : Type 0) → MatchBool b A B → MatchBool b C D → (A → C → E) → (B → D → E) → E
on_both true A B C D x y f g = f x y
on_both false A B C D x y f g = g x y

-- ---- a pacing that is written

one_event : (at by : ℕ) (x y : Formula) (f g : FoundPacing) → at ≡ by → SamePace (Some (pace.Event at x)) (Some (pace.Event by y)) → IsGivenEvent at x f → IsGivenEvent by y g → f ≡ g
one_event at by x y (Paced (Event s)) (Paced (Event t)) e h a b = ap (λ (l : List InputSet). Paced (Event l)) (one_form x y s t h.1 a b)
one_event at by x y (Paced (Event s)) (Refused q) e h a b = absurd (form_or_wide x y s h.1 a b.1)
one_event at by x y (Refused r) (Paced (Event t)) e h a b = absurd (form_or_wide y x t (formula_back x y h.1) b a.1)
one_event at by x y (Refused r) (Refused q) e h a b = a.0 ∙ ap too_wide e ∙ sym b.0
one_event at by x y (Paced (Event s)) _ e h a b = absurd b
one_event at by x y (Refused r) _ e h a b = absurd b
one_event at by x y _ g e h a b = absurd a

pub one_given : (spawned : Bool) (p q : Pace) (f g : FoundPacing) → SamePace (Some p) (Some q) → IsGiven spawned p f → IsGiven spawned q g → f ≡ g
one_given spawned (pace.Event at x) (pace.Event by y) f g h a b = one_event at by x y f g h.0 h a b
one_given spawned (pace.Rate at r) (pace.Rate by t) f g h a b = a ∙ two given_rate at by r t h.0 h.1 ∙ sym b
one_given spawned (pace.Global at r) (pace.Global by t) f g h a b = a ∙ two given_rate at by r t h.0 h.1 ∙ sym b
one_given spawned (pace.Local at r) (pace.Local by t) f g h a b = a ∙ two (given_local spawned) at by r t h.0 h.1 ∙ sym b
one_given spawned _ _ f g h a b = absurd h

pub pace_alone : (p : Pace) → SamePace (Some p) None → ⊥
pace_alone (pace.Event at x) h = h
pace_alone (pace.Rate at r) h = h
pace_alone (pace.Global at r) h = h
pace_alone (pace.Local at r) h = h

-- ---- the pacing of leaves by inputs

one_joined : (at : ℕ) (sets : List InputSet) (forms : List (List InputSet)) (f g : FoundPacing) → IsJoined at sets forms f → IsJoined at sets forms g → f ≡ g
one_joined at sets [] f g a b = a ∙ sym b
one_joined at sets (form ∷ forms) f g a b = go a b (λ next x y. one_joined at next forms f g x y)
  where
    IsEnded : FoundPacing → Type 0
    IsEnded k = IsTooWide (satisfies_both sets form) × (k ≡ too_wide at)

    GoesOn : FoundPacing → Type 0
    GoesOn k = (next : List InputSet) × ListsLeast (satisfies_both sets form) next × IsJoined at next forms k

    go : IsEnded f ⊎ GoesOn f → IsEnded g ⊎ GoesOn g → ((next : List InputSet) → IsJoined at next forms f → IsJoined at next forms g → f ≡ g) → f ≡ g
    go (inl x) (inl y) more = x.1 ∙ sym y.1
    go (inl x) (inr y) more = absurd (y.1.narrow x.0)
    go (inr x) (inl y) more = absurd (x.1.narrow y.0)
    go (inr x) (inr y) more =
        let same = one_least (satisfies_both sets form) x.0 y.0 x.1 y.1 in
        more y.0 (subst (λ (next : List InputSet). IsJoined at next forms f) same x.2) y.2

-- ---- the pacing of leaves by rates: two rates in lowest terms that are one number are one

-- a rate that is found is in lowest terms
abbrev pub HasLowestRate : FoundPacing → Type 0
HasLowestRate (Paced (Event sets)) = Unit {0}
HasLowestRate (Paced (Periodic r)) = IsLowestRate r
HasLowestRate (Paced (Local r)) = Unit {0}
HasLowestRate (Refused r) = Unit {0}
HasLowestRate Unpaced = Unit {0}

rate_lowest : (f : FoundPacing) → HasLowestRate f → All IsLowestRate (rate_of f)
rate_lowest (Paced (Event sets)) h = All-nil IsLowestRate
rate_lowest (Paced (Periodic r)) h = All-cons IsLowestRate r [] h (All-nil IsLowestRate)
rate_lowest (Paced (Local r)) h = All-nil IsLowestRate
rate_lowest (Refused r) h = All-nil IsLowestRate
rate_lowest Unpaced h = All-nil IsLowestRate

rates_lowest : (fs : List FoundPacing) → All HasLowestRate fs → All IsLowestRate (rates_of fs)
rates_lowest [] h = All-nil IsLowestRate
rates_lowest (f ∷ fs) h =
    All-append IsLowestRate (rate_of f) (rates_of fs) (rate_lowest f (All-head HasLowestRate f fs h)) (rates_lowest fs (All-tail HasLowestRate f fs h))

one_rate : (rates : List Ratio) (r q : Ratio) → All IsLowestRate rates → IsLeastRate rates r → IsLeastRate rates q → r ≡ q
one_rate rates r q low a b =
    let up = All-contains (IsAtMost r) rates q a.least b.listed in
    let down = All-contains (IsAtMost q) rates r b.least a.listed in
    let x = All-contains IsLowestRate rates r low a.listed in
    let y = All-contains IsLowestRate rates q low b.listed in
    let same : r.num * q.den ≡ q.num * r.den = omega (arith, up, down) in
    same_ratio r q (lowest_is_one r q x.den y.den x.lowest y.lowest same)

one_rate_found : (at : ℕ) (rates : List Ratio) (f g : FoundPacing) → All IsLowestRate rates → IsRateFound at rates f → IsRateFound at rates g → f ≡ g
one_rate_found at rates f g low a b = a.2 ∙ ap (rate_pacing at rates) (one_rate rates a.0 b.0 low a.1 b.1) ∙ sym b.2

-- ---- the pacing of leaves

one_combined : (at : ℕ) (fs : List FoundPacing) (f g : FoundPacing) → All HasLowestRate fs → IsCombined at fs f → IsCombined at fs g → f ≡ g
one_combined at fs f g low a b =
    on_both (list_all is_event fs) _ _ _ _ a b
    (λ x y. one_joined at any_row (forms_of fs) f g x y)
    (λ x y.
    on_both (list_all is_periodic fs) _ _ _ _ x y
    (λ p q. one_rate_found at (rates_of fs) f g (rates_lowest fs low) p q)
    (λ p q. p ∙ sym q))

pub one_found : (at : ℕ) (alone : FoundPacing) (fs : List FoundPacing) (f g : FoundPacing) → All HasLowestRate fs → IsFound at alone fs f → IsFound at alone fs g → f ≡ g
one_found at alone [] f g low a b = a ∙ sym b
one_found at alone (x ∷ xs) f g low a b =
    on_both (list_any is_unpaced (x ∷ xs)) _ _ _ _ a b (λ p q. p ∙ sym q) (λ p q. one_combined at (x ∷ xs) f g low p q)
