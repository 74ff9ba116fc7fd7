-- What is found of the pacings of clauses.
use Rattle.std.specs.Prelude.{ℕ, ◌≡◌, ◌≤◌, ◌+◌, ◌*◌, ◌%◌, ◌^◌, ◌⊎◌, List, [], ◌∷◌, ◌++◌, Option, Some, None, Bool, true, false, ◌&&◌, if◌then◌else◌, nat_eq, map, slice_get, All, Any, Contains, MatchBool}
use Rattle.std.specs.List.{list_all, list_any}
use Rattle.lola_value.specs.Ratio.{Ratio}
use Rattle.lola_value.specs.declared.front.Code.TheVariants as code
use Rattle.lola_model.specs.Activity.{satisfies_some}
use Rattle.lola_model.specs.Model.{is_input}
use Rattle.lola_model.specs.Named.{has_clause}
use Rattle.lola_model.specs.declared.pacing.InputSet.{InputSet}
use Rattle.lola_model.specs.declared.pacing.Pacing.TheVariants.{Event, Periodic, Local}
use Rattle.lola_model.specs.declared.spec.Clause.{Clause}
use Rattle.lola_model.specs.declared.spec.Formula.{Formula}
use Rattle.lola_model.specs.declared.spec.Pace.{Pace}
use Rattle.lola_model.specs.declared.spec.Pace.TheVariants as pace
use Rattle.lola_model.specs.declared.spec.Stream.{Stream}
use Rattle.lola_model.specs.declared.spec.WrittenRate.{WrittenRate}
use Rattle.lola_model.specs.declared.spec.WrittenRate.TheVariants as rate
use Rattle.lola_model.specs.NormalForms.{IsTooWide, IsWide, ListsLeast, ListsNormalForm, parts_of}
use Rattle.lola_model.specs.declared.finding.FoundPacing.{FoundPacing}
use Rattle.lola_model.specs.declared.finding.FoundPacing.TheVariants.{Paced, Refused, Unpaced}

-- E12 and E13 at a place
abbrev pub no_pacing : ℕ → FoundPacing
no_pacing at = Refused (record { code = code.NoPacing; at = at })

abbrev pub too_wide : ℕ → FoundPacing
too_wide at = Refused (record { code = code.PacingTooWide; at = at })

-- given pacings

-- a formula at an `@`: its normal form, or E13 where that of some part is too wide
abbrev pub IsGivenEvent : ℕ → Formula → FoundPacing → Type 0
IsGivenEvent at f (Paced (Event sets)) = ListsNormalForm f sets
IsGivenEvent at f (Paced (Periodic r)) = ⊥
IsGivenEvent at f (Paced (Local r)) = ⊥
IsGivenEvent at f (Refused r) = (Refused r ≡ too_wide at) × Any IsWide (parts_of f)
IsGivenEvent at f Unpaced = ⊥

-- a rate at an `@`: itself, or E17; one that is out of range was refused before
abbrev pub given_rate : ℕ → WrittenRate → FoundPacing
given_rate at rate.OutOfRange = Unpaced
given_rate at rate.TooFast = Refused (record { code = code.PeriodTooShort; at = at })
given_rate at (rate.Of r) = Paced (Periodic r)

-- E21 at a place
abbrev pub without_spawn : ℕ → FoundPacing
without_spawn at = Refused (record { code = code.LocalWithoutSpawn; at = at })

-- a rate in `Local` at an `@`: itself, where the clause is of instances that a spawn clause makes, else E21; or E17
abbrev pub given_local : Bool → ℕ → WrittenRate → FoundPacing
given_local spawned at rate.OutOfRange = if spawned then Unpaced else without_spawn at
given_local spawned at rate.TooFast = Refused (record { code = code.PeriodTooShort; at = at })
given_local spawned at (rate.Of r) = if spawned then Paced (Local r) else without_spawn at

-- what stands behind `@` of a clause, which is of instances that a spawn clause makes or not
abbrev pub IsGiven : Bool → Pace → FoundPacing → Type 0
IsGiven spawned (pace.Event at f) finding = IsGivenEvent at f finding
IsGiven spawned (pace.Rate at r) finding = finding ≡ given_rate at r
IsGiven spawned (pace.Global at r) finding = finding ≡ given_rate at r
IsGiven spawned (pace.Local at r) finding = finding ≡ given_local spawned at r

-- the pacing of the i-th input: the rows that have it
abbrev pub input_finding : ℕ → FoundPacing
input_finding i = Paced (Event (record { 0 = 2 ^ i } ∷ []))

-- of a clause whose pacing, if it has one, is written
abbrev pub IsWritten : Bool → Option Pace → FoundPacing → Type 0
IsWritten spawned None finding = finding ≡ Unpaced
IsWritten spawned (Some p) finding = IsGiven spawned p finding

abbrev pub IsWrittenIn : Bool → Option Clause → FoundPacing → Type 0
IsWrittenIn spawned None finding = finding ≡ Unpaced
IsWrittenIn spawned (Some c) finding = IsWritten spawned c.pace finding

-- the number of inputs up to and with a stream
abbrev pub inputs_with : ℕ → Stream → ℕ
inputs_with i s = if is_input s then i + 1 else i

-- of a stream before which stand i inputs, as far as it is an input or the pacing of its eval clause is written
abbrev pub IsOwn : ℕ → Stream → FoundPacing → Type 0
IsOwn i s finding = MatchBool (is_input s) (finding ≡ input_finding i) (IsWrittenIn (has_clause s.spawn) s.eval finding)

-- of each stream, of which i inputs stand before the first
abbrev pub AreOwn : ℕ → List Stream → List FoundPacing → Type 0
AreOwn i [] [] = Unit {0}
AreOwn i [] (f ∷ fs) = ⊥
AreOwn i (s ∷ ss) [] = ⊥
AreOwn i (s ∷ ss) (f ∷ fs) = IsOwn i s f × AreOwn (inputs_with i s) ss fs

-- found pacings

abbrev pub finding_or : Option FoundPacing → FoundPacing
finding_or None = Unpaced
finding_or (Some f) = f

-- what is found of stream n
abbrev pub finding_at : List FoundPacing → ℕ → FoundPacing
finding_at fs n = finding_or (slice_get fs n)

-- of these streams
abbrev pub findings_at : List FoundPacing → List ℕ → List FoundPacing
findings_at fs ns = map (finding_at fs) ns

-- there is no pacing
abbrev pub is_unpaced : FoundPacing → Bool
is_unpaced (Paced p) = false
is_unpaced (Refused r) = true
is_unpaced Unpaced = true

-- the sets of an event-based pacing
abbrev pub form_of : FoundPacing → List (List InputSet)
form_of (Paced (Event sets)) = sets ∷ []
form_of _ = []

-- the rate of a periodic one
abbrev pub rate_of : FoundPacing → List Ratio
rate_of (Paced (Periodic r)) = r ∷ []
rate_of _ = []

abbrev pub is_event : FoundPacing → Bool
is_event (Paced (Event sets)) = true
is_event (Paced (Periodic r)) = false
is_event (Paced (Local r)) = false
is_event (Refused r) = false
is_event Unpaced = false

abbrev pub is_periodic : FoundPacing → Bool
is_periodic (Paced (Event sets)) = false
is_periodic (Paced (Periodic r)) = true
is_periodic (Paced (Local r)) = false
is_periodic (Refused r) = false
is_periodic Unpaced = false

abbrev pub forms_of : List FoundPacing → List (List InputSet)
forms_of [] = []
forms_of (f ∷ fs) = form_of f ++ forms_of fs

abbrev pub rates_of : List FoundPacing → List Ratio
rates_of [] = []
rates_of (f ∷ fs) = rate_of f ++ rates_of fs

-- a set of inputs satisfies two event-based pacings
abbrev pub satisfies_both : List InputSet → List InputSet → ℕ → Bool
satisfies_both a b inputs = satisfies_some inputs a && satisfies_some inputs b

-- the pacing of these sets, joined in order with the others: E13 where a conjunction on the way has more than 256 sets
abbrev pub IsJoined : ℕ → List InputSet → List (List InputSet) → FoundPacing → Type 0
IsJoined at sets [] finding = finding ≡ Paced (Event sets)
IsJoined at sets (form ∷ forms) finding =
    (IsTooWide (satisfies_both sets form) × (finding ≡ too_wide at))
    ⊎ ((next : List InputSet) × ListsLeast (satisfies_both sets form) next × IsJoined at next forms finding)

-- the pacing that every row satisfies
abbrev pub any_row : List InputSet
any_row = record { 0 = 0 } ∷ []

-- a rate is at most another
abbrev pub IsAtMost : Ratio → Ratio → Type 0
IsAtMost r q = r.num * q.den ≤ q.num * r.den

-- the least of some rates
pub record IsLeastRate (rates : List Ratio) (r : Ratio) : Type 0 where
  pub listed : Contains rates r
  pub least : All (IsAtMost r) rates

-- a rate is a whole number of times another
abbrev pub is_multiple : Ratio → Ratio → Bool
is_multiple r q = nat_eq ((q.num * r.den) % (q.den * r.num)) 0

-- the pacing of the least rate, if it implies all others, else E12
abbrev pub rate_pacing : ℕ → List Ratio → Ratio → FoundPacing
rate_pacing at rates r = if list_all (is_multiple r) rates then Paced (Periodic r) else no_pacing at

abbrev pub IsRateFound : ℕ → List Ratio → FoundPacing → Type 0
IsRateFound at rates finding = (r : Ratio) × IsLeastRate rates r × (finding ≡ rate_pacing at rates r)

-- leaves whose pacings are all there: all by inputs, all by rates, or E12
abbrev pub IsCombined : ℕ → List FoundPacing → FoundPacing → Type 0
IsCombined at fs finding =
    MatchBool (list_all is_event fs) (IsJoined at any_row (forms_of fs) finding)
    (MatchBool (list_all is_periodic fs) (IsRateFound at (rates_of fs) finding) (finding ≡ no_pacing at))

-- of a clause with these leaves: without a leaf what it has alone; where a leaf has no pacing, nothing
abbrev pub IsFound : ℕ → FoundPacing → List FoundPacing → FoundPacing → Type 0
IsFound at alone [] finding = finding ≡ alone
IsFound at alone (f ∷ fs) finding = MatchBool (list_any is_unpaced (f ∷ fs)) (finding ≡ Unpaced) (IsCombined at (f ∷ fs) finding)
