-- What is found of each clause of a specification, and what stands against its windows.
use Rattle.std.proofs.Common.{◌≡◌, refl, sym, subst, ◌⊎◌, inl, inr, ℕ, zero, suc, ◌+◌, ◌*◌, ◌/◌, ◌%◌, ◌<◌, ◌≤◌, ◌^◌, List, [], ◌∷◌, Option, Some, None, Bool, true, false, if◌then◌else◌, MatchBool, Result, Ok, Err, length, filter, lit<, arith}
use Rattle.std.specs.Int.{IsGcd}
use Rattle.std.specs.List.{list_all, list_any}
use Rattle.std.proofs.lemmas.Bool.{cases_eq, cases_lt}
use Rattle.std.proofs.lemmas.List.Elements.{All-nil, All-cons}
use Rattle.std.proofs.lemmas.Nat.{pow_below}
use Rattle.std.proofs.lemmas.Nat.Gcd.{IsGcd-from_mod, IsGcd-from_zero}
use Rattle.lola_value.specs.Ratio.{Ratio}
use Rattle.lola_value.specs.Rate.{period_over}
use Rattle.lola_value.specs.declared.front.Code.{Code}
use Rattle.lola_value.specs.declared.front.Code.TheVariants as code
use Rattle.lola_model.specs.Accepted.{AreClausesInRange, IsClauseInRange}
use Rattle.lola_model.specs.Formulas.{AreOverInputs, IsClauseOverInputs, IsOverInputs, IsPaceOverInputs}
use Rattle.lola_model.specs.Model.{is_input}
use Rattle.lola_model.specs.Named.{has_clause}
use Rattle.lola_model.specs.NormalForms.{HasInputsBelow}
use Rattle.lola_model.specs.Leaves.{is_end}
use Rattle.lola_model.specs.PacingFound.{AreOwn, IsCombined, IsFound, IsGiven, IsGivenEvent, IsJoined, IsRateFound, IsWritten, IsWrittenIn, any_row, finding_at, findings_at, forms_of, given_local, given_rate, input_finding, inputs_with, is_event, is_multiple, is_periodic, is_unpaced, no_pacing, rate_pacing, rates_of, too_wide}
use Rattle.lola_model.specs.Pacings.{AreWindowRefusals, Found, InStep, IsClauseFound, IsCloseFound, IsEvalFound, IsFromLeaves, IsPaceFound, IsSpawnFound, finding_of_part, only_pacing, place_of}
use Rattle.lola_model.specs.StepOrder.{AreRates, IsPositiveRate}
use Rattle.lola_model.specs.WindowRefusals.{IsRateRefusal, IsWindowRefusal}
use Rattle.lola_model.specs.declared.finding.FoundPacing.{FoundPacing}
use Rattle.lola_model.specs.declared.finding.FoundPacing.TheVariants.{Paced, Refused, Unpaced}
use Rattle.lola_model.specs.declared.pacing.InputSet.{InputSet}
use Rattle.lola_model.specs.declared.pacing.Pacing.TheVariants.{Event, Periodic, Local}
use Rattle.lola_model.specs.declared.spec.Clause.{Clause}
use Rattle.lola_model.specs.declared.spec.Formula.{Formula}
use Rattle.lola_model.specs.declared.spec.Pace.{Pace}
use Rattle.lola_model.specs.declared.spec.Pace.TheVariants as pace
use Rattle.lola_model.specs.declared.spec.Spec.{Spec}
use Rattle.lola_model.specs.declared.spec.Stream.{Stream}
use Rattle.lola_model.specs.declared.spec.WindowSpec.{WindowSpec}
use Rattle.lola_model.specs.declared.spec.WrittenRate.{WrittenRate}
use Rattle.lola_model.specs.declared.spec.WrittenRate.TheVariants as rate
use Rattle.lola_pacing_normal.specs.Formulas.{AnswersNormal}
use Rattle.lola_pacing_normal.specs.declared.answer.NormalEnd.{NormalEnd}
use Rattle.lola_pacing_normal.specs.declared.answer.NormalEnd.TheVariants as ends
use Rattle.lola_front_law.specs.Rated.{AreRated, IsRatedClause, IsRatedPace, IsRatedWritten}
use Rattle.lola_front_law.proofs.FormsFound.{AreFormsSmall, joined_of, normal_of}
use Rattle.lola_front_law.proofs.LeastFound.{AreSmall, IsAnswer}
use Rattle.lola_front_law.proofs.LeavesFound.{leaves_of}
use Rattle.lola_front_law.proofs.RatesFound.{least_rate, rate_among}

-- ---- what is kept of each finding

-- its rate, if it has one, is a rate
abbrev pub IsRatedFinding : FoundPacing → Type 0
IsRatedFinding (Paced (Event sets)) = Unit {0}
IsRatedFinding (Paced (Periodic r)) = IsPositiveRate r
IsRatedFinding (Paced (Local r)) = IsPositiveRate r
IsRatedFinding (Refused r) = Unit {0}
IsRatedFinding Unpaced = Unit {0}

-- .. and its sets are of inputs that a specification may have
abbrev pub IsFit : FoundPacing → Type 0
IsFit (Paced (Event sets)) = AreSmall sets
IsFit (Paced (Periodic r)) = IsPositiveRate r
IsFit (Paced (Local r)) = IsPositiveRate r
IsFit (Refused r) = Unit {0}
IsFit Unpaced = Unit {0}

fit_rated : (k : FoundPacing) → IsFit k → IsRatedFinding k
fit_rated (Paced (Event sets)) h = tt
fit_rated (Paced (Periodic r)) h = h
fit_rated (Paced (Local r)) h = h
fit_rated (Refused r) h = tt
fit_rated Unpaced h = tt

-- something is found for which this holds
pub record HasFit (P : FoundPacing → Type 0) : Type 0 where
  pub finding : FoundPacing
  pub is : P finding
  pub fit : IsFit finding

pub record HasRated (P : FoundPacing → Type 0) : Type 0 where
  pub finding : FoundPacing
  pub is : P finding
  pub rated : IsRatedFinding finding

rated_of : (P : FoundPacing → Type 0) → HasFit P → HasRated P
rated_of P h = record { finding = h.finding; is = h.is; rated = fit_rated h.finding h.fit }

-- ---- pacings that are given

event_by : (at : ℕ) (f : Formula) (r : Result (List InputSet) NormalEnd) → AnswersNormal f r → IsAnswer r → HasFit (IsGivenEvent at f)
event_by at f (Ok sets) h low = record { finding = Paced (Event sets); is = h; fit = low }
event_by at f (Err ends.TooWide) h low = record { finding = too_wide at; is = (refl, h); fit = tt }
event_by at f (Err ends.Memory) h low = absurd low

given_event : (at : ℕ) (f : Formula) → HasInputsBelow 64 f → HasFit (IsGivenEvent at f)
given_event at f low = let n = normal_of f low in event_by at f n.result n.answers n.is

rate_fit : (at : ℕ) (w : WrittenRate) → IsRatedWritten w → IsFit (given_rate at w)
rate_fit at rate.OutOfRange h = tt
rate_fit at rate.TooFast h = tt
rate_fit at (rate.Of r) h = h

local_fit : (spawned : Bool) (at : ℕ) (w : WrittenRate) → IsRatedWritten w → IsFit (given_local spawned at w)
local_fit true at rate.OutOfRange h = tt
local_fit false at rate.OutOfRange h = tt
local_fit true at rate.TooFast h = tt
local_fit false at rate.TooFast h = tt
local_fit true at (rate.Of r) h = h
local_fit false at (rate.Of r) h = tt

given : (spawned : Bool) (p : Pace) → IsOverInputs p → IsRatedPace (Some p) → HasFit (IsGiven spawned p)
given spawned (pace.Event at f) low rated = given_event at f low
given spawned (pace.Rate at w) low rated = record { finding = given_rate at w; is = refl; fit = rate_fit at w rated }
given spawned (pace.Global at w) low rated = record { finding = given_rate at w; is = refl; fit = rate_fit at w rated }
given spawned (pace.Local at w) low rated = record { finding = given_local spawned at w; is = refl; fit = local_fit spawned at w rated }

-- ---- what streams have by themselves

written : (spawned : Bool) (p : Option Pace) → IsPaceOverInputs p → IsRatedPace p → HasFit (IsWritten spawned p)
written spawned None low rated = record { finding = Unpaced; is = refl; fit = tt }
written spawned (Some p) low rated = given spawned p low rated

written_in : (spawned : Bool) (c : Option Clause) → IsClauseOverInputs c → IsRatedClause c → HasFit (IsWrittenIn spawned c)
written_in spawned None low rated = record { finding = Unpaced; is = refl; fit = tt }
written_in spawned (Some c) low rated = written spawned c.pace low rated

input_fit : (i : ℕ) → i < 64 → IsFit (input_finding i)
input_fit i low = All-cons (λ (s : InputSet). s.0 < 2 ^ 64) (record { 0 = 2 ^ i }) [] (pow_below i 64 low) (All-nil (λ (s : InputSet). s.0 < 2 ^ 64))

own_by : (b : Bool) (i : ℕ) (Q : FoundPacing → Type 0) → (b ≡ true → i < 64) → HasFit Q → HasFit (λ k. MatchBool b (k ≡ input_finding i) (Q k))
own_by true i Q low h = record { finding = input_finding i; is = refl; fit = input_fit i (low refl) }
own_by false i Q low h = record { finding = h.finding; is = h.is; fit = h.fit }

-- inputs from the first of some streams on
few_first : (s : Stream) (ss : List Stream) (i : ℕ) → i + length (filter is_input (s ∷ ss)) ≤ 64 → inputs_with i s + length (filter is_input ss) ≤ 64
few_first s ss i h = go (is_input s) h
  where
    go : (b : Bool) → i + length (if b then s ∷ filter is_input ss else filter is_input ss) ≤ 64 → (if b then i + 1 else i) + length (filter is_input ss) ≤ 64
    go true g = omega (arith, g)
    go false g = g

own_low : (s : Stream) (ss : List Stream) (i : ℕ) → i + length (filter is_input (s ∷ ss)) ≤ 64 → is_input s ≡ true → i < 64
own_low s ss i h e = go (is_input s) e h
  where
    go : (b : Bool) → b ≡ true → i + length (if b then s ∷ filter is_input ss else filter is_input ss) ≤ 64 → i < 64
    go true f g = omega (arith, g)
    go false f g = cc f

abbrev pub AreFit : List FoundPacing → Type 0
AreFit [] = Unit {0}
AreFit (k ∷ ks) = IsFit k × AreFit ks

pub record HasOwns (i : ℕ) (ss : List Stream) : Type 0 where
  pub owns : List FoundPacing
  pub are : AreOwn i ss owns
  pub fit : AreFit owns

owns_of : (i : ℕ) (ss : List Stream) → i + length (filter is_input ss) ≤ 64 → AreOverInputs ss → AreRated ss → HasOwns i ss
owns_of i [] few low rated = record { owns = []; are = tt; fit = tt }
owns_of i (s ∷ ss) few low rated =
    let own = own_by (is_input s) i (IsWrittenIn (has_clause s.spawn) s.eval) (own_low s ss i few) (written_in (has_clause s.spawn) s.eval low.1 rated.1) in
    let rest = owns_of (inputs_with i s) ss (few_first s ss i few) low.3 rated.3 in
    record { owns = own.finding ∷ rest.owns; are = (own.is, rest.are); fit = (own.fit, rest.fit) }

fit_at : (ks : List FoundPacing) (n : ℕ) → AreFit ks → IsFit (finding_at ks n)
fit_at [] n h = tt
fit_at (k ∷ ks) zero h = h.0
fit_at (k ∷ ks) (suc n) h = fit_at ks n h.1

all_fit : (owns : List FoundPacing) (leaves : List ℕ) → AreFit owns → AreFit (findings_at owns leaves)
all_fit owns [] h = tt
all_fit owns (n ∷ ns) h = (fit_at owns n h, all_fit owns ns h)

-- ---- from leaves

forms_small : (ks : List FoundPacing) → AreFit ks → AreFormsSmall (forms_of ks)
forms_small [] h = tt
forms_small (Paced (Event sets) ∷ ks) h = (h.0, forms_small ks h.1)
forms_small (Paced (Periodic r) ∷ ks) h = forms_small ks h.1
forms_small (Paced (Local r) ∷ ks) h = forms_small ks h.1
forms_small (Refused r ∷ ks) h = forms_small ks h.1
forms_small (Unpaced ∷ ks) h = forms_small ks h.1

rates_kept : (ks : List FoundPacing) → AreFit ks → AreRates (rates_of ks)
rates_kept [] h = tt
rates_kept (Paced (Event sets) ∷ ks) h = rates_kept ks h.1
rates_kept (Paced (Periodic r) ∷ ks) h = (h.0, rates_kept ks h.1)
rates_kept (Paced (Local r) ∷ ks) h = rates_kept ks h.1
rates_kept (Refused r ∷ ks) h = rates_kept ks h.1
rates_kept (Unpaced ∷ ks) h = rates_kept ks h.1

rate_paced : (b : Bool) (at : ℕ) (r : Ratio) → IsPositiveRate r → IsRatedFinding (if b then Paced (Periodic r) else no_pacing at)
rate_paced true at r h = h
rate_paced false at r h = tt

-- a joined pacing is no rate
joined_rated : (at : ℕ) (sets : List InputSet) (forms : List (List InputSet)) (k : FoundPacing) → IsJoined at sets forms k → IsRatedFinding k
joined_rated at sets [] k h = subst IsRatedFinding (sym h) tt
joined_rated at sets (form ∷ forms) k (inl h) = subst IsRatedFinding (sym h.1) tt
joined_rated at sets (form ∷ forms) k (inr h) = joined_rated at h.0 forms k h.2

rate_found : (at : ℕ) (k : FoundPacing) (ks : List FoundPacing) → AreFit (k ∷ ks) → list_all is_periodic (k ∷ ks) ≡ true → HasRated (IsRateFound at (rates_of (k ∷ ks)))
rate_found at (Paced (Event sets)) ks h e = absurd (cc e)
rate_found at (Paced (Periodic r)) ks h e =
    let rates = rates_kept (Paced (Periodic r) ∷ ks) h in
    let l = least_rate r (rates_of ks) rates in
    record {
      finding = rate_pacing at (r ∷ rates_of ks) l.rate;
      is = (l.rate, l.is, refl);
      rated = rate_paced (list_all (is_multiple l.rate) (r ∷ rates_of ks)) at l.rate (rate_among (r ∷ rates_of ks) l.rate rates l.is.listed);
    }
rate_found at (Paced (Local r)) ks h e = absurd (cc e)
rate_found at (Refused r) ks h e = absurd (cc e)
rate_found at Unpaced ks h e = absurd (cc e)

-- one of two, as a truth value says
one_of : (b : Bool) (P Q : FoundPacing → Type 0) → (b ≡ true → HasRated P) → (b ≡ false → HasRated Q) → HasRated (λ k. MatchBool b (P k) (Q k))
one_of true P Q h g = let f = h refl in record { finding = f.finding; is = f.is; rated = f.rated }
one_of false P Q h g = let f = g refl in record { finding = f.finding; is = f.is; rated = f.rated }

any_row_small : AreSmall any_row
any_row_small = All-cons (λ (s : InputSet). s.0 < 2 ^ 64) (record { 0 = 0 }) [] (lit< tt) (All-nil (λ (s : InputSet). s.0 < 2 ^ 64))

joined_found : (at : ℕ) (ks : List FoundPacing) → AreFit ks → HasRated (IsJoined at any_row (forms_of ks))
joined_found at ks h =
    let j = joined_of at any_row (forms_of ks) any_row_small (forms_small ks h) in
    record { finding = j.finding; is = j.is; rated = joined_rated at any_row (forms_of ks) j.finding j.is }

combined : (at : ℕ) (k : FoundPacing) (ks : List FoundPacing) → AreFit (k ∷ ks) → HasRated (IsCombined at (k ∷ ks))
combined at k ks h =
    one_of (list_all is_event (k ∷ ks)) (IsJoined at any_row (forms_of (k ∷ ks)))
    (λ f. MatchBool (list_all is_periodic (k ∷ ks)) (IsRateFound at (rates_of (k ∷ ks)) f) (f ≡ no_pacing at))
    (λ e. joined_found at (k ∷ ks) h)
    (λ e. one_of (list_all is_periodic (k ∷ ks)) (IsRateFound at (rates_of (k ∷ ks))) (λ f. f ≡ no_pacing at) (rate_found at k ks h) (λ g. record { finding = no_pacing at; is = refl; rated = tt }))

found : (at : ℕ) (alone : FoundPacing) (ks : List FoundPacing) → IsRatedFinding alone → AreFit ks → HasRated (IsFound at alone ks)
found at alone [] rated h = record { finding = alone; is = refl; rated = rated }
found at alone (k ∷ ks) rated h =
    one_of (list_any is_unpaced (k ∷ ks)) (λ f. f ≡ Unpaced) (IsCombined at (k ∷ ks)) (λ e. record { finding = Unpaced; is = refl; rated = tt }) (λ e. combined at k ks h)

-- ---- clauses

module _ (streams : List Stream) (windows : ℕ) where
  -- what is asked of each stream
  pub record IsReady (s : Stream) : Type 0 where
    pub spawn_range : IsClauseInRange (length streams) windows s.spawn
    pub eval_range : IsClauseInRange (length streams) windows s.eval
    pub close_range : IsClauseInRange (length streams) windows s.close
    pub spawn_inputs : IsClauseOverInputs s.spawn
    pub eval_inputs : IsClauseOverInputs s.eval
    pub close_inputs : IsClauseOverInputs s.close
    pub spawn_rated : IsRatedClause s.spawn
    pub eval_rated : IsRatedClause s.eval
    pub close_rated : IsRatedClause s.close

module _ (streams : List Stream) (windows : ℕ) (in_range : AreClausesInRange (length streams) windows streams) (owns : List FoundPacing) (fit : AreFit owns) where
  from_leaves : (n at : ℕ) (alone : FoundPacing) (clause : Option Clause) → IsRatedFinding alone → IsClauseInRange (length streams) windows clause → HasRated (IsFromLeaves streams owns n at alone clause)
  from_leaves n at alone clause rated range =
      let leaves = leaves_of streams windows n in_range clause range in
      let f = found at alone (findings_at owns leaves.0) rated (all_fit owns leaves.0 fit) in
      record { finding = f.finding; is = (leaves.0, leaves.1, f.is); rated = f.rated }

  pace_found : (n at : ℕ) (spawned : Bool) (alone : FoundPacing) (clause : Option Clause) (p : Option Pace) → IsRatedFinding alone → IsClauseInRange (length streams) windows clause → IsPaceOverInputs p → IsRatedPace p
      → HasRated (IsPaceFound streams owns n at spawned alone clause p)
  pace_found n at spawned alone clause None rated range low kept = from_leaves n at alone clause rated range
  pace_found n at spawned alone clause (Some p) rated range low kept = rated_of (IsGiven spawned p) (given spawned p low kept)

  clause_found : (n at : ℕ) (spawned : Bool) (alone : FoundPacing) (clause : Option Clause) → IsRatedFinding alone → IsClauseInRange (length streams) windows clause → IsClauseOverInputs clause → IsRatedClause clause
      → HasRated (IsClauseFound streams owns n at spawned alone clause)
  clause_found n at spawned alone None rated range low kept = record { finding = Unpaced; is = refl; rated = tt }
  clause_found n at spawned alone (Some c) rated range low kept = pace_found n at spawned alone (Some c) c.pace rated range low kept

  spawn_found : (n : ℕ) (s : Stream) → IsReady streams windows s → HasRated (IsSpawnFound streams owns n s)
  spawn_found n s h = clause_found n (place_of s.spawn) false (no_pacing (place_of s.spawn)) s.spawn tt h.spawn_range h.spawn_inputs h.spawn_rated

  eval_found : (n : ℕ) (s : Stream) → IsReady streams windows s → HasRated (IsEvalFound streams owns n s)
  eval_found n s h =
      one_of (is_end s) (λ k. k ≡ finding_at owns n) (IsClauseFound streams owns n s.place (has_clause s.spawn) (no_pacing s.place) s.eval)
      (λ e. record { finding = finding_at owns n; is = refl; rated = fit_rated (finding_at owns n) (fit_at owns n fit) })
      (λ e. clause_found n s.place (has_clause s.spawn) (no_pacing s.place) s.eval tt h.eval_range h.eval_inputs h.eval_rated)

  only_rated : (k : FoundPacing) → IsRatedFinding k → IsRatedFinding (only_pacing k)
  only_rated (Paced p) h = h
  only_rated (Refused r) h = tt
  only_rated Unpaced h = tt

  close_found : (evals : List FoundPacing) → ((n : ℕ) → IsRatedFinding (finding_at evals n)) → (n : ℕ) (s : Stream) → IsReady streams windows s → HasRated (IsCloseFound streams owns evals n s)
  close_found evals rated n s h =
      clause_found n s.place (has_clause s.spawn) (only_pacing (finding_at evals n)) s.close (only_rated (finding_at evals n) (rated n)) h.close_range h.close_inputs h.close_rated

-- ---- all streams

abbrev pub AreRatedFindings : List FoundPacing → Type 0
AreRatedFindings [] = Unit {0}
AreRatedFindings (k ∷ ks) = IsRatedFinding k × AreRatedFindings ks

pub rated_at : (ks : List FoundPacing) (n : ℕ) → AreRatedFindings ks → IsRatedFinding (finding_at ks n)
rated_at [] n h = tt
rated_at (k ∷ ks) zero h = h.0
rated_at (k ∷ ks) (suc n) h = rated_at ks n h.1

pub record HasSteps (R : ℕ → Stream → FoundPacing → Type 0) (n : ℕ) (ss : List Stream) : Type 0 where
  pub findings : List FoundPacing
  pub are : InStep R n ss findings
  pub rated : AreRatedFindings findings

module _ (streams : List Stream) (windows : ℕ) where
  abbrev AreReady : List Stream → Type 0
  AreReady [] = Unit {0}
  AreReady (s ∷ ss) = IsReady streams windows s × AreReady ss

  ready : (ss : List Stream) → AreClausesInRange (length streams) windows ss → AreOverInputs ss → AreRated ss → AreReady ss
  ready [] range low kept = tt
  ready (s ∷ ss) range low kept = (
    record {
      spawn_range = range.0;
      eval_range = range.1;
      close_range = range.2;
      spawn_inputs = low.0;
      eval_inputs = low.1;
      close_inputs = low.2;
      spawn_rated = kept.0;
      eval_rated = kept.1;
      close_rated = kept.2;
    },
    ready ss range.3 low.3 kept.3,
  )

  steps_of : (R : ℕ → Stream → FoundPacing → Type 0) → ((n : ℕ) (s : Stream) → IsReady streams windows s → HasRated (R n s)) → (n : ℕ) (ss : List Stream) → AreReady ss → HasSteps R n ss
  steps_of R one n [] h = record { findings = []; are = tt; rated = tt }
  steps_of R one n (s ∷ ss) h =
      let f = one n s h.0 in
      let rest = steps_of R one (n + 1) ss h.1 in
      record { findings = f.finding ∷ rest.findings; are = (f.is, rest.are); rated = (f.rated, rest.rated) }

-- ---- windows

pub record HasGcd (a b : ℕ) : Type 0 where
  pub divisor : ℕ
  pub is : IsGcd a b divisor

gcd_by : (n a b : ℕ) → b ≤ n → HasGcd a b
gcd_by n a zero small = record { divisor = a; is = IsGcd-from_zero a 0 refl }
gcd_by zero a (suc b) small = absurd (omega (arith, small))
gcd_by (suc n) a (suc b) small =
    let low : a % suc b < suc b = omega arith in
    let h = gcd_by n (suc b) (a % suc b) (omega (arith, low, small)) in
    record { divisor = h.divisor; is = IsGcd-from_mod a (suc b) h.divisor h.is }

pub gcd_of : (a b : ℕ) → HasGcd a b
gcd_of a b = gcd_by b a b (omega arith)

rate_refusal : (r : Ratio) (over : ℕ) → (v : Option Code) × IsRateRefusal r over v
rate_refusal r over = go (cases_eq (period_over r % r.num) 0) (gcd_of (period_over r / r.num) over)
  where
    fine : period_over r % r.num ≡ 0 → (g : HasGcd (period_over r / r.num) over) → (65536 * g.divisor < over) ⊎ (over ≤ 65536 * g.divisor) → (v : Option Code) × IsRateRefusal r over v
    fine whole g (inl many) = (Some code.WindowTooFine, record { whole = whole; pane = g.divisor; is_pane = g.is; many = many })
    fine whole g (inr few) = (None, record { whole = whole; pane = g.divisor; is_pane = g.is; few = few })

    go : (period_over r % r.num ≡ 0) ⊎ (period_over r % r.num ≡ 0 → ⊥) → HasGcd (period_over r / r.num) over → (v : Option Code) × IsRateRefusal r over v
    go (inl whole) g = fine whole g (cases_lt (65536 * g.divisor) over)
    go (inr not_whole) g = (Some code.WindowNeedsWholePeriod, not_whole)

window_refusal_of : (k : FoundPacing) (over : ℕ) → (v : Option Code) × IsWindowRefusal k over v
window_refusal_of (Paced (Event sets)) over = (Some code.WindowOutsidePeriodic, refl)
window_refusal_of (Paced (Periodic r)) over = rate_refusal r over
window_refusal_of (Paced (Local r)) over = (Some code.WindowOutsidePeriodic, refl)
window_refusal_of (Refused r) over = (None, refl)
window_refusal_of Unpaced over = (None, refl)

window_refusals_of : (spawns evals closes : List FoundPacing) (ws : List WindowSpec) → (vs : List (Option Code)) × AreWindowRefusals spawns evals closes ws vs
window_refusals_of spawns evals closes [] = ([], tt)
window_refusals_of spawns evals closes (w ∷ ws) =
    let v = window_refusal_of (finding_of_part spawns evals closes w.stream w.part) w.over in
    let rest = window_refusals_of spawns evals closes ws in
    (v.0 ∷ rest.0, (v.1, rest.1))

-- ---- all that the phase finds

-- .. and the rates of what is found
pub record HasFound (spec : Spec) : Type 0 where
  pub found : Found spec
  pub spawns : AreRatedFindings found.spawns
  pub evals : AreRatedFindings found.evals
  pub closes : AreRatedFindings found.closes

pub found_of : (spec : Spec) → length (filter is_input spec.streams) ≤ 64 → AreClausesInRange (length spec.streams) (length spec.windows) spec.streams → AreOverInputs spec.streams → AreRated spec.streams
    → HasFound spec
found_of spec few range low kept =
    let streams : List Stream = spec.streams in
    let windows : ℕ = length spec.windows in
    let owns = owns_of 0 streams (omega (arith, few)) low kept in
    let all = ready streams windows streams range low kept in
    let spawns = steps_of streams windows (IsSpawnFound streams owns.owns) (spawn_found streams windows range owns.owns owns.fit) 0 streams all in
    let evals = steps_of streams windows (IsEvalFound streams owns.owns) (eval_found streams windows range owns.owns owns.fit) 0 streams all in
    let closes =
    steps_of streams windows (IsCloseFound streams owns.owns evals.findings)
    (close_found streams windows range owns.owns owns.fit evals.findings (λ n. rated_at evals.findings n evals.rated)) 0 streams all in
    let window_refusals = window_refusals_of spawns.findings evals.findings closes.findings spec.windows in
    record {
      found = record {
        owns = owns.owns;
        spawns = spawns.findings;
        evals = evals.findings;
        closes = closes.findings;
        window_refusals = window_refusals.0;
        are = record { are_own = owns.are; are_spawns = spawns.are; are_evals = evals.are; are_closes = closes.are; are_window_refusals = window_refusals.1 };
      };
      spawns = spawns.rated;
      evals = evals.rated;
      closes = closes.rated;
    }
