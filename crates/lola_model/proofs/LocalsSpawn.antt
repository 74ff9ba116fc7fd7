-- Where an accepted plan has local pacings: never on a spawn clause, and on other clauses of streams with a spawn clause alone.
use Rattle.std.proofs.Common.{◌≡◌, refl, ap, ◌∙◌, subst, arith, ℕ, zero, suc, ◌+◌, inl, inr, List, [], ◌∷◌, Option, Some, None, Bool, true, false, if◌then◌else◌, slice_get}
use Rattle.std.specs.Prelude.{MatchBool}
use Rattle.std.specs.List.{list_all}
use Rattle.lola_value.specs.Ratio.{Ratio}
use Rattle.lola_model.specs.NextStep.{is_local, local_rate_of, local_rates}
use Rattle.lola_model.specs.Leaves.{is_end}
use Rattle.lola_model.specs.Model.{is_input, spawn_pacing, eval_pacing, close_pacing}
use Rattle.lola_model.specs.Named.{has_clause}
use Rattle.lola_model.specs.PacingFound.{IsGiven, given_rate, given_local, input_finding, IsWritten, IsWrittenIn, inputs_with, IsOwn, AreOwn, finding_at, findings_at, no_pacing, too_wide, IsJoined, any_row, forms_of, rates_of, rate_pacing, is_multiple, IsFound, IsRateFound}
use Rattle.lola_model.specs.Pacings.{InStep, only_pacing, place_of, IsPaceFound, IsClauseFound, IsEvalFound, IsSpawnFound, IsCloseFound, pacing_of, pacings_from, ArePacings}
use Rattle.lola_model.specs.declared.finding.FoundPacing.{FoundPacing}
use Rattle.lola_model.specs.declared.finding.FoundPacing.TheVariants.{Paced, Refused, Unpaced}
use Rattle.lola_model.specs.declared.pacing.InputSet.{InputSet}
use Rattle.lola_model.specs.declared.pacing.Pacing.{Pacing}
use Rattle.lola_model.specs.declared.pacing.Pacing.TheVariants.{Event, Periodic, Local}
use Rattle.lola_model.specs.declared.pacing.ClausePacings.{ClausePacings}
use Rattle.lola_model.specs.declared.spec.Clause.{Clause}
use Rattle.lola_model.specs.declared.spec.Pace.{Pace}
use Rattle.lola_model.specs.declared.spec.Pace.TheVariants as pace
use Rattle.lola_model.specs.declared.spec.Spec.{Spec}
use Rattle.lola_model.specs.declared.spec.Stream.{Stream}
use Rattle.lola_model.specs.declared.spec.WrittenRate.{WrittenRate}
use Rattle.lola_model.specs.declared.spec.WrittenRate.TheVariants as rate

-- no local pacing is found
abbrev IsGlobal : FoundPacing → Type 0
IsGlobal f = is_local (pacing_of f) ≡ false

by_equal : (f g : FoundPacing) → f ≡ g → IsGlobal g → IsGlobal f
by_equal f g e h = ap (λ x. is_local (pacing_of x)) e ∙ h

either : (b : Bool) (A B : Type 0) (f : FoundPacing) → (A → IsGlobal f) → (B → IsGlobal f) → MatchBool b A B → IsGlobal f
either true A B f h g m = h m
either false A B f h g m = g m

rate_global : (at : ℕ) (r : WrittenRate) → IsGlobal (given_rate at r)
rate_global at rate.OutOfRange = refl
rate_global at rate.TooFast = refl
rate_global at (rate.Of r) = refl

refused_global : (at : ℕ) (r : WrittenRate) → IsGlobal (given_local false at r)
refused_global at rate.OutOfRange = refl
refused_global at rate.TooFast = refl
refused_global at (rate.Of r) = refl

joined_global : (at : ℕ) (sets : List InputSet) (forms : List (List InputSet)) (f : FoundPacing) → IsJoined at sets forms f → IsGlobal f
joined_global at sets [] f h = by_equal f (Paced (Event sets)) h refl
joined_global at sets (form ∷ forms) f (inl h) = by_equal f (too_wide at) h.1 refl
joined_global at sets (form ∷ forms) f (inr h) = joined_global at h.0 forms f h.2

rate_found_global : (b : Bool) (at : ℕ) (r : Ratio) → IsGlobal (if b then Paced (Periodic r) else no_pacing at)
rate_found_global true at r = refl
rate_found_global false at r = refl

found_global : (at : ℕ) (alone : FoundPacing) (fs : List FoundPacing) (f : FoundPacing) → IsGlobal alone → IsFound at alone fs f → IsGlobal f
found_global at alone [] f g h = by_equal f alone h g
found_global at alone (x ∷ xs) f g h =
    either _ _ _ f (λ e. by_equal f Unpaced e refl)
    (either _ _ _ f (joined_global at any_row (forms_of (x ∷ xs)) f)
    (either _ _ _ f (λ (w : IsRateFound at (rates_of (x ∷ xs)) f). by_equal f (rate_pacing at (rates_of (x ∷ xs)) w.0) w.2 (rate_found_global (list_all (is_multiple w.0) (rates_of (x ∷ xs))) at w.0)) (λ e. by_equal f (no_pacing at) e refl))) h

only_global : (f : FoundPacing) → IsGlobal f → IsGlobal (only_pacing f)
only_global (Paced p) h = h
only_global (Refused r) h = refl
only_global Unpaced h = refl

-- of a clause that is of no instance which a spawn clause makes
module _ (spawned : Bool) (none : spawned ≡ false) where
  local_global : (at : ℕ) (r : WrittenRate) → IsGlobal (given_local spawned at r)
  local_global at r = ap (λ b. is_local (pacing_of (given_local b at r))) none ∙ refused_global at r

  given_global : (p : Pace) (f : FoundPacing) → IsGiven spawned p f → IsGlobal f
  given_global (pace.Event at g) (Paced (Event sets)) h = refl
  given_global (pace.Event at g) (Paced (Periodic r)) h = refl
  given_global (pace.Event at g) (Paced (Local r)) h = absurd h
  given_global (pace.Event at g) (Refused r) h = refl
  given_global (pace.Event at g) Unpaced h = refl
  given_global (pace.Rate at r) f h = by_equal f (given_rate at r) h (rate_global at r)
  given_global (pace.Global at r) f h = by_equal f (given_rate at r) h (rate_global at r)
  given_global (pace.Local at r) f h = by_equal f (given_local spawned at r) h (local_global at r)

  written_global : (p : Option Pace) (f : FoundPacing) → IsWritten spawned p f → IsGlobal f
  written_global None f h = by_equal f Unpaced h refl
  written_global (Some p) f h = given_global p f h

  written_in_global : (c : Option Clause) (f : FoundPacing) → IsWrittenIn spawned c f → IsGlobal f
  written_in_global None f h = by_equal f Unpaced h refl
  written_in_global (Some c) f h = written_global c.pace f h

  module _ (streams : List Stream) (owns : List FoundPacing) where
    pace_global : (n at : ℕ) (alone : FoundPacing) (c : Option Clause) (p : Option Pace) (f : FoundPacing) → IsGlobal alone → IsPaceFound streams owns n at spawned alone c p f → IsGlobal f
    pace_global n at alone c None f g h = found_global at alone (findings_at owns h.0) f g h.2
    pace_global n at alone c (Some p) f g h = given_global p f h

    clause_global : (n at : ℕ) (alone : FoundPacing) (c : Option Clause) (f : FoundPacing) → IsGlobal alone → IsClauseFound streams owns n at spawned alone c f → IsGlobal f
    clause_global n at alone None f g h = by_equal f Unpaced h refl
    clause_global n at alone (Some c) f g h = pace_global n at alone (Some c) c.pace f g h

own_global : (i : ℕ) (s : Stream) (f : FoundPacing) → has_clause s.spawn ≡ false → IsOwn i s f → IsGlobal f
own_global i s f none h = either (is_input s) _ _ f (λ e. by_equal f (input_finding i) e refl) (written_in_global (has_clause s.spawn) none s.eval f) h

owns_global : (i : ℕ) (ss : List Stream) (fs : List FoundPacing) → AreOwn i ss fs → (n : ℕ) (s : Stream) → slice_get ss n ≡ Some s → has_clause s.spawn ≡ false → IsGlobal (finding_at fs n)
owns_global i [] [] h n s e none = refl
owns_global i [] (f ∷ fs) h n s e none = absurd h
owns_global i (x ∷ ss) [] h n s e none = absurd h
owns_global i (x ∷ ss) (f ∷ fs) h zero s e none =
    let same : x ≡ s = (cc) in
    own_global i x f (ap (λ (y : Stream). has_clause y.spawn) same ∙ none) h.0
owns_global i (x ∷ ss) (f ∷ fs) h (suc n) s e none = owns_global (inputs_with i x) ss fs h.1 n s e none

-- what is found of the stream at a place
in_step_at : (R : ℕ → Stream → FoundPacing → Type 0) (n : ℕ) (ss : List Stream) (fs : List FoundPacing) → InStep R n ss fs
    → (k m : ℕ) (s : Stream) → slice_get ss k ≡ Some s → m ≡ n + k → R m s (finding_at fs k)
in_step_at R n [] fs h k m s e q = absurd (cc)
in_step_at R n (x ∷ ss) [] h k m s e q = absurd h
in_step_at R n (x ∷ ss) (f ∷ fs) h zero m s e q =
    let same : x ≡ s = (cc) in
    let place : n ≡ m = omega arith in
    subst (λ (z : ℕ). R z s f) place (subst (λ (y : Stream). R n y f) same h.0)
in_step_at R n (x ∷ ss) (f ∷ fs) h (suc k) m s e q = in_step_at R (n + 1) ss fs h.1 k m s e (omega arith)

-- the pacings of the stream at a place
pacings_at : (spawns evals closes : List FoundPacing) (n : ℕ) (ss : List Stream) (k m : ℕ) (s : Stream) → slice_get ss k ≡ Some s → m ≡ n + k
    → slice_get (pacings_from spawns evals closes n ss) k
    ≡ Some (record { spawn = pacing_of (finding_at spawns m); eval = pacing_of (finding_at evals m); close = pacing_of (finding_at closes m) })
pacings_at spawns evals closes n [] k m s e q = absurd (cc)
pacings_at spawns evals closes n (x ∷ ss) zero m s e q =
    let place : n ≡ m = omega arith in
    ap (λ (z : ℕ). Some (record { spawn = pacing_of (finding_at spawns z); eval = pacing_of (finding_at evals z); close = pacing_of (finding_at closes z) })) place
pacings_at spawns evals closes n (x ∷ ss) (suc k) m s e q = pacings_at spawns evals closes (n + 1) ss k m s e (omega arith)

has_none : (o : Option Clause) → o ≡ None → has_clause o ≡ false
has_none None e = refl
has_none (Some k) e = absurd (cc)

-- the pacings of a stream, where they are not refused
pub record AreOfSpawned (s : Stream) (c : Option ClausePacings) : Type 0 where
  pub spawn_global : is_local (spawn_pacing c) ≡ false
  pub eval_global : s.spawn ≡ None → is_local (eval_pacing c) ≡ false
  pub close_global : s.spawn ≡ None → is_local (close_pacing c) ≡ false

pub locals_spawn : (spec : Spec) (pacings : List ClausePacings) → ArePacings spec pacings → (n : ℕ) (s : Stream) → slice_get spec.streams n ≡ Some s → AreOfSpawned s (slice_get pacings n)
locals_spawn spec pacings h n s at =
    let f = h.found in
    let place : n ≡ 0 + n = omega arith in
    let is_at = ap (λ ps. slice_get ps n) h.are ∙ pacings_at f.spawns f.evals f.closes 0 spec.streams n n s at place in
    let spawn = in_step_at (IsSpawnFound spec.streams f.owns) 0 spec.streams f.spawns f.are.are_spawns n n s at place in
    let eval = in_step_at (IsEvalFound spec.streams f.owns) 0 spec.streams f.evals f.are.are_evals n n s at place in
    let close = in_step_at (IsCloseFound spec.streams f.owns f.evals) 0 spec.streams f.closes f.are.are_closes n n s at place in
    let of_eval = λ (none : s.spawn ≡ None).
    either (is_end s) _ _ (finding_at f.evals n)
    (λ e. by_equal (finding_at f.evals n) (finding_at f.owns n) e (owns_global 0 spec.streams f.owns f.are.are_own n s at (has_none s.spawn none)))
    (clause_global (has_clause s.spawn) (has_none s.spawn none) spec.streams f.owns n s.place (no_pacing s.place) s.eval (finding_at f.evals n) refl) eval in
    record {
      spawn_global = ap (λ c. is_local (spawn_pacing c)) is_at ∙ clause_global false refl spec.streams f.owns n (place_of s.spawn) (no_pacing (place_of s.spawn)) s.spawn (finding_at f.spawns n) refl spawn;
      eval_global = λ none. ap (λ c. is_local (eval_pacing c)) is_at ∙ of_eval none;
      close_global = λ none.
          ap (λ c. is_local (close_pacing c)) is_at
          ∙ clause_global (has_clause s.spawn) (has_none s.spawn none) spec.streams f.owns n s.place (only_pacing (finding_at f.evals n)) s.close (finding_at f.closes n)
          (only_global (finding_at f.evals n) (of_eval none)) close;
    }

global_rate : (p : Option Pacing) → is_local p ≡ false → local_rate_of p ≡ []
global_rate None e = refl
global_rate (Some (Event sets)) e = refl
global_rate (Some (Periodic r)) e = refl
global_rate (Some (Local r)) e = absurd (cc)

rates_of_both : (c : Option ClausePacings) → is_local (eval_pacing c) ≡ false → is_local (close_pacing c) ≡ false → local_rates c ≡ []
rates_of_both None e k = refl
rates_of_both (Some c) e k = rw (global_rate c.eval e, global_rate c.close k) refl

-- a stream without a spawn clause has no rate that counts from a birth
pub no_local_rates : (spec : Spec) (pacings : List ClausePacings) → ArePacings spec pacings → (n : ℕ) (s : Stream) → slice_get spec.streams n ≡ Some s → s.spawn ≡ None
    → local_rates (slice_get pacings n) ≡ []
no_local_rates spec pacings h n s at none =
    let l = locals_spawn spec pacings h n s at in
    rates_of_both (slice_get pacings n) (l.eval_global none) (l.close_global none)
