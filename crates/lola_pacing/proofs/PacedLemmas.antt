-- Where nothing is refused, each clause has a pacing.
use Rattle.std.proofs.Common.{◌≡◌, ◌≢◌, refl, ap, subst, ◌∙◌, ℕ, zero, suc, ◌+◌, List, [], ◌∷◌, ◌++◌, Option, Some, None, Bool, true, false, ◌&&◌, ◌||◌, if◌then◌else◌, arith, slice_get, inl, inr}
use Rattle.std.specs.Bool.{MatchBool}
use Rattle.std.specs.List.{Contains, list_any, list_all}
use Rattle.lola_value.specs.Ratio.{Ratio}
use Rattle.lola_value.specs.declared.front.Code.{Code}
use Rattle.lola_value.specs.declared.front.Refusal.{Refusal}
use Rattle.lola_model.proofs.Strictly.{Contains-here, Contains-there}
use Rattle.lola_model.specs.Model.{is_input}
use Rattle.lola_model.specs.Named.{all_streams, has_clause, is_stream_paced_in_range, is_clause_paced_in_range, is_pace_in_range, is_rate_in_range}
use Rattle.lola_model.specs.declared.pacing.InputSet.{InputSet}
use Rattle.lola_model.specs.declared.pacing.Pacing.TheVariants.{Periodic}
use Rattle.lola_model.specs.declared.spec.Clause.{Clause}
use Rattle.lola_model.specs.declared.spec.Pace.{Pace}
use Rattle.lola_model.specs.declared.spec.Pace.TheVariants as pace
use Rattle.lola_model.specs.declared.spec.Spec.{Spec}
use Rattle.lola_model.specs.declared.spec.Stream.{Stream}
use Rattle.lola_model.specs.declared.spec.WrittenRate.{WrittenRate}
use Rattle.lola_model.specs.declared.spec.WrittenRate.TheVariants as rate
use Rattle.lola_model.specs.Leaves.{is_end, is_end_of, has_pace, is_written}
use Rattle.lola_model.specs.PacingFound.{AreOwn, IsOwn, IsGiven, IsWritten, IsWrittenIn, input_finding, inputs_with, IsFound, IsCombined, IsJoined, IsRateFound, is_multiple, given_local, given_rate, no_pacing, any_row, forms_of, rates_of, finding_at, findings_at, is_unpaced, is_event, is_periodic}
use Rattle.lola_model.specs.PacingRefused.{clause_refusals}
use Rattle.lola_pacing.proofs.FineLemmas.{accepts_fine}
use Rattle.lola_model.specs.declared.finding.FoundPacing.{FoundPacing}
use Rattle.lola_model.specs.declared.finding.FoundPacing.TheVariants.{Paced, Refused, Unpaced}
use Rattle.lola_model.specs.Pacings.{InStep, IsPaceFound, IsClauseFound, IsEvalFound, IsSpawnFound, IsCloseFound, only_pacing, place_of, Found, refusals_of, refusals_from, stream_refusals}
use Rattle.lola_pacing.specs.Accepted.{IsPacedWhere, PacesAll}

abbrev IsNotRefused : FoundPacing → Type 0
IsNotRefused f = (r : Refusal) → f ≢ Refused r

pub empty_left : (xs ys : List Refusal) → xs ++ ys ≡ [] → xs ≡ []
empty_left [] ys h = refl
empty_left (x ∷ xs) ys h = absurd (cc)

pub empty_right : (xs ys : List Refusal) → xs ++ ys ≡ [] → ys ≡ []
empty_right [] ys h = h
empty_right (x ∷ xs) ys h = absurd (cc)

pub first_true : (a b : Bool) → (a && b) ≡ true → a ≡ true
first_true true b h = refl
first_true false b h = absurd (cc)

pub second_true : (a b : Bool) → (a && b) ≡ true → b ≡ true
second_true true b h = h
second_true false b h = absurd (cc)

-- given pacings

rate_paced : (at : ℕ) (w : WrittenRate) (f : FoundPacing) → is_rate_in_range w ≡ true → f ≡ given_rate at w → IsNotRefused f → is_unpaced f ≡ false
rate_paced at rate.OutOfRange f h k nr = absurd (cc)
rate_paced at rate.TooFast f h k nr = absurd (nr _ k)
rate_paced at (rate.Of r) f h k nr = ap is_unpaced k

local_paced : (spawned : Bool) (at : ℕ) (w : WrittenRate) (f : FoundPacing) → is_rate_in_range w ≡ true → f ≡ given_local spawned at w → IsNotRefused f → is_unpaced f ≡ false
local_paced spawned at rate.OutOfRange f h k nr = absurd (cc)
local_paced spawned at rate.TooFast f h k nr = absurd (nr _ k)
local_paced true at (rate.Of r) f h k nr = ap is_unpaced k
local_paced false at (rate.Of r) f h k nr = absurd (nr _ k)

given_paced : (spawned : Bool) (p : Pace) (f : FoundPacing) → is_pace_in_range (Some p) ≡ true → IsGiven spawned p f → IsNotRefused f → is_unpaced f ≡ false
given_paced spawned (pace.Event at g) (Paced q) h k nr = refl
given_paced spawned (pace.Event at g) (Refused r) h k nr = absurd (nr r refl)
given_paced spawned (pace.Event at g) Unpaced h k nr = absurd k
given_paced spawned (pace.Rate at w) f h k nr = rate_paced at w f h k nr
given_paced spawned (pace.Global at w) f h k nr = rate_paced at w f h k nr
given_paced spawned (pace.Local at w) f h k nr = local_paced spawned at w f h k nr

written_paced : (spawned : Bool) (p : Option Pace) (f : FoundPacing) → is_written p ≡ true → is_pace_in_range p ≡ true → IsWritten spawned p f → IsNotRefused f → is_unpaced f ≡ false
written_paced spawned None f w h k nr = absurd (cc)
written_paced spawned (Some p) f w h k nr = given_paced spawned p f h k nr

own_cases : (b : Bool) (j : ℕ) (spawned : Bool) (e : Option Clause) (f : FoundPacing) → (b || has_pace e) ≡ true → is_clause_paced_in_range e ≡ true
    → MatchBool b (f ≡ input_finding j) (IsWrittenIn spawned e f) → IsNotRefused f → is_unpaced f ≡ false
own_cases true j spawned e f w h k nr = ap is_unpaced k
own_cases false j spawned None f w h k nr = absurd (cc)
own_cases false j spawned (Some c) f w h k nr = written_paced spawned c.pace f w h k nr

-- found pacings

joined_paced : (at : ℕ) (sets : List InputSet) (forms : List (List InputSet)) (f : FoundPacing) → IsJoined at sets forms f → IsNotRefused f → is_unpaced f ≡ false
joined_paced at sets [] f j nr = ap is_unpaced j
joined_paced at sets (form ∷ forms) f (inl j) nr = absurd (nr _ j.1)
joined_paced at sets (form ∷ forms) f (inr j) nr = joined_paced at j.0 forms f j.2 nr

rate_cases : (b : Bool) (at : ℕ) (r : Ratio) (f : FoundPacing) → f ≡ (if b then Paced (Periodic r) else no_pacing at) → IsNotRefused f → is_unpaced f ≡ false
rate_cases true at r f e nr = ap is_unpaced e
rate_cases false at r f e nr = absurd (nr _ e)

last_cases : (b : Bool) (at : ℕ) (rates : List Ratio) (f : FoundPacing) → MatchBool b (IsRateFound at rates f) (f ≡ no_pacing at) → IsNotRefused f → is_unpaced f ≡ false
last_cases true at rates f k nr = rate_cases (list_all (is_multiple k.0) rates) at k.0 f k.2 nr
last_cases false at rates f k nr = absurd (nr _ k)

combined_cases : (b c : Bool) (at : ℕ) (forms : List (List InputSet)) (rates : List Ratio) (f : FoundPacing)
    → MatchBool b (IsJoined at any_row forms f) (MatchBool c (IsRateFound at rates f) (f ≡ no_pacing at)) → IsNotRefused f → is_unpaced f ≡ false
combined_cases true c at forms rates f k nr = joined_paced at any_row forms f k nr
combined_cases false c at forms rates f k nr = last_cases c at rates f k nr

found_cases : (b : Bool) (at : ℕ) (fs : List FoundPacing) (f : FoundPacing) → b ≡ false → MatchBool b (f ≡ Unpaced) (IsCombined at fs f) → IsNotRefused f → is_unpaced f ≡ false
found_cases true at fs f e k nr = absurd (cc)
found_cases false at fs f e k nr = combined_cases (list_all is_event fs) (list_all is_periodic fs) at (forms_of fs) (rates_of fs) f k nr

found_paced : (at : ℕ) (alone : FoundPacing) (fs : List FoundPacing) (f : FoundPacing) → (f ≡ alone → is_unpaced f ≡ false) → list_any is_unpaced fs ≡ false
    → IsFound at alone fs f → IsNotRefused f → is_unpaced f ≡ false
found_paced at alone [] f single none k nr = single k
found_paced at alone (x ∷ xs) f single none k nr = found_cases (list_any is_unpaced (x ∷ xs)) at (x ∷ xs) f none k nr

none_unpaced : (owns : List FoundPacing) (ls : List ℕ) → ((m : ℕ) → Contains ls m → is_unpaced (finding_at owns m) ≡ false) → list_any is_unpaced (findings_at owns ls) ≡ false
none_unpaced owns [] h = refl
none_unpaced owns (m ∷ ms) h =
    let first : is_unpaced (finding_at owns m) ≡ false = h m (Contains-here m ms) in
    let others : list_any is_unpaced (findings_at owns ms) ≡ false = none_unpaced owns ms (λ k c. h k (Contains-there m k ms c)) in
    rw (first, others) refl

-- what stands at an index

in_step_at : (R : ℕ → Stream → FoundPacing → Type 0) (n : ℕ) (ss : List Stream) (fs : List FoundPacing) (k : ℕ) (s : Stream) (m : ℕ) → m ≡ n + k
    → InStep R n ss fs → slice_get ss k ≡ Some s → R m s (finding_at fs k)
in_step_at R n [] fs k s m q i e = absurd (cc)
in_step_at R n (t ∷ ts) [] k s m q i e = absurd i
in_step_at R n (t ∷ ts) (f ∷ fs) zero s m q i e =
    let here : Some t ≡ Some s = e in
    let same : t ≡ s = cc in
    let at : n ≡ m = omega arith in
    subst (λ (x : ℕ). R x s f) at (subst (λ (x : Stream). R n x f) same i.0)
in_step_at R n (t ∷ ts) (f ∷ fs) (suc k) s m q i e = in_step_at R (n + 1) ts fs k s m (omega arith) i.1 e

own_at : (i : ℕ) (ss : List Stream) (fs : List FoundPacing) (k : ℕ) (s : Stream) → AreOwn i ss fs → slice_get ss k ≡ Some s → (j : ℕ) × IsOwn j s (finding_at fs k)
own_at i [] fs k s a e = absurd (cc)
own_at i (t ∷ ts) [] k s a e = absurd a
own_at i (t ∷ ts) (f ∷ fs) zero s a e =
    let here : Some t ≡ Some s = e in
    let same : t ≡ s = cc in
    (i, subst (λ (x : Stream). IsOwn i x f) same a.0)
own_at i (t ∷ ts) (f ∷ fs) (suc k) s a e = own_at (inputs_with i t) ts fs k s a.1 e

pub range_at : (p : Stream → Bool) (ss : List Stream) (k : ℕ) (s : Stream) → all_streams p ss ≡ true → slice_get ss k ≡ Some s → p s ≡ true
range_at p [] k s h e = absurd (cc)
range_at p (t ∷ ts) zero s h e =
    let here : Some t ≡ Some s = e in
    let same : t ≡ s = cc in
    subst (λ (x : Stream). p x ≡ true) same (first_true (p t) (all_streams p ts) h)
range_at p (t ∷ ts) (suc k) s h e = range_at p ts k s (second_true (p t) (all_streams p ts) h) e

module _ (streams : List Stream) (spawns evals closes : List FoundPacing) (window_refusals : List (Option Code)) where
  refusals_at : (n : ℕ) (ss : List Stream) (k : ℕ) (s : Stream) (m : ℕ) → m ≡ n + k → refusals_from streams spawns evals closes window_refusals n ss ≡ []
      → slice_get ss k ≡ Some s → stream_refusals streams spawns evals closes window_refusals m s ≡ []
  refusals_at n [] k s m q h e = absurd (cc)
  refusals_at n (t ∷ ts) zero s m q h e =
      let here : Some t ≡ Some s = e in
      let same : t ≡ s = cc in
      let at : n ≡ m = omega arith in
      let first = empty_left (stream_refusals streams spawns evals closes window_refusals n t) (refusals_from streams spawns evals closes window_refusals (n + 1) ts) h in
      subst (λ (x : ℕ). stream_refusals streams spawns evals closes window_refusals x s ≡ []) at (subst (λ (x : Stream). stream_refusals streams spawns evals closes window_refusals n x ≡ []) same first)
  refusals_at n (t ∷ ts) (suc k) s m q h e =
      refusals_at (n + 1) ts k s m (omega arith) (empty_right (stream_refusals streams spawns evals closes window_refusals n t) (refusals_from streams spawns evals closes window_refusals (n + 1) ts) h) e

module _ (spec : Spec) (f : Found spec) (range : all_streams is_stream_paced_in_range spec.streams ≡ true) (accepted : refusals_of spec f ≡ []) where
  abbrev streams : List Stream
  streams = spec.streams

  abbrev of_clause : FoundPacing → Option Clause → List Refusal
  of_clause own c = clause_refusals spec.streams f.evals f.window_refusals own c

  pub here : (n : ℕ) (s : Stream) → slice_get spec.streams n ≡ Some s → stream_refusals spec.streams f.spawns f.evals f.closes f.window_refusals n s ≡ []
  here n s e = refusals_at spec.streams f.spawns f.evals f.closes f.window_refusals 0 spec.streams n s n (omega arith) accepted e

  spawn_kept : (n : ℕ) (s : Stream) → slice_get spec.streams n ≡ Some s → IsNotRefused (finding_at f.spawns n)
  spawn_kept n s e =
      accepts_fine.found spec.streams f.evals f.window_refusals (finding_at f.spawns n) s.spawn
      (empty_left (of_clause (finding_at f.spawns n) s.spawn) (of_clause (finding_at f.evals n) s.eval ++ of_clause (finding_at f.closes n) s.close) (here n s e))

  pub later : (n : ℕ) (s : Stream) → slice_get spec.streams n ≡ Some s → (of_clause (finding_at f.evals n) s.eval ++ of_clause (finding_at f.closes n) s.close) ≡ []
  later n s e = empty_right (of_clause (finding_at f.spawns n) s.spawn) (of_clause (finding_at f.evals n) s.eval ++ of_clause (finding_at f.closes n) s.close) (here n s e)

  eval_kept : (n : ℕ) (s : Stream) → slice_get spec.streams n ≡ Some s → IsNotRefused (finding_at f.evals n)
  eval_kept n s e =
      accepts_fine.found spec.streams f.evals f.window_refusals (finding_at f.evals n) s.eval
      (empty_left (of_clause (finding_at f.evals n) s.eval) (of_clause (finding_at f.closes n) s.close) (later n s e))

  close_kept : (n : ℕ) (s : Stream) → slice_get spec.streams n ≡ Some s → IsNotRefused (finding_at f.closes n)
  close_kept n s e =
      accepts_fine.found spec.streams f.evals f.window_refusals (finding_at f.closes n) s.close
      (empty_right (of_clause (finding_at f.evals n) s.eval) (of_clause (finding_at f.closes n) s.close) (later n s e))

  ranges : (n : ℕ) (s : Stream) → slice_get spec.streams n ≡ Some s → is_stream_paced_in_range s ≡ true
  ranges n s e = range_at is_stream_paced_in_range spec.streams n s range e

  spawn_range : (n : ℕ) (s : Stream) → slice_get spec.streams n ≡ Some s → is_clause_paced_in_range s.spawn ≡ true
  spawn_range n s e = first_true (is_clause_paced_in_range s.spawn) (is_clause_paced_in_range s.eval && is_clause_paced_in_range s.close) (ranges n s e)

  eval_range : (n : ℕ) (s : Stream) → slice_get spec.streams n ≡ Some s → is_clause_paced_in_range s.eval ≡ true
  eval_range n s e =
      first_true (is_clause_paced_in_range s.eval) (is_clause_paced_in_range s.close)
      (second_true (is_clause_paced_in_range s.spawn) (is_clause_paced_in_range s.eval && is_clause_paced_in_range s.close) (ranges n s e))

  close_range : (n : ℕ) (s : Stream) → slice_get spec.streams n ≡ Some s → is_clause_paced_in_range s.close ≡ true
  close_range n s e =
      second_true (is_clause_paced_in_range s.eval) (is_clause_paced_in_range s.close)
      (second_true (is_clause_paced_in_range s.spawn) (is_clause_paced_in_range s.eval && is_clause_paced_in_range s.close) (ranges n s e))

  eval_found : (n : ℕ) (s : Stream) → slice_get spec.streams n ≡ Some s → IsEvalFound spec.streams f.owns n s (finding_at f.evals n)
  eval_found n s e = in_step_at (IsEvalFound spec.streams f.owns) 0 spec.streams f.evals n s n (omega arith) f.are.are_evals e

  end_same : (b : Bool) (n : ℕ) (s : Stream) (Q : Type 0) → b ≡ true → MatchBool b (finding_at f.evals n ≡ finding_at f.owns n) Q → finding_at f.evals n ≡ finding_at f.owns n
  end_same true n s Q t k = k
  end_same false n s Q t k = absurd (cc)

  own_kept : (n : ℕ) (s : Stream) → slice_get spec.streams n ≡ Some s → is_end s ≡ true → IsNotRefused (finding_at f.owns n)
  own_kept n s e t r h = eval_kept n s e r (end_same (is_end s) n s _ t (eval_found n s e) ∙ h)

  own_paced : (n : ℕ) (s : Stream) → slice_get spec.streams n ≡ Some s → is_end s ≡ true → is_unpaced (finding_at f.owns n) ≡ false
  own_paced n s e t =
      let own = own_at 0 spec.streams f.owns n s f.are.are_own e in
      own_cases (is_input s) own.0 (has_clause s.spawn) s.eval (finding_at f.owns n) t (eval_range n s e) own.1 (own_kept n s e t)

  leaf_cases : (n : ℕ) (o : Option Stream) → slice_get spec.streams n ≡ o → is_end_of o ≡ true → is_unpaced (finding_at f.owns n) ≡ false
  leaf_cases n None e t = absurd (cc)
  leaf_cases n (Some s) e t = own_paced n s e t

  -- a clause with this pacing written, or none
  pace_paced : (n at : ℕ) (spawned : Bool) (alone : FoundPacing) (c : Clause) (p : Option Pace) (g : FoundPacing) → (g ≡ alone → is_unpaced g ≡ false) → is_pace_in_range p ≡ true
      → IsPaceFound spec.streams f.owns n at spawned alone (Some c) p g → IsNotRefused g → is_unpaced g ≡ false
  pace_paced n at spawned alone c (Some p) g single r k nr = given_paced spawned p g r k nr
  pace_paced n at spawned alone c None g single r k nr =
      found_paced at alone (findings_at f.owns k.0) g single (none_unpaced f.owns k.0 (λ m l. leaf_cases m (slice_get spec.streams m) refl ((k.1.members m).0 l).ends)) k.2 nr

  clause_paced : (n at : ℕ) (spawned : Bool) (alone : FoundPacing) (c : Option Clause) (g : FoundPacing) → (g ≡ alone → is_unpaced g ≡ false) → is_clause_paced_in_range c ≡ true
      → IsClauseFound spec.streams f.owns n at spawned alone c g → IsNotRefused g → IsPacedWhere c g
  clause_paced n at spawned alone None g single r k nr = tt
  clause_paced n at spawned alone (Some c) g single r k nr = pace_paced n at spawned alone c c.pace g single r k nr

  refused_alone : (at : ℕ) (g : FoundPacing) → IsNotRefused g → g ≡ no_pacing at → is_unpaced g ≡ false
  refused_alone at g nr e = absurd (nr _ e)

  spawn_paced : (n : ℕ) (s : Stream) → slice_get spec.streams n ≡ Some s → IsPacedWhere s.spawn (finding_at f.spawns n)
  spawn_paced n s e =
      clause_paced n (place_of s.spawn) false (no_pacing (place_of s.spawn)) s.spawn (finding_at f.spawns n)
      (refused_alone (place_of s.spawn) (finding_at f.spawns n) (spawn_kept n s e)) (spawn_range n s e)
      (in_step_at (IsSpawnFound spec.streams f.owns) 0 spec.streams f.spawns n s n (omega arith) f.are.are_spawns e) (spawn_kept n s e)

  where_paced : (c : Option Clause) (g : FoundPacing) → is_unpaced g ≡ false → IsPacedWhere c g
  where_paced None g h = tt
  where_paced (Some c) g h = h

  eval_cases : (b : Bool) (n : ℕ) (s : Stream) → is_end s ≡ b → slice_get spec.streams n ≡ Some s
      → MatchBool b (finding_at f.evals n ≡ finding_at f.owns n) (IsClauseFound spec.streams f.owns n s.place (has_clause s.spawn) (no_pacing s.place) s.eval (finding_at f.evals n))
      → IsPacedWhere s.eval (finding_at f.evals n)
  eval_cases true n s t e k = where_paced s.eval (finding_at f.evals n) (ap is_unpaced k ∙ own_paced n s e t)
  eval_cases false n s t e k =
      clause_paced n s.place (has_clause s.spawn) (no_pacing s.place) s.eval (finding_at f.evals n) (refused_alone s.place (finding_at f.evals n) (eval_kept n s e)) (eval_range n s e) k (eval_kept n s e)

  eval_paced : (n : ℕ) (s : Stream) → slice_get spec.streams n ≡ Some s → IsPacedWhere s.eval (finding_at f.evals n)
  eval_paced n s e = eval_cases (is_end s) n s refl e (eval_found n s e)

  is_there : (c : Option Clause) (g : FoundPacing) → has_clause c ≡ true → IsPacedWhere c g → is_unpaced g ≡ false
  is_there None g t h = absurd (cc)
  is_there (Some c) g t h = h

  only_paced : (g : FoundPacing) → is_unpaced g ≡ false → is_unpaced (only_pacing g) ≡ false
  only_paced (Paced q) h = refl
  only_paced (Refused r) h = absurd (cc)
  only_paced Unpaced h = absurd (cc)

  close_paced : (n : ℕ) (s : Stream) → slice_get spec.streams n ≡ Some s → has_clause s.eval ≡ true → IsPacedWhere s.close (finding_at f.closes n)
  close_paced n s e t =
      let paced = only_paced (finding_at f.evals n) (is_there s.eval (finding_at f.evals n) t (eval_paced n s e)) in
      clause_paced n s.place (has_clause s.spawn) (only_pacing (finding_at f.evals n)) s.close (finding_at f.closes n) (λ q. ap is_unpaced q ∙ paced) (close_range n s e)
      (in_step_at (IsCloseFound spec.streams f.owns f.evals) 0 spec.streams f.closes n s n (omega arith) f.are.are_closes e) (close_kept n s e)

pub paces_all : PacesAll
paces_all = record {
  paced = λ spec f range accepted n s e. record { spawn = spawn_paced spec f range accepted n s e; eval = eval_paced spec f range accepted n s e; close = close_paced spec f range accepted n s e };
}
