-- The rates of a text are in lowest terms where they are written, and so where they are found.
use Rattle.std.proofs.Common.{◌≡◌, refl, sym, subst, ℕ, zero, suc, ◌+◌, ◌<◌, List, [], ◌∷◌, ◌++◌, Bool, true, false, Option, Some, None, map, length, drop, arith}
use Rattle.lola_value.specs.Ratio.{Ratio}
use Rattle.lola_value.specs.declared.value.Kind.{Kind}
use Rattle.lola_parser_grammar.specs.declared.literals.Typed.{Typed}
use Rattle.lola_parser_grammar.specs.declared.pacing.Rhythm.{Rhythm}
use Rattle.lola_parser_grammar.specs.declared.pacing.Rhythm.TheVariants as r
use Rattle.lola_parser_grammar.specs.declared.pacing.Pacing.{Pacing}
use Rattle.lola_parser_grammar.specs.declared.declarations.Declaration.{Declaration}
use Rattle.lola_parser_grammar.specs.declared.declarations.Declaration.TheVariants as d
use Rattle.lola_model.specs.Model.{is_input}
use Rattle.lola_model.specs.Named.{has_clause}
use Rattle.lola_model.specs.PacingFound.{given_rate, given_local, IsGivenEvent, IsGiven, IsWritten, IsWrittenIn, IsOwn, AreOwn, finding_at, inputs_with}
use Rattle.lola_model.specs.declared.finding.FoundPacing.{FoundPacing}
use Rattle.lola_model.specs.declared.finding.FoundPacing.TheVariants.{Paced, Refused, Unpaced}
use Rattle.lola_model.specs.declared.pacing.Pacing.TheVariants.{Event, Periodic, Local}
use Rattle.lola_model.specs.declared.spec.Clause.{Clause}
use Rattle.lola_model.specs.declared.spec.Formula.{Formula}
use Rattle.lola_model.specs.declared.spec.Pace.{Pace}
use Rattle.lola_model.specs.declared.spec.Pace.TheVariants as pace
use Rattle.lola_model.specs.declared.spec.Part.TheVariants as part
use Rattle.lola_model.specs.declared.spec.Stream.{Stream}
use Rattle.lola_model.specs.declared.spec.WindowSpec.{WindowSpec}
use Rattle.lola_model.specs.declared.spec.WrittenRate.{WrittenRate}
use Rattle.lola_model.specs.declared.spec.WrittenRate.TheVariants as rate
use Rattle.lola_names_refused.specs.Quantities.{IsWrittenAs}
use Rattle.lola_names.specs.Targets.{Targets, parameter_targets}
use Rattle.lola_names.specs.Resolved.{Standing}
use Rattle.lola_names.specs.Clauses.{IsPace, IsPacing, IsOptional, IsEval, IsTriggerClause, input_stream}
use Rattle.lola_names.specs.Specification.{AreStreams}
use Rattle.lola_types.specs.Found.{Setting}
use Rattle.lola_types.specs.Filled.{SamePace, FilledClauses, FilledStreams}
use Rattle.lola_front_law.proofs.OneFinding.{HasLowestRate, on_both}
use Rattle.lola_front_law.proofs.OneRate.{divisor_by, reduced_by}
use Rattle.lola_front_law.specs.OnePacing.{IsLowestRate, IsLowestWritten, IsLowestPace, IsLowestClause, AreLowest}

-- ---- where they are found

given_lowest : (at : ℕ) (w : WrittenRate) → IsLowestWritten w → HasLowestRate (given_rate at w)
given_lowest at rate.OutOfRange h = tt
given_lowest at rate.TooFast h = tt
given_lowest at (rate.Of q) h = h

local_lowest : (spawned : Bool) (at : ℕ) (w : WrittenRate) → HasLowestRate (given_local spawned at w)
local_lowest true at rate.OutOfRange = tt
local_lowest false at rate.OutOfRange = tt
local_lowest spawned at rate.TooFast = tt
local_lowest true at (rate.Of q) = tt
local_lowest false at (rate.Of q) = tt

event_lowest : (at : ℕ) (x : Formula) (k : FoundPacing) → IsGivenEvent at x k → HasLowestRate k
event_lowest at x (Paced (Event sets)) h = tt
event_lowest at x (Paced (Periodic q)) h = absurd h
event_lowest at x (Paced (Local q)) h = absurd h
event_lowest at x (Refused q) h = tt
event_lowest at x Unpaced h = absurd h

pace_lowest : (spawned : Bool) (p : Pace) (k : FoundPacing) → IsLowestPace (Some p) → IsGiven spawned p k → HasLowestRate k
pace_lowest spawned (pace.Event at x) k low h = event_lowest at x k h
pace_lowest spawned (pace.Rate at w) k low h = subst HasLowestRate (sym h) (given_lowest at w low)
pace_lowest spawned (pace.Global at w) k low h = subst HasLowestRate (sym h) (given_lowest at w low)
pace_lowest spawned (pace.Local at w) k low h = subst HasLowestRate (sym h) (local_lowest spawned at w)

written_lowest : (spawned : Bool) (p : Option Pace) (k : FoundPacing) → IsLowestPace p → IsWritten spawned p k → HasLowestRate k
written_lowest spawned None k low h = subst HasLowestRate (sym h) tt
written_lowest spawned (Some p) k low h = pace_lowest spawned p k low h

clause_lowest : (spawned : Bool) (c : Option Clause) (k : FoundPacing) → IsLowestClause c → IsWrittenIn spawned c k → HasLowestRate k
clause_lowest spawned None k low h = subst HasLowestRate (sym h) tt
clause_lowest spawned (Some c) k low h = written_lowest spawned c.pace k low h

own_lowest : (i : ℕ) (s : Stream) (k : FoundPacing) → IsLowestClause s.eval → IsOwn i s k → HasLowestRate k
own_lowest i s k low h =
    on_both (is_input s) _ _ _ _ h h (λ p q. subst HasLowestRate (sym p) tt) (λ p q. clause_lowest (has_clause s.spawn) s.eval k low p)

pub owns_lowest : (i : ℕ) (ss : List Stream) (ks : List FoundPacing) (n : ℕ) → AreLowest ss → AreOwn i ss ks → HasLowestRate (finding_at ks n)
owns_lowest i [] [] n low h = tt
owns_lowest i (s ∷ ss) (k ∷ ks) zero low h = own_lowest i s k low.0 h.0
owns_lowest i (s ∷ ss) (k ∷ ks) (suc n) low h = owns_lowest (inputs_with i s) ss ks n low.1 h.1
owns_lowest i [] (k ∷ ks) n low h = absurd h
owns_lowest i (s ∷ ss) [] n low h = absurd h

-- ---- where they are written

number_lowest : (num den : ℕ) (q : Ratio) → IsWrittenAs num den (rate.Of q) → IsLowestRate q
number_lowest zero den q h = absurd (none_of q (h.zero_num refl))
  where
    none_of : (q : Ratio) → rate.Of q ≡ rate.OutOfRange → ⊥
    none_of q e = cc
number_lowest (suc num) zero q h = absurd (none_of q (h.zero_den refl))
  where
    none_of : (q : Ratio) → rate.Of q ≡ rate.OutOfRange → ⊥
    none_of q e = cc
number_lowest (suc num) (suc den) q h =
    let divisor = divisor_by (suc den) (suc num) (suc den) (omega arith) (omega arith) in
    let some : 0 < suc num = omega arith in
    let reduced = reduced_by (suc num) (suc den) some (omega arith) divisor in
    subst IsLowestRate (sym (h.noted _ some reduced).0) (record { den = reduced.positive; lowest = reduced.lowest })

rate_lowest : (num den : ℕ) (w : WrittenRate) → IsWrittenAs num den w → IsLowestWritten w
rate_lowest num den rate.OutOfRange h = tt
rate_lowest num den rate.TooFast h = tt
rate_lowest num den (rate.Of q) h = number_lowest num den q h

rhythm_lowest : (targets : Targets) (at : ℕ) (x : Rhythm) (p : Pace) → IsPace targets at x p → IsLowestPace (Some p)
rhythm_lowest targets at (r.Rate n) (pace.Rate p w) h = rate_lowest _ _ w h.1
rhythm_lowest targets at (r.Formula t) (pace.Event p x) h = tt
rhythm_lowest targets at (r.Global n) (pace.Global p w) h = rate_lowest _ _ w h.1
rhythm_lowest targets at (r.Local n) (pace.Local p w) h = tt
rhythm_lowest targets at _ _ h = absurd h

pacing_lowest : (targets : Targets) (o : Option Pacing) (p : Option Pace) → IsPacing targets o p → IsLowestPace p
pacing_lowest targets None None h = tt
pacing_lowest targets (Some x) (Some p) h = rhythm_lowest targets x.at x.rhythm p h
pacing_lowest targets None (Some p) h = absurd h
pacing_lowest targets (Some x) None h = absurd h

optional_lowest : {A : Type 0} (R : A → Clause → Type 0) → ((x : A) (c : Clause) → R x c → IsLowestPace c.pace) → (o : Option A) (c : Option Clause) → IsOptional R o c → IsLowestClause c
optional_lowest R g None None h = tt
optional_lowest R g (Some x) (Some c) h = g x c h
optional_lowest R g None (Some c) h = absurd h
optional_lowest R g (Some x) None h = absurd h

inputs_lowest : (ts : List Typed) (ss : List Stream) → AreLowest ss → AreLowest (map input_stream ts ++ ss)
inputs_lowest [] ss h = h
inputs_lowest (t ∷ ts) ss h = (tt, inputs_lowest ts ss h)

module _ (declarations : List Declaration) (targets : Targets) (ts : List (List ℕ)) (ws : List WindowSpec) where
  pub streams_lowest : (n m : ℕ) (ds : List Declaration) (ss : List Stream) → AreStreams declarations targets ts ws n m ds ss → AreLowest ss
  streams_lowest n m [] ss h = subst AreLowest (sym h) tt
  streams_lowest n m (d.Inputs x ∷ ds) ss h = subst AreLowest (sym h.1) (inputs_lowest x.inputs h.0 (streams_lowest (n + length x.inputs) m ds h.0 h.2))
  streams_lowest n m (d.Constant x ∷ ds) ss h = streams_lowest n m ds ss h
  streams_lowest n m (d.Output x ∷ ds) [] h = absurd h
  streams_lowest n m (d.Output x ∷ ds) (s ∷ ss) h =
      let evaluating : Standing = record { stream = n; clause = part.Eval; parameters = parameter_targets 0 x.parameters } in (
        optional_lowest (IsEval declarations targets ts ws evaluating) (λ y c i. pacing_lowest targets y.pacing c.pace i.pacing) (Some x.eval) s.eval h.0.eval,
        streams_lowest (n + 1) m ds ss h.1,
      )
  streams_lowest n m (d.Trigger x ∷ ds) [] h = absurd h
  streams_lowest n m (d.Trigger x ∷ ds) (s ∷ ss) h =
      let here : Standing = record { stream = n; clause = part.Eval; parameters = [] } in (
        optional_lowest (IsTriggerClause declarations targets ts ws here) (λ y c i. pacing_lowest targets y.pacing c.pace i.pacing) (Some x) s.eval h.0.eval,
        streams_lowest (n + 1) (m + 1) ds ss h.1,
      )

same_lowest : (p q : Option Pace) → SamePace p q → IsLowestPace p → IsLowestPace q
same_lowest None None h low = tt
same_lowest (Some (pace.Event p x)) (Some (pace.Event q y)) h low = tt
same_lowest (Some (pace.Rate p w)) (Some (pace.Rate q v)) h low = subst IsLowestWritten h.1 low
same_lowest (Some (pace.Global p w)) (Some (pace.Global q v)) h low = subst IsLowestWritten h.1 low
same_lowest (Some (pace.Local p w)) (Some (pace.Local q v)) h low = tt
same_lowest _ _ h low = absurd h

filled_clause_lowest : (s : Setting) (wants : List Kind) (c e : Option Clause) → FilledClauses s wants c e → IsLowestClause c → IsLowestClause e
filled_clause_lowest s wants None None h low = tt
filled_clause_lowest s wants (Some c) (Some e) h low = same_lowest c.pace e.pace h.pacing low
filled_clause_lowest s wants None (Some e) h low = absurd h
filled_clause_lowest s wants (Some c) None h low = absurd h

pub filled_lowest : (s : Setting) (is : List (Option Kind)) (as' bs : List Stream) → FilledStreams s is as' bs → AreLowest as' → AreLowest bs
filled_lowest s is [] [] h low = tt
filled_lowest s is (a ∷ as') (b ∷ bs) h low = (filled_clause_lowest _ _ a.eval b.eval h.0.eval low.0, filled_lowest s (drop 1 is) as' bs h.1 low.1)
filled_lowest s is [] (b ∷ bs) h low = absurd h
filled_lowest s is (a ∷ as') [] h low = absurd h
