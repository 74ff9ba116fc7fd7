-- The rates that a text writes are above 0.
use Rattle.std.proofs.Common.{◌≡◌, refl, sym, ap, subst, ℕ, zero, suc, ◌+◌, ◌*◌, ◌/◌, ◌<◌, List, [], ◌∷◌, ◌++◌, Option, Some, None, map, length, drop, arith}
use Rattle.std.proofs.Math.Nat.{div-mul_cancel}
use Rattle.lola_value.specs.Ratio.{Ratio}
use Rattle.lola_value.specs.declared.value.Kind.{Kind}
use Rattle.lola_value.proofs.Divisors.{lowest_by_gcd, part_positive}
use Rattle.lola_parser_grammar.specs.declared.literals.Typed.{Typed}
use Rattle.lola_parser_grammar.specs.declared.pacing.Rhythm.{Rhythm}
use Rattle.lola_parser_grammar.specs.declared.pacing.Rhythm.TheVariants as r
use Rattle.lola_parser_grammar.specs.declared.pacing.Pacing.{Pacing}
use Rattle.lola_parser_grammar.specs.declared.declarations.Declaration.{Declaration}
use Rattle.lola_parser_grammar.specs.declared.declarations.Declaration.TheVariants as d
use Rattle.lola_model.specs.StepOrder.{IsPositiveRate}
use Rattle.lola_model.specs.declared.spec.Clause.{Clause}
use Rattle.lola_model.specs.declared.spec.Pace.{Pace}
use Rattle.lola_model.specs.declared.spec.Pace.TheVariants as pace
use Rattle.lola_model.specs.declared.spec.Part.TheVariants as part
use Rattle.lola_model.specs.declared.spec.Stream.{Stream}
use Rattle.lola_model.specs.declared.spec.WindowSpec.{WindowSpec}
use Rattle.lola_model.specs.declared.spec.WrittenRate.{WrittenRate}
use Rattle.lola_model.specs.declared.spec.WrittenRate.TheVariants as rate
use Rattle.lola_names_refused.specs.Quantities.{IsReduced, IsWrittenAs}
use Rattle.lola_front_law.specs.Rated.{AreRated, IsRatedClause, IsRatedPace, IsRatedWritten}
use Rattle.lola_names.proofs.RatesWritten.{HasDivisor, divisor_by}
use Rattle.lola_names.specs.Clauses.{IsClose, IsEval, IsOptional, IsPace, IsPacing, IsSpawn, IsTriggerClause, input_stream}
use Rattle.lola_names.specs.Resolved.{Standing}
use Rattle.lola_names.specs.Specification.{AreStreams}
use Rattle.lola_names.specs.Targets.{Targets, parameter_targets}
use Rattle.lola_types.specs.Filled.{FilledClauses, FilledStreams, SamePace}
use Rattle.lola_types.specs.Found.{Setting}

-- ---- quantities

same_number : (n m g num den : ℕ) → n * g ≡ num → m * g ≡ den → n * den ≡ num * m
same_number n m g num den a b =
    let left : n * (m * g) ≡ n * den = ap (λ x. n * x) b in
    let right : n * g * m ≡ num * m = ap (λ x. x * m) a in
    omega (arith, left, right)

reduced_by : (num den : ℕ) → 0 < num → 0 < den → (h : HasDivisor num den) → IsReduced num den (record { num = num / h.divisor; den = den / h.divisor })
reduced_by num den x y h = record {
  divisor = y;
  positive = part_positive den h.divisor y h.is.1;
  same = same_number (num / h.divisor) (den / h.divisor) h.divisor num den (div-mul_cancel h.divisor h.is.0) (div-mul_cancel h.divisor h.is.1);
  lowest = lowest_by_gcd num den h.divisor h.positive x h.is;
}

never_out : (q : Ratio) → rate.Of q ≡ rate.OutOfRange → ⊥
never_out q e = cc

-- a fraction that is noted as a rate is one above 0
number_rated : (num den : ℕ) (q : Ratio) → IsWrittenAs num den (rate.Of q) → IsPositiveRate q
number_rated zero den q h = absurd (never_out q (h.zero_num refl))
number_rated (suc num) zero q h = absurd (never_out q (h.zero_den refl))
number_rated (suc num) (suc den) q h =
    let divisor = divisor_by (suc den) (suc num) (suc den) (omega arith) (omega arith) in
    let some : 0 < suc num = omega arith in
    let reduced = reduced_by (suc num) (suc den) some (omega arith) divisor in
    subst IsPositiveRate (sym (h.noted _ some reduced).0) (record { num = part_positive (suc num) divisor.divisor some divisor.is.0; den = reduced.positive })

rate_rated : (num den : ℕ) (w : WrittenRate) → IsWrittenAs num den w → IsRatedWritten w
rate_rated num den rate.OutOfRange h = tt
rate_rated num den rate.TooFast h = tt
rate_rated num den (rate.Of q) h = number_rated num den q h

-- ---- clauses

rhythm_rated : (targets : Targets) (at : ℕ) (x : Rhythm) (p : Pace) → IsPace targets at x p → IsRatedPace (Some p)
rhythm_rated targets at (r.Rate n) (pace.Rate p w) h = rate_rated _ _ w h.1
rhythm_rated targets at (r.Formula t) (pace.Event p x) h = tt
rhythm_rated targets at (r.Global n) (pace.Global p w) h = rate_rated _ _ w h.1
rhythm_rated targets at (r.Local n) (pace.Local p w) h = rate_rated _ _ w h.1
rhythm_rated targets at _ _ h = absurd h

pacing_rated : (targets : Targets) (o : Option Pacing) (p : Option Pace) → IsPacing targets o p → IsRatedPace p
pacing_rated targets None None h = tt
pacing_rated targets (Some x) (Some p) h = rhythm_rated targets x.at x.rhythm p h
pacing_rated targets None (Some p) h = absurd h
pacing_rated targets (Some x) None h = absurd h

optional_rated : {A : Type 0} (R : A → Clause → Type 0) → ((x : A) (c : Clause) → R x c → IsRatedPace c.pace) → (o : Option A) (c : Option Clause) → IsOptional R o c → IsRatedClause c
optional_rated R g None None h = tt
optional_rated R g (Some x) (Some c) h = g x c h
optional_rated R g None (Some c) h = absurd h
optional_rated R g (Some x) None h = absurd h

-- ---- streams

inputs_rated : (ts : List Typed) (ss : List Stream) → AreRated ss → AreRated (map input_stream ts ++ ss)
inputs_rated [] ss h = h
inputs_rated (t ∷ ts) ss h = (tt, tt, tt, inputs_rated ts ss h)

module _ (declarations : List Declaration) (targets : Targets) (ts : List (List ℕ)) (ws : List WindowSpec) where
  pub streams_rated : (n m : ℕ) (ds : List Declaration) (ss : List Stream) → AreStreams declarations targets ts ws n m ds ss → AreRated ss
  streams_rated n m [] ss h = subst AreRated (sym h) tt
  streams_rated n m (d.Inputs x ∷ ds) ss h = subst AreRated (sym h.1) (inputs_rated x.inputs h.0 (streams_rated (n + length x.inputs) m ds h.0 h.2))
  streams_rated n m (d.Constant x ∷ ds) ss h = streams_rated n m ds ss h
  streams_rated n m (d.Output x ∷ ds) [] h = absurd h
  streams_rated n m (d.Output x ∷ ds) (s ∷ ss) h =
      let spawning : Standing = record { stream = n; clause = part.Spawn; parameters = [] } in
      let evaluating : Standing = record { stream = n; clause = part.Eval; parameters = parameter_targets 0 x.parameters } in
      let closing : Standing = record { stream = n; clause = part.Close; parameters = parameter_targets 0 x.parameters } in (
        optional_rated (IsSpawn declarations targets ts ws spawning) (λ y c i. pacing_rated targets y.pacing c.pace i.pacing) x.spawn s.spawn h.0.spawn,
        optional_rated (IsEval declarations targets ts ws evaluating) (λ y c i. pacing_rated targets y.pacing c.pace i.pacing) (Some x.eval) s.eval h.0.eval,
        optional_rated (IsClose declarations targets ts ws closing) (λ y c i. pacing_rated targets y.pacing c.pace i.pacing) x.close s.close h.0.close,
        streams_rated (n + 1) m ds ss h.1,
      )
  streams_rated n m (d.Trigger x ∷ ds) [] h = absurd h
  streams_rated n m (d.Trigger x ∷ ds) (s ∷ ss) h =
      let here : Standing = record { stream = n; clause = part.Eval; parameters = [] } in (
        subst IsRatedClause (sym h.0.spawn) tt,
        optional_rated (IsTriggerClause declarations targets ts ws here) (λ y c i. pacing_rated targets y.pacing c.pace i.pacing) (Some x) s.eval h.0.eval,
        subst IsRatedClause (sym h.0.close) tt,
        streams_rated (n + 1) (m + 1) ds ss h.1,
      )

-- ---- with kinds filled in

same_rated : (p q : Option Pace) → SamePace p q → IsRatedPace p → IsRatedPace q
same_rated None None h low = tt
same_rated (Some (pace.Event p x)) (Some (pace.Event q y)) h low = tt
same_rated (Some (pace.Rate p w)) (Some (pace.Rate q v)) h low = subst IsRatedWritten h.1 low
same_rated (Some (pace.Global p w)) (Some (pace.Global q v)) h low = subst IsRatedWritten h.1 low
same_rated (Some (pace.Local p w)) (Some (pace.Local q v)) h low = subst IsRatedWritten h.1 low
same_rated _ _ h low = absurd h

clause_rated : (s : Setting) (wants : List Kind) (c e : Option Clause) → FilledClauses s wants c e → IsRatedClause c → IsRatedClause e
clause_rated s wants None None h low = tt
clause_rated s wants (Some c) (Some e) h low = same_rated c.pace e.pace h.pacing low
clause_rated s wants None (Some e) h low = absurd h
clause_rated s wants (Some c) None h low = absurd h

pub filled_rated : (s : Setting) (is : List (Option Kind)) (as' bs : List Stream) → FilledStreams s is as' bs → AreRated as' → AreRated bs
filled_rated s is [] [] h low = tt
filled_rated s is (a ∷ as') (b ∷ bs) h low = (
  clause_rated _ _ a.spawn b.spawn h.0.spawn low.0,
  clause_rated _ _ a.eval b.eval h.0.eval low.1,
  clause_rated _ _ a.close b.close h.0.close low.2,
  filled_rated s (drop 1 is) as' bs h.1 low.3,
)
filled_rated s is [] (b ∷ bs) h low = absurd h
filled_rated s is (a ∷ as') [] h low = absurd h
