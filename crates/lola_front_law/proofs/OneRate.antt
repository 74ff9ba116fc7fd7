-- A quantity is noted as one rate, and so what is out of range in declarations stands at the same places in all that they are resolved to.
use Rattle.std.proofs.Common.{◌≡◌, refl, sym, ap, ◌∙◌, ℕ, zero, suc, ◌+◌, ◌*◌, ◌/◌, ◌%◌, ◌<◌, ◌≤◌, List, [], ◌∷◌, ◌++◌, Option, Some, None, map, drop, length, arith}
use Rattle.std.specs.Int.{IsGcd}
use Rattle.std.proofs.Math.Nat.{div-mul_cancel}
use Rattle.std.proofs.lemmas.Nat.Gcd.{IsGcd-from_zero, IsGcd-from_mod}
use Rattle.lola_value.specs.Ratio.{Ratio}
use Rattle.lola_value.proofs.Divisors.{lowest_by_gcd, part_positive}
use Rattle.lola_parser_grammar.specs.declared.literals.Quantity.{Quantity}
use Rattle.lola_parser_grammar.specs.declared.literals.Typed.{Typed}
use Rattle.lola_parser_grammar.specs.declared.pacing.Rhythm.{Rhythm}
use Rattle.lola_parser_grammar.specs.declared.pacing.Rhythm.TheVariants as r
use Rattle.lola_parser_grammar.specs.declared.pacing.Pacing.{Pacing}
use Rattle.lola_parser_grammar.specs.declared.clauses.Spawn.{Spawn}
use Rattle.lola_parser_grammar.specs.declared.clauses.Eval.{Eval}
use Rattle.lola_parser_grammar.specs.declared.clauses.Close.{Close}
use Rattle.lola_parser_grammar.specs.declared.declarations.Output.{Output}
use Rattle.lola_parser_grammar.specs.declared.declarations.Trigger.{Trigger}
use Rattle.lola_parser_grammar.specs.declared.declarations.Declaration.{Declaration}
use Rattle.lola_parser_grammar.specs.declared.declarations.Declaration.TheVariants as d
use Rattle.lola_model.specs.declared.spec.Clause.{Clause}
use Rattle.lola_model.specs.declared.spec.Pace.{Pace}
use Rattle.lola_model.specs.declared.spec.Pace.TheVariants as pace
use Rattle.lola_model.specs.declared.spec.Part.TheVariants as part
use Rattle.lola_model.specs.declared.spec.Stream.{Stream}
use Rattle.lola_model.specs.declared.spec.WindowSpec.{WindowSpec}
use Rattle.lola_model.specs.declared.spec.WrittenRate.{WrittenRate}
use Rattle.lola_model.specs.declared.spec.WrittenRate.TheVariants as rate
use Rattle.lola_names_refused.specs.Quantities.{fraction_of, IsNotedAs, IsReduced, IsWrittenAs}
use Rattle.lola_names.specs.Targets.{Targets, parameter_targets}
use Rattle.lola_names.specs.Resolved.{Standing}
use Rattle.lola_names.specs.Clauses.{IsPace, IsPacing, IsOptional, IsSpawn, IsEval, IsClose, IsOutput, IsTriggerClause, IsTrigger, input_stream}
use Rattle.lola_names.specs.Specification.{AreStreams, rhythm_ranges, pacing_ranges, of_option, pace_in, spawn_ranges, eval_ranges, close_ranges, output_ranges, trigger_ranges, ranges_of}

-- ---- lowest terms

pub record HasDivisor (a b : ℕ) : Type 0 where
  pub divisor : ℕ
  pub is : IsGcd a b divisor
  pub positive : 0 < divisor

pub divisor_by : (n a b : ℕ) → b ≤ n → 0 < a + b → HasDivisor a b
divisor_by n a zero small some = record { divisor = a; is = IsGcd-from_zero a 0 refl; positive = omega (arith, some) }
divisor_by zero a (suc b) small some = absurd (omega (arith, small))
divisor_by (suc n) a (suc b) small some =
    let low : a % suc b < suc b = omega arith in
    let h = divisor_by n (suc b) (a % suc b) (omega (arith, low, small)) (omega arith) in
    record { divisor = h.divisor; is = IsGcd-from_mod a (suc b) h.divisor h.is; positive = h.positive }

same_number : (n d g num den : ℕ) → n * g ≡ num → d * g ≡ den → n * den ≡ num * d
same_number n d g num den a b =
    let left : n * (d * g) ≡ n * den = ap (λ x. n * x) b in
    let right : n * g * d ≡ num * d = ap (λ x. x * d) a in
    omega (arith, left, right)

pub reduced_by : (num den : ℕ) → 0 < num → 0 < den → (h : HasDivisor num den) → IsReduced num den (record { num = num / h.divisor; den = den / h.divisor })
reduced_by num den x y h = record {
  divisor = y;
  positive = part_positive den h.divisor y h.is.1;
  same = same_number (num / h.divisor) (den / h.divisor) h.divisor num den (div-mul_cancel h.divisor h.is.0) (div-mul_cancel h.divisor h.is.1);
  lowest = lowest_by_gcd num den h.divisor h.positive x h.is;
}

noted_once : (r : Ratio) (w v : WrittenRate) → IsNotedAs r w → IsNotedAs r v → w ≡ v
noted_once r rate.OutOfRange rate.OutOfRange h k = refl
noted_once r rate.OutOfRange rate.TooFast h k = absurd (h k.0)
noted_once r rate.OutOfRange (rate.Of s) h k = absurd (h k.1)
noted_once r rate.TooFast rate.OutOfRange h k = absurd (k h.0)
noted_once r rate.TooFast rate.TooFast h k = refl
noted_once r rate.TooFast (rate.Of s) h k = absurd (omega (arith, h.1, k.2))
noted_once r (rate.Of s) rate.OutOfRange h k = absurd (k h.1)
noted_once r (rate.Of s) rate.TooFast h k = absurd (omega (arith, k.1, h.2))
noted_once r (rate.Of s) (rate.Of t) h k = ap (λ (q : Ratio). rate.Of q) (h.0 ∙ sym k.0)

one_rate : (num den : ℕ) (w v : WrittenRate) → IsWrittenAs num den w → IsWrittenAs num den v → w ≡ v
one_rate zero den w v h k = h.zero_num refl ∙ sym (k.zero_num refl)
one_rate (suc num) zero w v h k = h.zero_den refl ∙ sym (k.zero_den refl)
one_rate (suc num) (suc den) w v h k =
    let divisor = divisor_by (suc den) (suc num) (suc den) (omega arith) (omega arith) in
    let some : 0 < suc num = omega arith in
    let reduced = reduced_by (suc num) (suc den) some (omega arith) divisor in
    noted_once _ w v (h.noted _ some reduced) (k.noted _ some reduced)

pub same_rate : (q : Quantity) (w v : WrittenRate) → IsWrittenAs (fraction_of q).num (fraction_of q).den w → IsWrittenAs (fraction_of q).num (fraction_of q).den v → w ≡ v
same_rate q w v h k = one_rate (fraction_of q).num (fraction_of q).den w v h k

-- ---- places out of range

rhythm_same : (targets : Targets) (at : ℕ) (x : Rhythm) (p q : Pace) → IsPace targets at x p → IsPace targets at x q → rhythm_ranges x p ≡ rhythm_ranges x q
rhythm_same targets at (r.Rate n) (pace.Rate p w) (pace.Rate q v) h k =
    ap (λ (z : WrittenRate). rhythm_ranges (r.Rate n) (pace.Rate p z)) (same_rate n w v h.1 k.1) ∙ ap (λ (z : ℕ). rhythm_ranges (r.Rate n) (pace.Rate z v)) (h.0 ∙ sym k.0)
rhythm_same targets at (r.Rate n) (pace.Rate p w) _ h k = absurd k
rhythm_same targets at (r.Rate n) _ q h k = absurd h
rhythm_same targets at (r.Formula x) p q h k = refl
rhythm_same targets at (r.Global n) (pace.Global p w) (pace.Global q v) h k =
    ap (λ (z : WrittenRate). rhythm_ranges (r.Global n) (pace.Global p z)) (same_rate n w v h.1 k.1) ∙ ap (λ (z : ℕ). rhythm_ranges (r.Global n) (pace.Global z v)) (h.0 ∙ sym k.0)
rhythm_same targets at (r.Global n) (pace.Global p w) _ h k = absurd k
rhythm_same targets at (r.Global n) _ q h k = absurd h
rhythm_same targets at (r.Local n) (pace.Local p w) (pace.Local q v) h k =
    ap (λ (z : WrittenRate). rhythm_ranges (r.Local n) (pace.Local p z)) (same_rate n w v h.1 k.1) ∙ ap (λ (z : ℕ). rhythm_ranges (r.Local n) (pace.Local z v)) (h.0 ∙ sym k.0)
rhythm_same targets at (r.Local n) (pace.Local p w) _ h k = absurd k
rhythm_same targets at (r.Local n) _ q h k = absurd h

pacing_same : (targets : Targets) (o : Option Pacing) (a b : Option Pace) → IsPacing targets o a → IsPacing targets o b → pacing_ranges o a ≡ pacing_ranges o b
pacing_same targets None a b h k = refl
pacing_same targets (Some x) (Some p) (Some q) h k = rhythm_same targets x.at x.rhythm p q h k
pacing_same targets (Some x) (Some p) None h k = absurd k
pacing_same targets (Some x) None b h k = absurd h

front : (xs ys us : List ℕ) → xs ≡ ys → xs ++ us ≡ ys ++ us
front xs ys us e = ap (λ (l : List ℕ). l ++ us) e

two_lists : (xs ys us vs : List ℕ) → xs ≡ ys → us ≡ vs → xs ++ us ≡ ys ++ vs
two_lists xs ys us vs e g = front xs ys us e ∙ ap (λ (l : List ℕ). ys ++ l) g

-- a clause that is there has its pacing by what is written
clause_pace : {A : Type 0} (targets : Targets) (R Q : A → Clause → Type 0) (of : A → Option Pacing)
    → ((x : A) (c : Clause) → R x c → IsPacing targets (of x) c.pace) → ((x : A) (c : Clause) → Q x c → IsPacing targets (of x) c.pace)
    → (x : A) (c d : Option Clause) → IsOptional R (Some x) c → IsOptional Q (Some x) d → pacing_ranges (of x) (pace_in c) ≡ pacing_ranges (of x) (pace_in d)
clause_pace targets R Q of f g x (Some c) (Some d) h k = pacing_same targets (of x) c.pace d.pace (f x c h) (g x d k)
clause_pace targets R Q of f g x (Some c) None h k = absurd k
clause_pace targets R Q of f g x None d h k = absurd h

module _ (declarations : List Declaration) (targets : Targets) (ts us : List (List ℕ)) (ws vs : List WindowSpec) where
  spawn_same : (here : Standing) (o : Option Spawn) (c d : Option Clause) → IsOptional (IsSpawn declarations targets ts ws here) o c → IsOptional (IsSpawn declarations targets us vs here) o d
      → of_option (spawn_ranges c) o ≡ of_option (spawn_ranges d) o
  spawn_same here None c d h k = refl
  spawn_same here (Some x) c d h k =
      front _ _ _ (clause_pace targets (IsSpawn declarations targets ts ws here) (IsSpawn declarations targets us vs here) (λ (y : Spawn). y.pacing) (λ y e i. i.pacing) (λ y e i. i.pacing) x c d h k)

  eval_same : (here : Standing) (x : Eval) (c d : Option Clause) → IsOptional (IsEval declarations targets ts ws here) (Some x) c → IsOptional (IsEval declarations targets us vs here) (Some x) d
      → eval_ranges c x ≡ eval_ranges d x
  eval_same here x c d h k =
      front _ _ _ (clause_pace targets (IsEval declarations targets ts ws here) (IsEval declarations targets us vs here) (λ (y : Eval). y.pacing) (λ y e i. i.pacing) (λ y e i. i.pacing) x c d h k)

  close_same : (here : Standing) (o : Option Close) (c d : Option Clause) → IsOptional (IsClose declarations targets ts ws here) o c → IsOptional (IsClose declarations targets us vs here) o d
      → of_option (close_ranges c) o ≡ of_option (close_ranges d) o
  close_same here None c d h k = refl
  close_same here (Some x) c d h k =
      front _ _ _ (clause_pace targets (IsClose declarations targets ts ws here) (IsClose declarations targets us vs here) (λ (y : Close). y.pacing) (λ y e i. i.pacing) (λ y e i. i.pacing) x c d h k)

  output_same : (n : ℕ) (x : Output) (a b : Stream) → IsOutput declarations targets ts ws n x a → IsOutput declarations targets us vs n x b → output_ranges x a ≡ output_ranges x b
  output_same n x a b h k =
      two_lists _ _ _ _ (spawn_same (record { stream = n; clause = part.Spawn; parameters = [] }) x.spawn a.spawn b.spawn h.spawn k.spawn)
      (two_lists _ _ _ _ (eval_same (record { stream = n; clause = part.Eval; parameters = parameter_targets 0 x.parameters }) x.eval a.eval b.eval h.eval k.eval)
      (close_same (record { stream = n; clause = part.Close; parameters = parameter_targets 0 x.parameters }) x.close a.close b.close h.close k.close))

  trigger_same : (n m : ℕ) (x : Trigger) (a b : Stream) → IsTrigger declarations targets ts ws n m x a → IsTrigger declarations targets us vs n m x b → trigger_ranges x a ≡ trigger_ranges x b
  trigger_same n m x a b h k =
      let here : Standing = record { stream = n; clause = part.Eval; parameters = [] } in
      front _ _ _
      (clause_pace targets (IsTriggerClause declarations targets ts ws here) (IsTriggerClause declarations targets us vs here) (λ (y : Trigger). y.pacing) (λ y e i. i.pacing) (λ y e i. i.pacing) x
      a.eval b.eval h.eval k.eval)

  behind_inputs : (ins : List Typed) (rest : List Stream) → drop (length ins) (map input_stream ins ++ rest) ≡ rest
  behind_inputs [] rest = refl
  behind_inputs (i ∷ ins) rest = behind_inputs ins rest

  past_inputs : (ins : List Typed) (all rest : List Stream) → all ≡ map input_stream ins ++ rest → drop (length ins) all ≡ rest
  past_inputs ins all rest e = ap (λ (l : List Stream). drop (length ins) l) e ∙ behind_inputs ins rest

  pub ranges_same : (n m : ℕ) (ds : List Declaration) (as' bs : List Stream) → AreStreams declarations targets ts ws n m ds as' → AreStreams declarations targets us vs n m ds bs
      → ranges_of ds as' ≡ ranges_of ds bs
  ranges_same n m [] as' bs h k = refl
  ranges_same n m (d.Inputs x ∷ ds) as' bs h k =
      ap (ranges_of ds) (past_inputs x.inputs as' h.0 h.1) ∙ ranges_same (n + length x.inputs) m ds h.0 k.0 h.2 k.2 ∙ sym (ap (ranges_of ds) (past_inputs x.inputs bs k.0 k.1))
  ranges_same n m (d.Constant x ∷ ds) as' bs h k = ranges_same n m ds as' bs h k
  ranges_same n m (d.Output x ∷ ds) [] bs h k = absurd h
  ranges_same n m (d.Output x ∷ ds) (a ∷ as') [] h k = absurd k
  ranges_same n m (d.Output x ∷ ds) (a ∷ as') (b ∷ bs) h k = two_lists _ _ _ _ (output_same n x a b h.0 k.0) (ranges_same (n + 1) m ds as' bs h.1 k.1)
  ranges_same n m (d.Trigger x ∷ ds) [] bs h k = absurd h
  ranges_same n m (d.Trigger x ∷ ds) (a ∷ as') [] h k = absurd k
  ranges_same n m (d.Trigger x ∷ ds) (a ∷ as') (b ∷ bs) h k = two_lists _ _ _ _ (trigger_same n (m + 1) x a b h.0 k.0) (ranges_same (n + 1) (m + 1) ds as' bs h.1 k.1)
