-- What a task comes to, from what its clause comes to.
use Rattle.std.proofs.Common.{◌≡◌, ℕ, Bool, refl, ap, sym, ◌∙◌, subst, List, [], ◌∷◌, Option, Some, None, slice_get, unwrap_or, MatchOption, true, false, length, ◌<◌, IsTrue}
use Rattle.lola_value.specs.declared.text.Field.{Field}
use Rattle.lola_value.specs.declared.value.Kind.{Kind}
use Rattle.lola_value.specs.declared.value.Kind.TheVariants as kind
use Rattle.lola_value.specs.declared.value.Outcome.{Outcome}
use Rattle.lola_value.specs.declared.value.Outcome.TheVariants as outcome
use Rattle.lola_value.specs.declared.value.Params.{Params}
use Rattle.lola_value.specs.Answer.{Answer, Missing}
use Rattle.lola_value.specs.Kinds.{are_of_kinds, is_outcome_of}
use Rattle.lola_value.specs.Naming.{read_params, the_values}
use Rattle.lola_model.specs.Content.{Content}
use Rattle.lola_model.specs.Model.{clause_answer, eval_outcome, eval_pacing, filled_kind}
use Rattle.lola_model.specs.Store.{Layout, Memories, Seen, SeenInstance, instances_seen, kind_in, layout_of, parameters_of, spawns_in}
use Rattle.lola_model.specs.declared.pacing.ClausePacings.{ClausePacings}
use Rattle.lola_model.specs.declared.pacing.Pacing.{Pacing}
use Rattle.lola_model.specs.declared.plan.Plan.{Plan}
use Rattle.lola_model.specs.declared.spec.Clause.{Clause}
use Rattle.lola_model.specs.declared.spec.Stream.{Stream}
use Rattle.lola_step_contents.specs.Ready.{IsClauseAskable}
use Rattle.lola_step.specs.Clauses.{IsAnswer, eval_answer}
use Rattle.lola_step.specs.Moments.{active_for_in, born_seen}
use Rattle.lola_step.specs.Tasks.{AreReady, AreTasks, IsActiveTask, IsEvalReady, IsOutcome, IsReady, IsTask, is_active_task, params_at, params_given}
use Rattle.lola_step.specs.declared.moment.Moment.{Moment}
use Rattle.lola_step.specs.declared.tasks.Task.{Task}
use Rattle.lola_step.proofs.Layouts.{kind_there, parameters_there}

-- the parameters at a place
pub params_are : (o : Option SeenInstance) (p : Params) → MatchOption o ⊥ (λ x. p ≡ x.params) → p ≡ params_at o
params_are None p m = absurd m
params_are (Some x) p m = m

-- the clause of a task may be asked for the parameters that are given, which are of the stream's kinds where it has a spawn clause
pub may_ask : (plan : Plan) (s : Seen) (t : Task) (x : IsActiveTask plan s t) (stream : Stream) (clause : Clause) (p : Params) → s.layout ≡ layout_of plan
    → slice_get plan.spec.streams t.stream ≡ Some stream → stream.eval ≡ Some clause → p ≡ params_given s t.stream t.index
    → (IsTrue (spawns_in (slice_get s.layout.streams t.stream)) → IsTrue (are_of_kinds (parameters_of (slice_get s.layout.streams t.stream)) (the_values p)))
    → IsClauseAskable s p plan.spec.texts (filled_kind stream ∷ []) clause
may_ask plan s t x stream clause p layout stream_is clause_is params_is of_kinds =
    subst (λ (k : Clause). IsClauseAskable s p plan.spec.texts (filled_kind stream ∷ []) k) same_clause
    (subst (λ (y : Stream). IsClauseAskable s p plan.spec.texts (filled_kind y ∷ []) x.clause) same_stream
    (subst (λ (q : Params). IsClauseAskable s q plan.spec.texts (unwrap_or x.stream.kind kind.Int64 ∷ []) x.clause) (sym params_is)
    (x.asks (λ spawns. subst (λ (q : Params). IsTrue (are_of_kinds x.stream.parameters (the_values q))) params_is
    (subst (λ (ks : List Kind). IsTrue (are_of_kinds ks (the_values p))) laid_out (of_kinds spawns))))))
  where
    same_stream : x.stream ≡ stream
    same_stream = let e : Some x.stream ≡ Some stream = sym x.stream_is ∙ stream_is in cc

    same_clause : x.clause ≡ clause
    same_clause = let e : Some x.clause ≡ Some clause = sym x.clause_is ∙ (ap (λ (y : Stream). y.eval) same_stream ∙ clause_is) in cc

    laid_out : parameters_of (slice_get s.layout.streams t.stream) ≡ x.stream.parameters
    laid_out = ap (λ (l : Layout). parameters_of (slice_get l.streams t.stream)) layout ∙ parameters_there plan.spec.streams plan.kept plan.pacings t.stream x.stream x.stream_is

-- what the eval clause of the stream comes to is the outcome of a task for which it is active
pub is_result : (plan : Plan) (remembers : Memories) (s : Seen) (t : Task) (stream : Stream) (clause : Clause) (p : Params) (r : Outcome) → s.layout ≡ layout_of plan
    → slice_get plan.spec.streams t.stream ≡ Some stream → stream.eval ≡ Some clause → p ≡ params_given s t.stream t.index
    → is_outcome_of (filled_kind stream) r ≡ true
    → IsAnswer plan remembers s p (λ c q. clause_answer plan.spec c q clause) r → IsOutcome plan true remembers s t r
is_result plan remembers s t stream clause p r layout stream_is clause_is params_is of_kind answer =
    record {
      kind = subst (λ (k : Kind). is_outcome_of k r ≡ true) (sym (ap (λ (l : Layout). kind_in (slice_get l.streams t.stream)) layout ∙ kind_there plan.spec.streams plan.kept plan.pacings t.stream stream stream_is)) of_kind;
      answer = subst (λ (f : Content → List Field → Answer). IsAnswer plan remembers s (params_given s t.stream t.index) f r) answers
          (subst (λ (q : Params). IsAnswer plan remembers s q (λ c q. clause_answer plan.spec c q clause) r) params_is answer);
    }
  where
    answers : (λ c q. clause_answer plan.spec c q clause) ≡ eval_answer plan.spec true (slice_get plan.spec.streams t.stream)
    answers = sym (ap (eval_answer plan.spec true) stream_is ∙ ap (λ (o : Option Clause). (λ (c : Content) (q : List Field). eval_outcome plan.spec c false true o q)) clause_is)

-- whether the clause is active, by the pacing that was read and the answer that was given
pub is_so : (plan : Plan) (m : Moment) (s : Seen) (t : Task) (read : List ClausePacings) (p : Option Pacing) (test answer : Bool) → read ≡ plan.pacings → p ≡ eval_pacing (slice_get read t.stream)
    → test ≡ active_for_in m (born_seen s t.stream t.index) p → test ≡ answer → answer ≡ is_active_task plan m s t
is_so plan m s t read p test answer reads is tests answers =
    sym answers ∙ (tests ∙ ap (active_for_in m (born_seen s t.stream t.index)) (is ∙ ap (λ ps. eval_pacing (slice_get ps t.stream)) reads))

-- where it is not, there is none
pub no_result : (plan : Plan) (remembers : Memories) (s : Seen) (t : Task) → IsOutcome plan false remembers s t outcome.Missing
no_result plan remembers s t = record { kind = refl; answer = λ names c sees texts. (sym (none (slice_get plan.spec.streams t.stream) c (read_params names (params_given s t.stream t.index))), tt) }
  where
    by_clause : (o : Option Clause) (c : Content) (q : List Field) → eval_outcome plan.spec c false false o q ≡ Missing
    by_clause None c q = refl
    by_clause (Some k) c q = refl

    none : (o : Option Stream) (c : Content) (q : List Field) → eval_answer plan.spec false o c q ≡ Missing
    none None c q = refl
    none (Some stream) c q = by_clause stream.eval c q

-- the stream of a task has an eval clause
pub never_without : (o : Option Stream) (read stream : Stream) (clause : Clause) → o ≡ Some read → read.eval ≡ None → o ≡ Some stream → stream.eval ≡ Some clause → ⊥
never_without None read stream clause r n i k = absurd (cc)
never_without (Some x) read stream clause r n i k =
    let q : read ≡ stream = cc in
    let e : None ≡ Some clause = sym n ∙ (ap (λ (y : Stream). y.eval) q ∙ k) in
    absurd (cc)

module _ (plan : Plan) (m : Moment) (s : Seen) where
  -- tasks may be done
  pub are_ready : (tasks : List Task) → AreTasks plan m s tasks → AreReady plan m s tasks
  are_ready tasks h = λ i t e.
      let x = h i t e in (
        x.lives,
        x.paced,
        x.may,
        x.spawns,
        λ active. ready t (x.active active),
      )
    where
      ready : (t : Task) → IsActiveTask plan s t → IsReady s (spawns_in (slice_get s.layout.streams t.stream)) (params_given s t.stream t.index) plan.spec.texts (slice_get plan.spec.streams t.stream)
      ready t x =
          subst (λ (o : Option Stream). IsReady s (spawns_in (slice_get s.layout.streams t.stream)) (params_given s t.stream t.index) plan.spec.texts o) (sym x.stream_is)
          (subst (λ (o : Option Clause). IsEvalReady s (spawns_in (slice_get s.layout.streams t.stream)) (params_given s t.stream t.index) plan.spec.texts x.stream.parameters (unwrap_or x.stream.kind kind.Int64) o) (sym x.clause_is) x.asks)

  module _ (t : Task) (lives : t.index < length (instances_seen s t.stream)) where
    by_clause : (stream : Stream) (o : Option Clause) → slice_get plan.spec.streams t.stream ≡ Some stream → stream.eval ≡ o
        → IsEvalReady s (spawns_in (slice_get s.layout.streams t.stream)) (params_given s t.stream t.index) plan.spec.texts stream.parameters (filled_kind stream) o → IsActiveTask plan s t
    by_clause stream None e f r = absurd r
    by_clause stream (Some clause) e f r = record { stream = stream; stream_is = e; clause = clause; clause_is = f; lives = lives; asks = r }

    by_stream : (o : Option Stream) → slice_get plan.spec.streams t.stream ≡ o → IsReady s (spawns_in (slice_get s.layout.streams t.stream)) (params_given s t.stream t.index) plan.spec.texts o → IsActiveTask plan s t
    by_stream None e r = absurd r
    by_stream (Some stream) e r = by_clause stream stream.eval e refl r

  -- and are tasks
  pub is_task : (tasks : List Task) → AreReady plan m s tasks → (i : ℕ) (t : Task) → slice_get tasks i ≡ Some t → IsTask plan m s t
  is_task tasks h i t e =
      let x = h i t e in
      record {
        lives = x.0;
        paced = x.1;
        may = x.2;
        spawns = x.3;
        active = λ active. by_stream t x.0 (slice_get plan.spec.streams t.stream) refl (x.4 active);
      }
