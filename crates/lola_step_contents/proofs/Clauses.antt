-- In a step in which a clause of an accepted plan is active, the store can be asked all that it reads.
use Rattle.std.proofs.Common.{◌≡◌, refl, sym, subst, ℕ, List, [], ◌∷◌, Option, Some, None, arith, drop, slice_get, unwrap_or}
use Rattle.lola_value.specs.declared.value.Kind.{Kind}
use Rattle.lola_value.specs.declared.value.Kind.TheVariants as kind
use Rattle.lola_value.specs.declared.value.Params.{Params}
use Rattle.lola_model.specs.Model.{spawn_pacing, filled_kind}
use Rattle.lola_model.specs.Parts.{listed, listed_clause, listed_spec, listed_stream, listed_when, listed_with}
use Rattle.lola_model.specs.Store.{Seen, no_params}
use Rattle.lola_model.specs.Table.{Step}
use Rattle.lola_model.specs.Wholes.{Whole, clause_wholes, condition_wholes, stream_wholes, with_wholes, wholes_of}
use Rattle.lola_model.specs.declared.expr.Expr.{Expr}
use Rattle.lola_model.specs.declared.plan.Plan.{Plan}
use Rattle.lola_model.specs.declared.spec.Clause.{Clause}
use Rattle.lola_model.specs.declared.spec.Part.{Part}
use Rattle.lola_model.specs.declared.spec.Part.TheVariants as part
use Rattle.lola_model.specs.declared.spec.Stream.{Stream}
use Rattle.lola_step_contents.specs.Ready.{AreAskable, ClausesMayAsk, CloseMayAsk, EvalMayAsk, IsAskable, IsClauseAskable, IsWhenAskable, SpawnMayAsk}
use Rattle.lola_step_contents.proofs.Among.{IsAmong, whole, among_first, among_others, among_one, of_close, of_eval, of_spawn, of_streams}
use Rattle.lola_step_contents.proofs.Askable.{askable}
use Rattle.lola_step_contents.proofs.Moments.{active_for}

-- a clause can be asked for where each of its whole expressions can
module _ (s : Seen) (q : Params) (texts : List (List ℕ)) (n : ℕ) (p : Part) (ks : List Kind) where
  -- each expression among these can be asked for
  abbrev pub EachAskable : List Whole → ((Expr → List ℕ) → List ℕ) → Type 0
  EachAskable ws all = (want : Kind) (before : ℕ) (e : Expr) → IsAmong ws all (whole n p ks want before e) → IsAskable s q texts want e

  -- a condition
  when_askable : (at : ℕ) (o : Option Expr) → EachAskable (condition_wholes n p ks at o) (λ g. listed_when g o) → IsWhenAskable s q texts o
  when_askable at None each = tt
  when_askable at (Some e) each = each kind.Bool at e (among_one (whole n p ks kind.Bool at e))

  -- the expressions behind `with`
  with_askable : (wants : List Kind) (ats : List ℕ) (es : List Expr) → EachAskable (with_wholes n p ks wants ats es) (λ g. listed_with g es) → AreAskable s q texts wants es
  with_askable wants ats [] each = tt
  with_askable wants ats (e ∷ es) each =
      let want = unwrap_or (slice_get wants 0) kind.Int64 in
      let before = unwrap_or (slice_get ats 0) 0 in
      let one = whole n p ks want before e in
      let others = with_wholes n p ks (drop 1 wants) (drop 1 ats) es in (
        each want before e (among_first one (one ∷ []) others (λ g. listed g e) (λ g. listed_with g es) (among_one one)),
        with_askable (drop 1 wants) (drop 1 ats) es
            (λ w b x a. each w b x (among_others (whole n p ks w b x) (one ∷ []) others (λ g. listed g e) (λ g. listed_with g es) a)),
      )

  -- both
  pub clause_askable : (wants : List Kind) (k : Clause) → EachAskable (clause_wholes n p ks wants (Some k)) (λ g. listed_clause g (Some k)) → IsClauseAskable s q texts wants k
  clause_askable wants k each =
      let whens = condition_wholes n p ks k.when_at k.when in
      let withs = with_wholes n p ks wants k.with_at k.with in
      record {
        when = when_askable k.when_at k.when
            (λ w b x a. each w b x (among_first (whole n p ks w b x) whens withs (λ g. listed_when g k.when) (λ g. listed_with g k.with) a));
        with = with_askable wants k.with_at k.with
            (λ w b x a. each w b x (among_others (whole n p ks w b x) whens withs (λ g. listed_when g k.when) (λ g. listed_with g k.with) a));
      }

module _ (plan : Plan) (start : ℕ) (step : Step) (s : Seen) (n : ℕ) (stream : Stream) (k : Clause) where
  -- the whole expressions of the stream are among those of the specification
  in_spec : (w : Whole) → slice_get plan.spec.streams n ≡ Some stream
      → IsAmong (stream_wholes n stream (filled_kind stream)) (λ g. listed_stream g stream) w → IsAmong (wholes_of plan.spec) (λ g. listed_spec g plan.spec) w
  in_spec w e a = of_streams w 0 plan.spec.streams n stream n (omega arith) e a

  -- the spawn clause, which has no parameters in scope
  pub spawn_may_ask : SpawnMayAsk plan start step s n stream k
  spawn_may_ask accepted at e is active =
      clause_askable s no_params plan.spec.texts n part.Spawn [] stream.parameters k
      (λ want before x a. askable plan start step s accepted at n part.Spawn 0 (active_for start 0 step (spawn_pacing (slice_get plan.pacings n)) active) no_params [] refl want before x
      (in_spec (whole n part.Spawn [] want before x) e (of_spawn n stream (filled_kind stream) (whole n part.Spawn [] want before x)
      (subst (λ (o : Option Clause). IsAmong (clause_wholes n part.Spawn [] stream.parameters o) (λ g. listed_clause g o) (whole n part.Spawn [] want before x)) (sym is) a))))

  -- the eval clause, for an instance
  pub eval_may_ask : (p : Params) → EvalMayAsk plan start step s n stream k p
  eval_may_ask p accepted at e is born active given =
      let l = filled_kind stream in
      clause_askable s p plan.spec.texts n part.Eval stream.parameters (l ∷ []) k
      (λ want before x a. askable plan start step s accepted at n part.Eval born active p stream.parameters given want before x
      (in_spec (whole n part.Eval stream.parameters want before x) e (of_eval n stream l (whole n part.Eval stream.parameters want before x)
      (subst (λ (o : Option Clause). IsAmong (clause_wholes n part.Eval stream.parameters (l ∷ []) o) (λ g. listed_clause g o) (whole n part.Eval stream.parameters want before x)) (sym is) a))))

  -- the close clause
  pub close_may_ask : (p : Params) → CloseMayAsk plan start step s n stream k p
  close_may_ask p accepted at e is born active given =
      clause_askable s p plan.spec.texts n part.Close stream.parameters [] k
      (λ want before x a. askable plan start step s accepted at n part.Close born active p stream.parameters given want before x
      (in_spec (whole n part.Close stream.parameters want before x) e (of_close n stream (filled_kind stream) (whole n part.Close stream.parameters want before x)
      (subst (λ (o : Option Clause). IsAmong (clause_wholes n part.Close stream.parameters [] o) (λ g. listed_clause g o) (whole n part.Close stream.parameters want before x)) (sym is) a))))

-- the law
pub clauses_may_ask : ClausesMayAsk
clauses_may_ask = record {
  spawns = λ plan start step s n stream k. spawn_may_ask plan start step s n stream k;
  evals = λ plan start step s n stream k p. eval_may_ask plan start step s n stream k p;
  closes = λ plan start step s n stream k p. close_may_ask plan start step s n stream k p;
}
