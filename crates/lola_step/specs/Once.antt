-- That a clause may be evaluated is said in at most one way.
use Rattle.std.specs.Prelude.{ℕ, ◌≡◌, List, [], ◌∷◌, Option, Some, None, Bool, IsTrue, drop}
use Rattle.std.specs.Coded.{Coded, Coded-set, coded_ℕ}
use Rattle.std.proofs.Props.{props}
use Rattle.std.proofs.lemmas.Bool.{eq-eqb}
use Rattle.lola_value.specs.declared.value.Kind.{Kind}
use Rattle.lola_value.specs.declared.value.Kind.TheVariants as kind
use Rattle.lola_value.specs.declared.value.Params.{Params}
use Rattle.lola_value.specs.Kinds.{kind_number}
use Rattle.lola_value.specs.Naming.{Naming}
use Rattle.lola_model.specs.Model.{filled_kind}
use Rattle.lola_model.specs.Store.{Seen}
use Rattle.lola_model.specs.Typing.{can_ask, noted}
use Rattle.lola_model.specs.declared.expr.Expr.{Expr}
use Rattle.lola_model.specs.declared.plan.Plan.{Plan}
use Rattle.lola_model.specs.declared.spec.Clause.{Clause}
use Rattle.lola_model.specs.declared.spec.Stream.{Stream}
use Rattle.lola_expr.specs.Evaluation.{is_named}
use Rattle.lola_expr.proofs.Parts.{same_kind-true}
use Rattle.lola_step_contents.specs.Ready.{AreAskable, HasTexts, IsAskable, IsClauseAskable, IsWhenAskable}
use Rattle.lola_step.specs.Tasks.{AreReady, IsEvalReady, IsReady}
use Rattle.lola_step.specs.declared.moment.Moment.{Moment}
use Rattle.lola_step.specs.declared.tasks.Task.{Task}

-- kinds are told apart by their numbers
kind_coded : Coded Kind
kind_coded = record { code = λ k. coded_ℕ.code (kind_number k); inj = λ k l e. same_kind-true k l (eq-eqb (kind_number k) (kind_number l) (coded_ℕ.inj (kind_number k) (kind_number l) e)) }

module _ (s : Seen) (p : Params) (texts : List (List ℕ)) where
  -- an expression
  expression-prop : (want : Kind) (e : Expr) → IsProp (IsAskable s p texts want e)
  expression-prop want e x y =
      let asks : IsProp (IsTrue (can_ask s p e)) = hlevel props in
      let kind : IsProp (noted e ≡ want) = Coded-set kind_coded (noted e) want in
      let named : IsProp ((names : Naming) → HasTexts names texts → IsTrue (is_named names texts e)) = hlevel props in
      λ i. record { asks = asks x.asks y.asks i; kind = kind x.kind y.kind i; named = named x.named y.named i }

  -- a condition
  when-prop : (o : Option Expr) → IsProp (IsWhenAskable s p texts o)
  when-prop None = hlevel props
  when-prop (Some e) = expression-prop kind.Bool e

  -- expressions
  expressions-prop : (wants : List Kind) (es : List Expr) → IsProp (AreAskable s p texts wants es)
  expressions-prop wants [] = hlevel props
  expressions-prop wants (e ∷ es) = hlevel (props, expression-prop, expressions-prop (drop 1 wants) es)

  -- a clause
  clause-prop : (wants : List Kind) (k : Clause) → IsProp (IsClauseAskable s p texts wants k)
  clause-prop wants k x y =
      let when : IsProp (IsWhenAskable s p texts k.when) = when-prop k.when in
      let with : IsProp (AreAskable s p texts wants k.with) = expressions-prop wants k.with in
      λ i. record { when = when x.when y.when i; with = with x.with y.with i }

  -- the eval clause of a stream
  eval-prop : (spawns : Bool) (kinds : List Kind) (want : Kind) (o : Option Clause) → IsProp (IsEvalReady s spawns p texts kinds want o)
  eval-prop spawns kinds want None = hlevel props
  eval-prop spawns kinds want (Some k) = hlevel (props, clause-prop (want ∷ []) k)

  -- a stream
  stream-prop : (spawns : Bool) (o : Option Stream) → IsProp (IsReady s spawns p texts o)
  stream-prop spawns None = hlevel props
  stream-prop spawns (Some stream) = eval-prop spawns stream.parameters (filled_kind stream) stream.eval

-- of each task
pub AreReady-prop : (plan : Plan) (m : Moment) (s : Seen) (tasks : List Task) → IsProp (AreReady plan m s tasks)
AreReady-prop plan m s tasks = hlevel (props, stream-prop)
