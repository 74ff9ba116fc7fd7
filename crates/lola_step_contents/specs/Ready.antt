-- What the clauses of an accepted plan may ask of a store in a step.
use Rattle.std.specs.Prelude.{ℕ, ◌≡◌, ◌<◌, ◌≤◌, List, [], ◌∷◌, Option, Some, None, true, length, slice_get, unwrap_or, drop, IsTrue}
use Rattle.lola_value.specs.declared.value.Kind.{Kind}
use Rattle.lola_value.specs.declared.value.Kind.TheVariants as kind
use Rattle.lola_value.specs.declared.value.Params.{Params}
use Rattle.lola_value.specs.Kinds.{are_of_kinds}
use Rattle.lola_value.specs.Naming.{Naming, text_at, the_values}
use Rattle.lola_model.specs.Acceptance.{IsAccepted}
use Rattle.lola_model.specs.Activity.{is_active, is_active_for}
use Rattle.lola_model.specs.Model.{spawn_pacing, eval_pacing, close_pacing, filled_kind}
use Rattle.lola_model.specs.Store.{Seen, IsRunning, layout_of, no_params, start_seen, time_seen}
use Rattle.lola_model.specs.Table.{Step}
use Rattle.lola_model.specs.Typing.{can_ask, noted}
use Rattle.lola_model.specs.declared.expr.Expr.{Expr}
use Rattle.lola_model.specs.declared.plan.Plan.{Plan}
use Rattle.lola_model.specs.declared.spec.Clause.{Clause}
use Rattle.lola_model.specs.declared.spec.Stream.{Stream}
use Rattle.lola_expr.specs.Evaluation.{is_named}

-- a store that was made for a plan is in this step of a run from this start
pub record IsAtStep (plan : Plan) (start : ℕ) (step : Step) (s : Seen) : Type 0 where
  pub running : IsRunning s
  pub layout : s.layout ≡ layout_of plan
  pub start_is : start_seen s ≡ start
  pub time_is : time_seen s ≡ step.time
  pub order : start ≤ step.time

-- the naming has the texts of a specification by their places
abbrev pub HasTexts : Naming → List (List ℕ) → Type 0
HasTexts names texts = (i : ℕ) → i < length texts → text_at names i ≡ slice_get texts i

-- the store can be asked all that an expression reads, which is of this kind, and each naming that has the texts has its literals
pub record IsAskable (s : Seen) (p : Params) (texts : List (List ℕ)) (want : Kind) (e : Expr) : Type 0 where
  pub asks : IsTrue (can_ask s p e)
  pub kind : noted e ≡ want
  pub named : (names : Naming) → HasTexts names texts → IsTrue (is_named names texts e)

module _ (s : Seen) (p : Params) (texts : List (List ℕ)) where
  -- a condition, if there is one
  abbrev pub IsWhenAskable : Option Expr → Type 0
  IsWhenAskable None = Unit {0}
  IsWhenAskable (Some e) = IsAskable s p texts kind.Bool e

  -- expressions of these kinds, in order
  abbrev pub AreAskable : List Kind → List Expr → Type 0
  AreAskable wants [] = Unit {0}
  AreAskable wants (e ∷ es) = IsAskable s p texts (unwrap_or (slice_get wants 0) kind.Int64) e × AreAskable (drop 1 wants) es

  -- a clause whose expressions are of these kinds
  pub record IsClauseAskable (wants : List Kind) (k : Clause) : Type 0 where
    pub when : IsWhenAskable k.when
    pub with : AreAskable wants k.with

-- the clauses of stream n
module _ (plan : Plan) (start : ℕ) (step : Step) (s : Seen) (n : ℕ) (stream : Stream) (k : Clause) where
  -- where the spawn clause is active, it may be asked
  abbrev pub SpawnMayAsk : Type 0
  SpawnMayAsk =
      IsAccepted plan → IsAtStep plan start step s → slice_get plan.spec.streams n ≡ Some stream → stream.spawn ≡ Some k
      → is_active start step (spawn_pacing (slice_get plan.pacings n)) ≡ true
      → IsClauseAskable s no_params plan.spec.texts stream.parameters k

  -- where the eval clause is active for an instance, whenever that was born, it may be asked for it
  abbrev pub EvalMayAsk : Params → Type 0
  EvalMayAsk p =
      IsAccepted plan → IsAtStep plan start step s → slice_get plan.spec.streams n ≡ Some stream → stream.eval ≡ Some k
      → (born : ℕ) → is_active_for start born step (eval_pacing (slice_get plan.pacings n)) ≡ true → IsTrue (are_of_kinds stream.parameters (the_values p))
      → IsClauseAskable s p plan.spec.texts (filled_kind stream ∷ []) k

  -- and where the close clause is active for an instance
  abbrev pub CloseMayAsk : Params → Type 0
  CloseMayAsk p =
      IsAccepted plan → IsAtStep plan start step s → slice_get plan.spec.streams n ≡ Some stream → stream.close ≡ Some k
      → (born : ℕ) → is_active_for start born step (close_pacing (slice_get plan.pacings n)) ≡ true → IsTrue (are_of_kinds stream.parameters (the_values p))
      → IsClauseAskable s p plan.spec.texts [] k

-- all clauses of all accepted plans, in all steps
pub record ClausesMayAsk : Type 0 where
  pub spawns : (plan : Plan) (start : ℕ) (step : Step) (s : Seen) (n : ℕ) (stream : Stream) (k : Clause) → SpawnMayAsk plan start step s n stream k
  pub evals : (plan : Plan) (start : ℕ) (step : Step) (s : Seen) (n : ℕ) (stream : Stream) (k : Clause) (p : Params) → EvalMayAsk plan start step s n stream k p
  pub closes : (plan : Plan) (start : ℕ) (step : Step) (s : Seen) (n : ℕ) (stream : Stream) (k : Clause) (p : Params) → CloseMayAsk plan start step s n stream k p
