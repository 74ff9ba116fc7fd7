-- What clauses come to, over whatever content a store stands for.
use Rattle.std.specs.Prelude.{ℕ, ◌≡◌, List, [], ◌∷◌, Option, Some, None, Bool, IsTrue, false, if◌then◌else◌}
use Rattle.lola_value.specs.declared.text.Field.{Field}
use Rattle.lola_value.specs.declared.value.Kind.{Kind}
use Rattle.lola_value.specs.declared.value.Params.{Params}
use Rattle.lola_value.specs.declared.value.Outcome.{Outcome}
use Rattle.lola_value.specs.Answer.{Answer, Missing}
use Rattle.lola_value.specs.Kinds.{are_of_kinds, is_well_formed}
use Rattle.lola_value.specs.Naming.{Naming, AreHeld, IsHeldIn, read_outcome, read_params, the_values}
use Rattle.lola_model.specs.Content.{Content}
use Rattle.lola_model.specs.Model.{close_answer, eval_outcome, named_params}
use Rattle.lola_model.specs.Store.{Memories, Seen, no_params}
use Rattle.lola_model.specs.Typing.{noted}
use Rattle.lola_model.specs.Table.{Spawned, Idle, Named, SpawnFaulted, SpawnPoisoned}
use Rattle.lola_model.specs.declared.expr.Expr.{Expr}
use Rattle.lola_model.specs.declared.plan.Plan.{Plan}
use Rattle.lola_model.specs.declared.spec.Clause.{Clause}
use Rattle.lola_model.specs.declared.spec.Spec.{Spec}
use Rattle.lola_model.specs.declared.spec.Stream.{Stream}
use Rattle.lola_expr.specs.Evaluation.{Sees}
use Rattle.lola_step_contents.specs.Ready.{HasTexts, IsAskable}
use Rattle.lola_step_contents.specs.Nexts.{asked_of, spawn_asks}
use Rattle.lola_step.specs.declared.clauses.Spawning.{Spawning}
use Rattle.lola_step.specs.declared.clauses.Spawning.TheVariants as spawning

-- whatever naming with the plan's texts and content a store stands for, the outcome reads as this answer, and the naming has its text
abbrev pub IsAnswer : Plan → Memories → Seen → Params → (Content → List Field → Answer) → Outcome → Type 0
IsAnswer plan remembers s p f r =
    (names : Naming) (c : Content) → Sees plan names c remembers s p → HasTexts names plan.spec.texts
    → (read_outcome names r ≡ f c (read_params names p)) × IsHeldIn names r

-- what a spawn clause asks for, read through a naming
abbrev pub read_spawning : Naming → Spawning → Spawned
read_spawning names spawning.Idle = Idle
read_spawning names (spawning.Named p) = Named (read_params names p)
read_spawning names (spawning.Fault k) = SpawnFaulted k
read_spawning names spawning.Poison = SpawnPoisoned

-- the naming has the texts of the parameters
abbrev pub IsSpawningHeld : Naming → Spawning → Type 0
IsSpawningHeld names (spawning.Named p) = AreHeld names (the_values p)
IsSpawningHeld names _ = Unit {0}

-- whatever a store stands for, this is what the spawn clause asks for
abbrev pub IsSpawning : Plan → Memories → Seen → Clause → Spawning → Type 0
IsSpawning plan remembers s k r =
    (names : Naming) (c : Content) → Sees plan names c remembers s no_params → HasTexts names plan.spec.texts
    → (read_spawning names r ≡ spawn_asks plan.spec c k) × IsSpawningHeld names r

-- the parameters are of these kinds, and each place that is not used holds `false`
abbrev pub IsWellNamed : List Kind → Spawning → Type 0
IsWellNamed kinds (spawning.Named p) = IsTrue (are_of_kinds kinds (the_values p)) × IsTrue (is_well_formed p)
IsWellNamed kinds _ = Unit {0}

-- expressions of no instance that can be evaluated over a store, each of its own kind
abbrev pub AreExpressions : Seen → List (List ℕ) → List Expr → Type 0
AreExpressions s texts [] = Unit {0}
AreExpressions s texts (e ∷ es) = IsAskable s no_params texts (noted e) e × AreExpressions s texts es

-- whatever a store stands for, this is what a spawn clause with these expressions asks for where its condition is true
abbrev pub AreNamed : Plan → Memories → Seen → List Expr → Spawning → Type 0
AreNamed plan remembers s es r =
    (names : Naming) (c : Content) → Sees plan names c remembers s no_params → HasTexts names plan.spec.texts
    → (read_spawning names r ≡ asked_of (named_params plan.spec c es)) × IsSpawningHeld names r

-- the answer of a stream's eval clause, where it is active or not and the stream is not bad
abbrev pub eval_answer : Spec → Bool → Option Stream → Content → List Field → Answer
eval_answer spec active None c p = Missing
eval_answer spec active (Some s) c p = eval_outcome spec c false active s.eval p

-- of a close condition, which is evaluated where its clause is active
abbrev pub closing_answer : Spec → Bool → Option Clause → Content → List Field → Answer
closing_answer spec active k c p = if active then close_answer spec c k p else Missing
