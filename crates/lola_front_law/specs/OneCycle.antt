-- For a closed walk a text has one refusal, or is not refused.
use Rattle.std.specs.Prelude.{ℕ, ◌≡◌, List}
use Rattle.lola_value.specs.declared.front.Refusal.{Refusal}
use Rattle.lola_model.specs.Graph.{edges_of}
use Rattle.lola_model.specs.declared.plan.Plan.{Plan}
use Rattle.lola_model.specs.declared.spec.Spec.{Spec}
use Rattle.lola_front.specs.Front.{IsFull, IsPlanOf, IsCycleRefusal}

-- all specifications that a text is resolved to, kinds filled in, have one graph; so the text has one refusal for a closed walk of
-- weight 0, and where it has one it has no plan
pub record HasOneGraph (bytes : List ℕ) : Type 0 where
  pub one_graph : (full other : Spec) → IsFull bytes full → IsFull bytes other → edges_of full ≡ edges_of other
  pub one_refusal : (r q : Refusal) → IsCycleRefusal bytes r → IsCycleRefusal bytes q → r ≡ q
  pub no_plan : (plan : Plan) (r : Refusal) → IsPlanOf bytes plan → IsCycleRefusal bytes r → ⊥

abbrev pub GraphsAreOne : Type 0
GraphsAreOne = (bytes : List ℕ) → HasOneGraph bytes
