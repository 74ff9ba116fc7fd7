-- For kinds a text has one refusal, or is not refused.
use Rattle.std.specs.Prelude.{ℕ, ◌≡◌, ◌⊎◌, List, []}
use Rattle.lola_value.specs.declared.front.Refusal.{Refusal}
use Rattle.lola_types.specs.Refused.{kind_refusals}
use Rattle.lola_model.specs.declared.plan.Plan.{Plan}
use Rattle.lola_model.specs.declared.spec.Spec.{Spec}
use Rattle.lola_front.specs.Front.{IsResolved, IsFull, IsPlanOf, IsKindRefusal, IsPacingRefusal, IsCycleRefusal}

-- A specification that a text is resolved to is refused for its kinds or not, and a text has one such refusal. A text that is so
-- refused has no specification whose kinds are filled in, so no plan, and no later refusal.
pub record HasOneKindRefusal (bytes : List ℕ) : Type 0 where
  pub is_some : (spec : Spec) → IsResolved bytes spec → (kind_refusals spec ≡ []) ⊎ ((r : Refusal) × IsKindRefusal bytes r)
  pub is_either : (full : Spec) (r : Refusal) → IsFull bytes full → IsKindRefusal bytes r → ⊥
  pub one_refusal : (r q : Refusal) → IsKindRefusal bytes r → IsKindRefusal bytes q → r ≡ q
  pub no_plan : (plan : Plan) (r : Refusal) → IsPlanOf bytes plan → IsKindRefusal bytes r → ⊥
  pub no_later : (q r : Refusal) → IsPacingRefusal bytes q ⊎ IsCycleRefusal bytes q → IsKindRefusal bytes r → ⊥

abbrev pub KindsAreOne : Type 0
KindsAreOne = (bytes : List ℕ) → HasOneKindRefusal bytes
