-- What stands behind the kinds and pacings of a specification is one.
use Rattle.std.specs.Prelude.{◌≡◌}
use Rattle.lola_value.specs.declared.front.Refusal.{Refusal}
use Rattle.lola_model.specs.Acceptance.{IsAccepted}
use Rattle.lola_model.specs.Accepted.{IsAcyclic}
use Rattle.lola_model.specs.declared.plan.Plan.{Plan}
use Rattle.lola_model.specs.declared.spec.Spec.{Spec}
use Rattle.lola_front.specs.Front.{IsOnCycleAt}

-- a specification without a closed walk of weight 0 has no refusal for one, and one that has a refusal has it alone
pub record HasOneCycle (full : Spec) : Type 0 where
  pub is_either : (r : Refusal) → IsAcyclic full → IsOnCycleAt full r → ⊥
  pub one_refusal : (r q : Refusal) → IsOnCycleAt full r → IsOnCycleAt full q → r ≡ q

abbrev pub CyclesAreOne : Type 0
CyclesAreOne = (full : Spec) → HasOneCycle full

-- two accepted plans of one specification and its pacings are equal: layers, kept values and panes follow from these
abbrev pub PlansAreOne : Type 0
PlansAreOne = (p q : Plan) → IsAccepted p → IsAccepted q → p.spec ≡ q.spec → p.pacings ≡ q.pacings → p ≡ q
