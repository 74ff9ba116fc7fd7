-- Where an expression may be evaluated.
use Rattle.std.specs.Prelude.{◌≡◌, List, IsTrue}
use Rattle.lola_value.specs.declared.value.Kind.{Kind}
use Rattle.lola_value.specs.declared.value.Params.{Params}
use Rattle.lola_value.specs.Kinds.{are_of_kinds}
use Rattle.lola_value.specs.Naming.{the_values}
use Rattle.lola_model.specs.Store.{Seen, layout_of}
use Rattle.lola_model.specs.Typed.{scope_in}
use Rattle.lola_model.specs.Typing.{each_part, is_typed, scope_with, is_ready, can_ask}
use Rattle.lola_model.specs.declared.plan.Plan.{Plan}
use Rattle.lola_model.specs.declared.expr.Expr.{Expr}

-- if an expression is typed over a store's streams and windows, with parameters of these kinds, the parameters are of these kinds,
-- and the store is ready for each part, then the store can be asked for all that the expression reads
abbrev pub MayAskWhereTyped : Expr → Type 0
MayAskWhereTyped e =
    (s : Seen) (p : Params) (kinds : List Kind) → IsTrue (are_of_kinds kinds (the_values p))
    → IsTrue (is_typed (scope_with s.layout kinds) e) → IsTrue (each_part (is_ready s) e) → IsTrue (can_ask s p e)

-- the same of an expression that is typed in a plan's specification, over a store that was made for the plan
abbrev pub MayAskInPlan : Expr → Type 0
MayAskInPlan e =
    (plan : Plan) (s : Seen) (p : Params) (kinds : List Kind) → s.layout ≡ layout_of plan → IsTrue (are_of_kinds kinds (the_values p))
    → IsTrue (is_typed (scope_in plan.spec kinds) e) → IsTrue (each_part (is_ready s) e) → IsTrue (can_ask s p e)
