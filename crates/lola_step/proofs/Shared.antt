-- A plan may be lent to many threads.
use Rattle.std.proofs.Common.{subst}
use base.Shift.{Keyless}
use base.Fml.{Fml, Lft}
use Prim.Native.Nat.{ℕ}
use denote.RattleType.{RattleType}
use denote.Ref.{NamedLft, ShrRef}
use denote.Struct.Field.{row_field, shr_ref_field, shr_slice_field}
use denote.Param.Send.{IsSync, sendable, shr_sync, shr_slice_sync}
use denote.Param.SendFields.{as_row_sync, variants_sync, declared_sync}
use denote.Hole.FixLaws.{layer_row}
use denote.Hole.FixSend.{Syncs, fix_sync}
use Rattle.std.proofs.Crossing.{crosses}
use Rattle.lola_model.specs.contracts.expr.Expr as expr
use Rattle.lola_model.specs.contracts.expr.Arguments.TheKnot as knot
use Rattle.lola_model.specs.declared.expr.Arguments.TheBlock.{the_members, member-Arguments, member-Expr}
use Rattle.lola_model.specs.contracts.spec.Formula as formula
use Rattle.lola_model.specs.contracts.spec.Formula.TheKnot as formula_knot
use Rattle.lola_model.specs.declared.spec.Formula.TheBlock.{member-Formula}
use Rattle.lola_model.specs.declared.spec.Formula.TheBlock as formula_block
use Rattle.lola_model.specs.contracts.spec.Pace as pace
use Rattle.lola_value.specs.contracts.list.ListOf as list
use Rattle.lola_model.specs.contracts.spec.Clause as clause
use Rattle.lola_model.specs.contracts.spec.Stream as stream
use Rattle.lola_model.specs.contracts.spec.Spec as spec
use Rattle.lola_model.specs.contracts.plan.Plan as plan
use Rattle.lola_model.proofs.expr.Place.TheSendSync as place_crosses
use Rattle.lola_model.proofs.expr.Access.TheSendSync as access_crosses
use Rattle.lola_model.proofs.expr.Prefix.TheSendSync as prefix_crosses
use Rattle.lola_model.proofs.expr.Binary.TheSendSync as binary_crosses
use Rattle.lola_model.proofs.spec.WrittenRate.TheSendSync as rate_crosses
use Rattle.lola_model.proofs.pacing.ClausePacings.TheSendSync as pacing_crosses
use Rattle.lola_model.proofs.plan.PaneSize.TheSendSync as size_crosses
use Rattle.lola_value.proofs.value.Value.TheSendSync as value_crosses
use Rattle.lola_expr.specs.contracts.plan.PlanCode as plan_code
use Rattle.lola_expr.proofs.plan.EvalCode.TheSendSync as code_crosses
use Rattle.lola_model.specs.declared.store.StreamStore.{Ghosts}
use Rattle.lola_step.specs.contracts.moment.Moment as moment
use Rattle.lola_step.specs.contracts.tasks.Task as task
use Rattle.lola_step.specs.contracts.tasks.LayerJob as job

-- one layer of arguments, where what it holds may be lent
arguments_layer : (h : knot.the_members → RattleType) → ((j : knot.the_members) → IsSync (h j)) → IsSync (layer_row knot.ring knot.member-Arguments h)
arguments_layer h s =
    let e = s knot.member-Expr in
    let a = s knot.member-Arguments in
    variants_sync (knot.type-Arguments (h knot.member-Expr) (h knot.member-Arguments)) (search (sendable, crosses, e, a) depth 40)

-- of an expression
expr_layer : (h : knot.the_members → RattleType) → ((j : knot.the_members) → IsSync (h j)) → IsSync (layer_row knot.ring knot.member-Expr h)
expr_layer h s =
    let e = s knot.member-Expr in
    let a = s knot.member-Arguments in
    let E = h knot.member-Expr in
    let A = h knot.member-Arguments in
    variants_sync (knot.type-Expr A A E E E E E E E E) (search (sendable, crosses, as_row_sync, place_crosses.the_sync, access_crosses.the_sync, prefix_crosses.the_sync, binary_crosses.the_sync, value_crosses.the_sync, e, a) depth 40)

-- of both
layer_sync : (i : the_members) → Syncs knot.ring i
layer_sync member-Arguments = record { sync = arguments_layer }
layer_sync member-Expr = record { sync = expr_layer }

-- an expression holds expressions and arguments, so it goes by layers
pub expr_sync : IsSync expr.the_row
expr_sync = record { shared = λ x b o κ. subst (λ (f : ℕ → ℕ → Lft → Fml). Keyless (f b o κ)) (expr.shr_is x) ((fix_sync knot.ring layer_sync knot.member-Expr).shared x b o κ) }

-- one layer of a formula
formula_layer : (i : formula_block.the_members) → Syncs formula_knot.ring i
formula_layer member-Formula = record { sync = λ h s. let f = s formula_knot.member-Formula in variants_sync (formula_knot.type-Formula (h formula_knot.member-Formula) (h formula_knot.member-Formula) (h formula_knot.member-Formula) (h formula_knot.member-Formula)) (search (sendable, crosses, as_row_sync, f) depth 40) }

-- a formula holds formulas
formula_sync : IsSync formula.the_row
formula_sync = record { shared = λ x b o κ. subst (λ (f : ℕ → ℕ → Lft → Fml). Keyless (f b o κ)) (formula.shr_is x) ((fix_sync formula_knot.ring formula_layer formula_knot.member-Formula).shared x b o κ) }

-- what holds these
pace_sync : IsSync pace.the_row
pace_sync = search (sendable, crosses, variants_sync, as_row_sync, formula_sync, rate_crosses.the_sync) depth 40

exprs_sync : IsSync (list.the_row expr.the_row)
exprs_sync = search (sendable, crosses, expr_sync) depth 40

clause_sync : IsSync clause.the_row
clause_sync = search (sendable, crosses, expr_sync, exprs_sync, pace_sync) depth 40

stream_sync : IsSync stream.the_row
stream_sync = search (sendable, crosses, clause_sync) depth 40

streams_sync : IsSync (list.the_row stream.the_row)
streams_sync = search (sendable, crosses, stream_sync) depth 40

spec_sync : IsSync spec.the_row
spec_sync = search (sendable, crosses, streams_sync) depth 40

-- a plan
pub plan_sync : IsSync plan.the_row
plan_sync = declared_sync plan.the_type (spec_sync, (search (sendable, crosses, pacing_crosses.the_sync) depth 40, (search (sendable, crosses) depth 40, (search (sendable, crosses) depth 40, (search (sendable, crosses, size_crosses.the_sync) depth 40, tt)))))

-- the code of a specification
code_sync : IsSync plan_code.the_row
code_sync = search (sendable, crosses, code_crosses.the_sync) depth 40

-- a moment
moment_sync : IsSync moment.the_row
moment_sync = search (sendable, crosses) depth 40

-- and a job where its store may
pub job_sync : (κ : NamedLft) (S : RattleType) (store : Ghosts S.Denot) → IsSync S → IsSync (job.the_row κ S store)
job_sync κ S store s =
    declared_sync (job.the_type κ S store) (
      as_row_sync (shr_ref_field κ plan.the_row tt) (shr_sync _ _ plan.the_row plan_sync),
      (
        as_row_sync (shr_ref_field κ plan_code.the_row tt) (shr_sync _ _ plan_code.the_row code_sync),
        (
          as_row_sync (shr_ref_field κ moment.the_row tt) (shr_sync _ _ moment.the_row moment_sync),
          (as_row_sync (row_field (ShrRef κ.mir κ.lft S)) (shr_sync _ _ S s), (as_row_sync (shr_slice_field κ task.the_row tt) (shr_slice_sync _ _ task.the_row (search sendable)), tt)),
        ),
      ),
    )
