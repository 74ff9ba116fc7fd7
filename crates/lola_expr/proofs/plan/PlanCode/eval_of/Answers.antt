use Rattle.std.proofs.Common.{ap, arith, length, subst}
use Rattle.std.proofs.lemmas.Slice.Zip.{AllZip-long}
use Rattle.std.specs.Prelude.{slice_get}
use Rattle.lola_model.specs.declared.spec.Spec.{Spec}
use Rattle.lola_expr.specs.Plans.{IsCodeIn, IsStreamCode}
use Rattle.lola_expr.proofs.Codes.{code_at}
use Rattle.lola_expr.proofs.plan.PlanCode.eval_of.Goals as goal

pub index-requires : goal.index-requires
index-requires c =
    let long = AllZip-long IsStreamCode c.self.inside.of.value.streams c.self.inside.evals.items c.self.invariant in
    let same = ap (λ (s : Spec). length s.streams) c.self.view_is in omega (arith, long, same, c.requires, c.self.inside.evals.ok.0)

pub returns : goal.returns
returns c =
    let same = ap (λ (s : Spec). length s.streams) c.self.view_is in
    subst (λ (s : Spec). IsCodeIn (slice_get s.streams c.args.stream) c.index.result.now) c.self.view_is
    (code_at c.self.inside.of.value.streams c.self.inside.evals.items c.args.stream c.index.result.now c.self.invariant c.index.ensures (omega (arith, same, c.requires)))
