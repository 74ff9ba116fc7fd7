use Rattle.lola_expr.proofs.Codes.{one_more}
use Rattle.lola_expr.proofs.plan.PlanCode.create.Goals as goal

pub loop-stream-preserved : goal.loop-stream-preserved
loop-stream-preserved c =
    one_more c.args.spec.now.streams c.as_slice-stream-items.result.now c.loop-stream.evals.items c.push.new.self.items c.loop-stream.stream-index c.stream-item.result c.in_ok-eval_code.field-0
    c.as_slice-stream-items.ensures c.loop-stream-test.true c.stream-item.is c.loop-stream.invariant c.in_ok-eval_code.ensures c.in_ok-push.ensures.items
