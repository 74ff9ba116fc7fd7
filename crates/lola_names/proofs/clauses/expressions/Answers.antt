use Rattle.lola_names.proofs.ClauseLemmas.{begun_same, with_same, parts_none, with_none, parts_more, parts_end, parts_grow}
use Rattle.lola_names.proofs.clauses.expressions.Goals as goal

pub loop-part-init : goal.loop-part-init
loop-part-init c = record {
  begun = parts_none c.args.scope.now c.args.made.now c.args.xs.now c.create-resolved.result c.create-resolved.ensures;
  grown = with_none c.args.made.now c.create-resolved.result c.create-resolved.ensures;
}

pub loop-part-preserved : goal.loop-part-preserved
loop-part-preserved c = record {
  begun =
      begun_same c.args.scope.now _ c.args.xs.now _ _ c.push.new.self c.in_ok-push.ensures.ok
      (parts_more c.args.scope.now c.loop-part.made c.expression.new.made _ _ c.args.xs.now c.loop-part.part-index c.part-item.result c.loop-part.resolved c.in_ok-next.next
      c.loop-part-test.true c.part-item.is c.in_ok-next.ensures.grown c.in_ok-next.ensures.resolved c.loop-part.invariant.begun);
  grown = with_same _ _ _ c.push.new.self c.in_ok-push.ensures.ok (parts_grow _ _ _ c.loop-part.resolved c.in_ok-next.next c.loop-part.invariant.grown c.in_ok-next.ensures.grown);
}

pub returns-clause-resolved : goal.returns-clause-resolved
returns-clause-resolved c = parts_end c.args.scope.now c.loop-part.made c.args.xs.now c.loop-part.part-index c.loop-part.resolved c.loop-part-test.false c.loop-part.invariant.begun
