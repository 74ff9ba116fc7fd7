use Rattle.std.proofs.Common.{◌∷◌, [], ap, arith, length, length-append}
use Rattle.lola_step.proofs.Duties.{layers_more}
use Rattle.lola_step.proofs.schedule.layers_duties.Goals as goal

pub loop-layer-preserved : goal.loop-layer-preserved
loop-layer-preserved c = record {
  count = omega (arith, ap length c.in_ok-push.ensures.items, length-append c.loop-layer.layers.items (c.in_ok-layer_duties.field-0 ∷ []), c.loop-layer.invariant.count);
  each = layers_more c.args.plan.now c.loop-layer.layers.items c.push.new.self.items c.in_ok-layer_duties.field-0 c.loop-layer.layer c.in_ok-push.ensures.items
      c.loop-layer.invariant.count c.in_ok-layer_duties.ensures c.loop-layer.invariant.each;
}
