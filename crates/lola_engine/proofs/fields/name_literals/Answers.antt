-- One text more, and then all.
use Rattle.std.proofs.Common.{arith, ap, length}
use Rattle.lola_engine.proofs.Numbered.{all-numbered, as-numbered, one-numbered, text-here}
use Rattle.lola_engine.proofs.fields.name_literals.Goals as goal

pub loop-text-preserved : goal.loop-text-preserved
loop-text-preserved c =
    let here = text-here c.as_slice-text-items.result.now c.args.plan.now.spec.texts c.loop-text.text-index c.as_bytes.result.now c.text-item.result c.as_slice-text-items.ensures c.text-item.is c.as_bytes.ensures in
    record {
      numbered = one-numbered c.args.plan.now.spec.texts c.loop-text.text-index c.as_bytes.result.now c.in_ok-intern.field-0.0 c.loop-text.texts c.intern.new.self c.requires.distinct
          (omega (arith, ap length c.as_slice-text-items.ensures)) here c.loop-text.invariant.numbered c.in_ok-intern.ensures.ok;
      table = c.in_ok-intern.ensures.table;
    }

pub returns-clause-ok : goal.returns-clause-ok
returns-clause-ok c =
    all-numbered c.args.plan.now.spec.texts c.loop-text.text-index c.loop-text.texts (omega (arith, ap length c.as_slice-text-items.ensures)) c.loop-text.invariant.numbered

pub returns-clause-exact : goal.returns-clause-exact
returns-clause-exact c =
    as-numbered c.args.plan.now.spec.texts c.loop-text.text-index c.loop-text.texts (omega (arith, ap length c.as_slice-text-items.ensures)) c.loop-text.invariant.numbered
