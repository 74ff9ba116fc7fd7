use Rattle.std.proofs.Common.{not, ap, sym, ◌∙◌}
use Rattle.lola_value.specs.Arithmetic.{all_equal}
use Rattle.lola_save_read.proofs.SeenParams.{among-at, among-not-at}
use Rattle.lola_save_read.proofs.seen.is_nowhere.Goals as goal

pub returns-then-all_equal : goal.returns-then-all_equal
returns-then-all_equal c =
    sym (ap not (among-at c.args.params.now c.args.seen.now c.loop-instance.instance-index c.instance-item.result _ c.loop-instance-test.true c.instance-item.is
    (ap (all_equal c.args.params.now) (sym c.as_slice.ensures) ∙ sym c.all_equal.ensures ∙ c.if-all_equal.true)))

pub loop-instance-preserved : goal.loop-instance-preserved
loop-instance-preserved c =
    among-not-at c.args.params.now c.args.seen.now c.loop-instance.instance-index c.instance-item.result _ c.loop-instance-test.true c.instance-item.is c.loop-instance.invariant
    (ap (all_equal c.args.params.now) (sym c.as_slice.ensures) ∙ sym c.all_equal.ensures ∙ c.if-all_equal.false)
