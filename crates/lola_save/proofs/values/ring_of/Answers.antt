use Rattle.std.proofs.Common.{arith}
use Rattle.lola_value.specs.Naming.{read}
use Rattle.lola_instances.specs.Stores.{values_kept}
use Rattle.lola_save.proofs.Backwards.{read-all, read-more, read-none}
use Rattle.lola_save.proofs.values.ring_of.Goals as goal

pub loop-left-init : goal.loop-left-init
loop-left-init c = read-none (read c.args.engine.now.state.texts.held) (values_kept c.args.store.now c.args.stream c.args.index) c.kept-left.result c.create-ring.result c.create-ring.ensures c.kept-left.ensures.length

pub loop-left-preserved : goal.loop-left-preserved
loop-left-preserved c =
    read-more (read c.args.engine.now.state.texts.held) (values_kept c.args.store.now c.args.stream c.args.index) c.loop-left.left c.loop-left.ring _ c.loop-left-test.true
    (rw c.value_back.ensures at c.in_ok-push_value.ensures) c.loop-left.invariant

pub returns : goal.returns
returns c = read-all (read c.args.engine.now.state.texts.held) (values_kept c.args.store.now c.args.stream c.args.index) c.loop-left.left c.loop-left.ring (omega arith) c.loop-left.invariant
