use Rattle.std.proofs.Common.{arith}
use Rattle.lola_model.specs.Store.{instances_seen}
use Rattle.lola_instances.specs.Stores.{bounded_remembers, bounded_seen}
use Rattle.lola_save.proofs.Lives.{all-taken, taken-all, taken-none}
use Rattle.lola_save.proofs.instances.instances_of.Goals as goal

pub loop-index-init : goal.loop-index-init
loop-index-init c =
    taken-none (bounded_seen c.args.store.now) (bounded_remembers c.args.store.now) c.args.engine.now.state.texts.held c.args.form.now c.args.stream
    (instances_seen (bounded_seen c.args.store.now) c.args.stream) c.create-instances.result c.create-instances.ensures

pub loop-index-preserved : goal.loop-index-preserved
loop-index-preserved c =
    all-taken (bounded_seen c.args.store.now) (bounded_remembers c.args.store.now) c.args.engine.now.state.texts.held c.args.form.now c.args.stream
    (instances_seen (bounded_seen c.args.store.now) c.args.stream) c.loop-index.index c.loop-index.instances _ _ c.in_ok-instance.ensures c.in_ok-push.ensures.ok c.loop-index.invariant

pub returns : goal.returns
returns c =
    taken-all (bounded_seen c.args.store.now) (bounded_remembers c.args.store.now) c.args.engine.now.state.texts.held c.args.form.now c.args.stream
    (instances_seen (bounded_seen c.args.store.now) c.args.stream) c.loop-index.index c.loop-index.instances (omega (arith, c.instances-index-end.ensures)) c.loop-index.invariant
