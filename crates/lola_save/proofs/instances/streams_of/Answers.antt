use Rattle.std.proofs.Common.{arith}
use Rattle.lola_instances.specs.Stores.{bounded_remembers, bounded_seen}
use Rattle.lola_save.proofs.FormsFit.{form-of}
use Rattle.lola_save.proofs.Items.{item-at}
use Rattle.lola_save.proofs.Lives.{streams-all, streams-more, streams-none}
use Rattle.lola_save.proofs.instances.streams_of.Goals as goal

pub loop-number-init : goal.loop-number-init
loop-number-init c = streams-none (bounded_seen c.args.store.now) (bounded_remembers c.args.store.now) c.args.engine.now.state.texts.held c.args.forms.now (bounded_seen c.args.store.now).streams c.create-streams.result c.create-streams.ensures

pub instances_of-requires : goal.instances_of-requires
instances_of-requires c = record {
  form = form-of (bounded_seen c.args.store.now).layout c.args.forms.now c.loop-number.number c.index-forms-number.result c.requires.forms
      (item-at c.args.forms.now c.loop-number.number c.index-forms-number.result _ c.loop-number-test.true c.index-forms-number.is);
}

pub loop-number-preserved : goal.loop-number-preserved
loop-number-preserved c =
    streams-more (bounded_seen c.args.store.now) (bounded_remembers c.args.store.now) c.args.engine.now.state.texts.held c.args.forms.now (bounded_seen c.args.store.now).streams c.loop-number.number
    c.loop-number.streams _ c.index-forms-number.result _ (item-at c.args.forms.now c.loop-number.number c.index-forms-number.result _ c.loop-number-test.true c.index-forms-number.is)
    (omega (arith, c.requires.streams, c.loop-number-test.true)) c.in_ok-instances.ensures c.in_ok-push.ensures.ok c.loop-number.invariant

pub returns : goal.returns
returns c =
    streams-all (bounded_seen c.args.store.now) (bounded_remembers c.args.store.now) c.args.engine.now.state.texts.held c.args.forms.now (bounded_seen c.args.store.now).streams c.loop-number.number c.loop-number.streams
    (omega arith) c.requires.streams c.loop-number.invariant
