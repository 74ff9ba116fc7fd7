use Rattle.std.proofs.Common.{subst, sym, length, arith}
use Rattle.lola_model.specs.Store.{Layout, instances_seen}
use Rattle.lola_instances.specs.Stores.{bounded_seen}
use Rattle.lola_save_text.specs.Validity.{IsInstance}
use Rattle.lola_save_text.specs.declared.state.Times.{Times}
use Rattle.lola_save.specs.Fitting.{IsWholeStreamOf}
use Rattle.lola_save.specs.Loaded.{IsLoaded, times_seen}
use Rattle.lola_save.proofs.AllBirths.{born-all, born-at, born-more, born-none, count-long, instance-at, unseen-at}
use Rattle.lola_save.proofs.Items.{item-at}
use Rattle.lola_save.proofs.LoadedStreams.{can-on, stream-self, times-on}
use Rattle.lola_save.proofs.Naming.{more-on, more-self}
use Rattle.lola_save.proofs.loaded_instances.load_all_born.Goals as goal

pub loop-instance-init : goal.loop-instance-init
loop-instance-init c = record {
  more = more-self c.args.texts.now c.requires.room;
  born = born-none (times_seen (bounded_seen c.args.store.now)) c.args.form.now c.args.saved.now c.args.stream c.args.texts.now.held c.args.store.now (c.requires.open.none c.requires.spawns) c.requires.open.over
      (stream-self c.args.stream c.args.store.now);
}

pub load_born-requires-clause-room : goal.load_born-requires-clause-room
load_born-requires-clause-room c = c.loop-instance.invariant.more.room

pub load_born-requires-clause-step : goal.load_born-requires-clause-step
load_born-requires-clause-step c = can-on c.args.store.now c.loop-instance.store c.loop-instance.invariant.born.stream.on c.requires.step

pub load_born-requires-clause-form : goal.load_born-requires-clause-form
load_born-requires-clause-form c = subst (λ (l : Layout). IsWholeStreamOf l c.args.stream c.args.form.now) (sym c.loop-instance.invariant.born.stream.on.layout) c.requires.form

pub load_born-requires-clause-saved : goal.load_born-requires-clause-saved
load_born-requires-clause-saved c =
    let at = item-at c.args.saved.now c.loop-instance.instance-index c.instance-item.result c.instance-item.result c.loop-instance-test.true c.instance-item.is in
    subst (λ (t : Times). IsInstance t c.args.form.now c.instance-item.result) (sym (times-on c.args.store.now c.loop-instance.store c.loop-instance.invariant.born.stream.on))
    (instance-at (times_seen (bounded_seen c.args.store.now)) c.args.form.now _ _ c.args.saved.now c.requires.saved.instances c.loop-instance.instance-index c.instance-item.result at)

pub load_born-requires-clause-born : goal.load_born-requires-clause-born
load_born-requires-clause-born c =
    let at = item-at c.args.saved.now c.loop-instance.instance-index c.instance-item.result c.instance-item.result c.loop-instance-test.true c.instance-item.is in
    born-at (times_seen (bounded_seen c.args.store.now)) c.args.form.now _ _ c.args.saved.now c.requires.saved.instances c.requires.spawns c.loop-instance.instance-index c.instance-item.result at

pub load_born-requires-clause-unseen : goal.load_born-requires-clause-unseen
load_born-requires-clause-unseen c =
    let at = item-at c.args.saved.now c.loop-instance.instance-index c.instance-item.result c.instance-item.result c.loop-instance-test.true c.instance-item.is in
    unseen-at (times_seen (bounded_seen c.args.store.now)) c.args.form.now c.args.saved.now c.args.stream (times_seen (bounded_seen c.args.store.now)) c.loop-instance.texts.held c.args.store.now c.loop-instance.store
    c.loop-instance.instance-index c.instance-item.result c.requires.saved.instances at c.loop-instance.invariant.born

pub load_born-requires-clause-space : goal.load_born-requires-clause-space
load_born-requires-clause-space c =
    let n = count-long c.args.saved.now in
    let few = c.requires.saved.few c.requires.spawns in
    let count = c.loop-instance.invariant.born.count in
    omega (arith, n, few, count, c.loop-instance-test.true)

pub load_born-requires-clause-over : goal.load_born-requires-clause-over
load_born-requires-clause-over c = c.loop-instance.invariant.born.over

pub loop-instance-preserved : goal.loop-instance-preserved
loop-instance-preserved c =
    let i = c.loop-instance.invariant in
    let e = c.in_ok-load_born.ensures in
    let at = item-at c.args.saved.now c.loop-instance.instance-index c.instance-item.result c.instance-item.result c.loop-instance-test.true c.instance-item.is in
    let times = times-on c.args.store.now c.loop-instance.store i.born.stream.on in
    record {
      more = more-on c.args.texts.now c.loop-instance.texts c.load_born.new.texts i.more e.more;
      born = born-more (times_seen (bounded_seen c.args.store.now)) c.args.form.now c.args.saved.now c.args.stream c.loop-instance.texts.held c.load_born.new.texts.held c.args.store.now c.loop-instance.store c.load_born.new.store
          c.loop-instance.instance-index c.instance-item.result at e.more.held e.birth
          (subst (λ (t : Times). IsLoaded t c.load_born.new.texts.held c.load_born.new.store c.args.stream (length (instances_seen (bounded_seen c.loop-instance.store) c.args.stream)) c.args.form.now c.instance-item.result) times e.loaded)
          i.born;
    }

pub returns-clause-loaded : goal.returns-clause-loaded
returns-clause-loaded c =
    born-all (times_seen (bounded_seen c.args.store.now)) c.args.form.now c.args.saved.now c.args.stream c.loop-instance.texts.held c.args.store.now c.loop-instance.store c.loop-instance.instance-index (omega arith) c.loop-instance.invariant.born
