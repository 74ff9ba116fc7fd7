use Rattle.std.proofs.Common.{subst, sym, arith}
use Rattle.lola_model.specs.Store.{Layout}
use Rattle.lola_instances.specs.Stores.{bounded_seen}
use Rattle.lola_save_text.specs.Validity.{IsStream}
use Rattle.lola_save.specs.Fitting.{IsWholeStreamOf}
use Rattle.lola_save.specs.Loaded.{IsStreamLoaded, times_seen}
use Rattle.lola_save.proofs.AllBirths.{streams-all, streams-at, streams-long, streams-more}
use Rattle.lola_save.proofs.Items.{item-at}
use Rattle.lola_save.proofs.LoadedStreams.{can-on, on-self, times-on}
use Rattle.lola_save.proofs.Naming.{more-on, more-self}
use Rattle.lola_save.proofs.loaded_instances.load_streams.Goals as goal

pub loop-number-init : goal.loop-number-init
loop-number-init c = record {
  more = more-self c.args.texts.now c.requires.room;
  streams = record { on = on-self c.args.store.now; done = λ n form is lt. absurd (omega (arith, lt)); left = λ n form le e. c.requires.open n form e };
}

pub bounds-saved-number : goal.bounds-saved-number
bounds-saved-number c = let long = streams-long (times_seen (bounded_seen c.args.store.now)) c.args.forms.now c.args.saved.now c.requires.saved in omega (arith, long, c.loop-number-test.true)

pub load_stream-requires-clause-room : goal.load_stream-requires-clause-room
load_stream-requires-clause-room c = c.loop-number.invariant.more.room

pub load_stream-requires-clause-step : goal.load_stream-requires-clause-step
load_stream-requires-clause-step c = can-on c.args.store.now c.loop-number.store c.loop-number.invariant.streams.on c.requires.step

pub load_stream-requires-clause-form : goal.load_stream-requires-clause-form
load_stream-requires-clause-form c =
    let at = item-at c.args.forms.now c.loop-number.number c.index-forms-number.result c.index-forms-number.result c.loop-number-test.true c.index-forms-number.is in
    subst (λ (l : Layout). IsWholeStreamOf l c.loop-number.number c.index-forms-number.result) (sym c.loop-number.invariant.streams.on.layout) (c.requires.forms c.loop-number.number c.index-forms-number.result at).whole

pub load_stream-requires-clause-plain : goal.load_stream-requires-clause-plain
load_stream-requires-clause-plain c =
    let at = item-at c.args.forms.now c.loop-number.number c.index-forms-number.result c.index-forms-number.result c.loop-number-test.true c.index-forms-number.is in
    (c.requires.forms c.loop-number.number c.index-forms-number.result at).plain

pub load_stream-requires-clause-open : goal.load_stream-requires-clause-open
load_stream-requires-clause-open c =
    let at = item-at c.args.forms.now c.loop-number.number c.index-forms-number.result c.index-forms-number.result c.loop-number-test.true c.index-forms-number.is in
    c.loop-number.invariant.streams.left c.loop-number.number c.index-forms-number.result (omega arith) at

pub load_stream-requires-clause-saved : goal.load_stream-requires-clause-saved
load_stream-requires-clause-saved c =
    let times = times_seen (bounded_seen c.args.store.now) in
    let long = streams-long times c.args.forms.now c.args.saved.now c.requires.saved in
    let at = item-at c.args.forms.now c.loop-number.number c.index-forms-number.result c.index-forms-number.result c.loop-number-test.true c.index-forms-number.is in
    let those = item-at c.args.saved.now c.loop-number.number c.index-saved-number.result c.index-saved-number.result (omega (arith, long, c.loop-number-test.true)) c.index-saved-number.is in
    let same = times-on c.args.store.now c.loop-number.store c.loop-number.invariant.streams.on in
    subst (λ z. z) (λ j. IsStream (sym same j) c.index-forms-number.result (sym c.as_slice.ensures j))
    (streams-at times c.args.forms.now c.args.saved.now c.requires.saved c.loop-number.number c.index-forms-number.result c.index-saved-number.result at those)

pub loop-number-preserved : goal.loop-number-preserved
loop-number-preserved c =
    let times = times_seen (bounded_seen c.args.store.now) in
    let i = c.loop-number.invariant in
    let e = c.in_ok-load_stream.ensures in
    let long = streams-long times c.args.forms.now c.args.saved.now c.requires.saved in
    let at = item-at c.args.forms.now c.loop-number.number c.index-forms-number.result c.index-forms-number.result c.loop-number-test.true c.index-forms-number.is in
    let those = item-at c.args.saved.now c.loop-number.number c.index-saved-number.result c.index-saved-number.result (omega (arith, long, c.loop-number-test.true)) c.index-saved-number.is in
    let same = times-on c.args.store.now c.loop-number.store i.streams.on in
    let loaded : IsStreamLoaded times c.load_stream.new.texts.held c.load_stream.new.store c.loop-number.number c.index-forms-number.result c.index-saved-number.result =
    subst (λ z. z) (λ j. IsStreamLoaded (same j) c.load_stream.new.texts.held c.load_stream.new.store c.loop-number.number c.index-forms-number.result (c.as_slice.ensures j)) e.loaded in
    record {
      more = more-on c.args.texts.now c.loop-number.texts c.load_stream.new.texts i.more e.more;
      streams = streams-more times c.args.forms.now c.args.saved.now c.loop-number.texts.held c.load_stream.new.texts.held c.args.store.now c.loop-number.store c.load_stream.new.store c.loop-number.number
          c.index-forms-number.result c.index-saved-number.result at those e.more.held e.stream loaded i.streams;
    }

pub returns-clause-loaded : goal.returns-clause-loaded
returns-clause-loaded c =
    streams-all (times_seen (bounded_seen c.args.store.now)) c.args.forms.now c.args.saved.now c.loop-number.texts.held c.args.store.now c.loop-number.store c.loop-number.number (omega arith)
    (streams-long (times_seen (bounded_seen c.args.store.now)) c.args.forms.now c.args.saved.now c.requires.saved) c.loop-number.invariant.streams
