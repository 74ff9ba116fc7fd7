use Rattle.std.proofs.Common.{arith, ap, slice_get, subst, sym, ◌∙◌, ◌<◌, length}
use Rattle.lola_model.specs.Store.{Seen, kept_in, kind_in}
use Rattle.lola_instances.specs.Stores.{bounded_seen, values_kept}
use Rattle.lola_save_text.specs.Fitting.{is_value}
use Rattle.lola_save.specs.Loaded.{CanLoad}
use Rattle.lola_save.proofs.LoadedOne.{keeps-on, keeps-self, one-on, one-self, passes-at, silent-on, values-all, values-many, values-more, values-none}
use Rattle.lola_save.proofs.Naming.{more-on, more-self}
use Rattle.lola_save.proofs.loaded_values.load_values.Goals as goal

pub loop-field-init : goal.loop-field-init
loop-field-init c = record {
  more = more-self c.args.texts.now c.requires.room;
  one = one-self c.args.stream c.args.index c.args.store.now;
  panes = keeps-self c.args.stream c.args.index c.args.store.now;
  values = values-none c.args.texts.now.held c.args.ring.now (values_kept c.args.store.now c.args.stream c.args.index) c.requires.none;
}

pub load_value-requires-clause-room : goal.load_value-requires-clause-room
load_value-requires-clause-room c = c.loop-field.invariant.more.room

pub load_value-requires-clause-step : goal.load_value-requires-clause-step
load_value-requires-clause-step c = subst (λ (s : Seen). CanLoad s) (sym c.loop-field.invariant.one.seen) c.requires.step

pub load_value-requires-clause-silent : goal.load_value-requires-clause-silent
load_value-requires-clause-silent c = silent-on c.args.store.now c.loop-field.store c.args.stream c.args.index c.loop-field.invariant.one.seen c.requires.silent

pub load_value-requires-clause-kind : goal.load_value-requires-clause-kind
load_value-requires-clause-kind c =
    ap (λ (s : Seen). is_value (kind_in (slice_get s.layout.streams c.args.stream)) c.field-item.result) c.loop-field.invariant.one.seen
    ∙ passes-at (is_value (kind_in (slice_get (bounded_seen c.args.store.now).layout.streams c.args.stream))) c.args.ring.now c.loop-field.field-index _ _ c.requires.kinds c.loop-field-test.true c.field-item.is

pub load_value-requires-clause-free : goal.load_value-requires-clause-free
load_value-requires-clause-free c =
    let many = values-many c.loop-field.texts.held c.args.ring.now c.loop-field.field-index (values_kept c.loop-field.store c.args.stream c.args.index) (omega arith) c.loop-field.invariant.values in
    let few = c.requires.few in
    subst (λ (s : Seen). length (values_kept c.loop-field.store c.args.stream c.args.index) < kept_in (slice_get s.layout.streams c.args.stream)) (sym c.loop-field.invariant.one.seen) (omega (arith, many, few, c.loop-field-test.true))

pub loop-field-preserved : goal.loop-field-preserved
loop-field-preserved c =
    let i = c.loop-field.invariant in
    let e = c.in_ok-load_value.ensures in
    record {
      more = more-on c.args.texts.now c.loop-field.texts c.load_value.new.texts i.more e.more;
      one = one-on c.args.stream c.args.index c.args.store.now c.loop-field.store c.load_value.new.store i.one e.one;
      panes = keeps-on c.args.stream c.args.index c.args.store.now c.loop-field.store c.load_value.new.store i.one.seen i.panes e.panes;
      values = values-more c.loop-field.texts.held c.load_value.new.texts.held _ c.args.ring.now c.loop-field.field-index _ _ _ e.more.held c.loop-field-test.true c.field-item.is i.values e.value;
    }

pub returns-clause-values : goal.returns-clause-values
returns-clause-values c = values-all c.loop-field.texts.held c.args.ring.now c.loop-field.field-index (values_kept c.loop-field.store c.args.stream c.args.index) (omega arith) c.loop-field.invariant.values
