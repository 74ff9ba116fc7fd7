use Rattle.std.proofs.Common.{◌∙◌, refl, slice_get, subst, sym, arith, get_or}
use Rattle.std.proofs.lemmas.Option.{slice_get-get_or, slice_get_within}
use Rattle.lola_model.specs.Store.{Seen, kind_in}
use Rattle.lola_model.specs.declared.spec.Agg.TheVariants as agg
use Rattle.lola_instances.specs.Stores.{bounded_seen}
use Rattle.lola_save_text.specs.declared.forms.WindowForm.{WindowForm}
use Rattle.lola_save.specs.Loaded.{CanLoad, times_seen}
use Rattle.lola_save.proofs.FormsFit.{window-at}
use Rattle.lola_save.proofs.Items.{item-at}
use Rattle.lola_save.proofs.LoadedOne.{one-on, one-self, silent-on}
use Rattle.lola_save.proofs.LoadedPanes.{fits-on, loaded-on, others-on, panes-at, panes-long, panes-more, window-on}
use Rattle.lola_save.proofs.loaded_panes.load_panes.Goals as goal

-- what is read where there is no window
abbrev no_window : WindowForm
no_window = record { number = 0; how = agg.Count; pane = 0; count = 0 }

pub loop-place-init : goal.loop-place-init
loop-place-init c = record {
  one = one-self c.args.stream c.args.index c.args.store.now;
  values = refl;
  panes = record {
    done = λ j w o lt. absurd (omega (arith, lt));
    left = λ j w le e. let f = window-at (bounded_seen c.args.store.now).layout c.args.stream c.args.windows.now j w c.requires.windows e in c.requires.none w.number f.spec f.at f.target;
  };
}

pub bounds-saved-place : goal.bounds-saved-place
bounds-saved-place c =
    let long = panes-long (times_seen (bounded_seen c.args.store.now)) (kind_in (slice_get (bounded_seen c.args.store.now).layout.streams c.args.stream)) c.args.windows.now c.args.saved.now c.requires.fit in
    omega (arith, long, c.loop-place-test.true)

pub load_window-requires-clause-step : goal.load_window-requires-clause-step
load_window-requires-clause-step c = subst (λ (s : Seen). CanLoad s) (sym c.loop-place.invariant.one.seen) c.requires.step

pub load_window-requires-clause-silent : goal.load_window-requires-clause-silent
load_window-requires-clause-silent c = silent-on c.args.store.now c.loop-place.store c.args.stream c.args.index c.loop-place.invariant.one.seen c.requires.silent

pub load_window-requires-clause-window : goal.load_window-requires-clause-window
load_window-requires-clause-window c =
    window-on (bounded_seen c.args.store.now) (bounded_seen c.loop-place.store) c.args.stream _ c.loop-place.invariant.one.seen
    (window-at (bounded_seen c.args.store.now).layout c.args.stream c.args.windows.now c.loop-place.place _ c.requires.windows (slice_get-get_or c.args.windows.now c.loop-place.place _ c.loop-place-test.true))

pub load_window-requires-clause-fits : goal.load_window-requires-clause-fits
load_window-requires-clause-fits c =
    let old = c.args.store.now in
    let long = panes-long (times_seen (bounded_seen old)) (kind_in (slice_get (bounded_seen old).layout.streams c.args.stream)) c.args.windows.now c.args.saved.now c.requires.fit in
    fits-on (bounded_seen old) (bounded_seen c.loop-place.store) c.args.stream (get_or c.args.windows.now c.loop-place.place no_window) c.index-saved-place.result c.loop-place.invariant.one.seen
    (panes-at (times_seen (bounded_seen old)) (kind_in (slice_get (bounded_seen old).layout.streams c.args.stream)) c.args.windows.now c.args.saved.now c.requires.fit c.loop-place.place (get_or c.args.windows.now c.loop-place.place no_window) _
    (slice_get-get_or c.args.windows.now c.loop-place.place no_window c.loop-place-test.true)
    (item-at c.args.saved.now c.loop-place.place c.index-saved-place.result c.index-saved-place.result (omega (arith, long, c.loop-place-test.true)) c.index-saved-place.is))

pub load_window-requires-clause-none : goal.load_window-requires-clause-none
load_window-requires-clause-none c = c.loop-place.invariant.panes.left c.loop-place.place _ (omega arith) (slice_get-get_or c.args.windows.now c.loop-place.place _ c.loop-place-test.true)

pub loop-place-preserved : goal.loop-place-preserved
loop-place-preserved c =
    let old = c.args.store.now in
    let i = c.loop-place.invariant in
    let e = c.in_ok-load_window.ensures in
    let long = panes-long (times_seen (bounded_seen old)) (kind_in (slice_get (bounded_seen old).layout.streams c.args.stream)) c.args.windows.now c.args.saved.now c.requires.fit in
    record {
      one = one-on c.args.stream c.args.index old c.loop-place.store c.load_window.new.store i.one e.one;
      values = e.values ∙ i.values;
      panes = panes-more c.loop-place.store c.load_window.new.store c.args.stream c.args.index (kind_in (slice_get (bounded_seen old).layout.streams c.args.stream)) c.args.windows.now c.args.saved.now c.loop-place.place
          (bounded_seen old).layout c.requires.windows c.requires.onto (get_or c.args.windows.now c.loop-place.place no_window) c.index-saved-place.result
          (slice_get-get_or c.args.windows.now c.loop-place.place no_window c.loop-place-test.true)
          (item-at c.args.saved.now c.loop-place.place c.index-saved-place.result c.index-saved-place.result (omega (arith, long, c.loop-place-test.true)) c.index-saved-place.is)
          (loaded-on (bounded_seen old) (bounded_seen c.loop-place.store) c.load_window.new.store c.args.index c.args.stream (get_or c.args.windows.now c.loop-place.place no_window) c.index-saved-place.result i.one.seen e.loaded)
          (others-on (bounded_seen old) (bounded_seen c.loop-place.store) c.loop-place.store c.load_window.new.store c.args.stream c.args.index (get_or c.args.windows.now c.loop-place.place no_window).number i.one.seen e.others)
          i.panes;
    }

pub returns-clause-loaded : goal.returns-clause-loaded
returns-clause-loaded c = λ k w o e f. c.loop-place.invariant.panes.done k w o (let n = slice_get_within c.args.windows.now k w e in omega (arith, n)) e f
