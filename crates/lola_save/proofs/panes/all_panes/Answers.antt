use Rattle.std.proofs.Common.{refl, arith}
use Rattle.std.proofs.lemmas.Option.{slice_get-get_or}
use Rattle.lola_model.specs.Store.{start_seen}
use Rattle.lola_instances.specs.Saved.{values_by_now}
use Rattle.lola_instances.specs.Stores.{bounded_seen}
use Rattle.lola_save_text.specs.PaneFolds.{panes_of}
use Rattle.lola_save.proofs.FormsFit.{window-at}
use Rattle.lola_save.proofs.Items.{map-all, map-more}
use Rattle.lola_save.proofs.panes.all_panes.Goals as goal

pub window_panes-requires-clause-window : goal.window_panes-requires-clause-window
window_panes-requires-clause-window c =
    window-at (bounded_seen c.args.store.now).layout c.args.stream c.args.windows.now c.loop-window.window-index _ c.requires.windows
    (slice_get-get_or c.args.windows.now c.loop-window.window-index _ c.loop-window-test.true)

pub loop-window-preserved : goal.loop-window-preserved
loop-window-preserved c names values h =
    map-more (λ w. panes_of (start_seen (bounded_seen c.args.store.now)) w (values_by_now c.args.store.now names c.args.stream c.args.index values)) c.args.windows.now c.loop-window.window-index
    _ _ c.loop-window.panes _ _ c.loop-window-test.true refl (c.in_ok-of_window.ensures names values h) c.in_ok-push.ensures.ok (c.loop-window.invariant names values h)

pub returns : goal.returns
returns c names values h =
    map-all (λ w. panes_of (start_seen (bounded_seen c.args.store.now)) w (values_by_now c.args.store.now names c.args.stream c.args.index values)) c.args.windows.now c.loop-window.window-index
    c.loop-window.panes (omega arith) (c.loop-window.invariant names values h)
