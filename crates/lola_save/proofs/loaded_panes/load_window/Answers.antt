use Rattle.std.proofs.Common.{◌-◌, MatchOption, slice_get, subst, sym}
use Rattle.lola_model.specs.Store.{kind_in}
use Rattle.lola_instances_one.specs.Saved.{CanBeRestored}
use Rattle.lola_instances.specs.Saved.{panes_at}
use Rattle.lola_instances.specs.Stores.{bounded_seen}
use Rattle.lola_save.specs.Loaded.{ArePanesLoaded}
use Rattle.lola_save.proofs.LoadedPanes.{can-restore, fits-some, newest-begun, slot-is, window-loaded, window-one, window-others, window-values}
use Rattle.lola_save.proofs.StoreSlots.{shown-by}
use Rattle.lola_save.proofs.loaded_panes.load_window.Goals as goal

pub restore_panes-requires-clause-panes : goal.restore_panes-requires-clause-panes
restore_panes-requires-clause-panes c =
    let s = c.args.store.now in
    let y = shown-by s c.args.stream c.args.index c.requires.silent.x c.requires.silent.at in
    let fits = fits-some (bounded_seen s) c.args.stream c.args.window.now c.args.saved.now c.in-Some.panes c.in-Some.is c.requires.fits in
    subst (λ qs. MatchOption (panes_at s c.args.window.now.number c.args.index) ⊥ (CanBeRestored c.in-Some.panes.last qs ((bounded_seen s).steps - 1))) (sym c.as_slice.ensures)
    (can-restore s c.requires.step c.args.stream c.args.index y.y y.at c.args.window.now c.requires.window c.in-Some.panes fits)

pub restore_panes-requires-clause-newest : goal.restore_panes-requires-clause-newest
restore_panes-requires-clause-newest c =
    let s = c.args.store.now in
    let y = shown-by s c.args.stream c.args.index c.requires.silent.x c.requires.silent.at in
    let fits = fits-some (bounded_seen s) c.args.stream c.args.window.now c.args.saved.now c.in-Some.panes c.in-Some.is c.requires.fits in
    newest-begun s c.requires.step c.args.stream c.args.index y.y y.at c.args.window.now c.requires.window c.in-Some.panes fits

pub returns-clause-values : goal.returns-clause-values
returns-clause-values c =
    let s = c.args.store.now in
    let slot = slot-is s c.restore_panes.new.self c.args.stream c.args.index c.args.window.now c.requires.window c.in-Some.panes c.as_slice.result.now ((bounded_seen s).steps - 1) c.as_slice.ensures c.restore_panes.ensures.slot in
    window-values s c.restore_panes.new.self c.args.stream c.args.index c.args.window.now c.requires.window c.in-Some.panes ((bounded_seen s).steps - 1) c.restore_panes.ensures.seen c.restore_panes.ensures.places slot

pub returns-clause-one : goal.returns-clause-one
returns-clause-one c =
    let s = c.args.store.now in
    let slot = slot-is s c.restore_panes.new.self c.args.stream c.args.index c.args.window.now c.requires.window c.in-Some.panes c.as_slice.result.now ((bounded_seen s).steps - 1) c.as_slice.ensures c.restore_panes.ensures.slot in
    window-one s c.restore_panes.new.self c.args.stream c.args.index c.args.window.now c.requires.window c.in-Some.panes ((bounded_seen s).steps - 1) c.restore_panes.ensures.seen c.restore_panes.ensures.places slot

pub returns-clause-others : goal.returns-clause-others
returns-clause-others c =
    let s = c.args.store.now in
    let slot = slot-is s c.restore_panes.new.self c.args.stream c.args.index c.args.window.now c.requires.window c.in-Some.panes c.as_slice.result.now ((bounded_seen s).steps - 1) c.as_slice.ensures c.restore_panes.ensures.slot in
    window-others s c.restore_panes.new.self c.args.stream c.args.index c.args.window.now c.requires.window c.in-Some.panes ((bounded_seen s).steps - 1) c.restore_panes.ensures.seen c.restore_panes.ensures.places slot
    c.windows_have_own_places.ensures

pub returns-clause-loaded : goal.returns-clause-loaded
returns-clause-loaded c =
    let s = c.args.store.now in
    let w = c.args.window.now in
    let slot = slot-is s c.restore_panes.new.self c.args.stream c.args.index w c.requires.window c.in-Some.panes c.as_slice.result.now ((bounded_seen s).steps - 1) c.as_slice.ensures c.restore_panes.ensures.slot in
    subst (λ o. ArePanesLoaded c.restore_panes.new.self c.args.index (kind_in (slice_get (bounded_seen s).layout.streams c.args.stream)) w o) (sym c.in-Some.is)
    (window-loaded s c.restore_panes.new.self c.args.stream c.args.index w c.requires.window c.in-Some.panes ((bounded_seen s).steps - 1) c.restore_panes.ensures.seen c.restore_panes.ensures.places slot)
