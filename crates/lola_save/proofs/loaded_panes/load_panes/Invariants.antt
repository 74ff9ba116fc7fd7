-- The windows so far.
use Rattle.std.proofs.Common.{◌≡◌, slice_get}
use Rattle.lola_model.specs.Store.{kind_in}
use Rattle.lola_instances.specs.Stores.{bounded_seen, values_kept}
use Rattle.lola_save.specs.Loaded.{ChangesOne}
use Rattle.lola_save.proofs.LoadedPanes.{ArePanesTo}
use Rattle.lola_save.proofs.loaded_panes.load_panes.Given as goal

abbrev pub invariant-loop-place : goal.invariant-loop-place
invariant-loop-place l = record {
  one : ChangesOne l.stream l.index l.fn.store l.store;
  values : values_kept l.store l.stream l.index ≡ values_kept l.fn.store l.stream l.index;
  panes : ArePanesTo l.store l.index (kind_in (slice_get (bounded_seen l.fn.store).layout.streams l.stream)) l.windows l.saved l.place;
}
