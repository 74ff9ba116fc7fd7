-- The values so far.
use Rattle.std.proofs.Common.{take}
use Rattle.lola_instances.specs.Stores.{values_kept}
use Rattle.lola_save.specs.Loaded.{AreValuesOf, ChangesOne, HasMore, KeepsPanes}
use Rattle.lola_save.proofs.loaded_values.load_values.Given as goal

abbrev pub invariant-loop-field : goal.invariant-loop-field
invariant-loop-field l = record {
  more : HasMore l.fn.texts l.texts;
  one : ChangesOne l.stream l.index l.fn.store l.store;
  panes : KeepsPanes l.stream l.index l.fn.store l.store;
  values : AreValuesOf l.texts.held (take l.field-index l.ring) (values_kept l.store l.stream l.index);
}
