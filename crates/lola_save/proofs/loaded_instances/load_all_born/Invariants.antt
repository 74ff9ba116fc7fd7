-- The instances so far.
use Rattle.lola_instances.specs.Stores.{bounded_seen}
use Rattle.lola_save.specs.Loaded.{HasMore, times_seen}
use Rattle.lola_save.proofs.AllBirths.{AreBornTo}
use Rattle.lola_save.proofs.loaded_instances.load_all_born.Given as goal

abbrev pub invariant-loop-instance : goal.invariant-loop-instance
invariant-loop-instance l = record {
  more : HasMore l.fn.texts l.texts;
  born : AreBornTo (times_seen (bounded_seen l.fn.store)) l.texts.held l.fn.store l.store l.stream l.form l.saved l.instance-index;
}
