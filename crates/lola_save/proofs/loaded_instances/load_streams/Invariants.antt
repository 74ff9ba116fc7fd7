-- The streams so far.
use Rattle.lola_instances.specs.Stores.{bounded_seen}
use Rattle.lola_save.specs.Loaded.{HasMore, times_seen}
use Rattle.lola_save.proofs.AllBirths.{AreStreamsTo}
use Rattle.lola_save.proofs.loaded_instances.load_streams.Given as goal

abbrev pub invariant-loop-number : goal.invariant-loop-number
invariant-loop-number l = record {
  more : HasMore l.fn.texts l.texts;
  streams : AreStreamsTo (times_seen (bounded_seen l.fn.store)) l.texts.held l.fn.store l.store l.forms l.saved l.number;
}
