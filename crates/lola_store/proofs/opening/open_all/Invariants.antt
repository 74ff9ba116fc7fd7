use Rattle.std.proofs.Common.{◌≡◌, ◌++◌, drop, map}
use Rattle.lola_model.specs.Store.{layouts_from}
use Rattle.lola_instances_stream.specs.Each.{Each}
use Rattle.lola_store.specs.Opening.{IsOpened}
use Rattle.lola_store.specs.Populations.{population_layout}
use Rattle.lola_store.proofs.opening.open_all.Given as goal

abbrev pub invariant-loop-i : goal.invariant-loop-i
invariant-loop-i l = record {
  layouts : map population_layout l.made.items ++ layouts_from (drop l.i l.streams) (drop l.i l.kept) (drop l.i l.pacings) ≡ layouts_from l.streams l.kept l.pacings;
  opened : Each IsOpened l.made.items;
}
