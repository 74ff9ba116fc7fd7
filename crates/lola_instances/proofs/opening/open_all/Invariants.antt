use Rattle.std.proofs.Common.{◌≡◌, ◌++◌, ℕ, Some, drop, length, map, slice_get}
use Rattle.lola_model.specs.Store.{layouts_from}
use Rattle.lola_instances_stream.specs.Crowds.{Crowd}
use Rattle.lola_instances.specs.Opening.{IsOpened}
use Rattle.lola_instances.specs.Streams.{crowd_layout}
use Rattle.lola_instances.proofs.opening.open_all.Given as goal

abbrev pub invariant-loop-i : goal.invariant-loop-i
invariant-loop-i l = record {
  count : length l.made.items ≡ l.i;
  layouts : map crowd_layout l.made.items ++ layouts_from (drop l.i l.streams) (drop l.i l.kept) (drop l.i l.pacings) ≡ layouts_from l.streams l.kept l.pacings;
  opened : (n : ℕ) (c : Crowd) → slice_get l.made.items n ≡ Some c → IsOpened l.windows l.sizes n c;
}
