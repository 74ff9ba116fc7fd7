use Rattle.std.proofs.Common.{◌≡◌, ◌≤◌, drop}
use Rattle.lola_instances_stream.specs.Cells.{living}
use Rattle.lola_instances_stream.specs.Crowds.{place_in}
use Rattle.lola_instances_stream.proofs.cells.place_among.Given as goal

abbrev pub invariant-loop-cell : goal.invariant-loop-cell
invariant-loop-cell l = record {
  place : place_in l.params (living (drop l.cell-index l.cells)) l.place ≡ place_in l.params (living l.cells) 0;
  few : l.place ≤ l.cell-index;
}
