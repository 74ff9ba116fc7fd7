use Rattle.std.proofs.Common.{◌≡◌, ◌≤◌, ◌++◌, drop, length}
use Rattle.std.specs.Vec.{vec_capacity}
use Rattle.lola_store.specs.Dues.{due_lives}
use Rattle.lola_store.proofs.due.list_among.Given as goal

abbrev pub invariant-loop-place : goal.invariant-loop-place
invariant-loop-place l = record {
  places : l.places.items ++ due_lives l.rates l.time l.place (drop l.place l.lives) ≡ due_lives l.rates l.time 0 l.lives;
  few : length l.places.items ≤ l.place;
  capacity : vec_capacity l.places ≡ vec_capacity l.fn.places;
}
