use Rattle.std.proofs.Common.{◌≡◌, ◌≤◌, length}
use Rattle.std.specs.Vec.{vec_capacity}
use Rattle.lola_instances_one.proofs.DuePlaces.{due_before}
use Rattle.lola_instances_one.proofs.listing.list_all.Given as goal

abbrev pub invariant-loop-place : goal.invariant-loop-place
invariant-loop-place l = record {
  places : l.places.items ≡ due_before l.rates l.time l.births l.place;
  few : length l.places.items ≤ l.place;
  capacity : vec_capacity l.places ≡ vec_capacity l.fn.places;
}
