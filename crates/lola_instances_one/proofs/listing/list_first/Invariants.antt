-- Of the births that are due the list has the first, and is whole once the entries to come have none.
use Rattle.std.proofs.Common.{◌≡◌, ◌≤◌, ◌+◌, length, drop}
use Rattle.std.specs.Vec.{vec_capacity}
use Rattle.lola_instances_one.specs.Queues.{births_of}
use Rattle.lola_instances_one.proofs.DuePlaces.{IsListing, number_due}
use Rattle.lola_instances_one.proofs.listing.list_first.Given as goal

abbrev pub invariant-loop-i : goal.invariant-loop-i
invariant-loop-i l = record {
  listing : IsListing l.rates l.time l.births l.places.items l.from;
  number : length l.places.items + number_due l.rates l.time (births_of (drop l.i l.queue.items)) ≡ number_due l.rates l.time (births_of l.queue.items);
  few : length l.places.items ≤ l.from;
  capacity : vec_capacity l.places ≡ vec_capacity l.fn.places;
}
