use Rattle.std.proofs.Common.{◌≡◌, ◌++◌, drop}
use Rattle.lola_names_refused.specs.Refused.{places_of}
use Rattle.lola_names_refused.proofs.refusing.put_places.Given as goal

abbrev pub invariant-loop-item : goal.invariant-loop-item
invariant-loop-item l =
    l.places ++ places_of (drop l.item-index l.items) ≡ l.fn.places ++ places_of l.items
