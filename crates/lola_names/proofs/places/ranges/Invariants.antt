use Rattle.std.proofs.Common.{◌≡◌, ◌++◌, drop}
use Rattle.lola_names.specs.Specification.{ranges_of}
use Rattle.lola_names.proofs.places.ranges.Given as goal

abbrev pub invariant-loop-declaration : goal.invariant-loop-declaration
invariant-loop-declaration l = l.places ++ ranges_of (drop l.declaration-index l.declarations) l.rest ≡ ranges_of l.declarations l.streams
