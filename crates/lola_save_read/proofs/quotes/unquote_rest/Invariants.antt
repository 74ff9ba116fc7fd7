use Rattle.std.proofs.Common.{◌≡◌, ◌++◌, flat_map, length}
use Rattle.lola_model.specs.Texts.{escaped}
use Rattle.lola_save_read.proofs.quotes.unquote_rest.Given as goal

abbrev pub invariant-letters : goal.invariant-letters
invariant-letters l = l.bytes ≡ flat_map escaped l.room ++ l.left

abbrev pub decreases-letters : goal.decreases-letters
decreases-letters l = length l.left
