use Rattle.std.proofs.Common.{◌≡◌, ◌++◌, drop}
use Rattle.lola_names.specs.Entries.{texts_in}
use Rattle.lola_names.proofs.made.TextNumbers.texts.Given as goal

abbrev pub invariant-loop-bytes : goal.invariant-loop-bytes
invariant-loop-bytes l = l.texts ++ texts_in (drop l.bytes-index l.bytes-items) ≡ texts_in l.bytes-items
