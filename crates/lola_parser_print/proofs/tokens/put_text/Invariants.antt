use Rattle.std.proofs.Common.{◌≡◌, ◌∷◌, ◌++◌, take}
use Rattle.std.specs.List.{flat_map}
use Rattle.lola_parser_print.specs.Print.{escape}
use Rattle.lola_parser_print.proofs.tokens.put_text.Given as goal

abbrev pub invariant-loop-byte : goal.invariant-loop-byte
invariant-loop-byte l = l.to ≡ l.fn.to ++ (34 ∷ flat_map escape (take l.byte-index l.text))
