use Rattle.std.proofs.Common.{◌≡◌, ◌++◌, take}
use Rattle.lola_parser_print.specs.Print as out
use Rattle.lola_parser_print.proofs.clauses.further_parts.Given as goal

abbrev pub invariant-loop-x : goal.invariant-loop-x
invariant-loop-x l = l.to ≡ l.fn.to ++ out.spelled_out (out.further_parts (take l.x-index l.parts))
