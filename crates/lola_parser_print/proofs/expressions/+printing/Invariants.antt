use Rattle.std.proofs.Common.{◌≡◌, ◌++◌, take}
use Rattle.lola_parser_print.specs.Print as out
use Rattle.lola_parser_print.proofs.expressions.+printing.Given as goal

abbrev pub invariant-arguments-loop-x : goal.invariant-arguments-loop-x
invariant-arguments-loop-x l = l.to ≡ l.initial.to ++ out.spelled_out (out.further_list (take l.x-index l.x-items))
