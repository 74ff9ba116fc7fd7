use Rattle.std.proofs.Common.{◌≡◌, ◌++◌}
use Rattle.lola_parser_print.specs.Print.{zeros}
use Rattle.lola_parser_print.proofs.tokens.put_zeros.Given as goal

abbrev pub invariant-loop-zero : goal.invariant-loop-zero
invariant-loop-zero l = l.to ≡ l.fn.to ++ zeros l._zero
