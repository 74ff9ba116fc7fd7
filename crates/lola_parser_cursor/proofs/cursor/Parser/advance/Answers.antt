use Rattle.std.proofs.Common.{rules, arith}
use Rattle.lola_parser_cursor.proofs.Steps.{tail_is}
use Rattle.lola_parser_cursor.proofs.cursor.Parser.advance.Goals as goal

pub returns-clause-rest : goal.returns-clause-rest
returns-clause-rest c = first_of (search (rules, tail_is), grind (arith, tail_is))
