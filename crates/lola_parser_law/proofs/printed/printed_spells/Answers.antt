use Rattle.lola_parser_law.proofs.PrintedDeclarations.{specification_spelled}
use Rattle.lola_parser_law.proofs.printed.printed_spells.Goals as goal

pub returns : goal.returns
returns c n xs h = specification_spelled n xs h
