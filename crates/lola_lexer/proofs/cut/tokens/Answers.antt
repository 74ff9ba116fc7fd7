use Rattle.lola_lexer.proofs.Cutting.{given_is_cut}
use Rattle.lola_lexer.proofs.Places.{given_within, given_in_order}
use Rattle.lola_lexer.proofs.cut.tokens.Goals as goal

pub returns-clause-cuts : goal.returns-clause-cuts
returns-clause-cuts c = given_is_cut c.args.bytes.now c.cut.result c.if-bytes.false c.cut.ensures

pub returns-clause-within : goal.returns-clause-within
returns-clause-within c = given_within c.args.bytes.now c.cut.result c.cut.ensures

pub returns-clause-in_order : goal.returns-clause-in_order
returns-clause-in_order c = given_in_order c.args.bytes.now c.cut.result c.cut.ensures
