use Rattle.lola_lexer.proofs.Utf8.{is_text, is_no_text}
use Rattle.lola_lexer.proofs.scan.texts.if_utf8.Goals as goal

pub returns-in-Ok-clause-value : goal.returns-in-Ok-clause-value
returns-in-Ok-clause-value c = is_text c.args.bytes.now c.args.found c.in-Ok.ensures.cases.1

pub returns-in-Err-clause-value : goal.returns-in-Err-clause-value
returns-in-Err-clause-value c = is_no_text c.args.bytes.now c.args.found c.in-Err.ensures.cases.0
