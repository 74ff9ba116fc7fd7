use Rattle.std.proofs.Common.{length}
use Rattle.lola_parser_grammar.specs.Cursor.{lexemes}
use Rattle.lola_parser_grammar.specs.Whole.{Answers}
use Rattle.lola_parser_grammar.proofs.Ends.{refuses, reads_all}
use Rattle.lola_parser_declarations.proofs.reading.parse.Goals as goal

pub returns-clause-refuses : goal.returns-clause-refuses
returns-clause-refuses c =
    let h : Answers (lexemes c.args.bytes.now c.args.tokens.now) (length c.args.bytes.now) c.read.result = rw (← c.as_slice.ensures) c.read.ensures in
    refuses (lexemes c.args.bytes.now c.args.tokens.now) (length c.args.bytes.now) c.read.result h

pub returns-clause-reads : goal.returns-clause-reads
returns-clause-reads c =
    let h : Answers (lexemes c.args.bytes.now c.args.tokens.now) (length c.args.bytes.now) c.read.result = rw (← c.as_slice.ensures) c.read.ensures in
    reads_all (lexemes c.args.bytes.now c.args.tokens.now) (length c.args.bytes.now) c.read.result h
