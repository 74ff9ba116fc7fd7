use Rattle.std.proofs.Common.{ℕ, List}
use Rattle.lola_lexer.specs.declared.shape.TokenShape.TheVariants as is
use Rattle.lola_parser_grammar.specs.Syntax.{Of}
use Rattle.lola_parser_grammar.specs.declared.literals.Name.{Name}
use Rattle.lola_parser_grammar.specs.Grammar.{token, name}
use Rattle.lola_parser_cursor.proofs.Values.{value_taken, missed_as}
use Rattle.lola_parser_cursor.proofs.cursor.Parser.name.Goals as goal

abbrev valued_by : List ℕ → ℕ → Name
valued_by = λ (w : List ℕ) (at : ℕ). record { text = w; at = at }

pub returns-in-Err : goal.returns-in-Err
unfolding token name
returns-in-Err c = missed_as valued_by (Of is.Name) c.args.self.now.room c.args.self.now.rest c.in-Err.error c.take.new.self c.in-Err.ensures

pub returns-in-Ok : goal.returns-in-Ok
unfolding token name
returns-in-Ok c = rw (c.in_ok-text.ensures, c.text.ensures) (value_taken valued_by (Of is.Name) c.args.self.now.room c.take.new.self.room c.in-Ok.at c.args.self.now.rest c.take.new.self.rest c.in-Ok.ensures)
