use Rattle.std.proofs.Common.{ℕ, List}
use Rattle.lola_lexer.specs.declared.shape.TokenShape.TheVariants as is
use Rattle.lola_parser_grammar.specs.Syntax.{Of}
use Rattle.lola_parser_grammar.specs.declared.literals.Quantity.{Quantity}
use Rattle.lola_parser_grammar.specs.Literals.{number_of, digits_in, decimals_in, unit_of}
use Rattle.lola_parser_grammar.specs.Grammar.{token, quantity}
use Rattle.lola_parser_cursor.proofs.Values.{value_taken, missed_as}
use Rattle.lola_parser_cursor.proofs.cursor.Parser.quantity.Goals as goal

abbrev valued_by : List ℕ → ℕ → Quantity
valued_by = λ (w : List ℕ) (at : ℕ). record { digits = number_of w; count = digits_in w; decimals = decimals_in w; unit = unit_of w; at = at }

pub returns-in-Err : goal.returns-in-Err
unfolding token quantity
returns-in-Err c = missed_as valued_by (Of is.Quantity) c.args.self.now.room c.args.self.now.rest c.in-Err.error c.take.new.self c.in-Err.ensures

pub returns-in-Ok : goal.returns-in-Ok
unfolding token quantity
returns-in-Ok c = rw (c.number-digits.ensures, c.count_of_digits-count.ensures, c.count_of_decimals-decimals.ensures, c.unit-unit.ensures, c.text-text.ensures) (value_taken valued_by (Of is.Quantity) c.args.self.now.room c.take.new.self.room c.in-Ok.at c.args.self.now.rest c.take.new.self.rest c.in-Ok.ensures)
