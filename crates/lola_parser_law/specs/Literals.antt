-- Literals that are printed are read back.
use Rattle.std.specs.Prelude.{◌≡◌, ℕ, ◌≤◌, List}
use Rattle.lola_lexer.specs.Spelling.{IsQuantity}
use Rattle.lola_parser_grammar.specs.Syntax.{Lexeme}
use Rattle.lola_parser_grammar.specs.Literals.{greatest}
use Rattle.lola_parser_grammar.specs.Grammar.{quantity_of}
use Rattle.lola_parser_print.specs.Print as out
use Rattle.lola_parser_law.specs.Erased.{IntegerReads, TextReads, QuantityReads}

-- an integer of no more than 128 bits
abbrev pub IntegersRead : Type 0
IntegersRead = (n : ℕ) → n ≤ greatest → IntegerReads n

-- a text, of whatever bytes
abbrev pub TextsRead : Type 0
TextsRead = (z : List ℕ) → TextReads z

-- a quantity that was read of a token, which is printed as the token was written
abbrev pub QuantitiesRead : Type 0
QuantitiesRead = (t : Lexeme) → IsQuantity t.text → QuantityReads (quantity_of t) × ((out.quantity (quantity_of t)).text ≡ t.text)
