-- The round trip: a text is read, its tree is printed, and what is printed is read again.
use Rattle.std.specs.Prelude.{◌≡◌, ℕ, ◌≤◌, List, length, Ok}
use Rattle.lola_lexer.specs.declared.token.Token.{Token}
use Rattle.lola_lexer.specs.Tokens.{tokens_of}
use Rattle.lola_parser_grammar.specs.declared.declarations.Declaration.{Declaration}
use Rattle.lola_parser_grammar.specs.Syntax.{Lexeme, Spells, read_all}
use Rattle.lola_parser_grammar.specs.Nestings.{Fits}
use Rattle.lola_parser_grammar.specs.Cursor.{lexemes}
use Rattle.lola_parser_grammar.specs.Grammar.{specification, all_nestings}
use Rattle.lola_parser_grammar.specs.Whole.{most_levels}
use Rattle.lola_parser_print.specs.Print as out
use Rattle.lola_parser_print.specs.Print.{spelled_out}
use Rattle.lola_parser_law.specs.Fitting.{AllDeclarationsFit}
use Rattle.lola_parser_law.specs.Places.{AreLexed, AreSame, DifferInPlaces}

-- what tokens spell is spelled by the same tokens at other places too, places left aside; and within the limit of nestings, if
-- it was
pub record PlacesAreFree : Type 0 where
  pub spelled : (n : ℕ) (ts us : List Lexeme) → AreSame ts us → (xs : List Declaration) → Spells (specification n) ts xs
      → (ys : List Declaration) × Spells (specification n) us ys × DifferInPlaces xs ys
  pub fitted : (n : ℕ) (ts us : List Lexeme) → AreSame ts us → (xs : List Declaration) → Fits all_nestings (specification n) ts xs
      → (ys : List Declaration) × Fits all_nestings (specification n) us ys × DifferInPlaces xs ys

-- the text is cut, and its tokens are read as this tree
pub record IsReadAs (z : List ℕ) (xs : List Declaration) : Type 0 where
  pub tokens : List Token
  pub cut : tokens_of z ≡ Ok tokens
  pub read : read_all (specification most_levels) (lexemes z tokens) ≡ Ok xs

-- at every number of levels from some one on
abbrev pub Eventually : (ℕ → Type 0) → Type 0
Eventually P = (m : ℕ) × ((n : ℕ) → m ≤ n → P n)

-- what is read is spelled by the text within the limit of nestings
abbrev pub ReadIsWithin : Type 0
ReadIsWithin = (ts : List Lexeme) (xs : List Declaration) → read_all (specification most_levels) ts ≡ Ok xs → Fits all_nestings (specification most_levels) ts xs

-- what is read of a text is of the grammar's shape, its literals are read back as they are printed, and what is printed of it
-- are tokens of the language
pub record IsPrintable (xs : List Declaration) : Type 0 where
  pub fits : Eventually (λ n. AllDeclarationsFit n xs)
  pub lexed : AreLexed (out.specification xs)

abbrev pub ReadIsPrintable : Type 0
ReadIsPrintable = (z : List ℕ) (xs : List Declaration) → IsReadAs z xs → IsPrintable xs

-- trees that differ in their places alone are printed alike
abbrev pub PlacesAreNotPrinted : Type 0
PlacesAreNotPrinted = (xs ys : List Declaration) → DifferInPlaces xs ys → out.specification ys ≡ out.specification xs

-- the text is read as this tree, places left aside, and what is printed of what is read is the same text again
pub record IsReadBack (t : List ℕ) (xs : List Declaration) : Type 0 where
  pub tree : List Declaration
  pub read : IsReadAs t tree
  pub same : DifferInPlaces xs tree
  pub again : spelled_out (out.specification tree) ≡ t

-- what is printed of a specification that was read is read back, if it is no longer than a text may be
abbrev pub IsReprinted : Type 0
IsReprinted = (z : List ℕ) (xs : List Declaration) → IsReadAs z xs → length (spelled_out (out.specification xs)) ≤ 1_048_576
    → IsReadBack (spelled_out (out.specification xs)) xs
