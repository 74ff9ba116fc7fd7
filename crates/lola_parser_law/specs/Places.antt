-- Tokens at other places, and the text that is printed.
use Rattle.std.specs.Prelude.{◌≡◌, ℕ, ◌≤◌, List, [], ◌∷◌, length, map, Ok}
use Rattle.lola_lexer.specs.declared.token.Token.{Token}
use Rattle.lola_lexer.specs.Spelling.{IsToken}
use Rattle.lola_lexer.specs.Tokens.{tokens_of}
use Rattle.lola_parser_grammar.specs.declared.declarations.Declaration.{Declaration}
use Rattle.lola_parser_grammar.specs.Syntax.{Lexeme}
use Rattle.lola_parser_grammar.specs.Cursor.{lexemes}
use Rattle.lola_parser_print.specs.Print.{spelled_out}
use Rattle.lola_parser_law.specs.Erased as erased

-- it is a token of the language
abbrev pub IsLexed : Lexeme → Type 0
IsLexed t = IsToken t.shape t.text

-- each is
abbrev pub AreLexed : List Lexeme → Type 0
AreLexed [] = Unit {0}
AreLexed (t ∷ ts) = IsLexed t × AreLexed ts

-- the same token, at whatever place
pub record IsSame (t u : Lexeme) : Type 0 where
  pub shape : t.shape ≡ u.shape
  pub text : t.text ≡ u.text

-- the same tokens in the same order
abbrev pub AreSame : List Lexeme → List Lexeme → Type 0
AreSame [] [] = Unit {0}
AreSame (t ∷ ts) (u ∷ us) = IsSame t u × AreSame ts us
AreSame [] (u ∷ us) = ⊥
AreSame (t ∷ ts) [] = ⊥

-- what is cut from a text are tokens of the language
abbrev pub CutIsLexed : Type 0
CutIsLexed = (z : List ℕ) (ts : List Token) → tokens_of z ≡ Ok ts → AreLexed (lexemes z ts)

-- tokens that are printed are cut from the text that is printed, at whatever places
abbrev pub PrintedIsCut : Type 0
PrintedIsCut = (ts : List Lexeme) → AreLexed ts → length (spelled_out ts) ≤ 1_048_576
    → (us : List Token) × (tokens_of (spelled_out ts) ≡ Ok us) × AreSame ts (lexemes (spelled_out ts) us)

-- trees that differ in their places alone
abbrev pub DifferInPlaces : List Declaration → List Declaration → Type 0
DifferInPlaces xs ys = map erased.declaration ys ≡ map erased.declaration xs
