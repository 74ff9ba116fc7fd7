-- What a parser reads from, and what reading leaves.
use Rattle.std.specs.Prelude.{◌≡◌, ℕ, ◌-◌, List, [], ◌∷◌, map, take, drop, Result, Ok, Err}
use Rattle.lola_lexer.specs.declared.token.Token.{Token}
use Rattle.lola_parser_grammar.specs.Syntax.{Lexeme, Syntax, Outcome, Unexpected, TooDeep, read}
use Rattle.lola_parser_grammar.specs.declared.error.ParseError.{ParseError}
use Rattle.lola_parser_grammar.specs.declared.error.ParseError.TheVariants as errors

-- the tokens that are still to read, and how many nestings may come in the expression
pub record Cursor : Type 0 where
  pub rest : List Lexeme
  pub room : ℕ

-- a token with its bytes
abbrev pub lexeme : List ℕ → Token → Lexeme
lexeme bytes t = record { shape = t.shape; text = take (t.to - t.from) (drop t.from bytes); from = t.from; to = t.to }

abbrev pub lexemes : List ℕ → List Token → List Lexeme
lexemes bytes ts = map (lexeme bytes) ts

abbrev pub text_of : List Lexeme → List ℕ
text_of [] = []
text_of (t ∷ ts) = t.text

-- What a function returned, and where it left the parser, are what the grammar's reading gives, unless memory ran out.
-- After a refusal the parser stands at the token that is refused.
abbrev pub Reads : {A : Type 0} → Outcome A → Result A ParseError → Cursor → Type 0
Reads o (Ok x) new = o ≡ Ok (x, new.room, new.rest)
Reads o (Err errors.Memory) new = Unit {0}
Reads o (Err errors.Unexpected) new = o ≡ Err (Unexpected new.rest)
Reads o (Err errors.TooDeep) new = o ≡ Err (TooDeep new.rest)

abbrev pub IsRead : {A : Type 0} → Syntax A → Cursor → Result A ParseError → Cursor → Type 0
IsRead s old r new = Reads (read s old.room old.rest) r new

abbrev pub place_of : List Lexeme → ℕ → ℕ
place_of [] end = end
place_of (t ∷ ts) end = t.from
