-- What is found at the front of a text, in the words of the language.
use Rattle.std.specs.Prelude.{◌≡◌, ◌↔◌, ℕ}
use Rattle.lola_lexer.specs.declared.shape.TokenShape.{TokenShape}
use Rattle.lola_lexer.specs.declared.scan.thing.Thing.TheVariants as thing
use Rattle.lola_lexer.specs.Spelling.{Bytes}
use Rattle.lola_lexer.specs.Lexical.{thing_at}
use Rattle.lola_lexer.specs.Longest.{IsLongest, GapAt}

-- the token that is found is the longest one, and the longest one is found
abbrev pub LongestIsFound : Type 0
LongestIsFound = (z : Bytes) (s : TokenShape) (n : ℕ) → (thing_at z ≡ thing.Token s n) ↔ IsLongest z s n

-- what is found as a gap is a blank or a comment, and each of these is found
abbrev pub GapIsFound : Type 0
GapIsFound = (z : Bytes) (n : ℕ) → (thing_at z ≡ thing.Gap n) ↔ GapAt z n

-- no front is a token, a blank or a comment
pub record IsNothing (z : Bytes) : Type 0 where
  pub no_token : (s : TokenShape) (n : ℕ) → IsLongest z s n → ⊥
  pub no_gap : (n : ℕ) → GapAt z n → ⊥

-- the rest is found bad, and nothing else
abbrev pub NothingIsBad : Type 0
NothingIsBad = (z : Bytes) → (thing_at z ≡ thing.Bad) ↔ IsNothing z
