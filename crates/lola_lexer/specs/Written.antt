-- Tokens written one behind the other, with a blank behind each.
use Rattle.std.specs.Prelude.{◌≡◌, ℕ, ◌+◌, ◌-◌, ◌≤◌, true, List, [], ◌∷◌, ◌++◌, length, map, take, drop, All, Ok}
use Rattle.lola_lexer.specs.declared.shape.TokenShape.{TokenShape}
use Rattle.lola_lexer.specs.declared.token.Token.{Token}
use Rattle.lola_lexer.specs.Spelling.{Bytes, is_blank, IsToken}
use Rattle.lola_lexer.specs.Tokens.{tokens_of}

-- a token's spelling, and the blank behind it
pub record Spaced : Type 0 where
  pub shape : TokenShape
  pub text : Bytes
  pub blank : ℕ

pub record IsSpaced (m : Spaced) : Type 0 where
  pub token : IsToken m.shape m.text
  pub blank : is_blank m.blank ≡ true

-- the text
abbrev pub written : List Spaced → Bytes
written [] = []
written (m ∷ ms) = m.text ++ (m.blank ∷ written ms)

-- the tokens, of which the first stands at the place
abbrev pub spaced_at : ℕ → List Spaced → List Token
spaced_at at [] = []
spaced_at at (m ∷ ms) = record { shape = m.shape; from = at; to = at + length m.text } ∷ spaced_at (at + length m.text + 1) ms

-- the bytes of a token
abbrev pub bytes_of : Bytes → Token → Bytes
bytes_of z t = take (t.to - t.from) (drop t.from z)

-- what is written is cut into the same tokens again, each with its bytes
abbrev pub WrittenIsCut : Type 0
WrittenIsCut = (ms : List Spaced) → All IsSpaced ms → length (written ms) ≤ 1_048_576
    → (tokens_of (written ms) ≡ Ok (spaced_at 0 ms)) × (map (bytes_of (written ms)) (spaced_at 0 ms) ≡ map (λ m. m.text) ms)
