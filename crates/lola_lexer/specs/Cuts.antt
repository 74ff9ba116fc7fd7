-- A text as tokens with blanks and comments between them.
use Rattle.std.specs.Prelude.{◌≡◌, ℕ, ◌+◌, ◌<◌, ◌≤◌, List, [], ◌∷◌, length, drop, Result, Ok, Err}
use Rattle.lola_value.specs.declared.front.Code.{Code}
use Rattle.lola_value.specs.declared.front.Code.TheVariants.{TooLong, BadToken}
use Rattle.lola_value.specs.declared.front.FrontEnd.{FrontEnd}
use Rattle.lola_value.specs.declared.front.FrontEnd.TheVariants.{Refused, Memory}
use Rattle.lola_lexer.specs.declared.scan.thing.Thing.{Thing}
use Rattle.lola_lexer.specs.declared.scan.thing.Thing.TheVariants as thing
use Rattle.lola_lexer.specs.declared.token.Token.{Token}
use Rattle.lola_lexer.specs.Spelling.{Bytes}
use Rattle.lola_lexer.specs.Longest.{IsLongest, GapAt}
use Rattle.lola_lexer.specs.Laws.{IsNothing}

-- the text is these things, one behind the other, and then the rest
abbrev pub Covers : Bytes → List Thing → Bytes → Type 0
Covers z [] rest = z ≡ rest
Covers z (thing.Gap n ∷ more) rest = GapAt z n × Covers (drop n z) more rest
Covers z (thing.Token s n ∷ more) rest = IsLongest z s n × Covers (drop n z) more rest
Covers z (thing.Bad ∷ more) rest = ⊥

-- how many bytes they have
abbrev pub size : List Thing → ℕ
size [] = 0
size (thing.Gap n ∷ more) = n + size more
size (thing.Token s n ∷ more) = n + size more
size (thing.Bad ∷ more) = size more

-- the tokens among things of which the first stands at the place
abbrev pub tokens_among : ℕ → List Thing → List Token
tokens_among at [] = []
tokens_among at (thing.Gap n ∷ more) = tokens_among (at + n) more
tokens_among at (thing.Token s n ∷ more) = record { shape = s; from = at; to = at + n } ∷ tokens_among (at + n) more
tokens_among at (thing.Bad ∷ more) = tokens_among at more

-- the whole text is things, and these are the tokens among them
pub record IsWhole (z : Bytes) (at : ℕ) (ts : List Token) : Type 0 where
  pub things : List Thing
  pub covers : Covers z things []
  pub among : ts ≡ tokens_among at things

-- the text is things up to the place, where bytes stand that begin with nothing of the kind
pub record StopsAt (z : Bytes) (at place : ℕ) : Type 0 where
  pub things : List Thing
  pub rest : Bytes
  pub covers : Covers z things rest
  pub is : place ≡ at + size things
  pub some : 0 < length rest
  pub nothing : IsNothing rest

abbrev pub IsRefused : Bytes → Code → ℕ → Type 0
IsRefused z TooLong at = (1_048_576 < length z) × (at ≡ 1_048_576)
IsRefused z BadToken at = (length z ≤ 1_048_576) × StopsAt z 0 at
IsRefused z _ at = ⊥

-- what cutting a text gives, unless memory runs out
abbrev pub IsCut : Bytes → Result (List Token) FrontEnd → Type 0
IsCut z (Ok ts) = (length z ≤ 1_048_576) × IsWhole z 0 ts
IsCut z (Err Memory) = Unit {0}
IsCut z (Err (Refused r)) = IsRefused z r.code r.at
