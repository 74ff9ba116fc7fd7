-- The tokens of a text, in order.
use Rattle.std.specs.Prelude.{◌≡◌, ℕ, zero, suc, ◌+◌, ◌-◌, ◌<◌, ◌≤◌, List, [], ◌∷◌, ◌++◌, length, All, Result, Ok, Err, nat_lt, if◌then◌else◌}
use Rattle.lola_value.specs.declared.front.Refusal.{Refusal}
use Rattle.lola_value.specs.declared.front.Code.TheVariants.{TooLong, BadToken}
use Rattle.lola_value.specs.declared.front.FrontEnd.{FrontEnd}
use Rattle.lola_value.specs.declared.front.FrontEnd.TheVariants.{Refused, Memory}
use Rattle.lola_lexer.specs.declared.scan.thing.Thing.{Thing}
use Rattle.lola_lexer.specs.declared.scan.thing.Thing.TheVariants as thing
use Rattle.lola_lexer.specs.declared.token.Token.{Token}
use Rattle.lola_lexer.specs.Spelling.{Bytes}
use Rattle.lola_lexer.specs.Lexical.{thing_at}

-- the tokens of a text, or why it has none
abbrev pub Cut : Type 0
Cut = Result (List Token) Refusal

abbrev pub with_front : List Token → Cut → Cut
with_front front (Ok ts) = Ok (front ++ ts)
with_front front (Err r) = Err r

-- what stands at the place, and then the tokens behind it; the function is given how many bytes to leave out
abbrev pub after : ℕ → Thing → (ℕ → Cut) → Cut
after at (thing.Gap n) rest = rest (n - 1)
after at (thing.Token shape n) rest = with_front (record { shape = shape; from = at; to = at + n } ∷ []) (rest (n - 1))
after at thing.Bad rest = Err (record { code = BadToken; at = at })

-- the tokens behind so many bytes more, from the place on
abbrev pub tokens_from : ℕ → ℕ → Bytes → Cut
tokens_from skip at [] = Ok []
tokens_from (suc skip) at (b ∷ z) = tokens_from skip (suc at) z
tokens_from zero at (b ∷ z) = after at (thing_at (b ∷ z)) (λ skip. tokens_from skip (suc at) z)

unfoldable pub tokens_of : Bytes → Cut
tokens_of z = if nat_lt 1_048_576 (length z) then Err (record { code = TooLong; at = 1_048_576 }) else tokens_from 0 0 z

-- what a function gives is what the text has, unless memory runs out
abbrev pub Gives : Result (List Token) FrontEnd → Cut → Type 0
Gives (Ok ts) c = c ≡ Ok ts
Gives (Err Memory) c = Unit {0}
Gives (Err (Refused r)) c = c ≡ Err r

-- each token has bytes, and they are bytes of the text
abbrev pub StandIn : Bytes → List Token → Type 0
StandIn z ts = All (λ t. (t.from < t.to) × (t.to ≤ length z)) ts

-- the tokens stand at or behind the place, each behind the one before
abbrev pub AreInOrder : ℕ → List Token → Type 0
AreInOrder at [] = Unit {0}
AreInOrder at (t ∷ ts) = (at ≤ t.from) × AreInOrder t.to ts
