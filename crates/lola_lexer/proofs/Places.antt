-- Where the tokens of a text stand.
use Rattle.std.proofs.Common.{◌≡◌, ℕ, zero, suc, ◌+◌, ◌-◌, ◌≤◌, ◌<◌, List, [], ◌∷◌, length, Result, Ok, Err, IfOk, refl, subst, arith}
use Rattle.std.specs.List.{All}
use Rattle.std.proofs.lemmas.List.Elements.{All-nil, All-cons}
use Rattle.lola_value.specs.declared.front.FrontEnd.{FrontEnd}
use Rattle.lola_lexer.specs.declared.scan.thing.Thing.{Thing}
use Rattle.lola_lexer.specs.declared.scan.thing.Thing.TheVariants as thing
use Rattle.lola_lexer.specs.declared.token.Token.{Token}
use Rattle.lola_lexer.specs.Spelling.{Bytes}
use Rattle.lola_lexer.specs.Lexical.{thing_at}
use Rattle.lola_lexer.specs.Longest.{IsSound}
use Rattle.lola_lexer.specs.Tokens.{Cut, Gives, with_front, after, tokens_from, StandIn, AreInOrder}
use Rattle.lola_lexer.proofs.Sound.{sound}

-- tokens at or behind the place, each with bytes and behind the one before, up to the end
pub record Placed (at end : ℕ) (ts : List Token) : Type 0 where
  pub each : All (λ t. (t.from < t.to) × (t.to ≤ end)) ts
  pub in_order : AreInOrder at ts

sooner : (at at' end : ℕ) (ts : List Token) → at ≤ at' → Placed at' end ts → Placed at end ts
sooner at at' end [] h p = record { each = p.each; in_order = tt }
sooner at at' end (t ∷ ts) h p = record { each = p.each; in_order = (omega (arith, h, p.in_order.0), p.in_order.1) }

front_placed : (t : Token) (end : ℕ) (c : Cut) (ts : List Token) → t.from < t.to → t.to ≤ end → ((rest : List Token) → c ≡ Ok rest → Placed t.to end rest)
    → with_front (t ∷ []) c ≡ Ok ts → Placed t.from end ts
front_placed t end (Err r) ts some fits next h = cc
front_placed t end (Ok rest) ts some fits next h =
    let is : t ∷ rest ≡ ts = cc in
    let behind = next rest refl in
    subst (λ (l : List Token). Placed t.from end l) is
    (record { each = All-cons (λ t. (t.from < t.to) × (t.to ≤ end)) t rest (some, fits) behind.each; in_order = (omega arith, behind.in_order) })

thing_placed : (at b : ℕ) (z : Bytes) (found : Thing) (ts : List Token) → IsSound (b ∷ z) found
    → ((skip : ℕ) (rest : List Token) → tokens_from skip (suc at) z ≡ Ok rest → Placed (suc at + skip) (suc at + length z) rest)
    → after at found (λ skip. tokens_from skip (suc at) z) ≡ Ok ts → Placed at (at + suc (length z)) ts
thing_placed at b z (thing.Gap n) ts s next h =
    let end : at + suc (length z) ≡ suc at + length z = omega arith in
    rw end (sooner at (suc at + (n - 1)) (suc at + length z) ts (omega arith) (next (n - 1) ts h))
thing_placed at b z (thing.Token shape n) ts s next h =
    let end : at + suc (length z) ≡ suc at + length z = omega arith in
    let some : 1 ≤ n = s.some in
    let fits : n ≤ suc (length z) = s.fits in
    let to : suc at + (n - 1) ≡ at + n = omega (arith, some) in
    rw end
    (front_placed (record { shape = shape; from = at; to = at + n }) (suc at + length z) (tokens_from (n - 1) (suc at) z) ts (omega (arith, some)) (omega (arith, fits))
    (λ rest e. subst (λ (k : ℕ). Placed k (suc at + length z) rest) to (next (n - 1) rest e)) h)
thing_placed at b z thing.Bad ts s next h = cc

placed : (skip at : ℕ) (z : Bytes) (ts : List Token) → tokens_from skip at z ≡ Ok ts → Placed (at + skip) (at + length z) ts
placed skip at [] ts h =
    let is : [] ≡ ts = cc in
    subst (λ (l : List Token). Placed (at + skip) (at + 0) l) is (record { each = All-nil (λ t. (t.from < t.to) × (t.to ≤ at + 0)); in_order = tt })
placed (suc skip) at (b ∷ z) ts h =
    let from : at + suc skip ≡ suc at + skip = omega arith in
    let end : at + suc (length z) ≡ suc at + length z = omega arith in
    rw (from, end) (placed skip (suc at) z ts h)
placed zero at (b ∷ z) ts h =
    let from : at + 0 ≡ at = omega arith in
    rw from (thing_placed at b z (thing_at (b ∷ z)) ts (sound (b ∷ z)) (λ skip rest e. placed skip (suc at) z rest e) h)

pub tokens_placed : (z : Bytes) (ts : List Token) → tokens_from 0 0 z ≡ Ok ts → StandIn z ts × AreInOrder 0 ts
tokens_placed z ts h =
    let end : 0 + length z ≡ length z = omega arith in
    let p : Placed 0 (length z) ts = subst (λ (k : ℕ). Placed 0 k ts) end (placed 0 0 z ts h) in
    (p.each, p.in_order)

pub given_within : (z : Bytes) (r : Result (List Token) FrontEnd) → Gives r (tokens_from 0 0 z) → IfOk r (λ ts. StandIn z ts)
given_within z (Ok ts) h = (tokens_placed z ts h).0
given_within z (Err e) h = tt

pub given_in_order : (z : Bytes) (r : Result (List Token) FrontEnd) → Gives r (tokens_from 0 0 z) → IfOk r (λ ts. AreInOrder 0 ts)
given_in_order z (Ok ts) h = (tokens_placed z ts h).1
given_in_order z (Err e) h = tt
