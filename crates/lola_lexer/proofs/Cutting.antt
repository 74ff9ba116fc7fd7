-- Cutting gives the tokens of a text, or where it stops.
use Rattle.std.proofs.Common.{◌≡◌, ℕ, zero, suc, ◌+◌, ◌-◌, ◌≤◌, List, [], ◌∷◌, length, drop, Result, Ok, Err, refl, ap, subst, arith}
use Rattle.lola_value.specs.declared.front.Code.TheVariants.{BadToken}
use Rattle.lola_value.specs.declared.front.FrontEnd.{FrontEnd}
use Rattle.lola_value.specs.declared.front.FrontEnd.TheVariants.{Refused, Memory}
use Rattle.lola_lexer.specs.declared.shape.TokenShape.{TokenShape}
use Rattle.lola_lexer.specs.declared.scan.thing.Thing.{Thing}
use Rattle.lola_lexer.specs.declared.scan.thing.Thing.TheVariants as thing
use Rattle.lola_lexer.specs.declared.token.Token.{Token}
use Rattle.lola_lexer.specs.Spelling.{Bytes}
use Rattle.lola_lexer.specs.Lexical.{thing_at}
use Rattle.lola_lexer.specs.Longest.{IsLongest, GapAt}
use Rattle.lola_lexer.specs.Cuts.{IsWhole, StopsAt, IsCut}
use Rattle.lola_lexer.specs.Tokens.{Cut, with_front, after, tokens_from, Gives}
use Rattle.lola_lexer.proofs.TheLongest.{found_longest}
use Rattle.lola_lexer.proofs.Complete.{found_gap, found_stands}
use Rattle.lola_lexer.proofs.Bad.{bad_is_nothing}

-- the text from the place on is cut so
abbrev CutsTo : ℕ → Bytes → Cut → Type 0
CutsTo at z (Ok ts) = IsWhole z at ts
CutsTo at z (Err r) = (r.code ≡ BadToken) × StopsAt z at r.at

gap_more : (at n : ℕ) (z : Bytes) (c : Cut) → GapAt z n → CutsTo (at + n) (drop n z) c → CutsTo at z c
gap_more at n z (Ok ts) gap h = record { things = thing.Gap n ∷ h.things; covers = (gap, h.covers); among = h.among }
gap_more at n z (Err r) gap (is, h) = (
  is,
  record {
    things = thing.Gap n ∷ h.things;
    rest = h.rest;
    covers = (gap, h.covers);
    is = omega (arith, h.is);
    some = h.some;
    nothing = h.nothing;
  },
)

token_more : (at n : ℕ) (s : TokenShape) (z : Bytes) (c : Cut) → IsLongest z s n → CutsTo (at + n) (drop n z) c
    → CutsTo at z (with_front (record { shape = s; from = at; to = at + n } ∷ []) c)
token_more at n s z (Ok ts) token h =
    record {
      things = thing.Token s n ∷ h.things;
      covers = (token, h.covers);
      among = ap (λ (l : List Token). record { shape = s; from = at; to = at + n } ∷ l) h.among;
    }
token_more at n s z (Err r) token (is, h) = (
  is,
  record {
    things = thing.Token s n ∷ h.things;
    rest = h.rest;
    covers = (token, h.covers);
    is = omega (arith, h.is);
    some = h.some;
    nothing = h.nothing;
  },
)

turned : (at n b : ℕ) (z : Bytes) (c : Cut) → 1 ≤ n → CutsTo (suc at + (n - 1)) (drop (n - 1) z) c → CutsTo (at + n) (drop n (b ∷ z)) c
turned at zero b z c some h = absurd (omega (arith, some))
turned at (suc m) b z c some h =
    let less : suc m - 1 ≡ m = omega arith in
    let to : suc at + m ≡ at + suc m = omega arith in
    subst (λ (k : ℕ). CutsTo k (drop m z) c) to (rw less at h)

by_thing : (at b : ℕ) (z : Bytes) (t : Thing) → thing_at (b ∷ z) ≡ t → ((skip : ℕ) → CutsTo (suc at + skip) (drop skip z) (tokens_from skip (suc at) z))
    → CutsTo at (b ∷ z) (after at t (λ skip. tokens_from skip (suc at) z))
by_thing at b z (thing.Gap n) is next =
    let gap = found_gap (b ∷ z) n is in
    gap_more at n (b ∷ z) (tokens_from (n - 1) (suc at) z) gap (turned at n b z (tokens_from (n - 1) (suc at) z) gap.some (next (n - 1)))
by_thing at b z (thing.Token s n) is next =
    let token = found_longest (b ∷ z) s n is in
    let some : 1 ≤ n = (found_stands (b ∷ z) s n is).some in
    token_more at n s (b ∷ z) (tokens_from (n - 1) (suc at) z) token (turned at n b z (tokens_from (n - 1) (suc at) z) some (next (n - 1)))
by_thing at b z thing.Bad is next =
    (refl, record { things = []; rest = b ∷ z; covers = refl; is = omega arith; some = omega arith; nothing = bad_is_nothing (b ∷ z) is })

nothing_left : (skip : ℕ) → drop {A = ℕ} skip [] ≡ []
nothing_left zero = refl
nothing_left (suc skip) = refl

cuts_from : (skip at : ℕ) (z : Bytes) → CutsTo (at + skip) (drop skip z) (tokens_from skip at z)
cuts_from skip at [] = record { things = []; covers = nothing_left skip; among = refl }
cuts_from (suc skip) at (b ∷ z) =
    let to : suc at + skip ≡ at + suc skip = omega arith in
    subst (λ (k : ℕ). CutsTo k (drop skip z) (tokens_from skip (suc at) z)) to (cuts_from skip (suc at) z)
cuts_from zero at (b ∷ z) =
    let to : at ≡ at + 0 = omega arith in
    subst (λ (k : ℕ). CutsTo k (b ∷ z) (tokens_from zero at (b ∷ z))) to (by_thing at b z (thing_at (b ∷ z)) refl (λ skip. cuts_from skip (suc at) z))

short_cut : (z : Bytes) (r : Result (List Token) FrontEnd) (c : Cut) → length z ≤ 1_048_576 → CutsTo 0 z c → Gives r c → IsCut z r
short_cut z (Ok ts) c short h is = (short, subst (CutsTo 0 z) is h)
short_cut z (Err Memory) c short h is = tt
short_cut z (Err (Refused r)) c short h is =
    let p : CutsTo 0 z (Err r) = subst (CutsTo 0 z) is h in
    rw (p.0) (short, p.1)

pub given_is_cut : (z : Bytes) (r : Result (List Token) FrontEnd) → length z ≤ 1_048_576 → Gives r (tokens_from 0 0 z) → IsCut z r
given_is_cut z r short is = short_cut z r (tokens_from 0 0 z) short (cuts_from 0 0 z) is
