-- A token that is a name has letters, digits and `_` alone.
use Rattle.std.proofs.Common.{◌≡◌, refl, subst, ℕ, zero, suc, ◌+◌, ◌-◌, List, [], ◌∷◌, IsTrue, Bool, true, false, cond, take, drop, Ok, Err, arith}
use Rattle.std.specs.List.{list_all}
use Rattle.std.proofs.lemmas.List.Sums.{list_all-from_AllPass}
use Rattle.lola_value.specs.declared.front.Refusal.{Refusal}
use Rattle.lola_lexer.specs.declared.shape.TokenShape.{TokenShape}
use Rattle.lola_lexer.specs.declared.shape.TokenShape.TheVariants as is
use Rattle.lola_lexer.specs.declared.scan.thing.Thing.{Thing}
use Rattle.lola_lexer.specs.declared.scan.thing.Thing.TheVariants as thing
use Rattle.lola_lexer.specs.declared.token.Token.{Token}
use Rattle.lola_lexer.specs.Spelling.{Bytes, in_name, IsToken}
use Rattle.lola_lexer.specs.Lexical.{thing_at}
use Rattle.lola_lexer.specs.Longest.{IsSound, StandsAt}
use Rattle.lola_lexer.specs.Tokens.{Cut, after, tokens_from, tokens_of, with_front}
use Rattle.lola_lexer.proofs.Sound.{sound}
use Rattle.lola_parser_grammar.specs.Syntax.{Lexeme}
use Rattle.lola_parser_grammar.specs.Cursor.{lexeme, lexemes}

-- a text of letters, digits and `_`
abbrev pub Word : List ℕ → Type 0
Word t = IsTrue (list_all in_name t)

-- a token that is one if it is a name
abbrev pub IsWorded : Lexeme → Type 0
IsWorded t = t.shape ≡ is.Name → Word t.text

abbrev pub Worded : List Lexeme → Type 0
Worded [] = Unit {0}
Worded (t ∷ ts) = IsWorded t × Worded ts

drop_next : (at b : ℕ) (z all : Bytes) → drop at all ≡ b ∷ z → drop (suc at) all ≡ z
drop_next zero b z [] h = cc
drop_next zero b z (x ∷ xs) h = cc
drop_next (suc at) b z [] h = cc
drop_next (suc at) b z (x ∷ xs) h = drop_next at b z xs h

module _ (all : Bytes) where
  token_worded : (at b n : ℕ) (z : Bytes) (s : TokenShape) → drop at all ≡ b ∷ z → StandsAt (b ∷ z) s n
      → IsWorded (lexeme all (record { shape = s; from = at; to = at + n }))
  token_worded at b n z s here stands e =
      let token : IsToken is.Name (take n (b ∷ z)) = subst (λ (k : TokenShape). IsToken k (take n (b ∷ z))) e stands.token in
      let size : at + n - at ≡ n = omega arith in
      rw (size, here) (list_all-from_AllPass in_name (take n (b ∷ z)) token.0.1)

  front_worded : (t : Token) (c : Cut) (ts : List Token) → IsWorded (lexeme all t) → ((rest : List Token) → c ≡ Ok rest → Worded (lexemes all rest))
      → with_front (t ∷ []) c ≡ Ok ts → Worded (lexemes all ts)
  front_worded t (Err r) ts w next h = cc
  front_worded t (Ok rest) ts w next h =
      let is : t ∷ rest ≡ ts = cc in
      subst (λ (l : List Token). Worded (lexemes all l)) is (w, next rest refl)

  of_thing : (at b : ℕ) (z : Bytes) (found : Thing) (ts : List Token) → drop at all ≡ b ∷ z → IsSound (b ∷ z) found
      → ((skip : ℕ) (rest : List Token) → tokens_from skip (suc at) z ≡ Ok rest → Worded (lexemes all rest))
      → after at found (λ skip. tokens_from skip (suc at) z) ≡ Ok ts → Worded (lexemes all ts)
  of_thing at b z (thing.Gap n) ts here s next h = next (n - 1) ts h
  of_thing at b z (thing.Token shape n) ts here s next h =
      front_worded (record { shape = shape; from = at; to = at + n }) (tokens_from (n - 1) (suc at) z) ts (token_worded at b n z shape here s) (next (n - 1)) h
  of_thing at b z thing.Bad ts here s next h = cc

  from_place : (skip at : ℕ) (z : Bytes) (ts : List Token) → drop at all ≡ z → tokens_from skip at z ≡ Ok ts → Worded (lexemes all ts)
  from_place skip at [] ts here h =
      let is : [] ≡ ts = cc in
      subst (λ (l : List Token). Worded (lexemes all l)) is tt
  from_place (suc skip) at (b ∷ z) ts here h = from_place skip (suc at) z ts (drop_next at b z all here) h
  from_place zero at (b ∷ z) ts here h =
      of_thing at b z (thing_at (b ∷ z)) ts here (sound (b ∷ z)) (λ skip rest e. from_place skip (suc at) z rest (drop_next at b z all here) e) h

not_long : (b : Bool) (long c : Cut) (ts : List Token) (r : Refusal) → long ≡ Err r → (cond b long c) ≡ Ok ts → c ≡ Ok ts
not_long true long c ts r e h = cc
not_long false long c ts r e h = h

pub tokens_worded : (bytes : Bytes) (ts : List Token) → tokens_of bytes ≡ Ok ts → Worded (lexemes bytes ts)
unfolding tokens_of
tokens_worded bytes ts h = from_place bytes 0 0 bytes ts refl (not_long _ _ (tokens_from 0 0 bytes) ts _ refl h)
