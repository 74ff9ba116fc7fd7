-- One turn of the loop over a text.
use Rattle.std.proofs.Common.{◌≡◌, ℕ, zero, suc, ◌+◌, ◌-◌, ◌≤◌, List, [], ◌∷◌, ◌++◌, length, drop, Ok, Err, refl, ap, ◌∙◌, append_assoc, arith, add-zero}
use Rattle.lola_lexer.specs.declared.scan.thing.Thing.TheVariants as thing
use Rattle.lola_lexer.specs.declared.shape.TokenShape.{TokenShape}
use Rattle.lola_lexer.specs.declared.token.Token.{Token}
use Rattle.lola_lexer.specs.Spelling.{Bytes}
use Rattle.lola_lexer.specs.Lexical.{thing_at}
use Rattle.lola_lexer.specs.Tokens.{Cut, with_front, after, tokens_from}

skipped : (k at : ℕ) (z : Bytes) → tokens_from k at z ≡ tokens_from 0 (at + k) (drop k z)
skipped zero at z = rw add-zero refl
skipped (suc k) at [] = refl
skipped (suc k) at (b ∷ z) =
    let e : suc at + k ≡ at + suc k = omega arith in
    skipped k (suc at) z ∙ ap (λ n. tokens_from 0 n (drop k z)) e

behind : (n at b : ℕ) (z : Bytes) → 1 ≤ n → tokens_from (n - 1) (suc at) z ≡ tokens_from 0 (at + n) (drop n (b ∷ z))
behind zero at b z h = absurd (omega (arith, h))
behind (suc m) at b z h =
    let e : suc m - 1 ≡ m = omega arith in
    ap (λ k. tokens_from k (suc at) z) e ∙ skipped m (suc at) z ∙ ap (λ k. tokens_from 0 k (drop m z)) (omega arith)

pub gap_goes : (z : Bytes) (at n : ℕ) → thing_at z ≡ thing.Gap n → 1 ≤ n → n ≤ length z → tokens_from 0 at z ≡ tokens_from 0 (at + n) (drop n z)
gap_goes [] at n is low high = absurd (omega (arith, low, high))
gap_goes (b ∷ z) at n is low high = ap (λ t. after at t (λ skip. tokens_from skip (suc at) z)) is ∙ behind n at b z low

pub token_goes : (z : Bytes) (at n : ℕ) (shape : TokenShape) → thing_at z ≡ thing.Token shape n → 1 ≤ n → n ≤ length z
    → tokens_from 0 at z ≡ with_front (record { shape = shape; from = at; to = at + n } ∷ []) (tokens_from 0 (at + n) (drop n z))
token_goes [] at n shape is low high = absurd (omega (arith, low, high))
token_goes (b ∷ z) at n shape is low high =
    ap (λ t. after at t (λ skip. tokens_from skip (suc at) z)) is ∙ ap (with_front (record { shape = shape; from = at; to = at + n } ∷ [])) (behind n at b z low)

pub regroup : (front : List Token) (t : Token) (c : Cut) → with_front (front ++ t ∷ []) c ≡ with_front front (with_front (t ∷ []) c)
regroup front t (Ok ts) = ap (λ (l : List Token). Ok l) (append_assoc front (t ∷ []) ts)
regroup front t (Err f) = refl
