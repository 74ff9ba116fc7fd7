-- One level further in.
use Rattle.std.proofs.Common.{◌≡◌, ℕ, zero, suc, ◌-◌, ◌<◌, Bool, true, false, List, Err, refl, ap, arith}
use Rattle.lola_parser_grammar.specs.Syntax.{Lexeme, read, TooDeep}
use Rattle.lola_parser_grammar.specs.Grammar.{level, nested, expr_with, other_with, expr_in, other_in}

pub nested_ends : (b : Bool) (n m : ℕ) (ts : List Lexeme) → n ≡ 0 → read (nested b n) m ts ≡ Err (TooDeep ts)
unfolding read level
nested_ends true n m ts h = rw h refl
nested_ends false n m ts h = rw h refl

pub nested_whole : (b : Bool) (n m : ℕ) (ts : List Lexeme) → b ≡ true → 0 < n → read (nested b n) m ts ≡ read (expr_with (expr_in (n - 1)) (other_in (n - 1))) m ts
unfolding read level
nested_whole true zero m ts e h = absurd (omega (arith, h))
nested_whole true (suc n) m ts e h = let k : n ≡ suc n - 1 = omega arith in ap (λ i. read (expr_with (expr_in i) (other_in i)) m ts) k
nested_whole false n m ts e h = absurd cc

pub nested_other : (b : Bool) (n m : ℕ) (ts : List Lexeme) → b ≡ false → 0 < n → read (nested b n) m ts ≡ read (other_with (expr_in (n - 1)) (other_in (n - 1))) m ts
unfolding read level
nested_other false zero m ts e h = absurd (omega (arith, h))
nested_other false (suc n) m ts e h = let k : n ≡ suc n - 1 = omega arith in ap (λ i. read (other_with (expr_in i) (other_in i)) m ts) k
nested_other true n m ts e h = absurd cc
