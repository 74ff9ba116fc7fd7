-- One level further in.
use Rattle.std.proofs.Common.{◌≡◌, ℕ, zero, suc, ◌-◌, ◌<◌, List, Err, refl, ap, arith}
use Rattle.lola_parser_grammar.specs.Syntax.{Lexeme, read, TooDeep}
use Rattle.lola_parser_grammar.specs.Grammar.{formula_level, formula_with, formula_in}

pub formula_ends : (n m : ℕ) (ts : List Lexeme) → n ≡ 0 → read (formula_in n) m ts ≡ Err (TooDeep ts)
unfolding read formula_level
formula_ends n m ts h = rw h refl

pub formula_nested : (n m : ℕ) (ts : List Lexeme) → 0 < n → read (formula_in n) m ts ≡ read (formula_with (formula_in (n - 1))) m ts
unfolding read formula_level
formula_nested zero m ts h = absurd (omega (arith, h))
formula_nested (suc n) m ts h = let k : n ≡ suc n - 1 = omega arith in ap (λ i. read (formula_with (formula_in i)) m ts) k
