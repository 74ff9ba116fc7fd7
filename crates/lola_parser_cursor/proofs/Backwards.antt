-- Back to the last nesting that was read.
use Rattle.std.proofs.Common.{◌≡◌, ℕ, suc, ◌<◌, true, false, List, [], ◌∷◌, length, drop, refl, arith}
use Rattle.lola_parser_grammar.specs.Syntax.{Lexeme, Terminal, starts, last_nesting}

pub none_left : (ks : List Terminal) (best ts : List Lexeme) → last_nesting ks 0 best ts ≡ best
none_left ks best [] = refl
none_left ks best (t ∷ ts) = refl

pub next_nesting : (ks : List Terminal) (n : ℕ) (best : List Lexeme) (ts : List Lexeme) → 0 < length ts → starts ks ts ≡ true → last_nesting ks (suc n) best ts ≡ last_nesting ks n ts (drop 1 ts)
next_nesting ks n best [] some h = absurd cc
next_nesting ks n best (t ∷ ts) some h = rw h refl

pub next_other : (ks : List Terminal) (n : ℕ) (best : List Lexeme) (ts : List Lexeme) → 0 < length ts → starts ks ts ≡ false → last_nesting ks (suc n) best ts ≡ last_nesting ks n best (drop 1 ts)
next_other ks n best [] some h = absurd (omega (arith, some))
next_other ks n best (t ∷ ts) some h = rw h refl
