-- Which tokens come next, one test after the other.
use Rattle.std.proofs.Common.{◌≡◌, Bool, true, false, ◌||◌, List, [], ◌∷◌, refl}
use Rattle.lola_parser_grammar.specs.Syntax.{Lexeme, Terminal, any_fits, fits, starts}

one_test : (a b : Bool) → (a || b) ≡ ((a || false) || b)
one_test true b = refl
one_test false b = refl

pub starts_more : (k l : Terminal) (ks : List Terminal) (ts : List Lexeme) → starts (k ∷ l ∷ ks) ts ≡ (starts (k ∷ []) ts || starts (l ∷ ks) ts)
starts_more k l ks [] = refl
starts_more k l ks (t ∷ ts) = one_test (fits k t) (any_fits (l ∷ ks) t)
