-- What takes a nesting for each level that is nested.
use Rattle.std.proofs.Common.{◌≡◌, ℕ, suc, ◌≤◌, true, arith}
use Rattle.std.proofs.lemmas.Bool.{and_from}
use Rattle.lola_parser_grammar.specs.Syntax.{Syntax, Then, Map, Either, Maybe, Many}
use Rattle.lola_parser_grammar.specs.Nestings.{lower, least, guards}
use Rattle.lola_parser_grammar.proofs.Within.{lower_is}

-- whatever is nested deeper than all is read after at least n nestings
abbrev pub IsDeep : {A : Type 0} → ℕ → Syntax A → Type 0
IsDeep n s = (k : ℕ) → k ≤ n → guards k s ≡ true

pub deep_less : {A : Type 0} (s : Syntax A) (n m : ℕ) → m ≤ n → IsDeep n s → IsDeep m s
deep_less s n m le h k low = h k (omega (arith, le, low))

pub deep_map : {A B : Type 0} (f : A → B) (a : Syntax A) (n : ℕ) → IsDeep n a → IsDeep n (Map f a)
unfolding guards
deep_map f a n h = h

pub deep_then : {A B : Type 0} (a : Syntax A) (b : Syntax B) (n : ℕ) → IsDeep n a → IsDeep n b → IsDeep n (Then a b)
unfolding guards
deep_then a b n h i k low = and_from (guards k a) (guards (lower k (least a)) b) (h k low) (i (lower k (least a)) (omega (arith, low, lower_is k (least a))))

-- behind a nesting there is one level more
pub deep_behind : {A B : Type 0} (a : Syntax A) (b : Syntax B) (n : ℕ) → least a ≡ 1 → IsDeep (suc n) a → IsDeep n b → IsDeep (suc n) (Then a b)
unfolding guards
deep_behind a b n one h i k low = and_from (guards k a) (guards (lower k (least a)) b) (h k low) (i (lower k (least a)) (omega (arith, low, one, lower_is k (least a))))

pub deep_either : {A : Type 0} (a b : Syntax A) (n : ℕ) → IsDeep n a → IsDeep n b → IsDeep n (Either a b)
unfolding guards
deep_either a b n h i k low = and_from (guards k a) (guards k b) (h k low) (i k low)

pub deep_maybe : {A : Type 0} (a : Syntax A) (n : ℕ) → IsDeep n a → IsDeep n (Maybe a)
unfolding guards
deep_maybe a n h = h

pub deep_many : {A : Type 0} (a : Syntax A) (n : ℕ) → IsDeep n a → IsDeep n (Many a)
unfolding guards
deep_many a n h = h
