-- A text that calls for quotes is one in which a search finds a byte that does.
use Rattle.std.specs.Prelude.{◌||◌}
use Rattle.std.proofs.Common.{◌≡◌, ℕ, suc, ◌<◌, Bool, true, false, List, [], ◌∷◌, Option, Some, None, length, get_or, nat_eq, refl, sym, ap, ◌∙◌, arith}
use Rattle.std.specs.Option.{is_some}
use Rattle.std.specs.List.{list_any}
use Rattle.std.proofs.lemmas.Bool.{false_from_ne_true}
use Rattle.std.proofs.lemmas.List.Folds.{list_any_at}
use Rattle.memchr.specs.Find.{IsFirstByte, is_byte2}
use Rattle.csv.specs.Writing.{default_writer, needs_byte, needs_quotes}

none-at-all : (p : ℕ → Bool) (xs : List ℕ) → ((k : ℕ) → k < length xs → p (get_or xs k 0) ≡ false) → list_any p xs ≡ false
none-at-all p [] none = refl
none-at-all p (x ∷ xs) none = rw (none 0 (omega arith)) (none-at-all p xs (λ k lt. none (suc k) (omega arith)))

-- whether a search finds a byte
pub found-any : (p : ℕ → Bool) (xs : List ℕ) (r : Option ℕ) → IsFirstByte p xs r → is_some r ≡ list_any p xs
found-any p xs None first = sym (none-at-all p xs (λ k lt. false_from_ne_true _ (first k (omega arith) lt)))
found-any p xs (Some k) first = sym (list_any_at p xs k 0 first.0.high first.1)

shuffled : (a b c d : Bool) → ((a || b) || (c || d)) ≡ ((a || c) || (b || d))
shuffled true b c d = refl
shuffled false true true d = refl
shuffled false true false d = refl
shuffled false false c d = refl

-- a test that is one of two
any-two : (p q s : ℕ → Bool) → ((b : ℕ) → s b ≡ (p b || q b)) → (xs : List ℕ) → list_any s xs ≡ (list_any p xs || list_any q xs)
any-two p q s same [] = refl
any-two p q s same (x ∷ xs) =
    ap (λ t. t || list_any s xs) (same x) ∙ ap (λ t. (p x || q x) || t) (any-two p q s same xs) ∙ shuffled (p x) (q x) (list_any p xs) (list_any q xs)

or-neither : (t : Bool) → ((t || false) || false) ≡ t
or-neither true = refl
or-neither false = refl

-- the bytes that call for quotes
marks-are : (b : ℕ) → needs_byte default_writer b ≡ (is_byte2 44 34 b || is_byte2 13 10 b)
marks-are b = or-neither ((nat_eq b 44 || nat_eq b 34) || (nat_eq b 13 || nat_eq b 10))

pub quoted-any : (xs : List ℕ) → needs_quotes default_writer xs ≡ (list_any (is_byte2 44 34) xs || list_any (is_byte2 13 10) xs)
quoted-any xs = any-two (is_byte2 44 34) (is_byte2 13 10) (needs_byte default_writer) marks-are xs
