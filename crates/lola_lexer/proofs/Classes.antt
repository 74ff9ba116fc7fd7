-- Classes of bytes do not meet.
use Rattle.std.proofs.Common.{◌≡◌, ℕ, Bool, true, false, ◌||◌, ◌==◌, refl, sym, ap, ◌∙◌, true≢false, arith, eqb-true}
use Rattle.std.specs.Char.{is_ascii_digit}
use Rattle.std.specs.Int.{is_in_range}
use Rattle.std.proofs.lemmas.Bool.Decides.{nat_tests}
use Rattle.std.proofs.lemmas.Bool.{false_from_ne_true}
use Rattle.lola_lexer.specs.Spelling.{begins_name, in_name, is_blank}

-- a byte of a class is none that the class lacks
pub differs : (p : ℕ → Bool) (b k : ℕ) → p b ≡ true → p k ≡ false → (b == k) ≡ false
differs p b k in' out = false_from_ne_true (b == k) (λ e. true≢false (sym in' ∙ ap p (eqb-true b k e) ∙ out))

is_also : (d u l x : Bool) → ((u || l) || x) ≡ true → (((d || u) || l) || x) ≡ true
is_also true u l x h = refl
is_also false u l x h = h

pub begins_in : (b : ℕ) → begins_name b ≡ true → in_name b ≡ true
begins_in b h = is_also (is_in_range 48 57 b) (is_in_range 65 90 b) (is_in_range 97 122 b) (b == 95) h

pub digit_in : (b : ℕ) → is_ascii_digit b ≡ true → in_name b ≡ true
digit_in b h = rw h refl

pub digit_begins_none : (b : ℕ) → is_ascii_digit b ≡ true → begins_name b ≡ false
digit_begins_none b h = grind (arith, nat_tests)

pub name_is_no_blank : (b : ℕ) → begins_name b ≡ true → is_blank b ≡ false
name_is_no_blank b h =
    rw (differs begins_name b 32 h refl, differs begins_name b 9 h refl, differs begins_name b 10 h refl, differs begins_name b 13 h refl) refl

pub digit_is_no_blank : (b : ℕ) → is_ascii_digit b ≡ true → is_blank b ≡ false
digit_is_no_blank b h =
    rw (differs is_ascii_digit b 32 h refl, differs is_ascii_digit b 9 h refl, differs is_ascii_digit b 10 h refl, differs is_ascii_digit b 13 h refl) refl
