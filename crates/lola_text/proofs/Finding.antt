-- A search for a number among those that rise.
use Rattle.std.proofs.Common.{◌≡◌, ℕ, zero, suc, ◌+◌, ◌<◌, ◌≤◌, false, List, [], ◌∷◌, Some, None, Result, Ok, Err, length, nat_eq, get_or, slice_get, refl, ap, ◌∙◌, arith, inl, inr, Equal, Less, Greater}
use Rattle.std.specs.List.{list_any}
use Rattle.std.specs.List.Sorted.{IsBinarySearchResult, IsSearchInRange}
use Rattle.std.specs.Ordering.{nat_cmp, ordering_index}
use Rattle.std.specs.Result.{result_ok}
use Rattle.std.proofs.lemmas.Bool.{cases_lt, eq-eqb, ne_eqb, or_parts}
use Rattle.std.proofs.lemmas.Bool.Decides.{nat_tests}
use Rattle.std.proofs.lemmas.List.Folds.{list_any_none}
use Rattle.lola_value.specs.Naming.{text_at}
use Rattle.lola_text.specs.Flags.{Entry, IsPlaceOf, NumbersRise, RiseFrom, has_number, naming_of}

-- a number is at least the bound from which they rise
pub rise-least : (low : ℕ) (es : List Entry) (j : ℕ) (d : Entry) → RiseFrom low es → j < length es → low ≤ (get_or es j d).1.number
rise-least low [] j d rise within = absurd (omega arith)
rise-least low (e ∷ es) zero d rise within = rise.0
rise-least low (e ∷ es) (suc j) d rise within =
    let more = rise-least (e.1.number + 1) es j d rise.1 (omega arith) in
    omega (arith, rise.0, more)

rise-order : (low : ℕ) (es : List Entry) (i j : ℕ) (d : Entry) → RiseFrom low es → i ≤ j → j < length es → (get_or es i d).1.number ≤ (get_or es j d).1.number
rise-order low [] i j d rise le within = absurd (omega arith)
rise-order low (e ∷ es) zero zero d rise le within = omega arith
rise-order low (e ∷ es) zero (suc j) d rise le within =
    let more = rise-least (e.1.number + 1) es j d rise.1 (omega arith) in omega (arith, more)
rise-order low (e ∷ es) (suc i) zero d rise le within = absurd (omega arith)
rise-order low (e ∷ es) (suc i) (suc j) d rise le within = rise-order (e.1.number + 1) es i j d rise.1 (omega arith) (omega arith)

index-rises : (a b n : ℕ) → a ≤ b → ordering_index (nat_cmp a n) ≤ ordering_index (nat_cmp b n)
index-rises a b n le = grind (arith, nat_tests)

equal-means : (a n : ℕ) → nat_cmp a n ≡ Equal → a ≡ n
equal-means a n is = grind (arith, nat_tests)

less-means : (a n : ℕ) → nat_cmp a n ≡ Less → nat_eq a n ≡ false
less-means a n is = grind (arith, nat_tests)

greater-means : (a n : ℕ) → nat_cmp a n ≡ Greater → nat_eq a n ≡ false
greater-means a n is = grind (arith, nat_tests)

-- what a binary search says of numbers that rise
pub searched : (es : List Entry) (number : ℕ) (r : Result ℕ ℕ) → NumbersRise es → IsSearchInRange r (length es) → IsBinarySearchResult (λ e. nat_cmp e.1.number number) es r → IsPlaceOf number es (result_ok r)
searched es number (Ok i) rise within is = (within, λ d. equal-means (get_or es i d).1.number number (is d))
searched es number (Err i) rise within is =
    let parts = is (λ a b d le inside. index-rises (get_or es a d).1.number (get_or es b d).1.number number (rise-order 0 es a b d rise le inside)) in
    list_any_none (has_number number) es (λ k d inside.
    let none : nat_eq (get_or es k d).1.number number ≡ false = elim (cases_lt k i) [
      | inl before ↦ less-means (get_or es k d).1.number number (parts.0 k d (omega arith) before)
      | inr after ↦ greater-means (get_or es k d).1.number number (parts.1 k d after inside)
    ] in none)

-- the text under a number that is not there, and under one that is
pub text-nowhere : (es : List Entry) (number : ℕ) → list_any (has_number number) es ≡ false → text_at (naming_of es) number ≡ None
text-nowhere [] number none = refl
text-nowhere (e ∷ es) number none = let two = or_parts (has_number number e) (list_any (has_number number) es) none in rw two.0 (text-nowhere es number two.1)

pub text-there : (low : ℕ) (es : List Entry) (number i : ℕ) (d : Entry) → RiseFrom low es → i < length es → (get_or es i d).1.number ≡ number → text_at (naming_of es) number ≡ Some (get_or es i d).0
text-there low [] number i d rise within is = absurd (omega arith)
text-there low (e ∷ es) number zero d rise within is = rw (eq-eqb e.1.number number is) refl
text-there low (e ∷ es) number (suc i) d rise within is =
    let above = rise-least (e.1.number + 1) es i d rise.1 (omega arith) in
    let other : nat_eq e.1.number number ≡ false = ne_eqb e.1.number number (λ same. absurd (omega (arith, same, is, above))) in
    rw other (text-there (e.1.number + 1) es number i d rise.1 (omega arith) is)

entry-at : (es : List Entry) (i : ℕ) (d e : Entry) → slice_get es i ≡ Some e → get_or es i d ≡ e
entry-at [] i d e is = absurd (cc is)
entry-at (x ∷ xs) zero d e is = cc is
entry-at (x ∷ xs) (suc i) d e is = entry-at xs i d e is

-- the text of an entry whose number is this one
pub text-place : (es : List Entry) (number i : ℕ) (e : Entry) → NumbersRise es → IsPlaceOf number es (Some i) → slice_get es i ≡ Some e → text_at (naming_of es) number ≡ Some e.0
text-place es number i e rise place is =
    text-there 0 es number i e rise place.0 (place.1 e) ∙ ap (λ (x : Entry). Some x.0) (entry-at es i e e is)
