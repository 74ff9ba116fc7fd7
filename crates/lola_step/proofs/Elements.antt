-- The elements of lists by their places.
use Rattle.std.proofs.Common.{◌≡◌, refl, ap, ◌∙◌, sym, ℕ, zero, suc, ◌+◌, ◌<◌, ◌≤◌, List, [], ◌∷◌, Some, subst, slice_get, get_or, drop, length, arith, add-one}
use Rattle.std.proofs.lemmas.Option.{slice_get_read}

-- an element of a list
pub record Element {A : Type 0} (xs : List A) (i : ℕ) : Type 0 where
  pub at : A
  pub is : slice_get xs i ≡ Some at

-- where there is one
pub element : {A : Type 0} (xs : List A) (i : ℕ) → i < length xs → Element xs i
element [] i lt = absurd (omega arith)
element (x ∷ xs) zero lt = record { at = x; is = refl }
element (x ∷ xs) (suc i) lt = let e : Element xs i = element xs i (omega arith) in record { at = e.at; is = e.is }

-- the element that a loop over a list's items reads
module _ {A : Type 0} (items xs : List A) (n : ℕ) (same : items ≡ xs) (below : n < length items) where
  pub read_below : n < length xs
  read_below = omega (arith, ap length same)

  pub read_is : (x : A) → x ≡ get_or items n x → slice_get xs n ≡ Some x
  read_is x e = slice_get_read xs (length xs) n x refl read_below (e ∙ ap (λ ys. get_or ys n x) same)

-- what is left from a place on begins with the element there
cut_suc : {A : Type 0} (xs : List A) (i : ℕ) (x : A) → slice_get xs i ≡ Some x → drop i xs ≡ x ∷ drop (suc i) xs
cut_suc [] i x e = absurd (cc)
cut_suc (y ∷ ys) zero x e = let p : y ≡ x = cc in ap (λ z. z ∷ ys) p
cut_suc (y ∷ ys) (suc i) x e = cut_suc ys i x e

pub cut : {A : Type 0} (xs : List A) (i : ℕ) (x : A) → slice_get xs i ≡ Some x → drop i xs ≡ x ∷ drop (i + 1) xs
cut xs i x e = cut_suc xs i x e ∙ ap (λ k. x ∷ drop k xs) (sym (add-one i))

-- past the end nothing is left
pub drop_past : {A : Type 0} (xs : List A) (i : ℕ) → length xs ≤ i → drop i xs ≡ []
drop_past [] zero le = refl
drop_past [] (suc i) le = refl
drop_past (x ∷ xs) zero le = absurd (omega arith)
drop_past (x ∷ xs) (suc i) le = drop_past xs i (omega arith)

-- elements that are those of a list from a place on
abbrev pub AreFrom : {A : Type 0} → List A → ℕ → List A → Type 0
AreFrom {A} all i xs = (j k : ℕ) (x : A) → k ≡ i + j → slice_get xs j ≡ Some x → slice_get all k ≡ Some x

pub from_first : {A : Type 0} (all : List A) → AreFrom all 0 all
from_first all j k x e at = subst (λ q. slice_get all q ≡ Some x) (omega arith) at

pub from_here : {A : Type 0} (all : List A) (i : ℕ) (x : A) (xs : List A) → AreFrom all i (x ∷ xs) → slice_get all i ≡ Some x
from_here all i x xs from = from 0 i x (omega arith) refl

pub from_later : {A : Type 0} (all : List A) (i : ℕ) (x : A) (xs : List A) → AreFrom all i (x ∷ xs) → AreFrom all (i + 1) xs
from_later all i x xs from j k y e at = from (suc j) k y (omega arith) at
