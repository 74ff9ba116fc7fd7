-- One element of a list is changed.
use Rattle.std.proofs.Common.{◌≡◌, ℕ, zero, suc, List, [], ◌∷◌, Some, None, map, set, refl, sym, ap, ◌∙◌}
use Rattle.std.proofs.lemmas.Option.{slice_get-map, get_or_from_slice_get}
use Rattle.std.proofs.Math.Seq.{map-set_same}
use Rattle.std.specs.Prelude.{option_map, slice_get, unwrap_or}

pub some_is : {A : Type 0} {x y : A} → Some x ≡ Some y → x ≡ y
some_is {x = x} e = ap (λ o. unwrap_or o x) e

pub some_not : {A : Type 0} {x : A} → Some x ≡ None → ⊥
some_not e = absurd (cc e)

-- what stands at a place of a list that was mapped
pub at_mapped : {A B : Type 0} (f : A → B) (xs : List A) (k : ℕ) (x : A) → slice_get xs k ≡ Some x → slice_get (map f xs) k ≡ Some (f x)
at_mapped f xs k x is = slice_get-map f xs k ∙ ap (option_map f) is

-- what f tells of each element is as it was
pub mapped_same : {A B : Type 0} (f : A → B) (xs ys : List A) (k : ℕ) (x y : A) → slice_get xs k ≡ Some x → ys ≡ set xs k y → f y ≡ f x → map f ys ≡ map f xs
mapped_same f xs ys k x y was now same = ap (map f) now ∙ map-set_same f xs k y x (same ∙ ap f (sym (get_or_from_slice_get xs k x x was)))

-- and what it was before
pub from_mapped : {A B : Type 0} (f : A → B) (xs : List A) (k : ℕ) (y : B) → slice_get (map f xs) k ≡ Some y → (x : A) × ((slice_get xs k ≡ Some x) × (y ≡ f x))
from_mapped f [] k y is = absurd (some_not (sym is))
from_mapped f (x ∷ xs) zero y is = (x, (refl, some_is (sym is)))
from_mapped f (x ∷ xs) (suc k) y is = from_mapped f xs k y is
