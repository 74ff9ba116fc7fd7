-- The items of a list, one after another.
use Rattle.std.proofs.Common.{◌≡◌, ◌∷◌, ℕ, ◌+◌, ◌<◌, ◌≤◌, ◌++◌, List, [], sym, ap, ◌∙◌, get_or, length, map, take, Some, slice_get}
use Rattle.std.proofs.lemmas.List.{map-append, take_all, take_more}
use Rattle.std.proofs.lemmas.Option.{slice_get-get_or}

pub item-at : {X : Type 0} (xs : List X) (i : ℕ) (x d : X) → i < length xs → x ≡ get_or xs i d → slice_get xs i ≡ Some x
item-at xs i x d lt e = slice_get-get_or xs i d lt ∙ ap Some (sym e)

-- what is made of each item so far, and of all
module _ {X Y : Type 0} (f : X → Y) (xs : List X) (i : ℕ) where
  pub map-more : (x d : X) (ys more : List Y) (y : Y) → i < length xs → x ≡ get_or xs i d → y ≡ f x → more ≡ ys ++ y ∷ [] → ys ≡ map f (take i xs) → more ≡ map f (take (i + 1) xs)
  map-more x d ys more y lt e made new h =
      new
      ∙ (λ j. h j ++ made j ∷ [])
      ∙ sym (map-append f (take i xs) (x ∷ []))
      ∙ ap (λ z. map f (take i xs ++ z ∷ [])) e
      ∙ ap (map f) (sym (take_more xs i d lt))

  pub map-all : (ys : List Y) → length xs ≤ i → ys ≡ map f (take i xs) → ys ≡ map f xs
  map-all ys le h = h ∙ ap (map f) (take_all i xs le)
