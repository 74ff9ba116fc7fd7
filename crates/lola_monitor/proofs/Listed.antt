-- Lists in step, by their places.
use Rattle.std.proofs.Common.{◌≡◌, ℕ, List, [], ◌∷◌, Option, None, Some, get_or, length, slice_get, map, refl, sym, ap, ◌∙◌, arith}
use Rattle.std.specs.Option.{option_map}
use Rattle.std.proofs.lemmas.Option.{slice_get-get_or, slice_get-map, slice_get_within}

-- beside a member of one list stands one of the other
pub get_beside : {X Y : Type 0} (xs : List X) (ys : List Y) (n : ℕ) (x : X) → length ys ≡ length xs → slice_get xs n ≡ Some x → (y : Y) × (slice_get ys n ≡ Some y)
get_beside xs [] n x many is = absurd (omega (arith, slice_get_within xs n x is, many))
get_beside xs (y ∷ ys) n x many is = (get_or (y ∷ ys) n y, slice_get-get_or (y ∷ ys) n y (omega (arith, slice_get_within xs n x is, many)))

some_of : {X Y : Type 0} (f : X → Y) (o : Option X) (y : Y) → option_map f o ≡ Some y → (x : X) × (o ≡ Some x) × (y ≡ f x)
some_of f None y is = absurd (cc)
some_of f (Some x) y is = (x, refl, cc)

-- a member of a list of images is the image of a member
pub get_image : {X Y : Type 0} (f : X → Y) (xs : List X) (n : ℕ) (y : Y) → slice_get (map f xs) n ≡ Some y → (x : X) × (slice_get xs n ≡ Some x) × (y ≡ f x)
get_image f xs n y is = some_of f (slice_get xs n) y (sym (slice_get-map f xs n) ∙ is)

-- and the image of a member is one of the images
pub image_get : {X Y : Type 0} (f : X → Y) (xs : List X) (n : ℕ) (x : X) → slice_get xs n ≡ Some x → slice_get (map f xs) n ≡ Some (f x)
image_get f xs n x is = slice_get-map f xs n ∙ ap (option_map f) is
