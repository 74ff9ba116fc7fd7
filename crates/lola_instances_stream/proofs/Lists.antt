-- Items of lists that are changed at one place.
use Rattle.std.proofs.Common.{◌≡◌, ℕ, zero, suc, ◌≤◌, ◌<◌, List, [], ◌∷◌, ◌++◌, length, map, refl, ap, ◌∙◌, subst, arith, Some, slice_get, slice_set}
use Rattle.std.specs.Prelude.{remove}

module _ {X : Type 0} where
  pub same_set : (xs : List X) (n : ℕ) (x y : X) → slice_get xs n ≡ Some x → slice_get (slice_set xs n y) n ≡ Some y
  same_set [] n x y e = absurd (cc)
  same_set (a ∷ xs) zero x y e = refl
  same_set (a ∷ xs) (suc n) x y e = same_set xs n x y e

  pub other_set : (xs : List X) (n m : ℕ) (y : X) → (m ≡ n → ⊥) → slice_get (slice_set xs n y) m ≡ slice_get xs m
  other_set [] n m y h = refl
  other_set (a ∷ xs) zero zero y h = absurd (h refl)
  other_set (a ∷ xs) zero (suc m) y h = refl
  other_set (a ∷ xs) (suc n) zero y h = refl
  other_set (a ∷ xs) (suc n) (suc m) y h = other_set xs n m y (λ q. h (ap suc q))

  module _ (P : X → Type 0) where
    pub each-set : (xs : List X) (n : ℕ) (y : X) → ((i : ℕ) (x : X) → slice_get xs i ≡ Some x → P x) → P y → (i : ℕ) (x : X) → slice_get (slice_set xs n y) i ≡ Some x → P x
    each-set [] n y h p i x e = absurd (cc)
    each-set (a ∷ xs) zero y h p zero x e = let q : y ≡ x = cc in subst P q p
    each-set (a ∷ xs) zero y h p (suc i) x e = h (suc i) x e
    each-set (a ∷ xs) (suc n) y h p zero x e = h zero x e
    each-set (a ∷ xs) (suc n) y h p (suc i) x e = each-set xs n y (λ i x e. h (suc i) x e) p i x e

    pub each-append : (xs : List X) (y : X) → ((i : ℕ) (x : X) → slice_get xs i ≡ Some x → P x) → P y → (i : ℕ) (x : X) → slice_get (xs ++ y ∷ []) i ≡ Some x → P x
    each-append [] y h p zero x e = let q : y ≡ x = cc in subst P q p
    each-append [] y h p (suc i) x e = absurd (cc)
    each-append (a ∷ xs) y h p zero x e = h zero x e
    each-append (a ∷ xs) y h p (suc i) x e = each-append xs y (λ i x e. h (suc i) x e) p i x e

    pub each-remove : (xs : List X) (n : ℕ) → ((i : ℕ) (x : X) → slice_get xs i ≡ Some x → P x) → (i : ℕ) (x : X) → slice_get (remove xs n) i ≡ Some x → P x
    each-remove [] zero h i x e = absurd (cc)
    each-remove [] (suc n) h i x e = absurd (cc)
    each-remove (a ∷ xs) zero h i x e = h (suc i) x e
    each-remove (a ∷ xs) (suc n) h zero x e = h zero x e
    each-remove (a ∷ xs) (suc n) h (suc i) x e = each-remove xs n (λ i x e. h (suc i) x e) i x e

    -- of the items before the last
    pub each-front : (xs : List X) (y : X) → ((i : ℕ) (x : X) → slice_get (xs ++ y ∷ []) i ≡ Some x → P x) → (i : ℕ) (x : X) → slice_get xs i ≡ Some x → P x
    each-front [] y h i x e = absurd (cc)
    each-front (a ∷ xs) y h zero x e = h zero x e
    each-front (a ∷ xs) y h (suc i) x e = each-front xs y (λ i x e. h (suc i) x e) i x e

  pub got_before : (xs : List X) (y : X) (i : ℕ) (x : X) → slice_get xs i ≡ Some x → slice_get (xs ++ y ∷ []) i ≡ Some x
  got_before [] y i x e = absurd (cc)
  got_before (a ∷ xs) y zero x e = e
  got_before (a ∷ xs) y (suc i) x e = got_before xs y i x e

  pub got_last : (xs : List X) (y : X) → slice_get (xs ++ y ∷ []) (length xs) ≡ Some y
  got_last [] y = refl
  got_last (a ∷ xs) y = got_last xs y

  pub remove_before : (xs : List X) (n i : ℕ) → i < n → slice_get (remove xs n) i ≡ slice_get xs i
  remove_before [] zero i l = refl
  remove_before [] (suc n) i l = refl
  remove_before (a ∷ xs) zero i l = absurd (omega arith)
  remove_before (a ∷ xs) (suc n) zero l = refl
  remove_before (a ∷ xs) (suc n) (suc i) l = remove_before xs n i (omega arith)

  pub remove_after : (xs : List X) (n i : ℕ) → n ≤ i → slice_get (remove xs n) i ≡ slice_get xs (suc i)
  remove_after [] zero i l = refl
  remove_after [] (suc n) i l = refl
  remove_after (a ∷ xs) zero i l = refl
  remove_after (a ∷ xs) (suc n) zero l = absurd (omega arith)
  remove_after (a ∷ xs) (suc n) (suc i) l = remove_after xs n i (omega arith)

  pub remove_length : (xs : List X) (n : ℕ) → length (remove xs n) ≤ length xs
  remove_length [] zero = omega arith
  remove_length [] (suc n) = omega arith
  remove_length (a ∷ xs) zero = omega arith
  remove_length (a ∷ xs) (suc n) = let k = remove_length xs n in omega arith

pub remove_map : {X Y : Type 0} (f : X → Y) (xs : List X) (n : ℕ) → map f (remove xs n) ≡ remove (map f xs) n
remove_map f [] zero = refl
remove_map f [] (suc n) = refl
remove_map f (a ∷ xs) zero = refl
remove_map f (a ∷ xs) (suc n) = ap (λ l. f a ∷ l) (remove_map f xs n)

-- what is said of an item that changes stays
pub map_set : {X Y : Type 0} (f : X → Y) (xs : List X) (i : ℕ) (x y : X) → slice_get xs i ≡ Some x → f y ≡ f x → map f (slice_set xs i y) ≡ map f xs
map_set f [] i x y e q = refl
map_set f (a ∷ xs) zero x y e q =
    let w : x ≡ a = cc in
    ap (λ z. z ∷ map f xs) (q ∙ ap f w)
map_set f (a ∷ xs) (suc i) x y e q = ap (λ l. f a ∷ l) (map_set f xs i x y e q)
