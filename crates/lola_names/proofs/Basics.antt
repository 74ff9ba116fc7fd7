-- Truth values, lists and texts, taken apart.
use Rattle.std.proofs.Common.{◌≡◌, ◌≤◌, ◌<◌, ◌+◌, ℕ, zero, suc, arith, refl, ap, ◌∙◌, Bool, true, false, ◌&&◌, List, [], ◌∷◌, ◌++◌, Some, None, slice_get, length, map, drop}

pub left_of : (a b : Bool) → (a && b) ≡ true → a ≡ true
left_of true b h = refl
left_of false b h = absurd (cc)

pub right_of : (a b : Bool) → (a && b) ≡ true → b ≡ true
right_of true b h = h
right_of false b h = absurd (cc)

pub never : {X : Type 0} → true ≡ false → X
never h = absurd (cc)

pub never_back : {X : Type 0} → false ≡ true → X
never_back h = absurd (cc)

-- two lists in turn that list nothing
pub none_left : {X : Type 0} (xs ys : List X) → xs ++ ys ≡ [] → xs ≡ []
none_left [] ys h = refl
none_left (x ∷ xs) ys h = absurd (cc)

pub none_right : {X : Type 0} (xs ys : List X) → xs ++ ys ≡ [] → ys ≡ []
none_right [] ys h = h
none_right (x ∷ xs) ys h = absurd (cc)

pub some_none : {X Y : Type 0} (x : X) (xs : List X) → x ∷ xs ≡ [] → Y
some_none x xs h = absurd (cc)

pub nothing_there : {X Y : Type 0} (x : X) → None ≡ Some x → Y
nothing_there x h = absurd (cc)

-- a number that is there stands in a list long enough
pub slice_there : {X : Type 0} (xs : List X) (i : ℕ) (x : X) → slice_get xs i ≡ Some x → i < length xs
slice_there [] i x h = nothing_there x h
slice_there (y ∷ xs) zero x h = omega arith
slice_there (y ∷ xs) (suc i) x h = let k = slice_there xs i x h in omega (arith, k)

pub slice_behind : {X : Type 0} (xs ys : List X) (i : ℕ) → slice_get (xs ++ ys) (length xs + i) ≡ slice_get ys i
slice_behind [] ys i = let e : 0 + i ≡ i = omega arith in ap (slice_get ys) e
slice_behind (x ∷ xs) ys i =
    let e : length (x ∷ xs) + i ≡ suc (length xs + i) = omega arith in
    ap (slice_get (x ∷ (xs ++ ys))) e ∙ slice_behind xs ys i

pub drop_behind : {X : Type 0} (xs ys : List X) → drop (length xs) (xs ++ ys) ≡ ys
drop_behind [] ys = refl
drop_behind (x ∷ xs) ys = drop_behind xs ys

-- a list without an element at a number is no longer than it
pub slice_short : {X : Type 0} (xs : List X) (i : ℕ) → slice_get xs i ≡ None → length xs ≤ i
slice_short [] i h = omega arith
slice_short (x ∷ xs) zero h = absurd (cc)
slice_short (x ∷ xs) (suc i) h = let k = slice_short xs i h in omega (arith, k)

pub length_mapped : {X Y : Type 0} (f : X → Y) (xs : List X) → length (map f xs) ≡ length xs
length_mapped f [] = refl
length_mapped f (x ∷ xs) = ap suc (length_mapped f xs)
