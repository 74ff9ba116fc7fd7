-- Lists whose elements stand pairwise in a relation: how they are put together, and that members alone decide a strictly ordered one.
use Rattle.std.proofs.Common.{◌≡◌, refl, ap, sym, subst, ◌∙◌, ℕ, zero, suc, ◌<◌, ◌⊎◌, inl, inr, List, [], ◌∷◌, ◌++◌, length, get_or, map, arith}
use Rattle.std.proofs.lemmas.List.Elements.{All-cons, All-contains, All-append}
use Rattle.std.specs.List.{All, AllPairs, Contains}

-- the members of a list with one more in front

-- the first
pub Contains-here : {X : Type 0} (x : X) (xs : List X) → Contains (x ∷ xs) x
Contains-here x xs = (0, omega arith, refl)

-- a member of the others
pub Contains-there : {X : Type 0} (x y : X) (xs : List X) → Contains xs y → Contains (x ∷ xs) y
Contains-there x y xs c = (suc c.0, omega (arith, c.1), c.2)

-- it is one or the other
pub Contains-cases : {X : Type 0} (x y : X) (xs : List X) → Contains (x ∷ xs) y → (x ≡ y) ⊎ Contains xs y
Contains-cases {X} x y xs c = go c.0 c.1 c.2
  where
    go : (k : ℕ) → k < suc (length xs) → get_or (x ∷ xs) k y ≡ y → (x ≡ y) ⊎ Contains xs y
    go zero lt e = inl e
    go (suc k) lt e = inr (k, omega arith, e)

-- nothing has no member
pub Contains-none : {X : Type 0} (y : X) → Contains [] y → ⊥
Contains-none y c = omega (arith, c.1)

-- the members of a mapped list
pub Contains-map : {X Y : Type 0} (f : X → Y) (xs : List X) (x : X) → Contains xs x → Contains (map f xs) (f x)
Contains-map f [] x c = absurd (Contains-none x c)
Contains-map {X} {Y} f (y ∷ ys) x c = go (Contains-cases y x ys c) (Contains-map f ys x)
  where
    go : (y ≡ x) ⊎ Contains ys x → (Contains ys x → Contains (map f ys) (f x)) → Contains (map f (y ∷ ys)) (f x)
    go (inl e) h = subst (λ z. Contains (map f (y ∷ ys)) (f z)) e (Contains-here (f y) (map f ys))
    go (inr d) h = Contains-there (f y) (f x) (map f ys) (h d)

-- each is of a member
pub Contains-map_cases : {X Y : Type 0} (f : X → Y) (xs : List X) (y : Y) → Contains (map f xs) y → (x : X) × Contains xs x × (f x ≡ y)
Contains-map_cases f [] y c = absurd (Contains-none y c)
Contains-map_cases {X} {Y} f (x ∷ xs) y c = go (Contains-cases (f x) y (map f xs) c) (Contains-map_cases f xs y)
  where
    go : (f x ≡ y) ⊎ Contains (map f xs) y → (Contains (map f xs) y → (z : X) × Contains xs z × (f z ≡ y)) → (z : X) × Contains (x ∷ xs) z × (f z ≡ y)
    go (inl e) h = (x, Contains-here x xs, e)
    go (inr d) h = let w = h d in (w.0, Contains-there x w.0 xs w.1, w.2)

-- what holds of each member holds of all
pub All-from_members : {X : Type 0} (P : X → Type 0) (xs : List X) → ((x : X) → Contains xs x → P x) → All P xs
All-from_members P [] h = λ k d lt. absurd (omega arith)
All-from_members P (x ∷ xs) h = All-cons P x xs (h x (Contains-here x xs)) (All-from_members P xs (λ y c. h y (Contains-there x y xs c)))

module _ {X : Type 0} (R : X → X → Type 0) where
  -- no elements
  pub AllPairs-nil : AllPairs R []
  AllPairs-nil = λ i j d lt l. absurd (omega arith)

  -- one more in front
  pub AllPairs-cons : (x : X) (xs : List X) → All (R x) xs → AllPairs R xs → AllPairs R (x ∷ xs)
  AllPairs-cons x xs h g = λ i j d lt l. go i j d lt l
    where
      go : (i j : ℕ) (d : X) → i < j → j < suc (length xs) → R (get_or (x ∷ xs) i d) (get_or (x ∷ xs) j d)
      go i zero d lt l = absurd (omega arith)
      go zero (suc j) d lt l = h j d (omega arith)
      go (suc i) (suc j) d lt l = g i j d (omega arith) (omega arith)

  -- the first and all others
  pub AllPairs-first : (x : X) (xs : List X) → AllPairs R (x ∷ xs) → All (R x) xs
  AllPairs-first x xs h = λ k d l. h 0 (suc k) d (omega arith) (omega arith)

  -- the others
  pub AllPairs-rest : (x : X) (xs : List X) → AllPairs R (x ∷ xs) → AllPairs R xs
  AllPairs-rest x xs h = λ i j d lt l. h (suc i) (suc j) d (omega arith) (omega arith)

  -- one list after another, each of whose members stand in the relation
  pub AllPairs-append : (xs ys : List X) → AllPairs R xs → AllPairs R ys → ((x y : X) → Contains xs x → Contains ys y → R x y) → AllPairs R (xs ++ ys)
  AllPairs-append [] ys h g between = g
  AllPairs-append (x ∷ xs) ys h g between =
      AllPairs-cons x (xs ++ ys)
      (All-append (R x) xs ys (AllPairs-first x xs h) (All-from_members (R x) ys (λ y c. between x y (Contains-here x xs) c)))
      (AllPairs-append xs ys (AllPairs-rest x xs h) g (λ z y c e. between z y (Contains-there x z xs c) e))

  -- the first of a strictly ordered list is before each other member
  first_before : (x y : X) (xs : List X) → AllPairs R (x ∷ xs) → Contains xs y → R x y
  first_before x y xs h c = All-contains (R x) xs y (AllPairs-first x xs h) c

  module _ (strict : (x y : X) → R x y → R y x → ⊥) where
    same_first : (x y : X) (xs ys : List X) → AllPairs R (x ∷ xs) → AllPairs R (y ∷ ys) → Contains (y ∷ ys) x → Contains (x ∷ xs) y → x ≡ y
    same_first x y xs ys h g c e = go (Contains-cases y x ys c) (Contains-cases x y xs e)
      where
        go : (y ≡ x) ⊎ Contains ys x → (x ≡ y) ⊎ Contains xs y → x ≡ y
        go a (inl q) = q
        go (inl q) (inr b) = sym q
        go (inr a) (inr b) = absurd (strict x y (first_before x y xs h b) (first_before y x ys g a))

    -- a member of the rest of one is a member of the rest of the other
    in_rest : (x : X) (xs ys : List X) → AllPairs R (x ∷ xs) → ((z : X) → Contains (x ∷ xs) z → Contains (x ∷ ys) z) → (z : X) → Contains xs z → Contains ys z
    in_rest x xs ys h more z c = go (Contains-cases x z ys (more z (Contains-there x z xs c)))
      where
        go : (x ≡ z) ⊎ Contains ys z → Contains ys z
        go (inl e) = let before : R x z = first_before x z xs h c in absurd (strict x z before (subst (λ w. R w x) e (subst (λ w. R x w) (sym e) before)))
        go (inr d) = d

    -- two strictly ordered lists with the same members are the same
    pub same_by_members : (xs ys : List X) → AllPairs R xs → AllPairs R ys → ((x : X) → Contains xs x → Contains ys x) → ((x : X) → Contains ys x → Contains xs x) → xs ≡ ys
    same_by_members [] [] h g more less = refl
    same_by_members [] (y ∷ ys) h g more less = absurd (Contains-none y (less y (Contains-here y ys)))
    same_by_members (x ∷ xs) [] h g more less = absurd (Contains-none x (more x (Contains-here x xs)))
    same_by_members (x ∷ xs) (y ∷ ys) h g more less =
        let e : x ≡ y = same_first x y xs ys h g (more x (Contains-here x xs)) (less y (Contains-here y ys)) in
        let g' : AllPairs R (x ∷ ys) = subst (λ w. AllPairs R (w ∷ ys)) (sym e) g in
        let more' : (z : X) → Contains (x ∷ xs) z → Contains (x ∷ ys) z = λ z c. subst (λ w. Contains (w ∷ ys) z) (sym e) (more z c) in
        let less' : (z : X) → Contains (x ∷ ys) z → Contains (x ∷ xs) z = λ z c. less z (subst (λ w. Contains (w ∷ ys) z) e c) in
        ap (λ w. w ∷ xs) e ∙ ap (λ zs. y ∷ zs) (same_by_members xs ys (AllPairs-rest x xs h) (AllPairs-rest y ys g) (in_rest x xs ys h more') (in_rest x ys xs g' less'))
