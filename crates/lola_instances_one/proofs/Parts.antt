-- Sums of equal parts of a list.
use Rattle.std.proofs.Common.{◌≡◌, ℕ, zero, suc, ◌+◌, ◌*◌, ◌≤◌, ◌<◌, ◌⊎◌, List, [], ◌∷◌, ◌++◌, length, take, drop, get_or, set, refl, ap, sym, ◌∙◌, subst, arith, inl, inr, Bool, true, false}
use Rattle.std.proofs.lemmas.List.{length-drop, length-take-le, length_push, take_all, drop_all, take-take, drop-take, take-append-le, drop-append-le, take-set-le, drop-set-lt, drop-set-add, get_or-drop, get_or-take, get_or_default, length-take}
use Rattle.std.proofs.lemmas.List.Sums.{sum_by-cons, sum_by_push, sum_by-take-drop, sum_by-take-le, sum_by-set, get_or-le-sum_by, count_by-le-length}
use Rattle.std.specs.List.{sum, sum_by}
use Rattle.lola_instances_one.specs.Bits.{AreSums, IsSameOrLonger, bit, rank}

-- the first items of which each counts at most so much
module _ {X : Type 0} (f : X → ℕ) (m : ℕ) where
  few : (n : ℕ) (xs : List X) → ((j : ℕ) (d : X) → j < length xs → f (get_or xs j d) ≤ m) → sum_by f (take n xs) ≤ n * m
  few zero xs h = omega arith
  few (suc n) [] h = omega arith
  few (suc n) (x ∷ xs) h =
      let here = h 0 x (omega arith) in
      let rest = few n xs (λ j d l. h (suc j) d (omega arith)) in
      let s = sum_by-cons f x (take n xs) in
      omega arith

  few_behind : (n : ℕ) (xs : List X) → ((j : ℕ) (d : X) → j < length xs → f (get_or xs j d) ≤ m) → (j : ℕ) (d : X) → j < length (drop n xs) → f (get_or (drop n xs) j d) ≤ m
  few_behind n xs h j d l =
      let long = length-drop n xs in
      subst (λ x. f x ≤ m) (sym (get_or-drop n xs j d)) (h (n + j) d (omega arith))

  pub small : (w : ℕ) (cs : List ℕ) (xs : List X) → AreSums f w cs xs → ((j : ℕ) (d : X) → j < length xs → f (get_or xs j d) ≤ m) → (q : ℕ) → get_or cs q 0 ≤ w * m
  small w [] xs h all q = omega arith
  small w (c ∷ cs) xs h all zero = let s = few w xs all in let here = h.0 in omega arith
  small w (c ∷ cs) xs h all (suc q) = small w cs (drop w xs) h.1 (few_behind w xs all) q

pub bit_small : (bs : List Bool) (j : ℕ) (d : Bool) → j < length bs → bit (get_or bs j d) ≤ 1
bit_small bs j d l = one (get_or bs j d)
  where
    one : (b : Bool) → bit b ≤ 1
    one true = omega arith
    one false = omega arith

pub below_or_not : (a b : ℕ) → (a < b) ⊎ (b ≤ a)
below_or_not zero zero = inr (omega arith)
below_or_not zero (suc b) = inl (omega arith)
below_or_not (suc a) zero = inr (omega arith)
below_or_not (suc a) (suc b) = elim (below_or_not a b) [ inl h ↦ inl (omega arith) | inr h ↦ inr (omega arith) ]

module _ {X : Type 0} (f : X → ℕ) (w : ℕ) where
  -- what the first places sum up to, cut at the end of a part
  pub cut : (xs : List X) (m : ℕ) → sum_by f (take (w + m) xs) ≡ sum_by f (take w xs) + sum_by f (take m (drop w xs))
  cut xs m =
      sym (sum_by-take-drop f (take (w + m) xs) w)
      ∙ (λ i. sum_by f (take-take w (w + m) xs (omega arith) i) + sum_by f (drop-take w m xs i))

  -- the sums before one are the items before it
  pub before : (cs : List ℕ) (xs : List X) → AreSums f w cs xs → (q n : ℕ) → n ≡ w * q → sum (take q cs) ≡ sum_by f (take n xs)
  before cs xs h zero n e = let z : n ≡ 0 = omega arith in ap (λ k. sum_by f (take k xs)) (sym z)
  before [] xs h (suc q) n e = ap (λ l. sum_by f l) (sym (take_all n [] (omega arith)) ∙ ap (take n) (sym h))
  before (c ∷ cs) xs h (suc q) n e =
      let m = w * q in
      let n_is : n ≡ w + m = omega arith in
      let rest = before cs (drop w xs) h.1 q m refl in
      let here = h.0 in
      sum_by-cons (λ x. x) c (take q cs)
      ∙ (λ i. here i + rest i)
      ∙ sym (cut xs m)
      ∙ ap (λ k. sum_by f (take k xs)) (sym n_is)

  pub covered : (cs : List ℕ) (xs : List X) → AreSums f w cs xs → length xs ≤ w * length cs
  covered [] xs h = let e = ap length h in omega arith
  covered (c ∷ cs) xs h = let k = covered cs (drop w xs) h.1 in let d = length-drop w xs in omega arith

  pub whole : (cs : List ℕ) (xs : List X) → AreSums f w cs xs → sum cs ≡ sum_by f xs
  whole [] xs h = ap (sum_by f) (sym h)
  whole (c ∷ cs) xs h =
      let here = h.0 in
      let rest = whole cs (drop w xs) h.1 in
      sum_by-cons (λ x. x) c cs ∙ (λ i. here i + rest i) ∙ sum_by-take-drop f xs w

  -- an item changes, and the sum that it is in
  pub changed : (cs : List ℕ) (xs : List X) → AreSums f w cs xs → (q r i c : ℕ) (y d : X) → i ≡ w * q + r → r < w → i < length xs → c + f (get_or xs i d) ≡ get_or cs q 0 + f y
      → AreSums f w (set cs q c) (set xs i y)
  changed [] xs h q r i c y d at low in_ e = let n = ap length h in absurd (omega arith)
  changed (b ∷ cs) xs h zero r i c y d at low in_ e =
      let behind : drop w (set xs i y) ≡ drop w xs = drop-set-lt w xs i y (omega arith) in
      let all = sum_by-set f xs i y d in_ in
      let old = sum_by-take-drop f xs w in
      let new = sum_by-take-drop f (set xs i y) w in
      let same = ap (sum_by f) behind in
      let here = h.0 in
      (omega arith, subst (AreSums f w cs) (sym behind) h.1)
  changed (b ∷ cs) xs h (suc q) r i c y d at low in_ e =
      let j = w * q + r in
      let i_is : i ≡ w + j = omega arith in
      let front : take w (set xs i y) ≡ take w xs = take-set-le w xs i y (omega arith) in
      let behind : drop w (set xs i y) ≡ set (drop w xs) j y = ap (λ k. drop w (set xs k y)) i_is ∙ drop-set-add w xs j y in
      let long = length-drop w xs in
      let got : get_or (drop w xs) j d ≡ get_or xs i d = get_or-drop w xs j d ∙ ap (λ k. get_or xs k d) (sym i_is) in
      let rest = changed cs (drop w xs) h.1 q r j c y d refl low (omega arith) (ap (λ x. c + f x) got ∙ e) in
      (h.0 ∙ ap (sum_by f) (sym front), subst (AreSums f w (set cs q c)) (sym behind) rest)

  -- a sum more, of nothing
  pub longer : (cs : List ℕ) (xs : List X) → AreSums f w cs xs → AreSums f w (cs ++ 0 ∷ []) xs
  longer [] xs h =
      let none : take w xs ≡ [] = ap (take w) h ∙ take_all w [] (omega arith) in
      (ap (sum_by f) (sym none), ap (drop w) h ∙ drop_all w [] (omega arith))
  longer (c ∷ cs) xs h = (h.0, longer cs (drop w xs) h.1)

  -- an item more, which counts nothing
  pub more : (cs : List ℕ) (xs : List X) (y : X) → AreSums f w cs xs → length xs < w * length cs → f y ≡ 0 → AreSums f w cs (xs ++ y ∷ [])
  more [] xs y h room e = absurd (omega arith)
  more (c ∷ cs) xs y h room e = by (below_or_not (length xs) w) (more cs (drop w xs) y h.1)
    where
      by : (length xs < w) ⊎ (w ≤ length xs) → (length (drop w xs) < w * length cs → f y ≡ 0 → AreSums f w cs (drop w xs ++ y ∷ [])) → AreSums f w (c ∷ cs) (xs ++ y ∷ [])
      by (inl short) rest =
          let n = length_push xs y in
          let old = take_all w xs (omega arith) in
          let new = take_all w (xs ++ y ∷ []) (omega arith) in
          let gone : drop w xs ≡ drop w (xs ++ y ∷ []) = drop_all w xs (omega arith) ∙ sym (drop_all w (xs ++ y ∷ []) (omega arith)) in
          let s = sum_by_push f xs y in
          let a = ap (sum_by f) old in
          let b = ap (sum_by f) new in
          let here = h.0 in
          (omega arith, subst (AreSums f w cs) gone h.1)
      by (inr long) rest =
          let front = take-append-le w xs (y ∷ []) long in
          let back = drop-append-le w xs (y ∷ []) long in
          let n = length-drop w xs in
          (h.0 ∙ ap (sum_by f) (sym front), subst (AreSums f w cs) (sym back) (rest (omega arith) e))

  -- where a part counts something, its places are there
  pub inside : (cs : List ℕ) (xs : List X) → AreSums f w cs xs → (q : ℕ) → 0 < get_or cs q 0 → w * q < length xs
  inside [] xs h q l = absurd (omega arith)
  inside (c ∷ cs) [] h zero l =
      let none = ap (sum_by f) (take_all w [] (omega arith)) in
      let here = h.0 in
      absurd (omega arith)
  inside (c ∷ cs) (x ∷ xs) h zero l = omega arith
  inside (c ∷ cs) xs h (suc q) l =
      let rest = inside cs (drop w xs) h.1 q l in
      let n = length-drop w xs in
      omega arith

  pub still : (cs ds : List ℕ) (xs : List X) → IsSameOrLonger cs ds → AreSums f w cs xs → AreSums f w ds xs
  still cs ds xs (inl e) h = subst (λ es. AreSums f w es xs) (sym e) h
  still cs ds xs (inr e) h = subst (λ es. AreSums f w es xs) (sym e) (longer cs xs h)

  -- what is before a place is no more than what is before a later one
  pub before_later : (xs : List X) (i j : ℕ) → i ≤ j → sum_by f (take i xs) ≤ sum_by f (take j xs)
  before_later xs i j l = subst (λ n. n ≤ sum_by f (take j xs)) (ap (sum_by f) (take-take i j xs l)) (sum_by-take-le f (take j xs) i)

pub wider : (w : ℕ) (cs xs ys : List ℕ) → IsSameOrLonger xs ys → AreSums (λ n. n) w cs xs → length xs < w * length cs → AreSums (λ n. n) w cs ys
wider w cs xs ys (inl e) h room = subst (AreSums (λ n. n) w cs) (sym e) h
wider w cs xs ys (inr e) h room = subst (AreSums (λ n. n) w cs) (sym e) (more (λ n. n) w cs xs 0 h room refl)

pub rank_small : (bs : List Bool) (place : ℕ) → place ≤ length bs → rank bs place ≤ place
rank_small bs place l = let n = length-take-le place bs l in let k = count_by-le-length (λ b. b) (take place bs) in omega arith

-- what holds of each default holds of each place
pub counts_small : (cs : List ℕ) → ((q : ℕ) → get_or cs q 0 ≤ 64 * 1) → (j d : ℕ) → j < length cs → get_or cs j d ≤ 64
counts_small cs h j d l = let e = get_or_default cs j d 0 l in let k = h j in omega arith

module _ {X : Type 0} (f : X → ℕ) (w : ℕ) where
  -- the sum that an item is in is no less than what the item counts
  pub counted_at : (cs : List ℕ) (xs : List X) → AreSums f w cs xs → (q r i : ℕ) (d : X) → i ≡ w * q + r → r < w → i < length xs → f (get_or xs i d) ≤ get_or cs q 0
  counted_at [] xs h q r i d at low in_ = let n = ap length h in absurd (omega arith)
  counted_at (c ∷ cs) xs h zero r i d at low in_ =
      let here = h.0 in
      let got : get_or (take w xs) i d ≡ get_or xs i d = get_or-take w xs i d (omega arith) in
      let long = length-take w xs in
      let one = get_or-le-sum_by f (take w xs) i d (omega arith) in
      let same = ap f got in
      omega arith
  counted_at (c ∷ cs) xs h (suc q) r i d at low in_ =
      let j = w * q + r in
      let i_is : i ≡ w + j = omega arith in
      let long = length-drop w xs in
      let got : get_or (drop w xs) j d ≡ get_or xs i d = get_or-drop w xs j d ∙ ap (λ k. get_or xs k d) (sym i_is) in
      let same = ap f got in
      let rest = counted_at cs (drop w xs) h.1 q r j d refl low (omega arith) in
      omega arith
