-- The last items of a list that grows: what callers need of a buffer that was given one value after another.
use Rattle.std.proofs.Common.{◌≡◌, ℕ, ◌+◌, ◌-◌, ◌≤◌, ◌<◌, List, [], ◌∷◌, ◌++◌, length, map, drop, ap, sym, ◌∙◌, refl, arith, None, slice_get, nat_lt, if◌then◌else◌, length-append, length-drop, drop-drop, inl, inr, true, false}
use Rattle.std.specs.Option.{option_map}
use Rattle.std.proofs.lemmas.Bool.Decides.{nat_tests}
use Rattle.std.proofs.lemmas.List.{drop-append-le, length-map, drop-map}
use Rattle.std.proofs.lemmas.Option.{slice_get-map}
use Rattle.circular_buffer.specs.Buffer.{keep_last}
use Rattle.circular_buffer.proofs.Places.{below_or_not, slice_get-drop}
use Rattle.lola_buffer.specs.Kept.{before_newest}

below_yes : (a b : ℕ) → a < b → nat_lt a b ≡ true
below_yes a b h = grind (arith, nat_tests)

below_no : (a b : ℕ) → b ≤ a → nat_lt a b ≡ false
below_no a b h = grind (arith, nat_tests)

module _ {X : Type 0} where
  -- the last of the last and one more are the last of all and one more
  pub keep_last-again : (n : ℕ) (xs : List X) (y : X) → keep_last n (keep_last n xs ++ y ∷ []) ≡ keep_last n (xs ++ y ∷ [])
  keep_last-again n xs y =
      let m = length xs - n in
      let e : drop m xs ++ y ∷ [] ≡ drop m (xs ++ y ∷ []) = sym (drop-append-le m xs (y ∷ []) (omega arith)) in
      let l : length (drop m xs ++ y ∷ []) ≡ length xs - m + 1 = omega (arith, length-append (drop m xs) (y ∷ []), length-drop m xs) in
      let d : m + (length (drop m xs ++ y ∷ []) - n) ≡ length (xs ++ y ∷ []) - n = omega (arith, length-append xs (y ∷ [])) in
      ap (drop (length (drop m xs ++ y ∷ []) - n)) e ∙ (drop-drop (length (drop m xs ++ y ∷ []) - n) m (xs ++ y ∷ []) ∙ ap (λ k. drop k (xs ++ y ∷ [])) d)

  -- a place below n is looked up in the last n as in all
  pub before_newest-kept : (k n : ℕ) (xs : List X) → k < n → before_newest k (keep_last n xs) ≡ before_newest k xs
  before_newest-kept k n xs h =
      let m = length xs - n in
      let l : length (drop m xs) ≡ length xs - m = length-drop m xs in
      elim (below_or_not k (length xs)) [
        | inl less ↦
            let a : nat_lt k (length (drop m xs)) ≡ true = below_yes k (length (drop m xs)) (omega arith) in
            let b : nat_lt k (length xs) ≡ true = below_yes k (length xs) less in
            ap (λ t. if t then slice_get (drop m xs) (length (drop m xs) - k - 1) else None) a
            ∙ (slice_get-drop m xs (length (drop m xs) - k - 1) (length xs - k - 1) (omega arith)
            ∙ sym (ap (λ t. if t then slice_get xs (length xs - k - 1) else None) b))
        | inr more ↦
            let a : nat_lt k (length (drop m xs)) ≡ false = below_no k (length (drop m xs)) (omega arith) in
            let b : nat_lt k (length xs) ≡ false = below_no k (length xs) more in
            ap (λ t. if t then slice_get (drop m xs) (length (drop m xs) - k - 1) else None) a
            ∙ sym (ap (λ t. if t then slice_get xs (length xs - k - 1) else None) b)
      ]

module _ {X Y : Type 0} where
  -- what each item is read as: of the last, and at a place
  pub map-keep_last : (f : X → Y) (n : ℕ) (xs : List X) → map f (keep_last n xs) ≡ keep_last n (map f xs)
  map-keep_last f n xs = sym (drop-map f (length xs - n) xs) ∙ ap (λ l. drop (l - n) (map f xs)) (sym (length-map xs f))

  pub before_newest-map : (f : X → Y) (k : ℕ) (xs : List X) → before_newest k (map f xs) ≡ option_map f (before_newest k xs)
  before_newest-map f k xs =
      ap (λ l. if nat_lt k l then slice_get (map f xs) (l - k - 1) else None) (length-map xs f)
      ∙ elim (nat_lt k (length xs)) as (λ b. (if b then slice_get (map f xs) (length xs - k - 1) else None) ≡ option_map f (if b then slice_get xs (length xs - k - 1) else None)) [
        | true ↦ slice_get-map f xs (length xs - k - 1)
        | false ↦ refl
      ]
