-- Of each list of candidates the least sets are found, or they are too many.
use Rattle.std.proofs.Common.{◌≡◌, refl, subst, ◌⊎◌, inl, inr, ℕ, zero, suc, ◌+◌, ◌<◌, ◌≤◌, ◌^◌, List, [], ◌∷◌, ◌++◌, Bool, true, false, ◌&&◌, ◌||◌, MatchBool, nat_eq, w64, ◌/◌, Result, Ok, Err, length, take, drop, get_or, map, arith}
use Rattle.std.specs.Int.{trailing_zeros}
use Rattle.std.specs.Int.Bits.{bit_and}
use Rattle.std.specs.Int.RustNames.{bit_or, bit_xor}
use Rattle.std.specs.List.{All, AllPairs, Contains, insert}
use Rattle.std.specs.List.Sorted.{IsPermutation, IsNonDecreasing}
use Rattle.std.proofs.lemmas.Bool.{cases_Bool, cases_eq, cases_lt}
use Rattle.std.proofs.lemmas.List.{take_all}
use Rattle.std.proofs.lemmas.Nat.{or_lt}
use Rattle.std.proofs.lemmas.List.Elements.{All-nil, All-cons, All-head, All-tail, All-append, All-contains, All-take, All-weaker}
use Rattle.std.proofs.lemmas.List.Sorted.{All-permutation, IsPermutation-cons, IsPermutation-insert, IsPermutation-refl, IsPermutation-trans}
use Rattle.lola_model.proofs.Strictly.{All-from_members, AllPairs-first, AllPairs-nil, AllPairs-rest}
use Rattle.lola_model.specs.Activity.{satisfies_some}
use Rattle.lola_model.specs.InputOrder.{HasLeastOther}
use Rattle.lola_model.specs.declared.pacing.InputSet.{InputSet}
use Rattle.lola_pacing_normal.specs.Kept.{AreKept, AreManyKept, IsPutIn, candidate_of, set_of, unions_of}
use Rattle.lola_pacing_normal.specs.Least.{AnswersLeast}
use Rattle.lola_pacing_normal.specs.declared.answer.NormalEnd.{NormalEnd}
use Rattle.lola_pacing_normal.specs.declared.answer.NormalEnd.TheVariants as ends
use Rattle.lola_pacing_normal.proofs.KeptLemmas.{AllPairs-insert, kept_others, kept_put_in, kept_skip, least_none, many_kept}
use Rattle.lola_pacing_normal.proofs.LeastLemmas.{answers_by_test, both_pass, lists_least, passes_some, too_wide, unions_pass}
use Rattle.lola_pacing_normal.proofs.OrderLemmas.{least_other-trans, least_other_by_lowest}

-- ---- a place in an ordered list

module _ {X : Type 0} (R : X → X → Type 0) where
  -- all before it stand before the element, and the element before all behind it
  pub record IsPlace (c : X) (xs : List X) : Type 0 where
    pub place : ℕ
    pub within : place ≤ length xs
    pub before : All (λ x. R x c) (take place xs)
    pub behind : All (R c) (drop place xs)

  module _ (trans : (x y z : X) → R x y → R y z → R x z) (c : X) where
    pub place_in : (xs : List X) → All (λ x. R c x ⊎ R x c) xs → AllPairs R xs → IsPlace c xs
    place_in [] either ordered = record { place = 0; within = omega arith; before = All-nil (λ x. R x c); behind = All-nil (R c) }
    place_in (x ∷ xs) either ordered = go (All-head (λ y. R c y ⊎ R y c) x xs either) (place_in xs (All-tail (λ y. R c y ⊎ R y c) x xs either) (AllPairs-rest R x xs ordered))
      where
        go : R c x ⊎ R x c → IsPlace c xs → IsPlace c (x ∷ xs)
        go (inl h) p = record {
          place = 0;
          within = omega arith;
          before = All-nil (λ y. R y c);
          behind = All-cons (R c) x xs h (All-weaker (R x) (R c) (λ y g. trans c x y h g) xs (AllPairs-first R x xs ordered));
        }
        go (inr h) p = record { place = suc p.place; within = omega (arith, p.within); before = All-cons (λ y. R y c) x (take p.place xs) h p.before; behind = p.behind }

-- ---- candidates in order

abbrev IsAtMost : ℕ → ℕ → Type 0
IsAtMost m n = m ≤ n

pub record IsSortedOf (cs : List ℕ) : Type 0 where
  pub sorted : List ℕ
  pub same : IsPermutation cs sorted
  pub ordered : AllPairs IsAtMost sorted

either_most : (c n : ℕ) → IsAtMost c n ⊎ IsAtMost n c
either_most c n = elim (cases_lt c n) [ inl lt ↦ inl (omega (arith, lt)) | inr le ↦ inr le ]

sorted_of : (cs : List ℕ) → IsSortedOf cs
sorted_of [] = record { sorted = []; same = IsPermutation-refl []; ordered = AllPairs-nil IsAtMost }
sorted_of (c ∷ cs) = go (sorted_of cs)
  where
    put : (s : IsSortedOf cs) → IsPlace IsAtMost c s.sorted → IsSortedOf (c ∷ cs)
    put s p = record {
      sorted = insert s.sorted p.place c;
      same = IsPermutation-trans (c ∷ cs) (c ∷ s.sorted) (insert s.sorted p.place c) (IsPermutation-cons c cs s.sorted s.same) (IsPermutation-insert s.sorted p.place c);
      ordered = AllPairs-insert IsAtMost p.place s.sorted c s.ordered p.before p.behind;
    }

    go : IsSortedOf cs → IsSortedOf (c ∷ cs)
    go s = put s (place_in IsAtMost (λ x y z f g. omega (arith, f, g)) c s.sorted (All-from_members (λ n. IsAtMost c n ⊎ IsAtMost n c) s.sorted (λ n m. either_most c n)) s.ordered)

non_decreasing : (xs : List ℕ) → AllPairs IsAtMost xs → IsNonDecreasing xs
non_decreasing xs ordered = λ i j d le lt. go i j d le lt (cases_eq i j)
  where
    go : (i j d : ℕ) → i ≤ j → j < length xs → (i ≡ j) ⊎ (i ≡ j → ⊥) → get_or xs i d ≤ get_or xs j d
    go i j d le lt (inl e) = subst (λ k. get_or xs i d ≤ get_or xs k d) e (omega arith)
    go i j d le lt (inr ne) = ordered i j d (omega (arith, ne)) lt

-- ---- the least of candidates that do not fall

abbrev pub IsSmall : ℕ → Type 0
IsSmall c = c < 2 ^ 64

-- sets of the inputs that a specification may have
abbrev pub AreSmall : List InputSet → Type 0
AreSmall sets = All (λ (s : InputSet). s.0 < 2 ^ 64) sets

by_bool : (b : Bool) (P Q : Type 0) → MatchBool b P Q → P ⊎ Q
by_bool true P Q h = inl h
by_bool false P Q h = inr h

-- of two sets one has the least input that only one of them has
either_first : (s t : InputSet) → (s ≡ t → ⊥) → s.0 < 2 ^ 64 → t.0 < 2 ^ 64 → HasLeastOther s t ⊎ HasLeastOther t s
either_first s t other low high =
    by_bool (nat_eq (bit_and (s.0 / 2 ^ trailing_zeros w64 (bit_xor s.0 t.0)) 1) 1) (HasLeastOther s t) (HasLeastOther t s) (least_other_by_lowest s t other low high)

either_before : (c : ℕ) (kept : List InputSet) → c < 2 ^ 64 → AreSmall kept → satisfies_some c kept ≡ false → All (λ (s : InputSet). HasLeastOther (set_of c) s ⊎ HasLeastOther s (set_of c)) kept
either_before c kept low small none =
    All-from_members (λ (s : InputSet). HasLeastOther (set_of c) s ⊎ HasLeastOther s (set_of c)) kept (λ s m.
    either_first (set_of c) s (All-contains (λ (t : InputSet). set_of c ≡ t → ⊥) kept s (kept_others c kept none) m) low
    (All-contains (λ (t : InputSet). t.0 < 2 ^ 64) kept s small m))

put_in : (c : ℕ) (kept : List InputSet) → c < 2 ^ 64 → AreSmall kept → satisfies_some c kept ≡ false → AllPairs HasLeastOther kept → (new : List InputSet) × IsPutIn (set_of c) kept new
put_in c kept low small none ordered =
    let p = place_in HasLeastOther least_other-trans (set_of c) kept (either_before c kept low small none) ordered in
    (insert kept p.place (set_of c), record { place = p.place; within = p.within; is = refl; ordered = AllPairs-insert HasLeastOther p.place kept (set_of c) ordered p.before p.behind })

module _ (xs : List ℕ) (up : IsNonDecreasing xs) (small : All IsSmall xs) where
  kept_small : (i : ℕ) (kept : List InputSet) → AreKept (take i xs) kept → AreSmall kept
  kept_small i kept h =
      All-weaker (λ (s : InputSet). Contains (take i xs) s.0) (λ (s : InputSet). s.0 < 2 ^ 64)
      (λ s m. All-contains IsSmall (take i xs) s.0 (All-take IsSmall i xs small) m) kept h.least.members

  abbrev Kept : Type 0
  Kept = ((sets : List InputSet) × AreKept xs sets) ⊎ AreManyKept xs

  -- from the first i of them on
  kept_from : (n i : ℕ) (kept : List InputSet) → i + n ≡ length xs → AreKept (take i xs) kept → Kept
  kept_from zero i kept e h = inl (kept, subst (λ ys. AreKept ys kept) (take_all i xs (omega arith)) h)
  kept_from (suc n) i kept e h = go (λ new g. kept_from n (i + 1) new (omega (arith, e)) g) (cases_Bool (satisfies_some (get_or xs i 0) kept)) (cases_eq (length kept) 256)
    where
      within : i < length xs
      within = omega (arith, e)

      put : ((new : List InputSet) → AreKept (take (i + 1) xs) new → Kept) → satisfies_some (get_or xs i 0) kept ≡ false → (length kept ≡ 256 → ⊥) → ((new : List InputSet) × IsPutIn (set_of (get_or xs i 0)) kept new) → Kept
      put others none room new = others new.0 (kept_put_in xs i kept new.0 within up none h room new.1)

      go : ((new : List InputSet) → AreKept (take (i + 1) xs) new → Kept) → (satisfies_some (get_or xs i 0) kept ≡ true) ⊎ (satisfies_some (get_or xs i 0) kept ≡ false) → (length kept ≡ 256) ⊎ (length kept ≡ 256 → ⊥) → Kept
      go others (inl some) full = others kept (kept_skip xs i kept within some h)
      go others (inr none) (inl full) = inr (many_kept xs i kept within up none h full)
      go others (inr none) (inr room) = put others none room (put_in (get_or xs i 0) kept (small i 0 within) (kept_small i kept h) none h.ordered)

  kept_of : Kept
  kept_of = kept_from (length xs) 0 [] (omega arith) (record { least = least_none; ordered = AllPairs-nil HasLeastOther; few = omega arith })

-- ---- the least of candidates in any order

-- an answer other than want of memory: sets of inputs that a specification may have, or that they are too many
abbrev pub IsAnswer : Result (List InputSet) NormalEnd → Type 0
IsAnswer (Ok sets) = AreSmall sets
IsAnswer (Err ends.TooWide) = Unit {0}
IsAnswer (Err ends.Memory) = ⊥

pub record HasLeast (passes : ℕ → Bool) : Type 0 where
  pub result : Result (List InputSet) NormalEnd
  pub answers : AnswersLeast passes result
  pub is : IsAnswer result

least_of : (cs : List ℕ) → All IsSmall cs → HasLeast (passes_some cs)
least_of cs small = go (sorted_of cs)
  where
    answer : (s : IsSortedOf cs) (low : All IsSmall s.sorted) → ((sets : List InputSet) × AreKept s.sorted sets) ⊎ AreManyKept s.sorted → HasLeast (passes_some cs)
    answer s low (inl kept) = record {
      result = Ok kept.0;
      answers = lists_least cs s.sorted kept.0 s.same low kept.1;
      is = All-weaker (λ (t : InputSet). Contains s.sorted t.0) (λ (t : InputSet). t.0 < 2 ^ 64) (λ t m. All-contains IsSmall s.sorted t.0 low m) kept.0 kept.1.least.members;
    }
    answer s low (inr many) = record { result = Err ends.TooWide; answers = too_wide cs s.sorted s.same many; is = tt }

    go : IsSortedOf cs → HasLeast (passes_some cs)
    go s =
        let low : All IsSmall s.sorted = All-permutation IsSmall cs s.sorted s.same small in
        answer s low (kept_of s.sorted (non_decreasing s.sorted s.ordered) low)

pub least_by : (passes : ℕ → Bool) (cs : List ℕ) → All IsSmall cs → ((inputs : ℕ) → passes_some cs inputs ≡ passes inputs) → HasLeast passes
least_by passes cs small same =
    let h = least_of cs small in
    record { result = h.result; answers = answers_by_test (passes_some cs) passes h.result same h.answers; is = h.is }

-- ---- sets of two lists

small_candidates : (sets : List InputSet) → AreSmall sets → All IsSmall (map candidate_of sets)
small_candidates [] h = All-nil IsSmall
small_candidates (s ∷ sets) h =
    All-cons IsSmall s.0 (map candidate_of sets) (All-head (λ (t : InputSet). t.0 < 2 ^ 64) s sets h) (small_candidates sets (All-tail (λ (t : InputSet). t.0 < 2 ^ 64) s sets h))

small_with : (s : InputSet) (b : List InputSet) → s.0 < 2 ^ 64 → AreSmall b → All IsSmall (map (λ (t : InputSet). bit_or s.0 t.0) b)
small_with s [] low h = All-nil IsSmall
small_with s (t ∷ b) low h =
    All-cons IsSmall (bit_or s.0 t.0) (map (λ (u : InputSet). bit_or s.0 u.0) b) (or_lt 64 s.0 t.0 low (All-head (λ (u : InputSet). u.0 < 2 ^ 64) t b h))
    (small_with s b low (All-tail (λ (u : InputSet). u.0 < 2 ^ 64) t b h))

small_unions : (a b : List InputSet) → AreSmall a → AreSmall b → All IsSmall (unions_of a b)
small_unions [] b h g = All-nil IsSmall
small_unions (s ∷ a) b h g =
    All-append IsSmall (map (λ (t : InputSet). bit_or s.0 t.0) b) (unions_of a b) (small_with s b (All-head (λ (u : InputSet). u.0 < 2 ^ 64) s a h) g)
    (small_unions a b (All-tail (λ (u : InputSet). u.0 < 2 ^ 64) s a h) g)

pub least_of_both : (a b : List InputSet) → AreSmall a → AreSmall b → HasLeast (λ inputs. satisfies_some inputs a && satisfies_some inputs b)
least_of_both a b h g = least_by (λ inputs. satisfies_some inputs a && satisfies_some inputs b) (unions_of a b) (small_unions a b h g) (unions_pass a b)

pub least_of_either : (a b : List InputSet) → AreSmall a → AreSmall b → HasLeast (λ inputs. satisfies_some inputs a || satisfies_some inputs b)
least_of_either a b h g =
    least_by (λ inputs. satisfies_some inputs a || satisfies_some inputs b) (map candidate_of (a ++ b))
    (small_candidates (a ++ b) (All-append (λ (s : InputSet). s.0 < 2 ^ 64) a b h g)) (both_pass a b)
