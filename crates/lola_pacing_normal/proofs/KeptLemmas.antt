-- How the least of candidates are found that do not fall: each is kept that has not all of a kept one.
use Rattle.std.proofs.Common.{◌≡◌, refl, ap, sym, subst, ℕ, zero, suc, ◌+◌, ◌-◌, ◌<◌, ◌≤◌, ◌⊎◌, inl, inr, List, [], ◌∷◌, ◌++◌, Bool, true, false, length, take, drop, get_or, arith}
use Rattle.std.proofs.lemmas.List.{take-append-drop, take_more, take_all, get_or-take, get_or_default, length-take}
use Rattle.std.proofs.lemmas.List.Elements.{All-nil, All-cons, All-head, All-tail, All-append, All-take, All-drop, All-push, All-weaker, All-contains, Contains-append_left, Contains-append_right, Contains-append_cases}
use Rattle.std.proofs.lemmas.List.Sorted.{All-permutation, Contains-permutation, IsPermutation-sym, IsPermutation-remove}
use Rattle.std.proofs.lemmas.List.Edits.{length-insert, length-remove}
use Rattle.std.proofs.lemmas.Bool.{eqb-true}
use Rattle.std.specs.Int.Bits.{bit_and}
use Rattle.std.specs.List.{All, AllPairs, Contains, insert, remove}
use Rattle.std.specs.List.Sorted.{IsPermutation, IsNonDecreasing}
use Rattle.lola_model.proofs.Strictly.{AllPairs-nil, AllPairs-cons, AllPairs-first, AllPairs-rest, Contains-here, Contains-there, Contains-cases, All-from_members}
use Rattle.lola_model.proofs.Implied.{satisfies-self, satisfies_some-by_member, satisfies_some-member}
use Rattle.lola_model.specs.Activity.{satisfies, satisfies_some}
use Rattle.lola_model.specs.Implication.{AreApart, IsWithin}
use Rattle.lola_model.specs.declared.pacing.InputSet.{InputSet}
use Rattle.lola_pacing_normal.specs.Kept.{set_of, AreLeastOf, AreKept, AreManyKept, IsPutIn}
use Rattle.lola_pacing_normal.proofs.BitLemmas.{within_le}

-- an element put into a list

pub AllPairs-insert : {X : Type 0} (R : X → X → Type 0) (p : ℕ) (xs : List X) (c : X) → AllPairs R xs → All (λ x. R x c) (take p xs) → All (R c) (drop p xs) → AllPairs R (insert xs p c)
AllPairs-insert R zero xs c h before after = AllPairs-cons R c xs after h
AllPairs-insert R (suc p) [] c h before after = AllPairs-cons R c [] after h
AllPairs-insert R (suc p) (x ∷ xs) c h before after =
    let first : All (R x) xs = AllPairs-first R x xs h in
    AllPairs-cons R x (insert xs p c)
    (All-append (R x) (take p xs) (c ∷ drop p xs) (All-take (R x) p xs first)
    (All-cons (R x) c (drop p xs) (All-head (λ y. R y c) x (take p xs) before) (All-drop (R x) p xs first)))
    (AllPairs-insert R p xs c (AllPairs-rest R x xs h) (All-tail (λ y. R y c) x (take p xs) before) after)

pub All-insert : {X : Type 0} (P : X → Type 0) (xs : List X) (p : ℕ) (c : X) → All P xs → P c → All P (insert xs p c)
All-insert P xs p c h at = All-append P (take p xs) (c ∷ drop p xs) (All-take P p xs h) (All-cons P c (drop p xs) at (All-drop P p xs h))

pub Contains-insert : {X : Type 0} (xs : List X) (p : ℕ) (c x : X) → Contains xs x → Contains (insert xs p c) x
Contains-insert {X} xs p c x h = go (Contains-append_cases (take p xs) (drop p xs) x (subst (λ ys. Contains ys x) (sym (take-append-drop p xs)) h))
  where
    go : Contains (take p xs) x ⊎ Contains (drop p xs) x → Contains (insert xs p c) x
    go (inl a) = Contains-append_left (take p xs) (c ∷ drop p xs) x a
    go (inr a) = Contains-append_right (take p xs) (c ∷ drop p xs) x (Contains-there c x (drop p xs) a)

pub Contains-inserted : {X : Type 0} (xs : List X) (p : ℕ) (c : X) → Contains (insert xs p c) c
Contains-inserted xs p c = Contains-append_right (take p xs) (c ∷ drop p xs) c (Contains-here c (drop p xs))

-- the candidates seen so far

pub least_none : AreLeastOf [] []
least_none = record {
  members = All-nil (λ (s : InputSet). Contains [] s.0);
  enough = All-nil (λ c. satisfies_some c [] ≡ true);
  apart = AllPairs-nil AreApart;
}

-- one more that has all of a kept one
pub least_skip : (seen : List ℕ) (kept : List InputSet) (c : ℕ) → AreLeastOf seen kept → satisfies_some c kept ≡ true → AreLeastOf (seen ++ c ∷ []) kept
least_skip seen kept c h e = record {
  members = All-weaker (λ (s : InputSet). Contains seen s.0) (λ (s : InputSet). Contains (seen ++ c ∷ []) s.0) (λ s m. Contains-append_left seen (c ∷ []) s.0 m) kept h.members;
  enough = All-push (λ d. satisfies_some d kept ≡ true) seen c h.enough e;
  apart = h.apart;
}

-- one that has not, and is no less than those seen, stands apart from the kept
pub stands_apart : (seen : List ℕ) (kept : List InputSet) (c : ℕ) → AreLeastOf seen kept → satisfies_some c kept ≡ false → All (λ d. d ≤ c) seen → (k : InputSet) → Contains kept k → ¬ (IsWithin k (set_of c)) × ¬ (IsWithin (set_of c) k)
stands_apart seen kept c h e low k m = (above, below)
  where
    above : ¬ (IsWithin k (set_of c))
    above w = let f : satisfies_some c kept ≡ true = satisfies_some-by_member c kept k m w in cc

    below : ¬ (IsWithin (set_of c) k)
    below w =
        let le : c ≤ k.0 = within_le c k.0 (eqb-true (bit_and c k.0) c w) in
        let ge : k.0 ≤ c = All-contains (λ d. d ≤ c) seen k.0 low (All-contains (λ (s : InputSet). Contains seen s.0) kept k h.members m) in
        let same : k.0 ≡ c = omega arith in
        above (subst (λ x. satisfies x k ≡ true) same (satisfies-self k))

-- it is kept, at any place
pub least_insert : (seen : List ℕ) (kept : List InputSet) (c p : ℕ) → AreLeastOf seen kept → satisfies_some c kept ≡ false → All (λ d. d ≤ c) seen → AreLeastOf (seen ++ c ∷ []) (insert kept p (set_of c))
least_insert seen kept c p h e low =
    let all : All (λ (k : InputSet). AreApart k (set_of c)) kept = All-from_members (λ (k : InputSet). AreApart k (set_of c)) kept (stands_apart seen kept c h e low) in
    let back : All (AreApart (set_of c)) kept = All-weaker (λ (k : InputSet). AreApart k (set_of c)) (AreApart (set_of c)) (λ k a. (a.1, a.0)) kept all in
    let at_last : Contains (seen ++ c ∷ []) c = Contains-append_right seen (c ∷ []) c (Contains-here c []) in
    record {
      members = All-insert (λ (s : InputSet). Contains (seen ++ c ∷ []) s.0) kept p (set_of c)
          (All-weaker (λ (s : InputSet). Contains seen s.0) (λ (s : InputSet). Contains (seen ++ c ∷ []) s.0) (λ s m. Contains-append_left seen (c ∷ []) s.0 m) kept h.members) at_last;
      enough = All-push (λ d. satisfies_some d (insert kept p (set_of c)) ≡ true) seen c
          (All-weaker (λ d. satisfies_some d kept ≡ true) (λ d. satisfies_some d (insert kept p (set_of c)) ≡ true)
          (λ d m. let w = satisfies_some-member d kept m in satisfies_some-by_member d (insert kept p (set_of c)) w.0 (Contains-insert kept p (set_of c) w.0 w.1) w.2) seen h.enough)
          (satisfies_some-by_member c (insert kept p (set_of c)) (set_of c) (Contains-inserted kept p (set_of c)) (satisfies-self (set_of c)));
      apart = AllPairs-insert AreApart p kept (set_of c) h.apart (All-take (λ (k : InputSet). AreApart k (set_of c)) p kept all) (All-drop (AreApart (set_of c)) p kept back);
    }

-- those in front of a place are no greater
pub none_greater : (xs : List ℕ) (i : ℕ) → IsNonDecreasing xs → i < length xs → All (λ d. d ≤ get_or xs i 0) (take i xs)
none_greater xs i h lt = λ k d l.
    let short : length (take i xs) ≤ i = omega (arith, length-take i xs) in
    let k_low : k < i = omega arith in
    let e : get_or (take i xs) k d ≡ get_or xs k d = get_or-take i xs k d k_low in
    let f : get_or xs i d ≡ get_or xs i 0 = get_or_default xs i d 0 lt in
    let g : get_or xs k d ≤ get_or xs i d = h k i d (omega arith) lt in
    omega arith

-- the least of all can be found from those of a beginning, and are no fewer
pub more_least : (n i : ℕ) (xs : List ℕ) (kept : List InputSet) → i + n ≡ length xs → IsNonDecreasing xs → AreLeastOf (take i xs) kept → (sets : List InputSet) × AreLeastOf xs sets × (length kept ≤ length sets)
more_least zero i xs kept e up h = (kept, subst (λ ys. AreLeastOf ys kept) (take_all i xs (omega arith)) h, omega arith)
more_least (suc n) i xs kept e up h = go (satisfies_some (get_or xs i 0) kept) refl (more_least n (i + 1) xs kept (omega arith) up) (more_least n (i + 1) xs (insert kept 0 (set_of (get_or xs i 0))) (omega arith) up)
  where
    next : take (i + 1) xs ≡ take i xs ++ get_or xs i 0 ∷ []
    next = take_more xs i 0 (omega arith)

    go : (b : Bool) → satisfies_some (get_or xs i 0) kept ≡ b
        → (AreLeastOf (take (i + 1) xs) kept → (sets : List InputSet) × AreLeastOf xs sets × (length kept ≤ length sets))
        → (AreLeastOf (take (i + 1) xs) (insert kept 0 (set_of (get_or xs i 0))) → (sets : List InputSet) × AreLeastOf xs sets × (length (insert kept 0 (set_of (get_or xs i 0))) ≤ length sets))
        → (sets : List InputSet) × AreLeastOf xs sets × (length kept ≤ length sets)
    go true is skip put = skip (subst (λ ys. AreLeastOf ys kept) (sym next) (least_skip (take i xs) kept (get_or xs i 0) h is))
    go false is skip put =
        let w = put (subst (λ ys. AreLeastOf ys (insert kept 0 (set_of (get_or xs i 0)))) (sym next) (least_insert (take i xs) kept (get_or xs i 0) 0 h is (none_greater xs i up (omega arith)))) in
        let more : length (insert kept 0 (set_of (get_or xs i 0))) ≡ length kept + 1 = length-insert kept 0 (set_of (get_or xs i 0)) (omega arith) in
        (w.0, w.1, omega (arith, w.2))

-- candidates in another order
pub least_in_any_order : (xs ys : List ℕ) (sets : List InputSet) → IsPermutation xs ys → AreLeastOf ys sets → AreLeastOf xs sets
least_in_any_order xs ys sets h g = record {
  members = All-weaker (λ (s : InputSet). Contains ys s.0) (λ (s : InputSet). Contains xs s.0) (λ s m. Contains-permutation ys xs s.0 (IsPermutation-sym xs ys h) m) sets g.members;
  enough = All-permutation (λ c. satisfies_some c sets ≡ true) ys xs (IsPermutation-sym xs ys h) g.enough;
  apart = g.apart;
}

-- how many there are

-- sets that stand apart are no more than those of a list that has them all
pub length_by_members : (xs ys : List InputSet) → AllPairs AreApart xs → ((s : InputSet) → Contains xs s → Contains ys s) → length xs ≤ length ys
length_by_members [] ys h more = omega arith
length_by_members (x ∷ xs) ys h more =
    let at = more x (Contains-here x xs) in
    let less : length xs ≤ length (remove ys at.0) = length_by_members xs (remove ys at.0) (AllPairs-rest AreApart x xs h) (in_rest at) in
    let e : length (remove ys at.0) + 1 ≡ length ys = length-remove ys at.0 at.1 in
    omega arith
  where
    in_rest : (at : Contains ys x) → (s : InputSet) → Contains xs s → Contains (remove ys at.0) s
    in_rest at s c = go (Contains-cases x s (remove ys at.0) (Contains-permutation ys (x ∷ remove ys at.0) s (IsPermutation-remove ys at.0 x at.1 (sym at.2)) (more s (Contains-there x s xs c))))
      where
        go : (x ≡ s) ⊎ Contains (remove ys at.0) s → Contains (remove ys at.0) s
        go (inl e) = absurd ((All-contains (AreApart x) xs s (AllPairs-first AreApart x xs h) c).0 (subst (λ (t : InputSet). satisfies t.0 x ≡ true) e (satisfies-self x)))
        go (inr d) = d

-- a round of the loop that finds them

-- the candidate has all of a kept set
pub kept_skip : (xs : List ℕ) (i : ℕ) (kept : List InputSet) → i < length xs → satisfies_some (get_or xs i 0) kept ≡ true → AreKept (take i xs) kept → AreKept (take (i + 1) xs) kept
kept_skip xs i kept within e h = record {
  least = subst (λ ys. AreLeastOf ys kept) (sym (take_more xs i 0 within)) (least_skip (take i xs) kept (get_or xs i 0) h.least e);
  ordered = h.ordered;
  few = h.few;
}

-- it has not, and is put in
pub kept_put_in : (xs : List ℕ) (i : ℕ) (kept new : List InputSet) → i < length xs → IsNonDecreasing xs → satisfies_some (get_or xs i 0) kept ≡ false → AreKept (take i xs) kept → ¬ (length kept ≡ 256) → IsPutIn (set_of (get_or xs i 0)) kept new → AreKept (take (i + 1) xs) new
kept_put_in xs i kept new within up e h not_full put =
    let least : AreLeastOf (take i xs ++ get_or xs i 0 ∷ []) (insert kept put.place (set_of (get_or xs i 0))) = least_insert (take i xs) kept (get_or xs i 0) put.place h.least e (none_greater xs i up within) in
    let least' : AreLeastOf (take (i + 1) xs) (insert kept put.place (set_of (get_or xs i 0))) = subst (λ ys. AreLeastOf ys (insert kept put.place (set_of (get_or xs i 0)))) (sym (take_more xs i 0 within)) least in
    let longer : length (insert kept put.place (set_of (get_or xs i 0))) ≡ length kept + 1 = length-insert kept put.place (set_of (get_or xs i 0)) put.within in
    let same : length new ≡ length (insert kept put.place (set_of (get_or xs i 0))) = ap length put.is in
    let few : length kept ≤ 256 = h.few in
    record {
      least = subst (λ sets. AreLeastOf (take (i + 1) xs) sets) (sym put.is) least';
      ordered = put.ordered;
      few = omega arith;
    }

-- it has not, and as many are kept as may be
pub many_kept : (xs : List ℕ) (i : ℕ) (kept : List InputSet) → i < length xs → IsNonDecreasing xs → satisfies_some (get_or xs i 0) kept ≡ false → AreKept (take i xs) kept → length kept ≡ 256 → AreManyKept xs
many_kept xs i kept within up e h full =
    let more : List InputSet = insert kept 0 (set_of (get_or xs i 0)) in
    let least : AreLeastOf (take i xs ++ get_or xs i 0 ∷ []) (insert kept 0 (set_of (get_or xs i 0))) = least_insert (take i xs) kept (get_or xs i 0) 0 h.least e (none_greater xs i up within) in
    let w = more_least (length xs - (i + 1)) (i + 1) xs (insert kept 0 (set_of (get_or xs i 0))) (omega arith) up (subst (λ ys. AreLeastOf ys (insert kept 0 (set_of (get_or xs i 0)))) (sym (take_more xs i 0 within)) least) in
    let longer : length (insert kept 0 (set_of (get_or xs i 0))) ≡ length kept + 1 = length-insert kept 0 (set_of (get_or xs i 0)) (omega arith) in
    record { sets = w.0; least = w.1; many = omega (arith, w.2) }

-- none of the kept is that candidate
pub kept_others : (c : ℕ) (kept : List InputSet) → satisfies_some c kept ≡ false → All (λ (s : InputSet). ¬ (set_of c ≡ s)) kept
kept_others c kept e = All-from_members (λ (s : InputSet). ¬ (set_of c ≡ s)) kept (λ s m same.
    let f : satisfies_some c kept ≡ true = satisfies_some-by_member c kept s m (subst (λ (t : InputSet). satisfies c t ≡ true) same (satisfies-self (set_of c))) in
    cc)
