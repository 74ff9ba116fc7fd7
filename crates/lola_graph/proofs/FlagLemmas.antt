-- Flags on nodes, and searches that are made by them.
use Rattle.std.proofs.Common.{◌≡◌, refl, ap, sym, ◌∙◌, ℕ, zero, suc, ◌+◌, ◌-◌, ◌<◌, List, [], ◌∷◌, ◌++◌, Bool, true, false, arith, length, take, slice_set, ◌⊎◌, inl, inr}
use Rattle.std.specs.List.{slice_index_or, Contains}
use Rattle.std.proofs.lemmas.Bool.{cases_eq}
use Rattle.std.proofs.lemmas.List.{get_or-set_same, get_or-set_other, get_or_default, take_more}
use Rattle.std.proofs.lemmas.Grind.{get_or_default_zero}
use Rattle.std.proofs.lemmas.List.Elements.{Contains-append_left, Contains-append_right, Contains-append_cases, Contains-push, Contains-push_cases}
use Rattle.lola_graph.specs.Flags.{IsFlagged, IsBlank, unflagged, Flags, FlagsReached, Searched}
use Rattle.lola_graph.specs.Paths.{IsPath, Reaches, read_by}

-- a flag is on one of the list
pub flagged_low : (flags : List Bool) (n : ℕ) → IsFlagged flags n → n < length flags
flagged_low [] n h = absurd (cc)
flagged_low (b ∷ bs) zero h = omega arith
flagged_low (b ∷ bs) (suc n) h = omega (arith, flagged_low bs n h)

only_one : (n m : ℕ) → Contains (n ∷ []) m → n ≡ m
only_one n m c = elim (Contains-push_cases [] n m c) [ inl a ↦ (let k : a.0 < 0 = a.1 in absurd (omega arith)) | inr e ↦ e ]

unflagged-set : (flags : List Bool) (n : ℕ) → n < length flags → slice_index_or flags n false ≡ false → suc (unflagged (slice_set flags n true)) ≡ unflagged flags
unflagged-set [] n lt h = absurd (omega arith)
unflagged-set (true ∷ bs) zero lt h = absurd (cc)
unflagged-set (false ∷ bs) zero lt h = refl
unflagged-set (true ∷ bs) (suc n) lt h = unflagged-set bs n (omega arith) h
unflagged-set (false ∷ bs) (suc n) lt h = ap suc (unflagged-set bs n (omega arith) h)

module _ (flags : List Bool) (n : ℕ) where
  set_keeps : (m : ℕ) → n < length flags → IsFlagged flags m → IsFlagged (slice_set flags n true) m
  set_keeps m lt h = elim (cases_eq m n) [ inl e ↦ rw e (get_or-set_same flags n true false lt) | inr ne ↦ get_or-set_other flags n m true false ne ∙ h ]

  set_fresh : (m : ℕ) → IsFlagged (slice_set flags n true) m → IsFlagged flags m ⊎ (n ≡ m)
  set_fresh m h = elim (cases_eq m n) [ inl e ↦ inr (sym e) | inr ne ↦ inl (sym (get_or-set_other flags n m true false ne) ∙ h) ]

  length-pushed : (noted : List ℕ) → length (noted ++ n ∷ []) ≡ suc (length noted)
  length-pushed [] = refl
  length-pushed (x ∷ xs) = ap suc (length-pushed xs)

  -- a node that had no flag
  pub flags_one : (noted : List ℕ) → n < length flags → slice_index_or flags n false ≡ false → Flags (n ∷ []) flags noted (slice_set flags n true) (noted ++ n ∷ [])
  flags_one noted lt h = record {
    kept = λ m k. set_keeps m lt k;
    flagged = λ m c. (let e : n ≡ m = only_one n m c in rw (← e) (get_or-set_same flags n true false lt));
    fresh = λ m k. elim (set_fresh m k) [ inl a ↦ inl a | inr e ↦ inr (rw (← e) (Contains-push [] n), rw (← e) (Contains-push noted n)) ];
    held = λ m c. Contains-append_left noted (n ∷ []) m c;
    only = λ m c. Contains-append_cases noted (n ∷ []) m c;
    left = omega (arith, unflagged-set flags n lt h, length-pushed noted);
  }

  -- a node that had one
  pub flags_none : (noted : List ℕ) → IsFlagged flags n → Flags (n ∷ []) flags noted flags noted
  flags_none noted h = record {
    kept = λ m k. k;
    flagged = λ m c. (let e : n ≡ m = only_one n m c in rw (← e) h);
    fresh = λ m k. inl k;
    held = λ m c. c;
    only = λ m c. inl c;
    left = refl;
  }

-- no nodes
pub flags_nothing : (flags : List Bool) (noted : List ℕ) → Flags [] flags noted flags noted
flags_nothing flags noted = record {
  kept = λ m k. k;
  flagged = λ m c. (let k : c.0 < 0 = c.1 in absurd (omega arith));
  fresh = λ m k. inl k;
  held = λ m c. c;
  only = λ m c. inl c;
  left = refl;
}

-- some nodes, and then others
pub flags_both : (xs ys : List ℕ) (a b c : List Bool) (p q r : List ℕ) → Flags xs a p b q → Flags ys b q c r → Flags (xs ++ ys) a p c r
flags_both xs ys a b c p q r f g = record {
  kept = λ m k. g.kept m (f.kept m k);
  flagged = λ m k. elim (Contains-append_cases xs ys m k) [ inl i ↦ g.kept m (f.flagged m i) | inr j ↦ g.flagged m j ];
  fresh = λ m k. elim (g.fresh m k) [
    | inl i ↦ elim (f.fresh m i) [ inl u ↦ inl u | inr v ↦ inr (Contains-append_left xs ys m v.0, g.held m v.1) ]
    | inr j ↦ inr (Contains-append_right xs ys m j.0, j.1)
  ];
  held = λ m k. g.held m (f.held m k);
  only = λ m k. elim (g.only m k) [
    | inl i ↦ elim (f.only m i) [ inl u ↦ inl u | inr v ↦ inr (Contains-append_left xs ys m v) ]
    | inr j ↦ inr (Contains-append_right xs ys m j)
  ];
  left = omega (arith, f.left, g.left);
}

-- one more
pub flags_more : (xs : List ℕ) (i x : ℕ) (a b c : List Bool) (p q r : List ℕ) → i < length xs → slice_index_or xs i x ≡ x → Flags (take i xs) a p b q → Flags (x ∷ []) b q c r → Flags (take (i + 1) xs) a p c r
flags_more xs i x a b c p q r lt e f g =
    let at : take (i + 1) xs ≡ take i xs ++ x ∷ [] = take_more xs i x lt ∙ ap (λ y. take i xs ++ y ∷ []) e in
    rw at (flags_both (take i xs) (x ∷ []) a b c p q r f g)

module _ (lists : List (List ℕ)) where
  path_more : (over : List ℕ) (from n m : ℕ) → IsPath lists from over n → Contains (read_by lists n) m → IsPath lists from (over ++ n ∷ []) m
  path_more [] from n m h c = (h, c)
  path_more (x ∷ xs) from n m h c = (h.0, path_more xs x n m h.1 c)

  reaches_more : (from n m : ℕ) → Reaches lists from n → Contains (read_by lists n) m → Reaches lists from m
  reaches_more from n m r c = (r.0 ++ n ∷ [], path_more r.0 from n m r.1 c)

  module _ (start : ℕ) where
    -- after the first nodes are flagged
    pub search_begun : (old new : List Bool) (noted : List ℕ) → IsBlank old → Flags (read_by lists start) old [] new noted → Searched lists start new noted
    search_begun old new noted blank f = record {
      reached = λ n k. elim (f.fresh n k) [ inl a ↦ absurd (blank n a) | inr b ↦ ([], b.0) ];
      listed = λ n c. elim (f.only n c) [ inl a ↦ (let k : a.0 < 0 = a.1 in absurd (omega arith)) | inr b ↦ f.flagged n b ];
      first = λ n c. f.flagged n c;
      onward = λ n k. elim (f.fresh n k) [ inl a ↦ absurd (blank n a) | inr b ↦ inl b.1 ];
    }

    module _ (old new : List Bool) (before after : List ℕ) (node : ℕ) where
      is_listed : (n : ℕ) → Contains before n → Contains (before ++ node ∷ []) n
      is_listed n c = Contains-append_left before (node ∷ []) n c

      -- after a noted node is looked at
      pub search_more : Searched lists start old (before ++ node ∷ []) → Flags (read_by lists node) old before new after → Searched lists start new after
      search_more s f = record {
        reached = λ n k. elim (f.fresh n k) [
          | inl a ↦ s.reached n a
          | inr b ↦ reaches_more start node n (s.reached node (s.listed node (Contains-push before node))) b.0
        ];
        listed = λ n c. elim (f.only n c) [ inl a ↦ f.kept n (s.listed n (is_listed n a)) | inr b ↦ f.flagged n b ];
        first = λ n c. f.kept n (s.first n c);
        onward = λ n k. elim (f.fresh n k) [
          | inl a ↦ elim (s.onward n a) [
            | inl w ↦ elim (Contains-push_cases before node n w) [
              | inl v ↦ inl (f.held n v)
              | inr e ↦ inr (λ m c. f.flagged m (rw e c))
            ]
            | inr g ↦ inr (λ m c. f.kept m (g m c))
          ]
          | inr b ↦ inl b.1
        ];
      }

    module _ (flags : List Bool) (s : Searched lists start flags []) where
      goes_on : (n m : ℕ) → IsFlagged flags n → Contains (read_by lists n) m → IsFlagged flags m
      goes_on n m k c = elim (s.onward n k) [ inl a ↦ (let q : a.0 < 0 = a.1 in absurd (omega arith)) | inr g ↦ g m c ]

      flags_path : (over : List ℕ) (n m : ℕ) → IsFlagged flags n → IsPath lists n over m → IsFlagged flags m
      flags_path [] n m k p = goes_on n m k p
      flags_path (x ∷ xs) n m k p = flags_path xs x m (goes_on n x k p.0) p.1

      flags_reached : (over : List ℕ) (m : ℕ) → IsPath lists start over m → IsFlagged flags m
      flags_reached [] m p = s.first m p
      flags_reached (x ∷ xs) m p = flags_path xs x m (s.first x p.0) p.1

      -- where no noted node is left
      pub search_ended : FlagsReached lists start flags
      search_ended = record { only = s.reached; all = λ n r. flags_reached r.0 n r.1 }

-- an element stands in its list
pub item_in : (xs : List ℕ) (i : ℕ) → i < length xs → Contains xs (slice_index_or xs i 0)
item_in xs i lt = (i, lt, get_or_default_zero xs i (slice_index_or xs i 0) lt)

-- the list of a node, as it is read
pub read_at : (lists : List (List ℕ)) (n : ℕ) (nodes : List ℕ) → n < length lists → nodes ≡ slice_index_or lists n nodes → read_by lists n ≡ nodes
read_at lists n nodes lt e = get_or_default lists n [] nodes lt ∙ sym e

-- a list whose last element cannot be taken
pub nothing_left : (xs ys : List ℕ) (n : ℕ) → (0 < n → false ≡ true) → xs ≡ ys ++ [] → ys ≡ take (n - 1) xs → xs ≡ []
nothing_left xs ys zero h e f = rw f at e
nothing_left xs ys (suc n) h e f = let k : false ≡ true = h (omega arith) in absurd (cc)
