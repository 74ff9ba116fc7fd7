-- Flags on streams, and searches that are made by them.
use Rattle.std.proofs.Common.{◌≡◌, ◌≢◌, refl, ap, sym, ◌∙◌, ℕ, zero, suc, ◌+◌, ◌-◌, ◌<◌, List, [], ◌∷◌, ◌++◌, Bool, true, false, arith, length, take, replicate, slice_set, ◌⊎◌, inl, inr}
use Rattle.std.specs.List.{slice_index_or, Contains}
use Rattle.std.proofs.lemmas.Bool.{cases_eq}
use Rattle.std.proofs.lemmas.List.{get_or-set_same, get_or-set_other, get_or_default, take_more}
use Rattle.std.proofs.lemmas.Grind.{get_or_default_zero}
use Rattle.std.proofs.lemmas.List.Elements.{Contains-append_left, Contains-append_right, Contains-append_cases, Contains-push, Contains-push_cases}
use Rattle.lola_pacing.specs.Flags.{IsFlagged, IsBlank, IsOther, unflagged, Flags, FlagsVisited, Searched}
use Rattle.lola_model.specs.Leaves.{IsTrail, IsVisited, list_at}

pub no_element : {X : Type 0} (x : X) → Contains [] x → ⊥
no_element x c = let k : c.0 < 0 = c.1 in absurd (omega arith)

-- a flag is on one of the list
pub flagged_low : (flags : List Bool) (n : ℕ) → IsFlagged flags n → n < length flags
flagged_low [] n h = absurd (cc)
flagged_low (b ∷ bs) zero h = omega arith
flagged_low (b ∷ bs) (suc n) h = omega (arith, flagged_low bs n h)

-- where nothing is flagged yet
pub blank_room : (count : ℕ) → IsBlank (replicate count false)
blank_room zero n h = absurd (cc)
blank_room (suc count) zero h = absurd (cc)
blank_room (suc count) (suc n) h = blank_room count n h

only_one : (n m : ℕ) → Contains (n ∷ []) m → n ≡ m
only_one n m c = elim (Contains-push_cases [] n m c) [ inl a ↦ absurd (no_element m a) | inr e ↦ e ]

unflagged-set : (flags : List Bool) (n : ℕ) → n < length flags → slice_index_or flags n false ≡ false → suc (unflagged (slice_set flags n true)) ≡ unflagged flags
unflagged-set [] n lt h = absurd (omega arith)
unflagged-set (true ∷ bs) zero lt h = absurd (cc)
unflagged-set (false ∷ bs) zero lt h = refl
unflagged-set (true ∷ bs) (suc n) lt h = unflagged-set bs n (omega arith) h
unflagged-set (false ∷ bs) (suc n) lt h = ap suc (unflagged-set bs n (omega arith) h)

module _ (own : ℕ) (flags : List Bool) (n : ℕ) where
  set_keeps : (m : ℕ) → n < length flags → IsFlagged flags m → IsFlagged (slice_set flags n true) m
  set_keeps m lt h = elim (cases_eq m n) [ inl e ↦ rw e (get_or-set_same flags n true false lt) | inr ne ↦ get_or-set_other flags n m true false ne ∙ h ]

  set_fresh : (m : ℕ) → IsFlagged (slice_set flags n true) m → IsFlagged flags m ⊎ (n ≡ m)
  set_fresh m h = elim (cases_eq m n) [ inl e ↦ inr (sym e) | inr ne ↦ inl (sym (get_or-set_other flags n m true false ne) ∙ h) ]

  length-pushed : (noted : List ℕ) → length (noted ++ n ∷ []) ≡ suc (length noted)
  length-pushed [] = refl
  length-pushed (x ∷ xs) = ap suc (length-pushed xs)

  -- a stream that had no flag
  pub flags_one : (noted : List ℕ) → n ≢ own → n < length flags → slice_index_or flags n false ≡ false
      → Flags own (n ∷ []) flags noted (slice_set flags n true) (noted ++ n ∷ [])
  flags_one noted other lt h = record {
    kept = λ m k. set_keeps m lt k;
    flagged = λ m c. (let e : n ≡ m = only_one n m c.0 in rw (← e) (get_or-set_same flags n true false lt));
    fresh = λ m k. elim (set_fresh m k) [ inl a ↦ inl a | inr e ↦ inr (rw (← e) (Contains-push [] n, other), rw (← e) (Contains-push noted n)) ];
    held = λ m c. Contains-append_left noted (n ∷ []) m c;
    only = λ m c. elim (Contains-append_cases noted (n ∷ []) m c) [ inl a ↦ inl a | inr b ↦ inr (b, rw (← only_one n m b) other) ];
    left = omega (arith, unflagged-set flags n lt h, length-pushed noted);
  }

  -- a stream that had one
  pub flags_none : (noted : List ℕ) → IsFlagged flags n → Flags own (n ∷ []) flags noted flags noted
  flags_none noted h = record {
    kept = λ m k. k;
    flagged = λ m c. (let e : n ≡ m = only_one n m c.0 in rw (← e) h);
    fresh = λ m k. inl k;
    held = λ m c. c;
    only = λ m c. inl c;
    left = refl;
  }

  -- the own stream
  pub flags_own : (noted : List ℕ) → n ≡ own → Flags own (n ∷ []) flags noted flags noted
  flags_own noted e = record {
    kept = λ m k. k;
    flagged = λ m c. absurd (c.1 (sym (only_one n m c.0) ∙ e));
    fresh = λ m k. inl k;
    held = λ m c. c;
    only = λ m c. inl c;
    left = refl;
  }

-- no streams
pub flags_nothing : (own : ℕ) (flags : List Bool) (noted : List ℕ) → Flags own [] flags noted flags noted
flags_nothing own flags noted = record {
  kept = λ m k. k;
  flagged = λ m c. absurd (no_element m c.0);
  fresh = λ m k. inl k;
  held = λ m c. c;
  only = λ m c. inl c;
  left = refl;
}

module _ (own : ℕ) where
  other_first : (xs ys : List ℕ) (m : ℕ) → IsOther own xs m → IsOther own (xs ++ ys) m
  other_first xs ys m o = (Contains-append_left xs ys m o.0, o.1)

  other_second : (xs ys : List ℕ) (m : ℕ) → IsOther own ys m → IsOther own (xs ++ ys) m
  other_second xs ys m o = (Contains-append_right xs ys m o.0, o.1)

  -- some streams, and then others
  pub flags_both : (xs ys : List ℕ) (a b c : List Bool) (p q r : List ℕ) → Flags own xs a p b q → Flags own ys b q c r → Flags own (xs ++ ys) a p c r
  flags_both xs ys a b c p q r f g = record {
    kept = λ m k. g.kept m (f.kept m k);
    flagged = λ m k. elim (Contains-append_cases xs ys m k.0) [ inl i ↦ g.kept m (f.flagged m (i, k.1)) | inr j ↦ g.flagged m (j, k.1) ];
    fresh = λ m k. elim (g.fresh m k) [
      | inl i ↦ elim (f.fresh m i) [ inl u ↦ inl u | inr v ↦ inr (other_first xs ys m v.0, g.held m v.1) ]
      | inr j ↦ inr (other_second xs ys m j.0, j.1)
    ];
    held = λ m k. g.held m (f.held m k);
    only = λ m k. elim (g.only m k) [
      | inl i ↦ elim (f.only m i) [ inl u ↦ inl u | inr v ↦ inr (other_first xs ys m v) ]
      | inr j ↦ inr (other_second xs ys m j)
    ];
    left = omega (arith, f.left, g.left);
  }

  -- one more
  pub flags_more : (xs : List ℕ) (i x : ℕ) (a b c : List Bool) (p q r : List ℕ) → i < length xs → slice_index_or xs i x ≡ x
      → Flags own (take i xs) a p b q → Flags own (x ∷ []) b q c r → Flags own (take (i + 1) xs) a p c r
  flags_more xs i x a b c p q r lt e f g =
      let at : take (i + 1) xs ≡ take i xs ++ x ∷ [] = take_more xs i x lt ∙ ap (λ y. take i xs ++ y ∷ []) e in
      rw at (flags_both (take i xs) (x ∷ []) a b c p q r f g)

module _ (lists : List (List ℕ)) (own : ℕ) where
  trail_more : (over first : List ℕ) (n m : ℕ) → IsTrail lists own first over n → IsOther own (list_at lists n) m → IsTrail lists own first (over ++ n ∷ []) m
  trail_more [] first n m h o = (h.0, h.1, o)
  trail_more (x ∷ xs) first n m h o = (h.0, h.1, trail_more xs (list_at lists x) n m h.2 o)

  module _ (first : List ℕ) where
    visited_more : (n m : ℕ) → IsVisited lists own first n → IsOther own (list_at lists n) m → IsVisited lists own first m
    visited_more n m r o = (r.0 ++ n ∷ [], trail_more r.0 first n m r.1 o)

    -- after the first streams are flagged
    pub search_begun : (old new : List Bool) (noted : List ℕ) → IsBlank old → Flags own first old [] new noted → Searched lists own first new noted
    search_begun old new noted blank f = record {
      visited = λ n k. elim (f.fresh n k) [ inl a ↦ absurd (blank n a) | inr b ↦ ([], b.0) ];
      listed = λ n c. elim (f.only n c) [ inl a ↦ absurd (no_element n a) | inr b ↦ f.flagged n b ];
      begun = λ n o. f.flagged n o;
      onward = λ n k. elim (f.fresh n k) [ inl a ↦ absurd (blank n a) | inr b ↦ inl b.1 ];
    }

    module _ (old new : List Bool) (before after : List ℕ) (node : ℕ) where
      -- after a noted stream is looked at
      pub search_more : Searched lists own first old (before ++ node ∷ []) → Flags own (list_at lists node) old before new after → Searched lists own first new after
      search_more s f = record {
        visited = λ n k. elim (f.fresh n k) [
          | inl a ↦ s.visited n a
          | inr b ↦ visited_more node n (s.visited node (s.listed node (Contains-push before node))) b.0
        ];
        listed = λ n c. elim (f.only n c) [ inl a ↦ f.kept n (s.listed n (Contains-append_left before (node ∷ []) n a)) | inr b ↦ f.flagged n b ];
        begun = λ n o. f.kept n (s.begun n o);
        onward = λ n k. elim (f.fresh n k) [
          | inl a ↦ elim (s.onward n a) [
            | inl w ↦ elim (Contains-push_cases before node n w) [
              | inl v ↦ inl (f.held n v)
              | inr e ↦ inr (λ m o. f.flagged m (rw e o))
            ]
            | inr g ↦ inr (λ m o. f.kept m (g m o))
          ]
          | inr b ↦ inl b.1
        ];
      }

    module _ (flags : List Bool) (s : Searched lists own first flags []) where
      goes_on : (n : ℕ) → IsFlagged flags n → (m : ℕ) → IsOther own (list_at lists n) m → IsFlagged flags m
      goes_on n k m o = elim (s.onward n k) [ inl a ↦ absurd (no_element n a) | inr g ↦ g m o ]

      flags_trail : (over from : List ℕ) (m : ℕ) → ((n : ℕ) → IsOther own from n → IsFlagged flags n) → IsTrail lists own from over m → IsFlagged flags m
      flags_trail [] from m each p = each m p
      flags_trail (x ∷ xs) from m each p = flags_trail xs (list_at lists x) m (goes_on x (each x (p.0, p.1))) p.2

      -- where no noted stream is left
      pub search_ended : FlagsVisited lists own first flags
      search_ended n = (s.visited n, λ r. flags_trail r.0 first n s.begun r.1)

-- an element stands in its list
pub item_in : (xs : List ℕ) (i : ℕ) → i < length xs → Contains xs (slice_index_or xs i 0)
item_in xs i lt = (i, lt, get_or_default_zero xs i (slice_index_or xs i 0) lt)

-- a list, as it is read
pub read_at : (lists : List (List ℕ)) (n : ℕ) (ns : List ℕ) → n < length lists → ns ≡ slice_index_or lists n ns → list_at lists n ≡ ns
read_at lists n ns lt e = get_or_default lists n [] ns lt ∙ sym e

-- a list whose last element cannot be taken
pub nothing_left : (xs ys : List ℕ) (n : ℕ) → (0 < n → false ≡ true) → xs ≡ ys ++ [] → ys ≡ take (n - 1) xs → xs ≡ []
nothing_left xs ys zero h e f = rw f at e
nothing_left xs ys (suc n) h e f = let k : false ≡ true = h (omega arith) in absurd (cc)
