-- One more value.
use Rattle.std.proofs.Common.{◌≡◌, ◌≢◌, ℕ, ◌+◌, ◌-◌, ◌≤◌, ◌<◌, ◌^◌, List, [], ◌∷◌, ◌++◌, length, drop, refl, ap, sym, ◌∙◌, subst, arith, Option, Some, None, ℤ, pos, ◌+ℤ◌, append_assoc, Bool, true, false, inl, inr, FitsSigned, IsTrue, if◌then◌else◌}
use Rattle.std.specs.Int.{w128}
use Rattle.std.proofs.lemmas.Int.{ints}
use Rattle.circular_buffer.specs.Buffer.{keep_last, buffer, Buffer}
use Rattle.circular_buffer.proofs.Places.{below_or_not, cut_end}
use Rattle.lola_model.specs.declared.spec.Agg.{Agg}
use Rattle.lola_model.specs.declared.spec.Agg.TheVariants as agg
use Rattle.lola_model.specs.Windows.{number_of, truth_of}
use Rattle.lola_value.specs.Kinds.{is_of_kind}
use Rattle.lola_value.specs.declared.value.Kind.{Kind}
use Rattle.lola_value.specs.declared.value.Kind.TheVariants as kind
use Rattle.lola_value.specs.declared.value.Value.{Value}
use Rattle.lola_value.specs.declared.value.Value.TheVariants as value
use Rattle.lola_value.specs.declared.text.Field.{Field}
use Rattle.lola_value.specs.Naming.{Naming, read, the_text, text_at}
use Rattle.lola_panes.specs.declared.pane.Pane.{Pane}
use Rattle.lola_panes.specs.Weights.{number_at, weight_of, weight_of_value, number_of_value, truth_of_value, as_number}
use Rattle.lola_panes.specs.Rings.{new_pane, with_value, noted, unbeaten, bettered, Rising, AllUpTo}
use Rattle.lola_panes.specs.Answers.{is_extreme}
use Rattle.lola_panes.specs.Holding.{AllLeft, Grouped, HoldsPanes, HoldsBest}
use Rattle.lola_panes.specs.Standing.{StandFor, no_values, newest_of}
use Rattle.lola_panes.specs.Tallies.{AtMost, heaviest}
use Rattle.lola_panes.proofs.Reaching.{reach-none, reach-grow, reach-fits}
use Rattle.lola_panes.proofs.Rising.{AllUpTo-later, AllUpTo-append, AllUpTo-front, AllUpTo-last, AllUpTo-drop, noted-rising}
use Rattle.lola_panes.proofs.Noting.{noted-same, noted-other}
use Rattle.lola_panes.proofs.Extremes.{best-add, best-later, Rising-unbeaten, AllUpTo-unbeaten}
use Rattle.lola_panes.proofs.Grouping.{grouped-new, grouped-same, grouped-below, drops, AllLeft-append, AllLeft-later}

-- values, and what they are read as, weigh the same

pub number_read : (names : Naming) (v : Value) → number_of (read names v) ≡ number_of_value v
number_read names (value.Bool b) = refl
number_read names (value.Int z) = refl
number_read names (value.Text id) = of_text (text_at names id.0)
  where
    of_text : (o : Option (List ℕ)) → number_of (the_text o) ≡ pos 0
    of_text None = refl
    of_text (Some t) = refl

truth_read : (names : Naming) (v : Value) → truth_of (read names v) ≡ truth_of_value v
truth_read names (value.Bool b) = refl
truth_read names (value.Int z) = refl
truth_read names (value.Text id) = of_text (text_at names id.0)
  where
    of_text : (o : Option (List ℕ)) → truth_of (the_text o) ≡ false
    of_text None = refl
    of_text (Some t) = refl

pub weight_read : (how : Agg) (names : Naming) (v : Value) → weight_of how (read names v) ≡ weight_of_value how v
weight_read agg.Count names v = number_read names v
weight_read agg.Sum names v = number_read names v
weight_read agg.Min names v = number_read names v
weight_read agg.Max names v = number_read names v
weight_read agg.Avg names v = number_read names v
weight_read agg.Forall names v = ap as_number (truth_read names v)
weight_read agg.Exists names v = ap as_number (truth_read names v)

-- no value counts for more than the heaviest

number_light : (k : Kind) (v : Value) → IsTrue (is_of_kind k v) → AtMost 18446744073709551615 (number_of_value v)
number_light k (value.Bool b) h = (omega (arith, ints), omega (arith, ints))
number_light k (value.Text id) h = (omega (arith, ints), omega (arith, ints))
number_light kind.Bool (value.Int z) h = cc
number_light kind.Text (value.Int z) h = cc
number_light kind.Int8 (value.Int z) h = grind (arith, ints)
number_light kind.Int16 (value.Int z) h = grind (arith, ints)
number_light kind.Int32 (value.Int z) h = grind (arith, ints)
number_light kind.Int64 (value.Int z) h = grind (arith, ints)
number_light kind.UInt8 (value.Int z) h = grind (arith, ints)
number_light kind.UInt16 (value.Int z) h = grind (arith, ints)
number_light kind.UInt32 (value.Int z) h = grind (arith, ints)
number_light kind.UInt64 (value.Int z) h = grind (arith, ints)

truth_light : (b : Bool) → AtMost 1 (as_number b)
truth_light true = (omega (arith, ints), omega (arith, ints))
truth_light false = (omega (arith, ints), omega (arith, ints))

pub weight_light : (how : Agg) (k : Kind) (v : Value) → IsTrue (is_of_kind k v) → AtMost (heaviest how) (weight_of_value how v)
weight_light agg.Count k v h = number_light k v h
weight_light agg.Sum k v h = number_light k v h
weight_light agg.Min k v h = number_light k v h
weight_light agg.Max k v h = number_light k v h
weight_light agg.Avg k v h = number_light k v h
weight_light agg.Forall k v h = truth_light (truth_of_value v)
weight_light agg.Exists k v h = truth_light (truth_of_value v)

-- the newest of some values and one more is that one
pub newest_more : (pane : ℕ) (all : List (ℕ × Field)) (v : ℕ × Field) → newest_of pane (all ++ v ∷ []) ≡ Some (number_at pane v.0)
newest_more pane [] v = refl
newest_more pane (x ∷ []) v = refl
newest_more pane (x ∷ y ∷ vs) v = newest_more pane (y ∷ vs) v

module _ (how : Agg) (pane : ℕ) where
  -- the panes with one more value
  grouped-noted : (sum : ℤ) (added last : ℕ) (ring : List Pane) (here : List (ℕ × Field)) (v : ℕ × Field) → added < 2 ^ 63 → AtMost (heaviest how) (weight_of how v.1)
      → Grouped how pane sum added 0 ring here → AllUpTo last ring → last ≤ number_at pane v.0
      → let rs = noted how (number_at pane v.0) added sum (weight_of how v.1) ring in
      Grouped how pane (sum +ℤ weight_of how v.1) (added + 1) 0 rs (here ++ v ∷ []) × AllUpTo (number_at pane v.0) rs
  grouped-noted sum added last [] here v b g h u l =
      (grouped-new how pane sum added 0 (number_at pane v.0) [] here v b g h tt (omega arith) refl, (omega arith, tt))
  grouped-noted sum added last (x ∷ xs) here v b g h u l =
      let w = weight_of how v.1 in
      let n = number_at pane v.0 in
      let on = cut_end (x ∷ xs) (omega arith) in
      let h' : Grouped how pane sum added 0 (on.0 ++ on.1 ∷ []) here = subst (λ (rs : List Pane). Grouped how pane sum added 0 rs here) on.2 h in
      let u' : AllUpTo last (on.0 ++ on.1 ∷ []) = subst (AllUpTo last) on.2 u in
      let m : on.1.number ≤ last = AllUpTo-last last on.0 on.1 u' in
      subst (λ (rs : List Pane). Grouped how pane (sum +ℤ w) (added + 1) 0 (noted how n added sum w rs) (here ++ v ∷ []) × AllUpTo n (noted how n added sum w rs)) (sym on.2)
      (elim (below_or_not on.1.number n) [
        | inl less ↦
            let ne : on.1.number ≢ n = λ q. omega arith in
            rw (noted-other how n added sum w on.0 on.1 ne) (
              grouped-new how pane sum added 0 n (on.0 ++ on.1 ∷ []) here v b g h' (grouped-below how pane sum added 0 n on.0 on.1 here h' less) (omega arith) refl,
              AllUpTo-append n (on.0 ++ on.1 ∷ []) (new_pane n added sum w ∷ []) (AllUpTo-later last n (on.0 ++ on.1 ∷ []) u' l) (omega arith, tt),
            )
        | inr more ↦
            let e : on.1.number ≡ n = omega arith in
            rw (noted-same how n added sum w on.0 on.1 e) (
              grouped-same how pane sum added 0 on.0 on.1 here v b g h' (sym e),
              AllUpTo-append n on.0 (with_value how w on.1 ∷ []) (AllUpTo-later last n on.0 (AllUpTo-front last on.0 (on.1 ∷ []) u') l) (omega arith, tt),
            )
      ])

  -- the last panes of those, with what has left
  kept : (sum : ℤ) (added most n : ℕ) (rs : List Pane) (vs : List (ℕ × Field)) → 1 ≤ most → Grouped how pane sum added 0 rs vs → AllUpTo n rs
      → (gone : List (ℕ × Field)) × (here : List (ℕ × Field)) × (vs ≡ gone ++ here) × AllLeft pane most n gone × Grouped how pane sum added 0 (keep_last most rs) here
  kept sum added most n rs vs m h u =
      elim (below_or_not most (length rs)) [
        | inl more ↦ drops how pane sum added 0 most n (length rs - most) rs vs m h u (omega arith)
        | inr less ↦
            let none : length rs - most ≡ 0 = omega arith in
            ([], vs, refl, tt, subst (λ (d : ℕ). Grouped how pane sum added 0 (drop d rs) vs) (sym none) h)
      ]

  -- panes that hold some values hold one more after it was noted
  pub holds-add : (most last : ℕ) (sum : ℤ) (added : ℕ) (ring : List Pane) (all : List (ℕ × Field)) (v : ℕ × Field)
      → 1 ≤ most → last ≤ number_at pane v.0 → added < 2 ^ 63 → AtMost (heaviest how) (weight_of how v.1) → HoldsPanes how pane most last sum added ring all
      → HoldsPanes how pane most (number_at pane v.0) (sum +ℤ weight_of how v.1) (added + 1) (keep_last most (noted how (number_at pane v.0) added sum (weight_of how v.1) ring)) (all ++ v ∷ [])
  holds-add most last sum added ring all v m later b g h =
      let p = h.2 in
      let n = number_at pane v.0 in
      let w = weight_of how v.1 in
      let rs = noted how n added sum w ring in
      let one = grouped-noted sum added last ring h.1 v b g p.grouped p.up_to later in
      let on = kept (sum +ℤ w) (added + 1) most n rs (h.1 ++ v ∷ []) m one.0 one.1 in (
        h.0 ++ on.0,
        on.1,
        record {
          split = ap (λ vs. vs ++ v ∷ []) p.split ∙ (append_assoc h.0 h.1 (v ∷ []) ∙ (ap (λ vs. h.0 ++ vs) on.2 ∙ sym (append_assoc h.0 on.0 on.1)));
          left = AllLeft-append how pane most n h.0 on.0 (AllLeft-later how pane most last n h.0 p.left later) on.3;
          grouped = on.4;
          up_to = AllUpTo-drop n (length rs - most) rs one.1;
          reach = reach-grow how added sum w b g p.reach;
        },
      )

-- the same of what the code has: a total is exact, since 128 bits hold it
pub add-panes : (how : Agg) (k : Kind) (pane most last : ℕ) (sum : ℤ) (added : ℕ) (ring : List Pane) (all : List (ℕ × Field)) (offset number : ℕ) (names : Naming) (v : Value) (w z : ℤ) (capacity : ℕ) (ring' : Buffer Pane)
    → 1 ≤ most → capacity ≡ most → last ≤ number_at pane offset → added < 2 ^ 63 → IsTrue (is_of_kind k v) → number ≡ number_at pane offset → w ≡ weight_of_value how v
    → ring' ≡ buffer (keep_last capacity (noted how number added sum w ring)) capacity → (FitsSigned w128 (sum +ℤ w) → z ≡ sum +ℤ w)
    → HoldsPanes how pane most last sum added ring all → HoldsPanes how pane most (number_at pane offset) z (added + 1) ring'.items (all ++ (offset, read names v) ∷ [])
add-panes how k pane most last sum added ring all offset number names v w z capacity ring' m cap l a kd nu we r t h =
    let x = read names v in
    let c = weight_of how x in
    let n = number_at pane offset in
    let wf : w ≡ c = we ∙ sym (weight_read how names v) in
    let g : AtMost (heaviest how) c = subst (AtMost (heaviest how)) (sym (weight_read how names v)) (weight_light how k v kd) in
    let on = holds-add how pane most last sum added ring all (offset, x) m l a g h in
    let ze : z ≡ sum +ℤ c = t (subst (λ y. FitsSigned w128 (sum +ℤ y)) (sym wf) (reach-fits how (added + 1) (sum +ℤ c) on.2.reach)) ∙ ap (λ y. sum +ℤ y) wf in
    let re : ring'.items ≡ keep_last most (noted how n added sum c ring) = ap (λ (b : Buffer Pane). b.items) r ∙ (λ i. keep_last (cap i) (noted how (nu i) added sum (wf i) ring)) in
    subst (λ y. HoldsPanes how pane most n y (added + 1) ring'.items (all ++ (offset, x) ∷ [])) (sym ze)
    (subst (λ (rs : List Pane). HoldsPanes how pane most n (sum +ℤ c) (added + 1) rs (all ++ (offset, x) ∷ [])) (sym re) on)

-- and of the best of the panes
pub add-best : (how : Agg) (pane most last : ℕ) (ring : List Pane) (all : List (ℕ × Field)) (offset number : ℕ) (names : Naming) (v : Value) (w : ℤ) (capacity : ℕ) (ring' : Buffer Pane)
    → 1 ≤ pane → 1 ≤ most → capacity ≡ most → last ≤ number_at pane offset → is_extreme how ≡ true → Rising 0 ring → AllUpTo last ring → number ≡ number_at pane offset → w ≡ weight_of_value how v
    → ring' ≡ buffer (bettered capacity how number w ring) capacity
    → HoldsBest how pane most last ring all → HoldsBest how pane most (number_at pane offset) ring'.items (all ++ (offset, read names v) ∷ [])
add-best how pane most last ring all offset number names v w capacity ring' g m cap l ex rising up_to nu we r h =
    let x = read names v in
    let c = weight_of how x in
    let n = number_at pane offset in
    let wf : w ≡ c = we ∙ sym (weight_read how names v) in
    let ts = unbeaten how c ring in
    let before : AllUpTo n ring = AllUpTo-later last n ring up_to l in
    let on = noted-rising how n 0 (pos 0) c 0 ts (omega arith) (Rising-unbeaten how c 0 ring rising) (AllUpTo-unbeaten how c n ring before) in
    let re : ring'.items ≡ keep_last most (noted how n 0 (pos 0) c ts) =
    ap (λ (b : Buffer Pane). b.items) r
    ∙ (ap (λ b. if b then keep_last capacity (noted how number 0 (pos 0) w (unbeaten how w ring)) else ring) ex
    ∙ (λ i. keep_last (cap i) (noted how (nu i) 0 (pos 0) (wf i) (unbeaten how (wf i) ring)))) in
    subst (λ (rs : List Pane). HoldsBest how pane most n rs (all ++ (offset, x) ∷ [])) (sym re)
    (best-add how pane most n n ring all ((offset, x) ∷ []) c g m (omega arith) (refl, tt) refl on.0 on.1 before (best-later how pane most last n ring all l h))

-- panes that were given no value stand for none
pub stands-none : (how : Agg) (kind : Kind) (pane most : ℕ) (exact : Bool) → StandFor (no_values how kind pane most exact) []
stands-none how kind pane most exact =
    record {
      holds = ([], [], record { split = refl; left = tt; grouped = refl; up_to = tt; reach = reach-none how 0 });
      bests = λ e. record { best = λ k l. refl; worsening = tt };
      within = tt;
      newest = refl;
    }
