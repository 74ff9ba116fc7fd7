-- Panes and the lists of values that they are of.
use Rattle.std.proofs.Common.{◌≡◌, ℕ, zero, suc, ◌+◌, ◌*◌, ◌≤◌, ◌<◌, ◌^◌, List, [], ◌∷◌, ◌++◌, length, drop, refl, ap, sym, ◌∙◌, subst, arith, ℤ, pos, ◌+ℤ◌, ◌-ℤ◌, append_assoc, append-nil, add-one, inl, inr}
use Rattle.std.specs.Prelude.{filter}
use Rattle.std.proofs.lemmas.List.{map-append}
use Rattle.std.proofs.lemmas.List.Elements.{filter-append}
use Rattle.std.proofs.lemmas.Int.{ints}
use Rattle.circular_buffer.proofs.Places.{below_or_not}
use Rattle.lola_model.specs.declared.spec.Agg.{Agg}
use Rattle.lola_model.specs.Windows.{is_within_window}
use Rattle.lola_value.specs.declared.text.Field.{Field}
use Rattle.lola_panes.specs.declared.pane.Pane.{Pane}
use Rattle.lola_panes.specs.Weights.{number_at, weight_of, best_of}
use Rattle.lola_panes.specs.Rings.{new_pane, with_value, left_count, AllUpTo}
use Rattle.lola_panes.specs.Holding.{AllOf, AllLeft, IsPane, Grouped, count_at, total_at}
use Rattle.lola_panes.specs.Tallies.{weights, Tells, AtMost, heaviest, InReach}
use Rattle.lola_panes.proofs.Folds.{best_with, best-more}
use Rattle.lola_panes.proofs.Reaching.{reach-later, reach-behind, reach-one}
use Rattle.lola_panes.proofs.Telling.{tells-none, tells-one, tells-both}
use Rattle.lola_panes.proofs.Offsets.{left_window, in_window}
use Rattle.lola_panes.proofs.Noting.{le_yes, le_no, lt_yes, lt_no}

abbrev pub AllBelow : ℕ → List Pane → Type 0
AllBelow number [] = Unit {0}
AllBelow number (r ∷ rs) = (r.number < number) × AllBelow number rs

module _ (how : Agg) (pane : ℕ) where
  pub tells-same : (c d t u : ℤ) (vs : List (ℕ × Field)) → c ≡ d → t ≡ u → Tells how c t vs → Tells how d u vs
  tells-same c d t u vs e f h = subst (λ (x : ℤ). Tells how x u vs) e (subst (λ (y : ℤ). Tells how c y vs) f h)

  pub pane-lower : (sum : ℤ) (added low low' count : ℕ) (sum' : ℤ) (r : Pane) (vs : List (ℕ × Field)) → low' ≤ r.number → IsPane how pane sum added low r count sum' vs → IsPane how pane sum added low' r count sum' vs
  pane-lower sum added low low' count sum' r vs l p =
      record { low_le = l; own = p.own; best = p.best; before = p.before; tells = p.tells; reach = p.reach; since = p.since }

  pub weaker : (sum : ℤ) (added low low' : ℕ) (rs : List Pane) (vs : List (ℕ × Field)) → low' ≤ low → Grouped how pane sum added low rs vs → Grouped how pane sum added low' rs vs
  weaker sum added low low' [] vs l h = h
  weaker sum added low low' (r ∷ rs) vs l h =
      let k = h.3.low_le in
      (h.0, h.1, h.2, pane-lower sum added low low' (count_at added rs) (total_at sum rs) r h.0 (omega arith) h.3, h.4)

  -- a pane is as it was with one more value behind it
  later-pane : (sum w : ℤ) (added low : ℕ) (r : Pane) (count count' : ℕ) (before before' : ℤ) (front : List (ℕ × Field)) → added < 2 ^ 63 → AtMost (heaviest how) w → count ≡ count' → before ≡ before'
      → IsPane how pane sum added low r count before front → IsPane how pane (sum +ℤ w) (added + 1) low r count' before' front
  later-pane sum w added low r count count' before before' front b g e f p =
      record {
        low_le = p.low_le;
        own = p.own;
        best = p.best;
        before = subst (λ n. r.count_before ≤ n) e p.before;
        tells = tells-same (pos count -ℤ pos r.count_before) (pos count' -ℤ pos r.count_before) (before -ℤ r.total_before) (before' -ℤ r.total_before) front
            (ap (λ n. pos n -ℤ pos r.count_before) e) (ap (λ z. z -ℤ r.total_before) f) p.tells;
        reach = subst (λ z. InReach how (added + 1) (z -ℤ r.total_before)) f (reach-later how added (before -ℤ r.total_before) p.reach);
        since = reach-behind how added sum w r.total_before b g p.since;
      }

  count_at-new : (added number : ℕ) (sum w : ℤ) (rs : List Pane) → count_at added rs ≡ count_at (added + 1) (rs ++ new_pane number added sum w ∷ [])
  count_at-new added number sum w [] = refl
  count_at-new added number sum w (r ∷ rs) = refl

  total_at-new : (added number : ℕ) (sum w : ℤ) (rs : List Pane) → total_at sum rs ≡ total_at (sum +ℤ w) (rs ++ new_pane number added sum w ∷ [])
  total_at-new added number sum w [] = refl
  total_at-new added number sum w (r ∷ rs) = refl

  -- a pane with its first value
  pane-new : (sum : ℤ) (added low number : ℕ) (v : ℕ × Field) → added < 2 ^ 63 → AtMost (heaviest how) (weight_of how v.1) → low ≤ number → number_at pane v.0 ≡ number
      → IsPane how pane (sum +ℤ weight_of how v.1) (added + 1) low (new_pane number added sum (weight_of how v.1)) (added + 1) (sum +ℤ weight_of how v.1) (v ∷ [])
  pane-new sum added low number v b g l e =
      let w = weight_of how v.1 in
      record {
        low_le = l;
        own = (e, tt);
        best = λ x. refl;
        before = omega arith;
        tells = tells-same (pos 1) (pos (added + 1) -ℤ pos added) w ((sum +ℤ w) -ℤ sum) (v ∷ []) (omega (arith, ints)) (omega (arith, ints)) (tells-one how v);
        reach = reach-one how added sum w b g;
        since = reach-one how added sum w b g;
      }

  -- a value in a new pane
  pub grouped-new : (sum : ℤ) (added low number : ℕ) (rs : List Pane) (vs : List (ℕ × Field)) (v : ℕ × Field) → added < 2 ^ 63 → AtMost (heaviest how) (weight_of how v.1)
      → Grouped how pane sum added low rs vs → AllBelow number rs → low ≤ number → number_at pane v.0 ≡ number
      → Grouped how pane (sum +ℤ weight_of how v.1) (added + 1) low (rs ++ new_pane number added sum (weight_of how v.1) ∷ []) (vs ++ v ∷ [])
  grouped-new sum added low number [] vs v b g h below l e =
      subst (λ (ws : List (ℕ × Field)). Grouped how pane (sum +ℤ weight_of how v.1) (added + 1) low (new_pane number added sum (weight_of how v.1) ∷ []) (ws ++ v ∷ [])) (sym h)
      (v ∷ [], [], refl, pane-new sum added low number v b g l e, refl)
  grouped-new sum added low number (r ∷ rs) vs v b g h below l e =
      let w = weight_of how v.1 in
      let more = rs ++ new_pane number added sum w ∷ [] in (
        h.0,
        h.1 ++ v ∷ [],
        ap (λ ws. ws ++ v ∷ []) h.2 ∙ append_assoc h.0 h.1 (v ∷ []),
        later-pane sum w added low r (count_at added rs) (count_at (added + 1) more) (total_at sum rs) (total_at (sum +ℤ w) more) h.0 b g (count_at-new added number sum w rs) (total_at-new added number sum w rs) h.3,
        grouped-new sum added (r.number + 1) number rs h.1 v b g h.4 below.1 (let k = below.0 in omega arith) e,
      )

  AllOf-more : (number : ℕ) (vs : List (ℕ × Field)) (v : ℕ × Field) → AllOf pane number vs → number_at pane v.0 ≡ number → AllOf pane number (vs ++ v ∷ [])
  AllOf-more number [] v h e = (e, tt)
  AllOf-more number (x ∷ vs) v h e = (h.0, AllOf-more number vs v h.1 e)

  count_at-same : (added : ℕ) (w : ℤ) (us : List Pane) (r : Pane) → count_at added (us ++ r ∷ []) ≡ count_at (added + 1) (us ++ with_value how w r ∷ [])
  count_at-same added w [] r = refl
  count_at-same added w (u ∷ us) r = refl

  total_at-same : (sum w : ℤ) (us : List Pane) (r : Pane) → total_at sum (us ++ r ∷ []) ≡ total_at (sum +ℤ w) (us ++ with_value how w r ∷ [])
  total_at-same sum w [] r = refl
  total_at-same sum w (u ∷ us) r = refl

  -- the last pane with one more value
  pane-same : (sum : ℤ) (added low : ℕ) (r : Pane) (front : List (ℕ × Field)) (v : ℕ × Field) → added < 2 ^ 63 → AtMost (heaviest how) (weight_of how v.1) → number_at pane v.0 ≡ r.number
      → IsPane how pane sum added low r added sum front
      → IsPane how pane (sum +ℤ weight_of how v.1) (added + 1) low (with_value how (weight_of how v.1) r) (added + 1) (sum +ℤ weight_of how v.1) (front ++ v ∷ [])
  pane-same sum added low r front v b g e p =
      let w = weight_of how v.1 in
      record {
        low_le = p.low_le;
        own = AllOf-more r.number front v p.own e;
        best = λ x.
            ap (best_of how) (map-append (λ (y : ℕ × Field). weight_of how y.1) front (v ∷ []))
            ∙ (best-more how (weights how front) w ∙ ap (λ o. best_with how o w) (p.best x));
        before = (let k = p.before in omega arith);
        tells = tells-same ((pos added -ℤ pos r.count_before) +ℤ pos 1) (pos (added + 1) -ℤ pos r.count_before) ((sum -ℤ r.total_before) +ℤ w) ((sum +ℤ w) -ℤ r.total_before) (front ++ v ∷ [])
            (omega (arith, ints)) (omega (arith, ints))
            (tells-both how (pos added -ℤ pos r.count_before) (pos 1) (sum -ℤ r.total_before) w front (v ∷ []) p.tells (tells-one how v));
        reach = reach-behind how added sum w r.total_before b g p.reach;
        since = reach-behind how added sum w r.total_before b g p.since;
      }

  -- a value in the last pane
  pub grouped-same : (sum : ℤ) (added low : ℕ) (us : List Pane) (r : Pane) (vs : List (ℕ × Field)) (v : ℕ × Field) → added < 2 ^ 63 → AtMost (heaviest how) (weight_of how v.1)
      → Grouped how pane sum added low (us ++ r ∷ []) vs → number_at pane v.0 ≡ r.number
      → Grouped how pane (sum +ℤ weight_of how v.1) (added + 1) low (us ++ with_value how (weight_of how v.1) r ∷ []) (vs ++ v ∷ [])
  grouped-same sum added low [] r vs v b g h e =
      let whole : vs ≡ h.0 = h.2 ∙ (ap (λ b. h.0 ++ b) h.4 ∙ append-nil h.0) in (
        h.0 ++ v ∷ [],
        [],
        ap (λ ws. ws ++ v ∷ []) whole ∙ sym (append-nil (h.0 ++ v ∷ [])),
        pane-same sum added low r h.0 v b g e h.3,
        refl,
      )
  grouped-same sum added low (u ∷ us) r vs v b g h e =
      let w = weight_of how v.1 in
      let old = us ++ r ∷ [] in
      let new = us ++ with_value how w r ∷ [] in (
        h.0,
        h.1 ++ v ∷ [],
        ap (λ ws. ws ++ v ∷ []) h.2 ∙ append_assoc h.0 h.1 (v ∷ []),
        later-pane sum w added low u (count_at added old) (count_at (added + 1) new) (total_at sum old) (total_at (sum +ℤ w) new) h.0 b g (count_at-same added w us r) (total_at-same sum w us r) h.3,
        grouped-same sum added (u.number + 1) us r h.1 v b g h.4 e,
      )

  -- all panes are below what the last one is below
  grouped-low : (sum : ℤ) (added low : ℕ) (us : List Pane) (r : Pane) (vs : List (ℕ × Field)) → Grouped how pane sum added low (us ++ r ∷ []) vs → low ≤ r.number
  grouped-low sum added low [] r vs h = h.3.low_le
  grouped-low sum added low (u ∷ us) r vs h = let k = h.3.low_le in let m = grouped-low sum added (u.number + 1) us r h.1 h.4 in omega arith

  pub grouped-below : (sum : ℤ) (added low number : ℕ) (us : List Pane) (r : Pane) (vs : List (ℕ × Field)) → Grouped how pane sum added low (us ++ r ∷ []) vs → r.number < number → AllBelow number (us ++ r ∷ [])
  grouped-below sum added low number [] r vs h l = (l, tt)
  grouped-below sum added low number (u ∷ us) r vs h l =
      let m = grouped-low sum added (u.number + 1) us r h.1 h.4 in
      (omega arith, grouped-below sum added (u.number + 1) number us r h.1 h.4 l)

  -- numbers rise, so many panes span as many numbers
  grouped-span : (sum : ℤ) (added low last : ℕ) (rs : List Pane) (vs : List (ℕ × Field)) → Grouped how pane sum added low rs vs → AllUpTo last rs → 0 < length rs → low + length rs ≤ last + 1
  grouped-span sum added low last [] vs h u l = absurd (omega arith)
  grouped-span sum added low last (r ∷ []) vs h u l = let k = h.3.low_le in let m = u.0 in omega arith
  grouped-span sum added low last (r ∷ q ∷ rs) vs h u l =
      let k = h.3.low_le in let m = grouped-span sum added (r.number + 1) last (q ∷ rs) h.1 h.4 u.1 (omega arith) in omega arith

  pub AllLeft-of : (most k number : ℕ) (vs : List (ℕ × Field)) → AllOf pane number vs → number + most ≤ k → AllLeft pane most k vs
  AllLeft-of most k number [] h l = tt
  AllLeft-of most k number (v ∷ vs) h l = let e = h.0 in (omega arith, AllLeft-of most k number vs h.1 l)

  pub AllLeft-append : (most k : ℕ) (vs ws : List (ℕ × Field)) → AllLeft pane most k vs → AllLeft pane most k ws → AllLeft pane most k (vs ++ ws)
  AllLeft-append most k [] ws h g = g
  AllLeft-append most k (v ∷ vs) ws h g = (h.0, AllLeft-append most k vs ws h.1 g)

  pub AllLeft-later : (most k k' : ℕ) (vs : List (ℕ × Field)) → AllLeft pane most k vs → k ≤ k' → AllLeft pane most k' vs
  AllLeft-later most k k' [] h l = tt
  AllLeft-later most k k' (v ∷ vs) h l = let e = h.0 in (omega arith, AllLeft-later most k k' vs h.1 l)

  -- the oldest panes go, where at least as many stay as a window has: their values have left for good
  pub drops : (sum : ℤ) (added low most last d : ℕ) (rs : List Pane) (vs : List (ℕ × Field)) → 1 ≤ most → Grouped how pane sum added low rs vs → AllUpTo last rs → d + most ≤ length rs
      → (gone : List (ℕ × Field)) × (here : List (ℕ × Field)) × (vs ≡ gone ++ here) × AllLeft pane most last gone × Grouped how pane sum added low (drop d rs) here
  drops sum added low most last zero rs vs m h u l = ([], vs, refl, tt, h)
  drops sum added low most last (suc d) [] vs m h u l = absurd (omega arith)
  drops sum added low most last (suc d) (r ∷ rs) vs m h u l =
      let p = h.3 in
      let s = grouped-span sum added (r.number + 1) last rs h.1 h.4 u.1 (omega arith) in
      let on = drops sum added (r.number + 1) most last d rs h.1 m h.4 u.1 (omega arith) in (
        h.0 ++ on.0,
        on.1,
        h.2 ∙ (ap (λ b. h.0 ++ b) on.2 ∙ sym (append_assoc h.0 on.0 on.1)),
        AllLeft-append most last h.0 on.0 (AllLeft-of most last r.number h.0 p.own (omega arith)) on.3,
        weaker sum added (r.number + 1) low (drop d rs) on.1 (let k = p.low_le in omega arith) on.4,
      )

  -- windows

  pub all_gone : (most k : ℕ) → 1 ≤ pane → (vs : List (ℕ × Field)) → AllLeft pane most k vs → filter (is_within_window (most * pane) (k * pane)) vs ≡ []
  all_gone most k g [] h = refl
  all_gone most k g (v ∷ vs) h = rw (lt_no (k * pane) (v.0 + most * pane) (left_window pane most k v.0 g h.0)) (all_gone most k g vs h.1)

  pub all_here_own : (most k number : ℕ) → 1 ≤ pane → (vs : List (ℕ × Field)) → AllOf pane number vs → k < number + most → filter (is_within_window (most * pane) (k * pane)) vs ≡ vs
  all_here_own most k number g [] h l = refl
  all_here_own most k number g (v ∷ vs) h l =
      let e = h.0 in
      rw (lt_yes (k * pane) (v.0 + most * pane) (in_window pane most k v.0 g (omega arith))) (ap (λ ws. v ∷ ws) (all_here_own most k number g vs h.1 l))

  all_here : (sum : ℤ) (added low most k : ℕ) → 1 ≤ pane → (rs : List Pane) (vs : List (ℕ × Field)) → Grouped how pane sum added low rs vs → k < low + most → filter (is_within_window (most * pane) (k * pane)) vs ≡ vs
  all_here sum added low most k g [] vs h l = subst (λ (ws : List (ℕ × Field)). filter (is_within_window (most * pane) (k * pane)) ws ≡ ws) (sym h) refl
  all_here sum added low most k g (r ∷ rs) vs h l =
      let p = h.3 in
      let m = p.low_le in
      let f = is_within_window (most * pane) (k * pane) in
      subst (λ (ws : List (ℕ × Field)). filter f ws ≡ ws) (sym h.2)
      (filter-append f h.0 h.1 ∙ (λ i. all_here_own most k r.number g h.0 p.own (omega arith) i ++ all_here sum added (r.number + 1) most k g rs h.1 h.4 (omega arith) i))

  -- the values in the window are those of the panes that have not left it
  pub window_here : (sum : ℤ) (added low most k : ℕ) → 1 ≤ pane → (rs : List Pane) (vs : List (ℕ × Field)) → Grouped how pane sum added low rs vs
      → (here : List (ℕ × Field)) × (filter (is_within_window (most * pane) (k * pane)) vs ≡ here) × Grouped how pane sum added 0 (drop (left_count most k rs) rs) here
  window_here sum added low most k g [] vs h = (vs, subst (λ (ws : List (ℕ × Field)). filter (is_within_window (most * pane) (k * pane)) ws ≡ ws) (sym h) refl, h)
  window_here sum added low most k g (r ∷ rs) vs h =
      let p = h.3 in
      let f = is_within_window (most * pane) (k * pane) in
      elim (below_or_not k (r.number + most)) [
        | inl l ↦
            rw (le_no (r.number + most) k l) (
              vs,
              all_here sum added r.number most k g (r ∷ rs) vs (h.0, h.1, h.2, pane-lower sum added low r.number (count_at added rs) (total_at sum rs) r h.0 (omega arith) p, h.4) l,
              weaker sum added low 0 (r ∷ rs) vs (omega arith) h,
            )
        | inr l ↦
            let on = window_here sum added (r.number + 1) most k g rs h.1 h.4 in
            rw (le_yes (r.number + most) k l, add-one)
            (on.0, ap (filter f) h.2 ∙ (filter-append f h.0 h.1 ∙ (λ i. all_gone most k g h.0 (AllLeft-of most k r.number h.0 p.own l) i ++ on.1 i)), on.2)
      ]

  -- what lies from the first of the panes on tells of their values
  pub grouped-tells : (sum : ℤ) (added low : ℕ) (rs : List Pane) (vs : List (ℕ × Field)) → Grouped how pane sum added low rs vs
      → (count_at added rs ≤ added) × Tells how (pos added -ℤ pos (count_at added rs)) (sum -ℤ total_at sum rs) vs
  grouped-tells sum added low [] vs h = (
    omega arith,
    subst (Tells how (pos added -ℤ pos added) (sum -ℤ sum)) (sym h) (tells-same (pos 0) (pos added -ℤ pos added) (pos 0) (sum -ℤ sum) [] (omega (arith, ints)) (omega (arith, ints)) (tells-none how)),
  )
  grouped-tells sum added low (r ∷ rs) vs h =
      let on = grouped-tells sum added (r.number + 1) rs h.1 h.4 in
      let n = count_at added rs in
      let z = total_at sum rs in
      let k = h.3.before in
      let m = on.0 in (
        omega arith,
        subst (Tells how (pos added -ℤ pos r.count_before) (sum -ℤ r.total_before)) (sym h.2)
            (tells-same ((pos n -ℤ pos r.count_before) +ℤ (pos added -ℤ pos n)) (pos added -ℤ pos r.count_before) ((z -ℤ r.total_before) +ℤ (sum -ℤ z)) (sum -ℤ r.total_before) (h.0 ++ h.1)
            (omega (arith, ints)) (omega (arith, ints))
            (tells-both how (pos n -ℤ pos r.count_before) (pos added -ℤ pos n) (z -ℤ r.total_before) (sum -ℤ z) h.0 h.1 h.3.tells on.1)),
      )
