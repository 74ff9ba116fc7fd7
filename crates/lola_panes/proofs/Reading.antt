-- What panes answer is the fold over all values in the window.
use Rattle.std.proofs.Common.{◌≡◌, ℕ, ◌*◌, ◌≤◌, List, [], ◌∷◌, ◌++◌, map, drop, ap, sym, ◌∙◌, subst, arith, Option, ℤ, pos, ◌-ℤ◌, true, false, slice_get}
use Rattle.std.specs.Prelude.{filter}
use Rattle.std.proofs.lemmas.List.Elements.{filter-append}
use Rattle.std.proofs.lemmas.Int.{ints}
use Rattle.circular_buffer.proofs.Places.{slice_get-drop}
use Rattle.lola_model.specs.declared.spec.Agg.{Agg}
use Rattle.lola_model.specs.declared.spec.Agg.TheVariants as agg
use Rattle.lola_model.specs.Windows.{is_within_window, values_within, number_of, aggregated}
use Rattle.lola_value.specs.declared.value.Kind.{Kind}
use Rattle.lola_value.specs.declared.text.Field.{Field}
use Rattle.lola_panes.specs.declared.pane.Pane.{Pane}
use Rattle.lola_panes.specs.Weights.{best_of}
use Rattle.lola_panes.specs.Answers.{best_answer, total_answer, is_extreme}
use Rattle.lola_panes.specs.Rings.{left_count, extreme_of, since_count, IsSinceTotal}
use Rattle.lola_panes.specs.Holding.{AllWithin, Grouped, HoldsPanes, HoldsBest, count_at, total_at}
use Rattle.lola_panes.specs.Tallies.{Tells, weights}
use Rattle.lola_panes.proofs.Ranges.{AllIn-numbers, AllWithin-filter}
use Rattle.lola_panes.proofs.Means.{least-best, greatest-best}
use Rattle.lola_panes.proofs.Reaching.{reach-fits}
use Rattle.lola_panes.proofs.Telling.{tells-answer, map-map}
use Rattle.lola_panes.proofs.Grouping.{all_gone, AllLeft-later, window_here, grouped-tells}
use Rattle.lola_panes.proofs.Extremes.{first-best}

-- the values in the window
module _ (how : Agg) (pane : ℕ) where
  pub here_in : (most last : ℕ) (sum : ℤ) (added k : ℕ) (ring : List Pane) (all : List (ℕ × Field)) → 1 ≤ pane → last ≤ k → HoldsPanes how pane most last sum added ring all
      → (here : List (ℕ × Field)) × (filter (is_within_window (most * pane) (k * pane)) all ≡ here) × Grouped how pane sum added 0 (drop (left_count most k ring) ring) here
  here_in most last sum added k ring all g l h =
      let p = h.2 in
      let f = is_within_window (most * pane) (k * pane) in
      let on = window_here how pane sum added 0 most k g ring h.1 p.grouped in
      let gone : filter f h.0 ≡ [] = all_gone how pane most k g h.0 (AllLeft-later how pane most last k h.0 p.left l) in
      (on.0, ap (filter f) p.split ∙ (filter-append f h.0 h.1 ∙ (λ i. gone i ++ on.1 i)), on.2)

  -- what the first pane's totals leave are the number and the total of the values from it on
  since_count-is : (added : ℕ) (rs : List Pane) → count_at added rs ≤ added → pos (since_count added (slice_get rs 0)) ≡ pos added -ℤ pos (count_at added rs)
  since_count-is added [] h = omega (arith, ints)
  since_count-is added (r ∷ rs) h = omega (arith, ints)

  since_total-is : (sum : ℤ) (added low : ℕ) (rs : List Pane) (here : List (ℕ × Field)) (z : ℤ) → Grouped how pane sum added low rs here → IsSinceTotal sum (slice_get rs 0) z → z ≡ sum -ℤ total_at sum rs
  since_total-is sum added low [] here z h t = t ∙ omega (arith, ints)
  since_total-is sum added low (r ∷ rs) here z h t = t (reach-fits how added (sum -ℤ r.total_before) h.3.since)

-- the two ways to an answer
pub best-answers : (how : Agg) (kind : Kind) (vs : List (ℕ × Field)) → AllWithin kind vs → is_extreme how ≡ true → best_answer kind (best_of how (weights how vs)) ≡ aggregated how kind (map (λ v. v.1) vs)
best-answers agg.Min kind vs w e = ap (λ zs. best_answer kind (best_of agg.Min zs)) (map-map number_of vs) ∙ least-best kind (map number_of (map (λ v. v.1) vs)) (AllIn-numbers kind vs w)
best-answers agg.Max kind vs w e = ap (λ zs. best_answer kind (best_of agg.Max zs)) (map-map number_of vs) ∙ greatest-best kind (map number_of (map (λ v. v.1) vs)) (AllIn-numbers kind vs w)
best-answers agg.Count kind vs w e = cc
best-answers agg.Sum kind vs w e = cc
best-answers agg.Avg kind vs w e = cc
best-answers agg.Forall kind vs w e = cc
best-answers agg.Exists kind vs w e = cc

module _ (how : Agg) (kind : Kind) (pane most last : ℕ) (k : ℕ) (all : List (ℕ × Field)) (n : ℕ) where
  -- from the first of the best panes in the window
  pub read-best : (ring : List Pane) (best : Option ℤ) → 1 ≤ pane → last ≤ k → n ≡ left_count most k ring → best ≡ extreme_of (slice_get ring n) → is_extreme how ≡ true
      → AllWithin kind all → HoldsBest how pane most last ring all → best_answer kind best ≡ aggregated how kind (values_within (most * pane) (k * pane) all)
  read-best ring best g l e b t i h =
      let f = is_within_window (most * pane) (k * pane) in
      let is : best ≡ best_of how (weights how (filter f all)) =
      b ∙ (ap (λ m. extreme_of (slice_get ring m)) e ∙ (first-best how most k ring h.worsening ∙ sym (h.best k l))) in
      ap (best_answer kind) is ∙ best-answers how kind (filter f all) (AllWithin-filter kind f all i) t

  -- from the totals at its first pane
  pub read-total : (sum : ℤ) (added : ℕ) (ring : List Pane) (count : ℕ) (z : ℤ) → 1 ≤ pane → last ≤ k → n ≡ left_count most k ring → count ≡ since_count added (slice_get ring n) → IsSinceTotal sum (slice_get ring n) z → is_extreme how ≡ false
      → AllWithin kind all → HoldsPanes how pane most last sum added ring all → total_answer how kind count z ≡ aggregated how kind (values_within (most * pane) (k * pane) all)
  read-total sum added ring count z g l e c s t i h =
      let f = is_within_window (most * pane) (k * pane) in
      let on = here_in how pane most last sum added k ring all g l h in
      let rs = drop (left_count most k ring) ring in
      let first : slice_get rs 0 ≡ slice_get ring n = slice_get-drop (left_count most k ring) ring 0 n (omega arith) in
      let told = grouped-tells how pane sum added 0 rs on.0 on.2 in
      let ce : pos added -ℤ pos (count_at added rs) ≡ pos count = sym (ap pos (c ∙ ap (since_count added) (sym first)) ∙ since_count-is how pane added rs told.0) in
      let ze : sum -ℤ total_at sum rs ≡ z = sym (since_total-is how pane sum added 0 rs on.0 z on.2 (subst (λ o. IsSinceTotal sum o z) (sym first) s)) in
      let r : AllWithin kind on.0 = subst (AllWithin kind) on.1 (AllWithin-filter kind f all i) in
      let told' : Tells how (pos count) z on.0 = subst (λ (x : ℤ). Tells how x z on.0) ce (subst (λ (y : ℤ). Tells how (pos added -ℤ pos (count_at added rs)) y on.0) ze told.1) in
      tells-answer how kind count z on.0 t r told' ∙ ap (λ vs. aggregated how kind (map (λ (v : ℕ × Field). v.1) vs)) (sym on.1)
