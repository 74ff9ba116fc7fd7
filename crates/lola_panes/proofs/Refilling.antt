-- Panes that are restored hold what their partial results say.
use Rattle.std.proofs.Common.{◌≡◌, ℕ, zero, suc, ◌+◌, ◌-◌, ◌≤◌, ◌<◌, ◌^◌, List, [], ◌∷◌, ◌++◌, length, refl, ap, sym, ◌∙◌, subst, arith, Option, Some, None, ℤ, pos, ◌+ℤ◌, ◌-ℤ◌, true, append-nil, append_assoc, length-append, drop, slice_get, FitsSigned}
use Rattle.std.specs.List.{sum_by}
use Rattle.std.specs.Int.{w128}
use Rattle.std.proofs.lemmas.Int.{ints}
use Rattle.std.proofs.lemmas.List.Sums.{sum_by-cons}
use Rattle.lola_model.specs.declared.spec.Agg.{Agg}
use Rattle.lola_model.specs.declared.spec.Agg.TheVariants as agg
use Rattle.lola_value.specs.declared.text.Field.{Field}
use Rattle.lola_panes.specs.declared.pane.Pane.{Pane}
use Rattle.lola_panes.specs.declared.partial.Partial.{Partial}
use Rattle.lola_panes.specs.declared.partial.Partial.TheVariants as partial
use Rattle.lola_panes.specs.Answers.{is_extreme}
use Rattle.lola_panes.specs.Weights.{best_of}
use Rattle.lola_panes.specs.Rings.{noted, unbeaten, Rising, AllUpTo}
use Rattle.lola_panes.specs.Holding.{AllOf, IsPane, Grouped, HoldsBest, count_at, total_at}
use Rattle.lola_panes.specs.Parts.{partial_of, counted, totalled, total_size, extreme_in}
use Rattle.lola_panes.specs.Restored.{restored_pane, restored_panes, bettered_by, restored_best, whole_of}
use Rattle.lola_panes.specs.Tallies.{InReach, Tells, weights}
use Rattle.lola_panes.proofs.Cutting.{AreCut}
use Rattle.lola_panes.proofs.Extremes.{best-add, Rising-unbeaten, AllUpTo-unbeaten}
use Rattle.lola_panes.proofs.Grouping.{weaker, tells-same}
use Rattle.lola_panes.proofs.Sizes.{each_more, size_one, sized, size_all, sized_cons, IsRoom, room_less, room_reach, IsBetween, between_first, between_next, between_fits}
use Rattle.lola_panes.proofs.Rising.{noted-rising, Rising-drop, AllUpTo-drop, AllUpTo-later}
use Rattle.lola_panes.proofs.Telling.{part-tells, part-best, part-none}

-- a partial result of a pane that is not kept counts nothing

counts_none : (how : Agg) (q : Partial) → extreme_in q ≡ None → (counted how q ≡ 0) × (totalled how q ≡ pos 0)
counts_none how (partial.Number z) e = absurd (cc)
counts_none how (partial.Mean z n) e = absurd (cc)
counts_none how (partial.Truth b) e = absurd (cc)
counts_none agg.Count (partial.Extreme o) e = (refl, refl)
counts_none agg.Sum (partial.Extreme o) e = (refl, refl)
counts_none agg.Min (partial.Extreme o) e = (refl, refl)
counts_none agg.Max (partial.Extreme o) e = (refl, refl)
counts_none agg.Avg (partial.Extreme o) e = (refl, refl)
counts_none agg.Forall (partial.Extreme o) e = (refl, refl)
counts_none agg.Exists (partial.Extreme o) e = (refl, refl)

-- so the first pane that is kept is behind as many values as the first of all
module _ (how : Agg) (added : ℕ) (sum : ℤ) where
  pub first_count : (n c : ℕ) (t : ℤ) (qs : List Partial) → c + sum_by (counted how) qs ≡ added → count_at added (restored_panes how n c t qs) ≡ c
  first_count n c t [] e = omega arith
  first_count n c t (q ∷ qs) e = by (extreme_in q) refl (first_count (n + 1) (c + counted how q) (t +ℤ totalled how q) qs)
    where
      by : (o : Option ℤ) → extreme_in q ≡ o
          → ((c + counted how q) + sum_by (counted how) qs ≡ added → count_at added (restored_panes how (n + 1) (c + counted how q) (t +ℤ totalled how q) qs) ≡ c + counted how q)
          → count_at added (restored_pane n c t o ++ restored_panes how (n + 1) (c + counted how q) (t +ℤ totalled how q) qs) ≡ c
      by (Some z) x f = refl
      by None x f =
          let k = counts_none how q x in
          let a = k.0 in
          let s = sum_by-cons (counted how) q qs in
          f (omega arith) ∙ omega arith

  pub first_total : (n c : ℕ) (t : ℤ) (qs : List Partial) → t +ℤ whole_of how qs ≡ sum → total_at sum (restored_panes how n c t qs) ≡ t
  first_total n c t [] e = omega (arith, ints, e)
  first_total n c t (q ∷ qs) e = by (extreme_in q) refl (first_total (n + 1) (c + counted how q) (t +ℤ totalled how q) qs)
    where
      by : (o : Option ℤ) → extreme_in q ≡ o
          → ((t +ℤ totalled how q) +ℤ whole_of how qs ≡ sum → total_at sum (restored_panes how (n + 1) (c + counted how q) (t +ℤ totalled how q) qs) ≡ t +ℤ totalled how q)
          → total_at sum (restored_pane n c t o ++ restored_panes how (n + 1) (c + counted how q) (t +ℤ totalled how q) qs) ≡ t
      by (Some z) x f = refl
      by None x f =
          let k = counts_none how q x in
          let a = k.1 in
          f (omega (arith, ints, e)) ∙ omega (arith, ints, a)

-- restored panes are those of the values that were cut
module _ (how : Agg) (pane : ℕ) (sum : ℤ) (added : ℕ) where
  pane_restored : (n c d : ℕ) (t u z : ℤ) (q : Partial) (front : List (ℕ × Field)) → AllOf pane n front → partial_of how front ≡ q → extreme_in q ≡ Some z → d ≡ c + counted how q → u ≡ t +ℤ totalled how q
      → InReach how added (totalled how q) → InReach how added (sum -ℤ t)
      → IsPane how pane sum added n (record { number = n; count_before = c; total_before = t; extreme = z }) d u front
  pane_restored n c d t u z q front own e x ce te one all =
      let told : Tells how (pos (counted how q)) (totalled how q) front = subst (λ (p : Partial). Tells how (pos (counted how p)) (totalled how p) front) e (part-tells how front) in
      let cf : pos (counted how q) ≡ pos d -ℤ pos c = omega (arith, ints, ce) in
      let tf : totalled how q ≡ u -ℤ t = omega (arith, ints, te) in
      record {
        low_le = omega arith;
        own = own;
        best = λ y. part-best how front y ∙ (ap extreme_in e ∙ x);
        before = omega arith;
        tells = tells-same how pane (pos (counted how q)) (pos d -ℤ pos c) (totalled how q) (u -ℤ t) front cf tf told;
        reach = subst (InReach how added) tf one;
        since = all;
      }

  pub grouped_restored : (n c : ℕ) (t : ℤ) (qs : List Partial) (vs : List (ℕ × Field)) → AreCut how pane n qs vs → c + sum_by (counted how) qs ≡ added → t +ℤ whole_of how qs ≡ sum → IsRoom how added (sized how qs)
      → Grouped how pane sum added n (restored_panes how n c t qs) vs
  grouped_restored n c t [] vs h ce te room = h
  grouped_restored n c t (q ∷ qs) vs h ce te room =
      let s = sum_by-cons (counted how) q qs in
      let w = sized_cons how q qs in
      let w' = whole_of how qs in
      let ce' : (c + counted how q) + sum_by (counted how) qs ≡ added = omega arith in
      let te' : (t +ℤ totalled how q) +ℤ whole_of how qs ≡ sum = omega (arith, ints, te) in
      let later = grouped_restored (n + 1) (c + counted how q) (t +ℤ totalled how q) qs h.1 h.5 ce' te' (room_less how added (sized how (q ∷ qs)) (sized how qs) (omega arith) room) in
      by (extreme_in q) refl later ce' te' (room_less how added (sized how (q ∷ qs)) (total_size how q + each_more how) (omega arith) room)
    where
      by : (o : Option ℤ) → extreme_in q ≡ o → Grouped how pane sum added (n + 1) (restored_panes how (n + 1) (c + counted how q) (t +ℤ totalled how q) qs) h.1
          → (c + counted how q) + sum_by (counted how) qs ≡ added → (t +ℤ totalled how q) +ℤ whole_of how qs ≡ sum → IsRoom how added (total_size how q + each_more how)
          → Grouped how pane sum added n (restored_pane n c t o ++ restored_panes how (n + 1) (c + counted how q) (t +ℤ totalled how q) qs) vs
      by None x later ce' te' one =
          let none : h.0 ≡ [] = part-none how h.0 (ap extreme_in h.4 ∙ x) in
          let e : vs ≡ h.1 = h.2 ∙ ap (λ ws. ws ++ h.1) none in
          let rs = restored_panes how (n + 1) (c + counted how q) (t +ℤ totalled how q) qs in
          weaker how pane sum added (n + 1) n rs vs (omega arith) (subst (Grouped how pane sum added (n + 1) rs) (sym e) later)
      by (Some z) x later ce' te' one =
          let rs = restored_panes how (n + 1) (c + counted how q) (t +ℤ totalled how q) qs in (
            h.0,
            h.1,
            h.2,
            pane_restored n c (count_at added rs) t (total_at sum rs) z q h.0 h.3 h.4 x
                (first_count how added sum (n + 1) (c + counted how q) (t +ℤ totalled how q) qs ce')
                (first_total how added sum (n + 1) (c + counted how q) (t +ℤ totalled how q) qs te')
                (room_reach how added (total_size how q + each_more how) (totalled how q) one (size_one how q))
                (let k = whole_of how (q ∷ qs) in let e : k ≡ sum -ℤ t = omega (arith, ints, te) in subst (InReach how added) e (room_reach how added (sized how (q ∷ qs)) k room (size_all how (q ∷ qs)))),
            later,
          )

-- numbers of restored panes rise
pub restored_rising : (how : Agg) (n c last : ℕ) (t : ℤ) (qs : List Partial) → n + length qs ≤ last + 1
    → Rising n (restored_panes how n c t qs) × AllUpTo last (restored_panes how n c t qs) × (length (restored_panes how n c t qs) ≤ length qs)
restored_rising how n c last t [] l = (tt, tt, omega arith)
restored_rising how n c last t (q ∷ qs) l = by (extreme_in q) (restored_rising how (n + 1) (c + counted how q) last (t +ℤ totalled how q) qs (omega arith))
  where
    lower : (m k : ℕ) (rs : List Pane) → m ≤ k → Rising k rs → Rising m rs
    lower m k [] l h = tt
    lower m k (r ∷ rs) l h = let a = h.0 in (omega arith, h.1)

    by : (o : Option ℤ) → let rs = restored_panes how (n + 1) (c + counted how q) (t +ℤ totalled how q) qs in
        Rising (n + 1) rs × AllUpTo last rs × (length rs ≤ length qs)
        → Rising n (restored_pane n c t o ++ rs) × AllUpTo last (restored_pane n c t o ++ rs) × (length (restored_pane n c t o ++ rs) ≤ length (q ∷ qs))
    by None h = (lower n (n + 1) (restored_panes how (n + 1) (c + counted how q) (t +ℤ totalled how q) qs) (omega arith) h.0, h.1, let a = h.2 in omega arith)
    by (Some z) h = ((omega arith, h.0), (omega arith, h.1), let a = h.2 in omega arith)

-- the best of restored panes, behind others

module _ (how : Agg) (most : ℕ) where
  bettered_rising : (n : ℕ) (o : Option ℤ) (rs : List Pane) → Rising 0 rs → AllUpTo n rs → Rising 0 (bettered_by most how n o rs) × AllUpTo n (bettered_by most how n o rs)
  bettered_rising n None rs h u = (h, u)
  bettered_rising n (Some z) rs h u =
      let ts = noted how n 0 (pos 0) z (unbeaten how z rs) in
      let on = noted-rising how n 0 (pos 0) z 0 (unbeaten how z rs) (omega arith) (Rising-unbeaten how z 0 rs h) (AllUpTo-unbeaten how z n rs u) in
      (Rising-drop 0 (length ts - most) ts on.0, AllUpTo-drop n (length ts - most) ts on.1)

  pub best_rising : (n last : ℕ) (qs : List Partial) (rs : List Pane) → n + length qs ≤ last + 1 → Rising 0 rs → AllUpTo n rs → AllUpTo last rs
      → Rising 0 (restored_best most how n qs rs) × AllUpTo last (restored_best most how n qs rs)
  best_rising n last [] rs l h u v = (h, v)
  best_rising n last (q ∷ qs) rs l h u v =
      let on = bettered_rising n (extreme_in q) rs h u in
      let ts = bettered_by most how n (extreme_in q) rs in
      best_rising (n + 1) last qs ts (omega arith) on.0 (AllUpTo-later n (n + 1) ts on.1 (omega arith)) (AllUpTo-later n last ts on.1 (omega arith))

  module _ (pane last : ℕ) (g : 1 ≤ pane) (m : 1 ≤ most) where
    one_best : (n : ℕ) (q : Partial) (rs : List Pane) (all front : List (ℕ × Field)) (ex : is_extreme how ≡ true) → n ≤ last → Rising 0 rs → AllUpTo n rs → AllOf pane n front → partial_of how front ≡ q
        → HoldsBest how pane most last rs all → HoldsBest how pane most last (bettered_by most how n (extreme_in q) rs) (all ++ front)
    one_best n q rs all front ex l h u own e b = by (extreme_in q) (part-best how front ex ∙ ap extreme_in e) (λ x. part-none how front (ap extreme_in e ∙ x))
      where
        by : (o : Option ℤ) → best_of how (weights how front) ≡ o → (o ≡ None → front ≡ []) → HoldsBest how pane most last (bettered_by most how n o rs) (all ++ front)
        by None x y = subst (HoldsBest how pane most last rs) (sym (ap (λ ws. all ++ ws) (y refl) ∙ append-nil all)) b
        by (Some z) x y =
            let on = noted-rising how n 0 (pos 0) z 0 (unbeaten how z rs) (omega arith) (Rising-unbeaten how z 0 rs h) (AllUpTo-unbeaten how z n rs u) in
            best-add how pane most last n rs all front z g m l own x on.0 on.1 u b

    pub best_restored : (n : ℕ) (qs : List Partial) (rs : List Pane) (all vs : List (ℕ × Field)) → is_extreme how ≡ true → n + length qs ≤ last + 1 → Rising 0 rs → AllUpTo n rs → AreCut how pane n qs vs
        → HoldsBest how pane most last rs all → HoldsBest how pane most last (restored_best most how n qs rs) (all ++ vs)
    best_restored n [] rs all vs ex l h u cut b = subst (HoldsBest how pane most last rs) (sym (ap (λ ws. all ++ ws) cut ∙ append-nil all)) b
    best_restored n (q ∷ qs) rs all vs ex l h u cut b =
        let on = bettered_rising n (extreme_in q) rs h u in
        let ts = bettered_by most how n (extreme_in q) rs in
        let one = one_best n q rs all cut.0 ex (omega arith) h u cut.3 cut.4 b in
        subst (HoldsBest how pane most last (restored_best most how (n + 1) qs ts)) (append_assoc all cut.0 cut.1 ∙ ap (λ ws. all ++ ws) (sym cut.2))
        (best_restored (n + 1) qs ts (all ++ cut.0) cut.1 ex (omega arith) on.0 (AllUpTo-later n (n + 1) ts on.1 (omega arith)) cut.5 one)

-- a loop over partial results, one by one

pub rest_next : (ps : List Partial) (i : ℕ) (q : Partial) → slice_get ps i ≡ Some q → drop i ps ≡ q ∷ drop (i + 1) ps
rest_next [] i q e = absurd (cc)
rest_next (p ∷ ps) zero q e = let h : p ≡ q = cc in ap (λ x. x ∷ ps) h
rest_next (p ∷ ps) (suc i) q e =
    let n : suc (i + 1) ≡ suc i + 1 = omega arith in
    rest_next ps i q e ∙ ap (λ k. q ∷ drop k (p ∷ ps)) n

one_pane : (n c : ℕ) (t : ℤ) (o : Option ℤ) → length (restored_pane n c t o) ≤ 1
one_pane n c t None = omega arith
one_pane n c t (Some z) = omega arith

-- what was done of it
pub record IsRefilled (how : Agg) (first before count : ℕ) (z : ℤ) (i : ℕ) (items : List Pane) (ps : List Partial) : Type 0 where
  pub few : length items ≤ i
  pub panes : items ++ restored_panes how (first + i) count z (drop i ps) ≡ restored_panes how first before (pos 0) ps
  pub counts : count + sum_by (counted how) (drop i ps) ≡ before + sum_by (counted how) ps
  pub totals : z +ℤ whole_of how (drop i ps) ≡ whole_of how ps
  pub between : IsBetween how z (drop i ps) ps

pub refilled_first : (how : Agg) (first before : ℕ) (ps : List Partial) → IsRefilled how first before before (pos 0) 0 [] ps
refilled_first how first before ps =
    record {
      few = omega arith;
      panes = ap (λ n. restored_panes how n before (pos 0) ps) (omega arith);
      counts = refl;
      totals = omega (arith, ints);
      between = between_first how ps;
    }

pub refilled_next : (how : Agg) (first before count count' : ℕ) (z z' : ℤ) (i : ℕ) (items items' : List Pane) (ps : List Partial) (q : Partial) → slice_get ps i ≡ Some q
    → items' ≡ items ++ restored_pane (first + i) count z (extreme_in q) → count' ≡ count + counted how q → z' ≡ z +ℤ totalled how q
    → IsRefilled how first before count z i items ps → IsRefilled how first before count' z' (i + 1) items' ps
refilled_next how first before count count' z z' i items items' ps q e it ce ze h =
    let rest = rest_next ps i q e in
    let one = one_pane (first + i) count z (extreme_in q) in
    let le = ap length it ∙ length-append items (restored_pane (first + i) count z (extreme_in q)) in
    let f = h.few in
    let all = ap (sum_by (counted how)) rest ∙ sum_by-cons (counted how) q (drop (i + 1) ps) in
    let k = h.counts in
    let w : whole_of how (drop i ps) ≡ totalled how q +ℤ whole_of how (drop (i + 1) ps) = ap (whole_of how) rest in
    let t = h.totals in
    record {
      few = omega arith;
      panes =
          (λ j. it j ++ restored_panes how (next j) (ce j) (ze j) (drop (i + 1) ps))
          ∙ (append_assoc items (restored_pane (first + i) count z (extreme_in q)) (restored_panes how (first + i + 1) (count + counted how q) (z +ℤ totalled how q) (drop (i + 1) ps))
          ∙ (ap (λ l. items ++ restored_panes how (first + i) count z l) (sym rest) ∙ h.panes));
      counts = omega arith;
      totals = omega (arith, ints, ze, w, t);
      between = subst (λ y. IsBetween how y (drop (i + 1) ps) ps) (sym ze) (between_next how z q (drop (i + 1) ps) ps (subst (λ l. IsBetween how z l ps) rest h.between));
    }
  where
    next : first + (i + 1) ≡ first + i + 1
    next = omega arith

pub rebuilt_next : (how : Agg) (most first i : ℕ) (items : List Pane) (ps : List Partial) (q : Partial) → slice_get ps i ≡ Some q
    → restored_best most how (first + (i + 1)) (drop (i + 1) ps) (bettered_by most how (first + i) (extreme_in q) items) ≡ restored_best most how (first + i) (drop i ps) items
rebuilt_next how most first i items ps q e =
    ap (λ n. restored_best most how n (drop (i + 1) ps) (bettered_by most how (first + i) (extreme_in q) items)) next
    ∙ ap (λ l. restored_best most how (first + i) l items) (sym (rest_next ps i q e))
  where
    next : first + (i + 1) ≡ first + i + 1
    next = omega arith

pub count_fits : (how : Agg) (count all i : ℕ) (ps : List Partial) (q : Partial) → slice_get ps i ≡ Some q → count + sum_by (counted how) (drop i ps) ≡ all → count + counted how q ≤ all
count_fits how count all i ps q e h =
    let s = ap (sum_by (counted how)) (rest_next ps i q e) ∙ sum_by-cons (counted how) q (drop (i + 1) ps) in
    omega arith

pub total_fits : (how : Agg) (first before count : ℕ) (z : ℤ) (i : ℕ) (items : List Pane) (ps : List Partial) (q : Partial) → slice_get ps i ≡ Some q → sum_by (total_size how) ps + length ps < 2 ^ 127
    → IsRefilled how first before count z i items ps → FitsSigned w128 (z +ℤ totalled how q)
total_fits how first before count z i items ps q e l h =
    between_fits how (z +ℤ totalled how q) (drop (i + 1) ps) ps l
    (between_next how z q (drop (i + 1) ps) ps (subst (λ r. IsBetween how z r ps) (rest_next ps i q e) h.between))
