-- Panes of which only those are kept that no later one is as good as.
use Rattle.std.proofs.Common.{◌≡◌, ℕ, zero, suc, ◌+◌, ◌-◌, ◌*◌, ◌≤◌, ◌<◌, List, [], ◌∷◌, ◌++◌, length, take, drop, refl, ap, sym, ◌∙◌, subst, arith, Option, Some, None, ℤ, pos, Bool, true, false, if◌then◌else◌, slice_get, nat_le, nat_eq, add-one, append-nil, inl, inr}
use Rattle.std.specs.Prelude.{filter}
use Rattle.std.proofs.lemmas.Bool.Decides.{nat_tests}
use Rattle.std.proofs.lemmas.List.{map-append}
use Rattle.std.proofs.lemmas.List.Elements.{filter-append}
use Rattle.std.proofs.lemmas.Bool.{not-true, not-false}
use Rattle.circular_buffer.specs.Buffer.{keep_last, last_item}
use Rattle.circular_buffer.proofs.Places.{below_or_not}
use Rattle.lola_model.specs.declared.spec.Agg.{Agg}
use Rattle.lola_model.specs.Windows.{is_within_window}
use Rattle.lola_value.specs.declared.text.Field.{Field}
use Rattle.lola_panes.specs.declared.pane.Pane.{Pane}
use Rattle.lola_panes.specs.Weights.{weight_of, is_better, best_of, best_after}
use Rattle.lola_panes.specs.Rings.{new_pane, with_value, noted, front_of, unbeaten, is_last_beaten, AllWorse, Worsening, Rising, AllUpTo, left_count, staying, extreme_of, best_pane}
use Rattle.lola_panes.specs.Holding.{AllOf, HoldsBest}
use Rattle.lola_panes.specs.Tallies.{weights}
use Rattle.lola_panes.proofs.Folds.{best_with, best_with_after, best-append, best_after_assoc, worse_is_better, better_is_better, is_better_trans, is_better_both}
use Rattle.lola_panes.proofs.Noting.{le_yes, le_no, last_cut, no_last}
use Rattle.lola_panes.proofs.Grouping.{all_gone, all_here_own, AllLeft-of}
use Rattle.lola_panes.proofs.Rising.{AllUpTo-front, rising-span}

-- what is left of some panes is a front of them

pub unbeaten-front : (how : Agg) (z : ℤ) (rs : List Pane) → (gone : List Pane) × (rs ≡ unbeaten how z rs ++ gone)
unbeaten-front how z [] = ([], refl)
unbeaten-front how z (r ∷ rs) = let on = unbeaten-front how z rs in by (unbeaten how z rs) on.0 on.1
  where
    by : (ts gone : List Pane) → rs ≡ ts ++ gone → (more : List Pane) × (r ∷ rs ≡ front_of how z r ts ++ more)
    by [] gone e = elim (is_better how r.extreme z) as (λ b. (more : List Pane) × (r ∷ rs ≡ (if b then r ∷ [] else []) ++ more)) [ true ↦ (gone, ap (λ l. r ∷ l) e) | false ↦ (r ∷ rs, refl) ]
    by (t ∷ ts) gone e = (gone, ap (λ l. r ∷ l) e)

Rising-front : (low : ℕ) (rs qs : List Pane) → Rising low (rs ++ qs) → Rising low rs
Rising-front low [] qs h = tt
Rising-front low (r ∷ rs) qs h = (h.0, Rising-front (r.number + 1) rs qs h.1)

AllWorse-front : (how : Agg) (z : ℤ) (rs qs : List Pane) → AllWorse how z (rs ++ qs) → AllWorse how z rs
AllWorse-front how z [] qs h = tt
AllWorse-front how z (r ∷ rs) qs h = (h.0, AllWorse-front how z rs qs h.1)

Worsening-front : (how : Agg) (rs qs : List Pane) → Worsening how (rs ++ qs) → Worsening how rs
Worsening-front how [] qs h = tt
Worsening-front how (r ∷ rs) qs h = (AllWorse-front how r.extreme rs qs h.0, Worsening-front how rs qs h.1)

Worsening-drop : (how : Agg) (d : ℕ) (rs : List Pane) → Worsening how rs → Worsening how (drop d rs)
Worsening-drop how zero rs h = h
Worsening-drop how (suc d) [] h = tt
Worsening-drop how (suc d) (r ∷ rs) h = Worsening-drop how d rs h.1

pub Rising-unbeaten : (how : Agg) (z : ℤ) (low : ℕ) (rs : List Pane) → Rising low rs → Rising low (unbeaten how z rs)
Rising-unbeaten how z low rs h = let on = unbeaten-front how z rs in Rising-front low (unbeaten how z rs) on.0 (subst (Rising low) on.1 h)

pub AllUpTo-unbeaten : (how : Agg) (z : ℤ) (last : ℕ) (rs : List Pane) → AllUpTo last rs → AllUpTo last (unbeaten how z rs)
AllUpTo-unbeaten how z last rs h = let on = unbeaten-front how z rs in AllUpTo-front last (unbeaten how z rs) on.0 (subst (AllUpTo last) on.1 h)

-- the last pane goes where it is beaten, and nothing goes where it is not

unbeaten-beaten : (how : Agg) (z : ℤ) (us : List Pane) (r : Pane) → is_better how r.extreme z ≡ false → unbeaten how z (us ++ r ∷ []) ≡ unbeaten how z us
unbeaten-beaten how z [] r e = rw e refl
unbeaten-beaten how z (u ∷ us) r e = ap (front_of how z u) (unbeaten-beaten how z us r e)

unbeaten-better : (how : Agg) (z : ℤ) (us : List Pane) (r : Pane) → is_better how r.extreme z ≡ true → unbeaten how z (us ++ r ∷ []) ≡ us ++ r ∷ []
unbeaten-better how z [] r e = rw e refl
unbeaten-better how z (u ∷ []) r e = ap (front_of how z u) (unbeaten-better how z [] r e)
unbeaten-better how z (u ∷ w ∷ us) r e = ap (front_of how z u) (unbeaten-better how z (w ∷ us) r e)

pub one_beaten : (how : Agg) (z : ℤ) (rs : List Pane) → is_last_beaten how z (last_item rs) ≡ true → unbeaten how z (take (length rs - 1) rs) ≡ unbeaten how z rs
one_beaten how z rs e = by (last_item rs) refl e
  where
    by : (o : Option Pane) → last_item rs ≡ o → is_last_beaten how z o ≡ true → unbeaten how z (take (length rs - 1) rs) ≡ unbeaten how z rs
    by None q e = cc
    by (Some r) q e = sym (ap (unbeaten how z) (last_cut rs r q) ∙ unbeaten-beaten how z (take (length rs - 1) rs) r (not-true (is_better how r.extreme z) e))

pub none_beaten : (how : Agg) (z : ℤ) (rs : List Pane) → is_last_beaten how z (last_item rs) ≡ false → unbeaten how z rs ≡ rs
none_beaten how z [] e = refl
none_beaten how z (x ∷ xs) e = by (last_item (x ∷ xs)) refl e
  where
    by : (o : Option Pane) → last_item (x ∷ xs) ≡ o → is_last_beaten how z o ≡ false → unbeaten how z (x ∷ xs) ≡ x ∷ xs
    by None q e = ap (unbeaten how z) (no_last (x ∷ xs) q) ∙ sym (no_last (x ∷ xs) q)
    by (Some r) q e =
        let cut = last_cut (x ∷ xs) r q in
        ap (unbeaten how z) cut ∙ (unbeaten-better how z (take (length (x ∷ xs) - 1) (x ∷ xs)) r (not-false (is_better how r.extreme z) e) ∙ sym cut)

pub last_is_there : (how : Agg) (z : ℤ) (rs : List Pane) → is_last_beaten how z (last_item rs) ≡ true → 1 ≤ length rs
last_is_there how z [] e = absurd (cc)
last_is_there how z (r ∷ rs) e = omega arith

-- each pane that is left is better than the number, and so they get worse with it behind them

abbrev pub AllBetter : Agg → ℤ → List Pane → Type 0
AllBetter how z [] = Unit {0}
AllBetter how z (r ∷ rs) = (is_better how r.extreme z ≡ true) × AllBetter how z rs

AllBetter-unbeaten : (how : Agg) (z : ℤ) (rs : List Pane) → Worsening how rs → AllBetter how z (unbeaten how z rs)
AllBetter-unbeaten how z [] h = tt
AllBetter-unbeaten how z (r ∷ rs) h =
    let on = unbeaten-front how z rs in
    by (unbeaten how z rs) (AllWorse-front how r.extreme (unbeaten how z rs) on.0 (subst (AllWorse how r.extreme) on.1 h.0)) (AllBetter-unbeaten how z rs h.1)
  where
    alone : (b : Bool) → is_better how r.extreme z ≡ b → AllBetter how z (if b then r ∷ [] else [])
    alone true e = (e, tt)
    alone false e = tt

    by : (ts : List Pane) → AllWorse how r.extreme ts → AllBetter how z ts → AllBetter how z (front_of how z r ts)
    by [] w b = alone (is_better how r.extreme z) refl
    by (t ∷ ts) w b = (is_better_trans how r.extreme t.extreme z w.0 b.0, b)

module _ (how : Agg) (number added : ℕ) (sum z : ℤ) where
  AllWorse-noted : (y : ℤ) (rs : List Pane) → AllWorse how y rs → is_better how y z ≡ true → AllWorse how y (noted how number added sum z rs)
  AllWorse-noted y [] h g = (g, tt)
  AllWorse-noted y (r ∷ []) h g =
      elim (nat_eq r.number number) as (λ b. AllWorse how y (if b then with_value how z r ∷ [] else r ∷ new_pane number added sum z ∷ [])) [
        | true ↦ (is_better_both how y r.extreme z h.0 g, tt)
        | false ↦ (h.0, (g, tt))
      ]
  AllWorse-noted y (r ∷ q ∷ rs) h g = (h.0, AllWorse-noted y (q ∷ rs) h.1 g)

  Worsening-noted : (rs : List Pane) → Worsening how rs → AllBetter how z rs → Worsening how (noted how number added sum z rs)
  Worsening-noted [] h b = (tt, tt)
  Worsening-noted (r ∷ []) h b =
      elim (nat_eq r.number number) as (λ t. Worsening how (if t then with_value how z r ∷ [] else r ∷ new_pane number added sum z ∷ [])) [
        | true ↦ (tt, tt)
        | false ↦ ((b.0, tt), (tt, tt))
      ]
  Worsening-noted (r ∷ q ∷ rs) h b = (AllWorse-noted r.extreme (q ∷ rs) h.0 b.0, Worsening-noted (q ∷ rs) h.1 b.1)

-- the panes that stay

staying-none : (most k last : ℕ) (rs : List Pane) → AllUpTo last rs → last + most ≤ k → staying most k rs ≡ []
staying-none most k last [] h l = refl
staying-none most k last (r ∷ rs) h l = let u = h.0 in rw (le_yes (r.number + most) k (omega arith)) (staying-none most k last rs h.1 l)

-- the oldest panes go, where at least as many are left as a window has: they have left it
staying-drop : (most k low last d : ℕ) (rs : List Pane) → 1 ≤ most → Rising low rs → AllUpTo last rs → d + most ≤ length rs → last ≤ k → staying most k (drop d rs) ≡ staying most k rs
staying-drop most k low last zero rs m h u l g = refl
staying-drop most k low last (suc d) [] m h u l g = refl
staying-drop most k low last (suc d) (r ∷ rs) m h u l g =
    let s = rising-span (r.number + 1) last rs h.1 u.1 (omega arith) in
    rw (le_yes (r.number + most) k (omega arith)) (staying-drop most k (r.number + 1) last d rs m h.1 u.1 (omega arith) g)

staying-keep_last : (most k last : ℕ) (rs : List Pane) → 1 ≤ most → Rising 0 rs → AllUpTo last rs → last ≤ k → staying most k (keep_last most rs) ≡ staying most k rs
staying-keep_last most k last rs m h u g =
    elim (below_or_not most (length rs)) [
      | inl more ↦ staying-drop most k 0 last (length rs - most) rs m h u (omega arith) g
      | inr less ↦
          let none : length rs - most ≡ 0 = omega arith in
          ap (λ d. staying most k (drop d rs)) none
    ]

module _ (how : Agg) (most k : ℕ) (z : ℤ) where
  -- the best of those that stay, with one more number, is the same without those that are no better than it
  best-unbeaten : (rs : List Pane) → best_with how (best_pane how (staying most k (unbeaten how z rs))) z ≡ best_with how (best_pane how (staying most k rs)) z
  best-unbeaten [] = refl
  best-unbeaten (r ∷ rs) = by (unbeaten how z rs) (best-unbeaten rs)
    where
      pushed : (o : Option ℤ) → o ≡ best_with how (best_pane how (staying most k rs)) z
          → Some (best_after how r.extreme o) ≡ best_with how (Some (best_after how r.extreme (best_pane how (staying most k rs)))) z
      pushed o e = ap (λ p. Some (best_after how r.extreme p)) e ∙ sym (best_with_after how r.extreme (best_pane how (staying most k rs)) z)

      alone : (b : Bool) → is_better how r.extreme z ≡ b → Some z ≡ best_with how (best_pane how (staying most k rs)) z
          → best_with how (best_pane how (staying most k (if b then r ∷ [] else []))) z ≡ best_with how (best_pane how (staying most k (r ∷ rs))) z
      alone true e h =
          elim (nat_le (r.number + most) k) as (λ c. best_with how (best_pane how (if c then [] else r ∷ [])) z ≡ best_with how (best_pane how (if c then staying most k rs else r ∷ staying most k rs)) z) [
            | true ↦ h
            | false ↦ pushed (Some z) h
          ]
      alone false e h =
          elim (nat_le (r.number + most) k) as (λ c. Some z ≡ best_with how (best_pane how (if c then staying most k rs else r ∷ staying most k rs)) z) [
            | true ↦ h
            | false ↦ ap Some (sym (worse_is_better how r.extreme z e)) ∙ pushed (Some z) h
          ]

      by : (ts : List Pane) → best_with how (best_pane how (staying most k ts)) z ≡ best_with how (best_pane how (staying most k rs)) z
          → best_with how (best_pane how (staying most k (front_of how z r ts))) z ≡ best_with how (best_pane how (staying most k (r ∷ rs))) z
      by [] h = alone (is_better how r.extreme z) refl h
      by (t ∷ ts) h =
          elim (nat_le (r.number + most) k) as (λ c. best_with how (best_pane how (if c then staying most k (t ∷ ts) else r ∷ staying most k (t ∷ ts))) z ≡ best_with how (best_pane how (if c then staying most k rs else r ∷ staying most k rs)) z) [
            | true ↦ h
            | false ↦ best_with_after how r.extreme (best_pane how (staying most k (t ∷ ts))) z ∙ pushed (best_with how (best_pane how (staying most k (t ∷ ts))) z) h
          ]

  -- with one more value in the last pane or a new one, where that stays
  best-noted : (number added : ℕ) (sum : ℤ) (rs : List Pane) → k < number + most → best_pane how (staying most k (noted how number added sum z rs)) ≡ best_with how (best_pane how (staying most k rs)) z
  best-noted number added sum [] l = rw (le_no (number + most) k l) refl
  best-noted number added sum (r ∷ []) l = by (nat_eq r.number number) refl
    where
      by : (b : Bool) → nat_eq r.number number ≡ b
          → best_pane how (staying most k (if b then with_value how z r ∷ [] else r ∷ new_pane number added sum z ∷ [])) ≡ best_with how (best_pane how (staying most k (r ∷ []))) z
      by true e =
          let same : r.number ≡ number = grind (arith, nat_tests) in
          rw (le_no (r.number + most) k (omega arith)) refl
      by false e =
          rw (le_no (number + most) k l)
          (elim (nat_le (r.number + most) k) as (λ c. best_pane how (if c then new_pane number added sum z ∷ [] else r ∷ new_pane number added sum z ∷ []) ≡ best_with how (best_pane how (if c then [] else r ∷ [])) z) [ true ↦ refl | false ↦ refl ])
  best-noted number added sum (r ∷ q ∷ rs) l =
      let h = best-noted number added sum (q ∷ rs) l in
      let xs = noted how number added sum z (q ∷ rs) in
      elim (nat_le (r.number + most) k) as (λ c. best_pane how (if c then staying most k xs else r ∷ staying most k xs) ≡ best_with how (best_pane how (if c then staying most k (q ∷ rs) else r ∷ staying most k (q ∷ rs))) z) [
        | true ↦ h
        | false ↦ ap (λ o. Some (best_after how r.extreme o)) h ∙ sym (best_with_after how r.extreme (best_pane how (staying most k (q ∷ rs))) z)
      ]

-- the values of one more pane
module _ (how : Agg) (pane most : ℕ) where
  pub best-add : (last n : ℕ) (ring : List Pane) (all ys : List (ℕ × Field)) (z : ℤ) → 1 ≤ pane → 1 ≤ most → n ≤ last → AllOf pane n ys → best_of how (weights how ys) ≡ Some z
      → Rising 0 (noted how n 0 (pos 0) z (unbeaten how z ring)) → AllUpTo n (noted how n 0 (pos 0) z (unbeaten how z ring)) → AllUpTo n ring → HoldsBest how pane most last ring all
      → HoldsBest how pane most last (keep_last most (noted how n 0 (pos 0) z (unbeaten how z ring))) (all ++ ys)
  best-add last n ring all ys z g m l own top rising up_to before h =
      let ts = unbeaten how z ring in
      let rs = noted how n 0 (pos 0) z ts in
      record {
        best = λ k j.
            let f = is_within_window (most * pane) (k * pane) in
            let was : best_of how (weights how (filter f all)) ≡ best_pane how (staying most k ring) = h.best k j in
            let stay : staying most k (keep_last most rs) ≡ staying most k rs = staying-keep_last most k n rs m rising up_to (omega arith) in
            elim (below_or_not k (n + most)) [
              | inl i ↦
                  ap (λ vs. best_of how (weights how vs)) (filter-append f all ys ∙ ap (λ vs. filter f all ++ vs) (all_here_own how pane most k n g ys own i))
                  ∙ (ap (best_of how) (map-append (λ (x : ℕ × Field). weight_of how x.1) (filter f all) ys)
                  ∙ (best-append how (weights how (filter f all)) (weights how ys) z top
                  ∙ (ap (λ o. best_with how o z) was
                  ∙ (sym (best-unbeaten how most k z ring) ∙ (sym (best-noted how most k z n 0 (pos 0) ts i) ∙ ap (best_pane how) (sym stay))))))
              | inr o ↦
                  ap (λ vs. best_of how (weights how vs))
                  (filter-append f all ys ∙ (ap (λ vs. filter f all ++ vs) (all_gone how pane most k g ys (AllLeft-of how pane most k n ys own o)) ∙ append-nil (filter f all)))
                  ∙ (was ∙ (ap (best_pane how) (staying-none most k n ring before o) ∙ ap (best_pane how) (sym (stay ∙ staying-none most k n rs up_to o))))
            ];
        worsening =
            Worsening-drop how (length rs - most) rs
            (Worsening-noted how n 0 (pos 0) z ts (let on = unbeaten-front how z ring in Worsening-front how ts on.0 (subst (Worsening how) on.1 h.worsening)) (AllBetter-unbeaten how z ring h.worsening));
      }

-- what they hold, they hold of fewer windows
pub best-later : (how : Agg) (pane most last later : ℕ) (ring : List Pane) (all : List (ℕ × Field)) → last ≤ later → HoldsBest how pane most last ring all → HoldsBest how pane most later ring all
best-later how pane most last later ring all l h = record { best = λ k j. h.best k (omega arith); worsening = h.worsening }

-- the first that stays is the best of those that stay

best-worse : (how : Agg) (most k : ℕ) (z : ℤ) (rs : List Pane) → AllWorse how z rs → best_after how z (best_pane how (staying most k rs)) ≡ z
best-worse how most k z [] h = refl
best-worse how most k z (r ∷ rs) h =
    let e = best-worse how most k z rs h.1 in
    elim (nat_le (r.number + most) k) as (λ b. best_after how z (best_pane how (if b then staying most k rs else r ∷ staying most k rs)) ≡ z) [
      | true ↦ e
      | false ↦ best_after_assoc how z r.extreme (best_pane how (staying most k rs)) ∙ (ap (λ y. best_after how y (best_pane how (staying most k rs))) (better_is_better how z r.extreme h.0) ∙ e)
    ]

pub first-best : (how : Agg) (most k : ℕ) (rs : List Pane) → Worsening how rs → extreme_of (slice_get rs (left_count most k rs)) ≡ best_pane how (staying most k rs)
first-best how most k [] h = refl
first-best how most k (r ∷ rs) h =
    elim (nat_le (r.number + most) k) as (λ b. extreme_of (slice_get (r ∷ rs) (if b then left_count most k rs + 1 else 0)) ≡ best_pane how (if b then staying most k rs else r ∷ staying most k rs)) [
      | true ↦ rw add-one (first-best how most k rs h.1)
      | false ↦ ap Some (sym (best-worse how most k r.extreme rs h.0))
    ]
