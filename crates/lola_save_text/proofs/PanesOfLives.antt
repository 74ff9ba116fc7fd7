-- The panes of a window over the values of an instance are those that a state can have.
use Rattle.std.proofs.Common.{◌≡◌, ℕ, zero, suc, ◌+◌, ◌-◌, ◌*◌, ◌/◌, ◌^◌, ◌<◌, ◌≤◌, List, [], ◌∷◌, length, map, min, refl, subst, ap, ◌∙◌, arith, ℤ, pos, Bool, true, false, ◌&&◌, Option, Some, None, nat_eq, int_le, unsigned_abs, if◌then◌else◌, ◌*ℤ◌}
use Rattle.std.specs.Prelude.{filter, is_some}
use Rattle.std.specs.List.{list_all, sum_by}
use Rattle.std.proofs.lemmas.Bool.{and_from, ne_eqb, cond-false, lt-ltb, le-leb, eq-eqb}
use Rattle.std.proofs.Math.Nat.{div-mul-le_self}
use Rattle.std.proofs.lemmas.List.{length-map}
use Rattle.lola_model.specs.Named.{counted}
use Rattle.lola_model.specs.Windows.{number_of, total}
use Rattle.lola_model.specs.declared.spec.Agg.{Agg}
use Rattle.lola_model.specs.declared.spec.Agg.TheVariants as agg
use Rattle.lola_value.specs.Arithmetic.{least, greatest}
use Rattle.lola_value.specs.declared.value.Kind.{Kind}
use Rattle.lola_value.specs.declared.text.Field.{Field}
use Rattle.lola_panes.specs.declared.partial.Partial.{Partial}
use Rattle.lola_panes.specs.declared.partial.Partial.TheVariants.{Extreme, Mean}
use Rattle.lola_save_text.specs.Fitting as fitting
use Rattle.lola_save_text.specs.declared.state.Times.{Times}
use Rattle.lola_save_text.specs.Fitting.{time_or, is_partial, is_value, total_size, are_panes}
use Rattle.lola_save_text.specs.declared.forms.WindowForm.{WindowForm}
use Rattle.lola_save_text.specs.PaneFolds.{pane_number, is_in_pane, values_in_pane, partial_of, least_among, greatest_among, kept_panes, panes_of, panes_by, newest_time}
use Rattle.lola_save_text.proofs.Ranged.{AllIn, AreValues, numbers-in, least-in, greatest-in, total-least, total-greatest, total-size}
use Rattle.lola_save_text.proofs.PaneSums.{sum-le, sum-times, count_in, sum-counts}

-- values with their times, each of a kind and from the start to the time of the last accepted row
pub record IsTimedValue (k : Kind) (start last : ℕ) (v : ℕ × Field) : Type 0 where
  pub value : is_value k v.1 ≡ true
  pub low : start ≤ v.0
  pub high : v.0 ≤ last

abbrev pub AreTimedValues : Kind → ℕ → ℕ → List (ℕ × Field) → Type 0
AreTimedValues k start last [] = Unit {0}
AreTimedValues k start last (v ∷ vs) = IsTimedValue k start last v × AreTimedValues k start last vs

-- those in a pane are of the kind too
in-pane : (k : Kind) (start last pane : ℕ) (vs : List (ℕ × Field)) (m : ℕ) → AreTimedValues k start last vs → AreValues k (values_in_pane start pane vs m)
in-pane k start last pane [] m h = tt
in-pane k start last pane (v ∷ vs) m h = by (is_in_pane start pane m v) (in-pane k start last pane vs m h.1)
  where
    by : (b : Bool) → AreValues k (values_in_pane start pane vs m)
        → AreValues k (map (λ (x : ℕ × Field). x.1) (if b then v ∷ filter (is_in_pane start pane m) vs else filter (is_in_pane start pane m) vs))
    by true on = (h.0.value, on)
    by false on = on

-- the partial result of values of a kind

least-partial : (k : Kind) (zs : List ℤ) → AllIn k zs → is_partial agg.Min k (Extreme (least_among zs)) ≡ true
least-partial k [] h = refl
least-partial k (z ∷ zs) h = least-in k z zs h

greatest-partial : (k : Kind) (zs : List ℤ) → AllIn k zs → is_partial agg.Max k (Extreme (greatest_among zs)) ≡ true
greatest-partial k [] h = refl
greatest-partial k (z ∷ zs) h = greatest-in k z zs h

same-length : (vs : List Field) → length (map number_of vs) ≡ length vs
same-length vs = length-map vs number_of

mean-partial : (k : Kind) (vs : List Field) → AreValues k vs → is_partial agg.Avg k (Mean (total (map number_of vs)) (length vs)) ≡ true
mean-partial k vs h =
    let zs : List ℤ = map number_of vs in
    let t : ℤ = total zs in
    subst (λ (n : ℕ). (int_le (pos n *ℤ least k) t && int_le t (pos n *ℤ greatest k)) ≡ true) (same-length vs)
    (and_from _ _ (total-least k zs (numbers-in k vs h)) (total-greatest k zs (numbers-in k vs h)))

partial-right : (how : Agg) (k : Kind) (vs : List Field) → AreValues k vs → is_partial how k (partial_of how vs) ≡ true
partial-right agg.Count k vs h = le-leb 0 (length vs) (omega arith)
partial-right agg.Sum k vs h = refl
partial-right agg.Min k vs h = least-partial k (map number_of vs) (numbers-in k vs h)
partial-right agg.Max k vs h = greatest-partial k (map number_of vs) (numbers-in k vs h)
partial-right agg.Avg k vs h = mean-partial k vs h
partial-right agg.Forall k vs h = refl
partial-right agg.Exists k vs h = refl

counted-le : (how : Agg) (vs : List Field) → fitting.counted how (partial_of how vs) ≤ length vs
counted-le agg.Count vs = omega arith
counted-le agg.Sum vs = omega arith
counted-le agg.Min vs = omega arith
counted-le agg.Max vs = omega arith
counted-le agg.Avg vs = omega arith
counted-le agg.Forall vs = omega arith
counted-le agg.Exists vs = omega arith

sized : (k : Kind) (vs : List Field) → AreValues k vs → unsigned_abs (total (map number_of vs)) ≤ length vs * 2 ^ 64
sized k vs h = subst (λ (n : ℕ). unsigned_abs (total (map number_of vs)) ≤ n * 2 ^ 64) (same-length vs) (total-size k (map number_of vs) (numbers-in k vs h))

size-le : (how : Agg) (k : Kind) (vs : List Field) → AreValues k vs → total_size how (partial_of how vs) ≤ length vs * 2 ^ 64
size-le agg.Count k vs h = omega arith
size-le agg.Sum k vs h = sized k vs h
size-le agg.Min k vs h = omega arith
size-le agg.Max k vs h = omega arith
size-le agg.Avg k vs h = sized k vs h
size-le agg.Forall k vs h = omega arith
size-le agg.Exists k vs h = omega arith

-- how many panes there are
pub length-counted : (from n : ℕ) → length (counted from n) ≡ n
length-counted from zero = refl
length-counted from (suc n) = ap suc (length-counted (from + 1) n)

all-where : {A B : Type 0} (test : B → Bool) (g : A → B) (xs : List A) → ((x : A) → test (g x) ≡ true) → list_all test (map g xs) ≡ true
all-where test g [] h = refl
all-where test g (x ∷ xs) h = and_from (test (g x)) (list_all test (map g xs)) (h x) (all-where test g xs h)

-- the newest pane begins no later than the last offset
newest-begins : (pane offset : ℕ) → 1 ≤ pane → pane_number pane offset * pane < offset + pane
newest-begins pane zero h = omega arith
newest-begins pane (suc o) h =
    let e : nat_eq (suc o) 0 ≡ false = ne_eqb (suc o) 0 (λ z. absurd (omega arith)) in
    let d = div-mul-le_self o pane in
    let s : suc o - 1 ≡ o = omega arith in
    let q : pane_number pane (suc o) ≡ o / pane + 1 = cond-false (nat_eq (suc o) 0) 0 ((suc o - 1) / pane + 1) e ∙ ap (λ (x : ℕ). x / pane + 1) s in
    rw q (omega (arith, d))

-- the time of the newest value is that of a value
newest-within : (k : Kind) (start last : ℕ) (vs : List (ℕ × Field)) (t : ℕ) → AreTimedValues k start last vs → newest_time vs ≡ Some t → (start ≤ t) × (t ≤ last)
newest-within k start last [] t h e = absurd (cc)
newest-within k start last (v ∷ []) t h e = let q : v.0 ≡ t = cc in (subst (λ (x : ℕ). start ≤ x) q h.0.low, subst (λ (x : ℕ). x ≤ last) q h.0.high)
newest-within k start last (v ∷ w ∷ vs) t h e = newest-within k start last (w ∷ vs) t h.1 e

newest-none : (vs : List (ℕ × Field)) (t : ℕ) → newest_time vs ≡ Some t → length vs ≡ 0 → ⊥
newest-none [] t e z = absurd (cc)
newest-none (v ∷ vs) t e z = absurd (omega arith)

module _ (times : Times) (k : Kind) (w : WindowForm) (vs : List (ℕ × Field)) where
  abbrev start : ℕ
  start = time_or 0 times.start

  abbrev last : ℕ
  last = time_or 0 times.last

  -- panes up to that of a time from the start to the last row
  panes-up-to : (t : ℕ) → is_some times.last ≡ true → 1 ≤ w.pane → start ≤ t → t ≤ last → AreTimedValues k start last vs → length vs ≤ times.steps
      → are_panes times k w (panes_by start w vs (Some t)) ≡ true
  panes-up-to t some pane low high values few =
      let number : ℕ = pane_number w.pane (t - start) in
      let ms : List ℕ = kept_panes w.count number in
      let part : ℕ → Partial = λ m. partial_of w.how (values_in_pane start w.pane vs m) in
      let begins = newest-begins w.pane (t - start) pane in
      let many : length (map part ms) ≡ min (number + 1) w.count = length-map ms part ∙ length-counted (number + 1 - w.count) (min (number + 1) w.count) in
      let counts : sum_by (count_in start w.pane vs) ms ≤ length vs = sum-counts start w.pane vs (number + 1 - w.count) (min (number + 1) w.count) in
      let counted_few : sum_by (fitting.counted w.how) (map part ms) ≤ sum_by (count_in start w.pane vs) ms =
      sum-le (fitting.counted w.how) part (count_in start w.pane vs) ms (λ m. counted-le w.how (values_in_pane start w.pane vs m)) in
      let sizes : sum_by (total_size w.how) (map part ms) ≤ sum_by (λ m. count_in start w.pane vs m * 2 ^ 64) ms =
      sum-le (total_size w.how) part (λ m. count_in start w.pane vs m * 2 ^ 64) ms (λ m. size-le w.how k (values_in_pane start w.pane vs m) (in-pane k start last w.pane vs m values)) in
      let scaled = sum-times (count_in start w.pane vs) (2 ^ 64) ms in
      and_from _ _
      (and_from _ _
      (and_from _ _
      (and_from _ _
      (and_from _ _ some (lt-ltb (number * w.pane) ((last - start) + w.pane) (omega (arith, begins))))
      (eq-eqb (length (map part ms)) (min (number + 1) w.count) many))
      (all-where (is_partial w.how k) part ms (λ m. partial-right w.how k (values_in_pane start w.pane vs m) (in-pane k start last w.pane vs m values))))
      (le-leb (sum_by (fitting.counted w.how) (map part ms)) times.steps (omega (arith, counted_few, counts))))
      (le-leb (sum_by (total_size w.how) (map part ms)) (times.steps * 2 ^ 64) (omega (arith, sizes, scaled, counts, few)))

  -- the panes of a window over values
  pub panes-right : 1 ≤ w.pane → AreTimedValues k start last vs → length vs ≤ times.steps → (is_some times.last ≡ false → length vs ≡ 0)
      → are_panes times k w (panes_of start w vs) ≡ true
  panes-right pane values few none = by (newest_time vs) refl
    where
      some : (t : ℕ) → newest_time vs ≡ Some t → (b : Bool) → is_some times.last ≡ b → is_some times.last ≡ true
      some t e true q = q
      some t e false q = absurd (newest-none vs t e (none q))

      by : (o : Option ℕ) → newest_time vs ≡ o → are_panes times k w (panes_by start w vs o) ≡ true
      by None e = refl
      by (Some t) e =
          let between = newest-within k start last vs t values e in
          panes-up-to t (some t e (is_some times.last) refl) pane between.0 between.1 values few
