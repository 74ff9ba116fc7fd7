-- What is due is the least deadline that is still open.
use Rattle.std.proofs.Common.{◌≡◌, refl, ◌∙◌, sym, subst, ℕ, zero, suc, ◌+◌, ◌-◌, ◌<◌, ◌≤◌, ◌⊎◌, inl, inr, List, [], ◌∷◌, Option, Some, None, nat_le, arith, min, true, false}
use Rattle.std.proofs.lemmas.Bool.{leb-true, leb-false}
use Rattle.std.specs.List.{slice_get, Contains}
use Rattle.std.specs.Option.{option_map}
use Rattle.lola_value.specs.Ratio.{Ratio}
use Rattle.lola_value.specs.Rate.{IsDeadline}
use Rattle.lola_model.specs.Content.{time_of}
use Rattle.lola_model.specs.Model.{survivors, last_row}
use Rattle.lola_model.specs.Steps.{rates_of, first_after}
use Rattle.lola_model.specs.StepOrder.{AreRates}
use Rattle.lola_model.specs.NextStep.{local_rates, earlier, first_due, open_from, due_of_instances, due_of_streams, due, HasRates, IsDeadlineSince, IsDeadlineOfInstance, IsOpen, IsLeast, HasDue}
use Rattle.lola_model.specs.Table.{Instance, TableRow}
use Rattle.lola_model.specs.declared.plan.Plan.{Plan}
use Rattle.lola_model.specs.declared.spec.Stream.{Stream}
use Rattle.lola_model.proofs.Deadlines.{IsSomeDeadline, first_after_above, first_after_is, first_after_least, rate_of_some, some_of_rate}
use Rattle.lola_model.proofs.Strictly.{Contains-here, Contains-there, Contains-cases, Contains-none}

-- the same moments, the same least
pub least_by : (P Q : ℕ → Type 0) → ((t : ℕ) → P t → Q t) → ((t : ℕ) → Q t → P t) → (o : Option ℕ) → IsLeast P o → IsLeast Q o
least_by P Q to from None h = λ t q. h t (from t q)
least_by P Q to from (Some t) h = (to t h.0, λ u q. h.1 u (from u q))

-- of either kind
pub least_of_two : (P Q : ℕ → Type 0) (a b : Option ℕ) → IsLeast P a → IsLeast Q b → IsLeast (λ t. P t ⊎ Q t) (earlier a b)
least_of_two P Q None None h g = λ t w. go t w
  where
    go : (t : ℕ) → P t ⊎ Q t → ⊥
    go t (inl p) = h t p
    go t (inr q) = g t q
least_of_two P Q None (Some s) h g = (inr g.0, λ u w. go u w)
  where
    go : (u : ℕ) → P u ⊎ Q u → s ≤ u
    go u (inl p) = absurd (h u p)
    go u (inr q) = g.1 u q
least_of_two P Q (Some s) None h g = (inl h.0, λ u w. go u w)
  where
    go : (u : ℕ) → P u ⊎ Q u → s ≤ u
    go u (inl p) = h.1 u p
    go u (inr q) = absurd (g u q)
least_of_two P Q (Some s) (Some r) h g = elim (nat_le r s) as (λ b. nat_le r s ≡ b → IsLeast (λ t. P t ⊎ Q t) (Some (min r s))) [
  | true ↦ λ q. let k : r ≤ s = leb-true r s q in let e : min r s ≡ r = omega arith in subst (λ m. IsLeast (λ t. P t ⊎ Q t) (Some m)) (sym e) (inr g.0, λ u w. first u w k)
  | false ↦ λ q. let k : s < r = leb-false r s q in let e : min r s ≡ s = omega arith in subst (λ m. IsLeast (λ t. P t ⊎ Q t) (Some m)) (sym e) (inl h.0, λ u w. second u w k)
] refl
  where
    first : (u : ℕ) → P u ⊎ Q u → r ≤ s → r ≤ u
    first u (inl p) k = let l : s ≤ u = h.1 u p in omega arith
    first u (inr q) k = g.1 u q

    second : (u : ℕ) → P u ⊎ Q u → s < r → s ≤ u
    second u (inl p) k = h.1 u p
    second u (inr q) k = let l : r ≤ u = g.1 u q in omega arith

-- of rates that count from a moment
module _ (counted : ℕ) (rates : List Ratio) (from : ℕ) (positive : AreRates rates) where
  abbrev Counts : ℕ → Type 0
  Counts t = IsDeadlineSince counted rates t × (from ≤ t)

  abbrev passed : ℕ
  passed = from - counted - 1

  offset_of : (t : ℕ) → Counts t → IsSomeDeadline rates (t - counted) × (passed < t - counted)
  offset_of t h =
      let k : counted < t = h.0.later in
      let l : from ≤ t = h.1 in
      (some_of_rate rates h.0.rate (t - counted) h.0.listed h.0.deadline, omega arith)

  by_first : (o : Option ℕ) → first_after rates passed ≡ o → IsLeast Counts (option_map (λ t. counted + t) o)
  by_first None e = λ t h.
      let w = offset_of t h in
      let v = first_after_least rates passed (t - counted) positive w.0 w.1 in
      let q = sym e ∙ v.1 in absurd (cc)
  by_first (Some s) e =
      let above : passed < s = first_after_above rates passed s positive e in
      let w = rate_of_some rates s (first_after_is rates passed s positive e) in
      let back : counted + s - counted ≡ s = omega arith in (
        (record { rate = w.0; listed = w.1; later = omega arith; deadline = subst (λ x. IsDeadline w.0 x) (sym back) w.2 }, omega arith),
        λ u h.
            let k = offset_of u h in
            let v = first_after_least rates passed (u - counted) positive k.0 k.1 in
            let same : s ≡ v.0 = (let q = sym e ∙ v.1 in cc) in
            let le : v.0 ≤ u - counted = v.2 in
            let later : counted < u = h.0.later in
            omega arith,
      )

  pub first_due_least : IsLeast Counts (first_due counted rates from)
  first_due_least = by_first (first_after rates passed) refl

module _ (plan : Plan) (table : List TableRow) (has : HasRates plan.pacings) where
  abbrev from : ℕ
  from = open_from (last_row table)

  abbrev born_at : Instance → ℕ
  born_at i = time_of 0 (slice_get table i.born)

  -- of these instances
  pub record IsAmong (rates : List Ratio) (is : List Instance) (t : ℕ) : Type 0 where
    pub instance : Instance
    pub lives : Contains is instance
    pub counts : IsDeadlineSince (born_at instance) rates t
    pub open_at : from ≤ t

  instances_least : (rates : List Ratio) (is : List Instance) → AreRates rates → IsLeast (IsAmong rates is) (due_of_instances plan table rates is)
  instances_least rates [] h = λ t w. Contains-none w.instance w.lives
  instances_least rates (i ∷ is) h =
      least_by (λ t. Counts (born_at i) rates from h t ⊎ IsAmong rates is t) (IsAmong rates (i ∷ is)) to back (earlier (first_due (born_at i) rates from) (due_of_instances plan table rates is))
      (least_of_two (Counts (born_at i) rates from h) (IsAmong rates is) _ _ (first_due_least (born_at i) rates from h) (instances_least rates is h))
    where
      to : (t : ℕ) → Counts (born_at i) rates from h t ⊎ IsAmong rates is t → IsAmong rates (i ∷ is) t
      to t (inl c) = record { instance = i; lives = Contains-here i is; counts = c.0; open_at = c.1 }
      to t (inr w) = record { instance = w.instance; lives = Contains-there i w.instance is w.lives; counts = w.counts; open_at = w.open_at }

      back : (t : ℕ) → IsAmong rates (i ∷ is) t → Counts (born_at i) rates from h t ⊎ IsAmong rates is t
      back t w = go (Contains-cases i w.instance is w.lives)
        where
          go : (i ≡ w.instance) ⊎ Contains is w.instance → Counts (born_at i) rates from h t ⊎ IsAmong rates is t
          go (inl e) = inl (subst (λ x. IsDeadlineSince (born_at x) rates t) (sym e) w.counts, w.open_at)
          go (inr c) = inr (record { instance = w.instance; lives = c; counts = w.counts; open_at = w.open_at })

  -- of the streams from number n on
  pub record IsFrom (n : ℕ) (ss : List Stream) (t : ℕ) : Type 0 where
    pub place : ℕ
    pub stream : Stream
    pub at : slice_get ss place ≡ Some stream
    pub among : IsAmong (local_rates (slice_get plan.pacings (n + place))) (survivors (n + place) stream (last_row table)) t

  abbrev Here : ℕ → Stream → ℕ → Type 0
  Here n s t = IsAmong (local_rates (slice_get plan.pacings n)) (survivors n s (last_row table)) t

  streams_least : (n : ℕ) (ss : List Stream) → IsLeast (IsFrom n ss) (due_of_streams plan table n ss)
  streams_least n [] = λ t w. absurd (let q = w.at in cc)
  streams_least n (s ∷ ss) =
      least_by (λ t. Here n s t ⊎ IsFrom (n + 1) ss t) (IsFrom n (s ∷ ss)) to back (earlier (due_of_instances plan table (local_rates (slice_get plan.pacings n)) (survivors n s (last_row table))) (due_of_streams plan table (n + 1) ss))
      (least_of_two (Here n s) (IsFrom (n + 1) ss) _ _ (instances_least (local_rates (slice_get plan.pacings n)) (survivors n s (last_row table)) (has.counted_from_births n)) (streams_least (n + 1) ss))
    where
      to : (t : ℕ) → Here n s t ⊎ IsFrom (n + 1) ss t → IsFrom n (s ∷ ss) t
      to t (inl h) = let e : n ≡ n + 0 = omega arith in record { place = 0; stream = s; at = refl; among = subst (λ m. Here m s t) e h }
      to t (inr w) = let e : n + 1 + w.place ≡ n + suc w.place = omega arith in record { place = suc w.place; stream = w.stream; at = w.at; among = subst (λ m. Here m w.stream t) e w.among }

      back : (t : ℕ) → IsFrom n (s ∷ ss) t → Here n s t ⊎ IsFrom (n + 1) ss t
      back t w = go w.place w.at w.among
        where
          go : (p : ℕ) → slice_get (s ∷ ss) p ≡ Some w.stream → Here (n + p) w.stream t → Here n s t ⊎ IsFrom (n + 1) ss t
          go zero e h = let a : n + 0 ≡ n = omega arith in let b : w.stream ≡ s = cc in inl (subst (λ x. Here n x t) b (subst (λ m. Here m w.stream t) a h))
          go (suc p) e h = let a : n + suc p ≡ n + 1 + p = omega arith in inr (record { place = p; stream = w.stream; at = e; among = subst (λ m. Here m w.stream t) a h })

  pub due_least : (start : ℕ) → IsLeast (IsOpen plan start table) (due plan table start)
  due_least start =
      least_by (λ t. Counts start (rates_of plan.pacings) from has.counted_from_start t ⊎ IsFrom 0 plan.spec.streams t) (IsOpen plan start table) to back
      (earlier (first_due start (rates_of plan.pacings) from) (due_of_streams plan table 0 plan.spec.streams))
      (least_of_two (Counts start (rates_of plan.pacings) from has.counted_from_start) (IsFrom 0 plan.spec.streams) _ _ (first_due_least start (rates_of plan.pacings) from has.counted_from_start) (streams_least 0 plan.spec.streams))
    where
      of_instance : (t : ℕ) → IsFrom 0 plan.spec.streams t → IsDeadlineOfInstance plan table t
      of_instance t w =
          let e : 0 + w.place ≡ w.place = omega arith in
          let a : Here w.place w.stream t = subst (λ m. Here m w.stream t) e w.among in
          record { number = w.place; stream = w.stream; at = w.at; instance = a.instance; lives = a.lives; counts = a.counts }

      to : (t : ℕ) → Counts start (rates_of plan.pacings) from has.counted_from_start t ⊎ IsFrom 0 plan.spec.streams t → IsOpen plan start table t
      to t (inl c) = (inl c.0, c.1)
      to t (inr w) = (inr (of_instance t w), w.among.open_at)

      back : (t : ℕ) → IsOpen plan start table t → Counts start (rates_of plan.pacings) from has.counted_from_start t ⊎ IsFrom 0 plan.spec.streams t
      back t h = go h.0
        where
          go : IsDeadlineSince start (rates_of plan.pacings) t ⊎ IsDeadlineOfInstance plan table t → Counts start (rates_of plan.pacings) from has.counted_from_start t ⊎ IsFrom 0 plan.spec.streams t
          go (inl c) = inl (c, h.1)
          go (inr w) =
              let e : w.number ≡ 0 + w.number = omega arith in
              inr (record {
                place = w.number;
                stream = w.stream;
                at = w.at;
                among = subst (λ m. Here m w.stream t) e (record { instance = w.instance; lives = w.lives; counts = w.counts; open_at = h.1 });
              })

-- the law
pub has_due : (plan : Plan) → HasRates plan.pacings → HasDue plan
has_due plan has start table = due_least plan table has start
