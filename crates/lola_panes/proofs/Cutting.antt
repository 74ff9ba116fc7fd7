-- Values in the order of time, cut into those of panes.
use Rattle.std.proofs.Common.{◌≡◌, ◌≢◌, ℕ, ◌+◌, ◌≤◌, ◌<◌, List, [], ◌∷◌, ◌++◌, length, refl, ap, sym, ◌∙◌, subst, arith, Some, nat_eq, append-nil, inl, inr}
use Rattle.std.specs.Prelude.{filter}
use Rattle.std.proofs.lemmas.List.Elements.{filter-append}
use Rattle.circular_buffer.proofs.Places.{below_or_not}
use Rattle.lola_model.specs.declared.spec.Agg.{Agg}
use Rattle.lola_value.specs.declared.text.Field.{Field}
use Rattle.lola_panes.specs.declared.partial.Partial.{Partial}
use Rattle.lola_panes.specs.Weights.{number_at}
use Rattle.lola_panes.specs.Holding.{AllOf, AllLeft}
use Rattle.lola_panes.specs.Parts.{pane_values, partial_of, ArePartials}
use Rattle.lola_panes.specs.Restored.{AllFrom, InOrder}
use Rattle.lola_panes.specs.Standing.{newest_of}
use Rattle.lola_panes.proofs.Offsets.{number_monotone}
use Rattle.lola_panes.proofs.Owning.{AllAtLeast, own_values, other_values, later_values}

-- values cut into those of the panes from number n on, which have these partial results
abbrev pub AreCut : Agg → ℕ → ℕ → List Partial → List (ℕ × Field) → Type 0
AreCut how pane n [] vs = vs ≡ []
AreCut how pane n (q ∷ qs) vs =
    (front : List (ℕ × Field)) × (back : List (ℕ × Field)) × (vs ≡ front ++ back) × AllOf pane n front × (partial_of how front ≡ q) × AreCut how pane (n + 1) qs back

-- the numbers are all below this
abbrev pub AllUnder : ℕ → ℕ → List (ℕ × Field) → Type 0
AllUnder pane n [] = Unit {0}
AllUnder pane n (v ∷ vs) = (number_at pane v.0 < n) × AllUnder pane n vs

module _ (how : Agg) (pane : ℕ) (g : 1 ≤ pane) where
  from_at_least : (o n : ℕ) (vs : List (ℕ × Field)) → n ≤ number_at pane o → AllFrom o vs → AllAtLeast pane n vs
  from_at_least o n [] l h = tt
  from_at_least o n (v ∷ vs) l h = let m = number_monotone pane o v.0 g h.0 in (omega arith, from_at_least o n vs l h.1)

  -- those before pane n, and the others
  pub cut_at : (n : ℕ) (vs : List (ℕ × Field)) → InOrder vs
      → (gone : List (ℕ × Field)) × (here : List (ℕ × Field)) × (vs ≡ gone ++ here) × AllUnder pane n gone × AllAtLeast pane n here × InOrder here
  cut_at n [] h = ([], [], refl, tt, tt, tt)
  cut_at n (v ∷ vs) h =
      elim (below_or_not (number_at pane v.0) n) [
        | inl l ↦ let on = cut_at n vs h.1 in (v ∷ on.0, on.1, ap (λ ws. v ∷ ws) on.2, (l, on.3), on.4, on.5)
        | inr l ↦ ([], v ∷ vs, refl, tt, (l, from_at_least v.0 n vs l h.0), h)
      ]

  under_of : (n : ℕ) (vs : List (ℕ × Field)) → AllUnder pane (n + 1) vs → AllAtLeast pane n vs → AllOf pane n vs
  under_of n [] h k = tt
  under_of n (v ∷ vs) h k = let a = h.0 in let b = k.0 in (omega arith, under_of n vs h.1 k.1)

  at_least-front : (n : ℕ) (vs ws : List (ℕ × Field)) → AllAtLeast pane n (vs ++ ws) → AllAtLeast pane n vs
  at_least-front n [] ws h = tt
  at_least-front n (v ∷ vs) ws h = (h.0, at_least-front n vs ws h.1)

  under_values : (n m : ℕ) (vs : List (ℕ × Field)) → AllUnder pane m vs → m ≤ n → pane_values pane n vs ≡ []
  under_values n m [] h l = refl
  under_values n m (v ∷ vs) h l =
      let k = h.0 in
      let d : number_at pane v.0 ≢ n = λ q. omega arith in
      let one : pane_values pane n (v ∷ []) ≡ [] = other_values pane n (number_at pane v.0) (v ∷ []) (refl, tt) d in
      filter-append (λ (x : ℕ × Field). nat_eq (number_at pane x.0) n) (v ∷ []) vs ∙ (λ i. one i ++ under_values n m vs h.1 l i)

  -- panes from n on say nothing of values before those
  partials-behind : (n m : ℕ) (qs : List Partial) (gone here : List (ℕ × Field)) → AllUnder pane m gone → m ≤ n → ArePartials how pane n qs (gone ++ here) → ArePartials how pane n qs here
  partials-behind n m [] gone here u l h = tt
  partials-behind n m (q ∷ qs) gone here u l h =
      let e : pane_values pane n (gone ++ here) ≡ pane_values pane n here =
      filter-append (λ (x : ℕ × Field). nat_eq (number_at pane x.0) n) gone here ∙ ap (λ ws. ws ++ pane_values pane n here) (under_values n m gone u l) in
      (ap (partial_of how) (sym e) ∙ h.0, partials-behind (n + 1) m qs gone here u (omega arith) h.1)

  at_least-none : (n : ℕ) (vs : List (ℕ × Field)) → AllAtLeast pane n vs → AllUnder pane n vs → vs ≡ []
  at_least-none n [] h u = refl
  at_least-none n (v ∷ vs) h u = let a = h.0 in let b = u.0 in absurd (omega arith)

  under-back : (n : ℕ) (vs ws : List (ℕ × Field)) → AllUnder pane n (vs ++ ws) → AllUnder pane n ws
  under-back n [] ws h = h
  under-back n (v ∷ vs) ws h = under-back n vs ws h.1

  cut_all : (n : ℕ) (qs : List Partial) (vs : List (ℕ × Field)) → InOrder vs → AllAtLeast pane n vs → AllUnder pane (n + length qs) vs → ArePartials how pane n qs vs → AreCut how pane n qs vs
  cut_all n [] vs o h u p = at_least-none n vs h (subst (λ k. AllUnder pane k vs) (omega arith) u)
  cut_all n (q ∷ qs) vs o h u p =
      let on = cut_at (n + 1) vs o in
      let own : AllOf pane n on.0 = under_of n on.0 on.3 (at_least-front n on.0 on.1 (subst (AllAtLeast pane n) on.2 h)) in
      let mine : pane_values pane n vs ≡ on.0 =
      ap (filter (λ (x : ℕ × Field). nat_eq (number_at pane x.0) n)) on.2
      ∙ (filter-append (λ (x : ℕ × Field). nat_eq (number_at pane x.0) n) on.0 on.1
      ∙ ((λ i. own_values pane n on.0 own i ++ later_values pane n (n + 1) on.1 on.4 (omega arith) i) ∙ append-nil on.0)) in
      let under : AllUnder pane (n + 1 + length qs) on.1 =
      under-back (n + 1 + length qs) on.0 on.1 (subst (λ k. AllUnder pane k (on.0 ++ on.1)) (omega arith) (subst (AllUnder pane (n + length (q ∷ qs))) on.2 u)) in (
        on.0,
        on.1,
        on.2,
        own,
        ap (partial_of how) (sym mine) ∙ p.0,
        cut_all (n + 1) qs on.1 on.5 on.4 under (partials-behind (n + 1) (n + 1) qs on.0 on.1 on.3 (omega arith) (subst (ArePartials how pane (n + 1) qs) on.2 p.1)),
      )

  -- the newest is in the last pane, so all are in one up to that
  upto_newest : (last : ℕ) (vs : List (ℕ × Field)) → InOrder vs → newest_of pane vs ≡ Some last → AllUnder pane (last + 1) vs
  upto_newest last [] o e = tt
  upto_newest last (v ∷ []) o e = let q : number_at pane v.0 ≡ last = cc in (omega arith, tt)
  upto_newest last (v ∷ w ∷ vs) o e =
      let on = upto_newest last (w ∷ vs) o.1 e in
      let a = on.0 in
      let m = number_monotone pane v.0 w.0 g o.0.0 in
      (omega arith, on)

  under_left : (most last n : ℕ) (vs : List (ℕ × Field)) → AllUnder pane n vs → (0 < n → n + most ≤ last + 1) → AllLeft pane most last vs
  under_left most last n [] h l = tt
  under_left most last n (v ∷ vs) h l = let a = h.0 in let b = l (omega arith) in (omega arith, under_left most last n vs h.1 l)

  -- those that have left before the window that ends with the last pane, and those of its panes
  pub cut_restored : (most last n : ℕ) (qs : List Partial) (all : List (ℕ × Field)) → n + length qs ≡ last + 1 → (0 < n → n + most ≤ last + 1) → InOrder all → newest_of pane all ≡ Some last → ArePartials how pane n qs all
      → (gone : List (ℕ × Field)) × (here : List (ℕ × Field)) × (all ≡ gone ++ here) × AllLeft pane most last gone × AreCut how pane n qs here
  cut_restored most last n qs all e l o w p =
      let on = cut_at n all o in
      let under : AllUnder pane (n + length qs) all = subst (λ k. AllUnder pane k all) (sym e) (upto_newest last all o w) in (
        on.0,
        on.1,
        on.2,
        under_left most last n on.0 on.3 l,
        cut_all n qs on.1 on.5 on.4 (under-back (n + length qs) on.0 on.1 (subst (AllUnder pane (n + length qs)) on.2 under)) (partials-behind n n qs on.0 on.1 on.3 (omega arith) (subst (ArePartials how pane n qs) on.2 p)),
      )
