-- A specification has one refusal for a closed walk, and with its pacings one list of layers, of kept values and of panes.
use Rattle.std.proofs.Common.{◌≡◌, refl, sym, ap, subst, ◌∙◌, ℕ, zero, suc, ◌+◌, ◌*◌, ◌<◌, List, [], ◌∷◌, Option, Some, None, length, slice_get, unwrap_or, Bool, true, false, nat_le, ◌&&◌, leb-true, inl, inr, arith}
use Rattle.std.proofs.lemmas.Nat.Gcd.{same_from_IsGcd}
use Rattle.lola_value.specs.declared.front.Code.{Code}
use Rattle.lola_value.specs.declared.front.Refusal.{Refusal}
use Rattle.lola_value.proofs.Divisors.{cancel_right}
use Rattle.lola_model.specs.Acceptance.{IsAccepted}
use Rattle.lola_model.specs.Accepted.{IsAcyclic}
use Rattle.lola_model.specs.Bounds.{ArePanesOf, IsKept, greatest_offset, offsets_onto, pacing_at}
use Rattle.lola_model.specs.Graph.{IsLayer, edges_of, layer_of}
use Rattle.lola_model.specs.Named.{all_windows, is_span}
use Rattle.lola_model.specs.Nodes.{node_count}
use Rattle.lola_model.specs.declared.graph.Edge.{Edge}
use Rattle.lola_model.specs.declared.pacing.ClausePacings.{ClausePacings}
use Rattle.lola_model.specs.declared.pacing.Pacing.{Pacing}
use Rattle.lola_model.specs.declared.pacing.Pacing.TheVariants.{Event, Periodic, Local}
use Rattle.lola_model.specs.declared.plan.PaneSize.{PaneSize}
use Rattle.lola_model.specs.declared.plan.Plan.{Plan}
use Rattle.lola_model.specs.declared.spec.Spec.{Spec}
use Rattle.lola_model.specs.declared.spec.Stream.{Stream}
use Rattle.lola_model.specs.declared.spec.WindowSpec.{WindowSpec}
use Rattle.lola_front.specs.Front.{IsOnCycleAt}
use Rattle.lola_front_law.specs.OneRest.{HasOneCycle}

-- ---- closed walks

no_cycle : (full : Spec) (r : Refusal) → IsAcyclic full → IsOnCycleAt full r → ⊥
no_cycle full r none cycle = elim cycle.least.0 [ inl walk ↦ none.none _ walk | inr walk ↦ none.none _ walk ]

abbrev refusal : Code → ℕ → Refusal
refusal c at = record { code = c; at = at }

pub both_parts : (r q : Refusal) → r.code ≡ q.code → r.at ≡ q.at → r ≡ q
both_parts r q e f = ap (λ (c : Code). refusal c r.at) e ∙ ap (λ (at : ℕ). refusal q.code at) f

pub one_stream : (s t : ℕ) → (s < t → ⊥) → (t < s → ⊥) → s ≡ t
one_stream s t f g = omega (arith, f, g)

one_place : (o : Option Stream) (s t : Stream) (at by : ℕ) → o ≡ Some s → o ≡ Some t → at ≡ s.place → by ≡ t.place → at ≡ by
one_place o s t at by e f a b = let same : s ≡ t = cc in a ∙ ap (λ (x : Stream). x.place) same ∙ sym b

one_cycle : (full : Spec) (r q : Refusal) → IsOnCycleAt full r → IsOnCycleAt full q → r ≡ q
one_cycle full r q a b =
    let same = one_stream a.stream b.stream (λ lt. b.least.1 a.stream lt a.least.0) (λ lt. a.least.1 b.stream lt b.least.0) in
    let there : slice_get full.streams a.stream ≡ Some b.place.0 = ap (λ (n : ℕ). slice_get full.streams n) same ∙ b.place.1 in
    both_parts r q (a.is_cycle ∙ sym b.is_cycle) (one_place (slice_get full.streams a.stream) a.place.0 b.place.0 r.at q.at a.place.1 there a.place.2 b.place.2)

pub has_one_cycle : (full : Spec) → HasOneCycle full
has_one_cycle full = record { is_either = λ r. no_cycle full r; one_refusal = λ r q. one_cycle full r q }

-- ---- layers

one_layer : (edges : List Edge) (n a b : ℕ) → IsLayer edges n a → IsLayer edges n b → a ≡ b
one_layer edges n a b x y =
    let up = y.greatest x.reached.0 x.reached.1 x.reached.2 x.reached.3 in
    let down = x.greatest y.reached.0 y.reached.1 y.reached.2 y.reached.3 in
    omega (arith, up, down, x.reached.4, y.reached.4)

by_places : (xs ys : List ℕ) → length xs ≡ length ys → ((n : ℕ) → unwrap_or (slice_get xs n) 0 ≡ unwrap_or (slice_get ys n) 0) → xs ≡ ys
by_places [] [] e h = refl
by_places [] (y ∷ ys) e h = absurd (omega (arith, e))
by_places (x ∷ xs) [] e h = absurd (omega (arith, e))
by_places (x ∷ xs) (y ∷ ys) e h =
    let others = by_places xs ys (omega (arith, e)) (λ n. h (suc n)) in
    let first : x ≡ y = h 0 in
    cc

pub one_layers : (edges : List Edge) (ls ms : List ℕ) → length ls ≡ length ms → ((n : ℕ) → IsLayer edges n (layer_of ls n)) → ((n : ℕ) → IsLayer edges n (layer_of ms n)) → ls ≡ ms
one_layers edges ls ms e x y = by_places ls ms e (λ n. one_layer edges n (layer_of ls n) (layer_of ms n) (x n) (y n))

-- ---- kept values: each is that of its stream

pub by_numbers : (f : ℕ → ℕ) (xs ys : List ℕ) → length xs ≡ length ys → ((n k : ℕ) → slice_get xs n ≡ Some k → k ≡ f n) → ((n k : ℕ) → slice_get ys n ≡ Some k → k ≡ f n)
    → xs ≡ ys
by_numbers f [] [] e g h = refl
by_numbers f [] (y ∷ ys) e g h = absurd (omega (arith, e))
by_numbers f (x ∷ xs) [] e g h = absurd (omega (arith, e))
by_numbers f (x ∷ xs) (y ∷ ys) e g h =
    let others = by_numbers (λ n. f (suc n)) xs ys (omega (arith, e)) (λ n. g (suc n)) (λ n. h (suc n)) in
    let first : x ≡ y = g 0 x refl ∙ sym (h 0 y refl) in
    cc

-- ---- panes: each is that of its window

some_pane : (count pane over : ℕ) → count * pane ≡ over → 0 < over → 0 < pane
some_pane count zero over e some = absurd (omega (arith, e, some))
some_pane count (suc pane) over e some = omega arith

abbrev pane_size : ℕ → ℕ → PaneSize
pane_size pane count = record { pane = pane; count = count }

same_pane : (p q : PaneSize) → p.pane ≡ q.pane → p.count ≡ q.count → p ≡ q
same_pane p q e f = ap (λ (n : ℕ). pane_size n p.count) e ∙ ap (λ (n : ℕ). pane_size q.pane n) f

one_pane : (o : Option Pacing) (over : ℕ) → 0 < over → (p q : PaneSize) → ArePanesOf o over (Some p) → ArePanesOf o over (Some q) → p ≡ q
one_pane None over some p q a b = absurd a
one_pane (Some (Event sets)) over some p q a b = absurd a
one_pane (Some (Local r)) over some p q a b = absurd a
one_pane (Some (Periodic r)) over some p q a b =
    let pane = same_from_IsGcd _ _ _ _ a.pane b.pane in
    let other : q.count * p.pane ≡ over = subst (λ (k : ℕ). q.count * k ≡ over) (sym pane) b.count in
    same_pane p q pane (cancel_right p.count q.count p.pane (some_pane p.count p.pane over a.count some) (a.count ∙ sym other))

and_first : (a b : Bool) → (a && b) ≡ true → a ≡ true
and_first true b e = refl
and_first false b e = absurd cc

and_second : (a b : Bool) → (a && b) ≡ true → b ≡ true
and_second true b e = e
and_second false b e = absurd cc

pub by_windows : (pacings : List ClausePacings) (ws : List WindowSpec) (ps qs : List PaneSize) → all_windows is_span ws ≡ true → length ps ≡ length ws → length qs ≡ length ws
    → ((i : ℕ) (w : WindowSpec) → slice_get ws i ≡ Some w → ArePanesOf (pacing_at pacings w.stream w.part) w.over (slice_get ps i))
    → ((i : ℕ) (w : WindowSpec) → slice_get ws i ≡ Some w → ArePanesOf (pacing_at pacings w.stream w.part) w.over (slice_get qs i))
    → ps ≡ qs
by_windows pacings [] [] [] span e f g h = refl
by_windows pacings [] (p ∷ ps) qs span e f g h = absurd (omega (arith, e))
by_windows pacings [] [] (q ∷ qs) span e f g h = absurd (omega (arith, f))
by_windows pacings (w ∷ ws) [] qs span e f g h = absurd (omega (arith, e))
by_windows pacings (w ∷ ws) (p ∷ ps) [] span e f g h = absurd (omega (arith, f))
by_windows pacings (w ∷ ws) (p ∷ ps) (q ∷ qs) span e f g h =
    let spanned = and_first (is_span w) (all_windows is_span ws) span in
    let some : 0 < w.over = leb-true 1 w.over (and_first (nat_le 1 w.over) (nat_le w.over 4000000000000000000) spanned) in
    let others = by_windows pacings ws ps qs (and_second (is_span w) (all_windows is_span ws) span) (omega (arith, e)) (omega (arith, f)) (λ i. g (suc i)) (λ i. h (suc i)) in
    let first : p ≡ q = one_pane (pacing_at pacings w.stream w.part) w.over some p q (g 0 w refl) (h 0 w refl) in
    cc

-- ---- the whole

abbrev plan_of : Spec → List ClausePacings → List ℕ → List ℕ → List PaneSize → Plan
plan_of spec pacings layers kept panes = record { spec = spec; pacings = pacings; layers = layers; kept = kept; panes = panes }

pub all_parts : (p q : Plan) → p.spec ≡ q.spec → p.pacings ≡ q.pacings → p.layers ≡ q.layers → p.kept ≡ q.kept → p.panes ≡ q.panes → p ≡ q
all_parts p q a b c d e =
    ap (λ (x : Spec). plan_of x p.pacings p.layers p.kept p.panes) a
    ∙ (ap (λ (x : List ClausePacings). plan_of q.spec x p.layers p.kept p.panes) b
    ∙ (ap (λ (x : List ℕ). plan_of q.spec q.pacings x p.kept p.panes) c
    ∙ (ap (λ (x : List ℕ). plan_of q.spec q.pacings q.layers x p.panes) d
    ∙ ap (λ (x : List PaneSize). plan_of q.spec q.pacings q.layers q.kept x) e)))

module _ (p q : Plan) (x : IsAccepted p) (y : IsAccepted q) (spec : p.spec ≡ q.spec) (pacings : p.pacings ≡ q.pacings) where
  same_layers : p.layers ≡ q.layers
  same_layers =
      let count : length p.layers ≡ node_count (edges_of q.spec) = subst (λ (s : Spec). length p.layers ≡ node_count (edges_of s)) spec x.layer_count in
      let layers = subst (λ (s : Spec). (n : ℕ) → IsLayer (edges_of s) n (layer_of p.layers n)) spec x.layers.layers in
      one_layers (edges_of q.spec) p.layers q.layers (count ∙ sym y.layer_count) layers y.layers.layers

  same_kept : p.kept ≡ q.kept
  same_kept =
      let count : length p.kept ≡ length q.spec.streams = subst (λ (s : Spec). length p.kept ≡ length s.streams) spec x.bounds.kept_count in
      let kept = subst (λ (s : Spec). (n k : ℕ) → slice_get p.kept n ≡ Some k → IsKept s n k) spec x.bounds.kept in
      by_numbers (λ n. 1 + greatest_offset (offsets_onto n q.spec)) p.kept q.kept (count ∙ sym y.bounds.kept_count) kept y.bounds.kept

  same_panes : p.panes ≡ q.panes
  same_panes =
      let count : length p.panes ≡ length q.spec.windows = subst (λ (s : Spec). length p.panes ≡ length s.windows) spec x.bounds.pane_count in
      let by_spec = subst (λ (s : Spec). (i : ℕ) (w : WindowSpec) → slice_get s.windows i ≡ Some w → ArePanesOf (pacing_at p.pacings w.stream w.part) w.over (slice_get p.panes i)) spec x.bounds.panes in
      let panes = subst (λ (ps : List ClausePacings). (i : ℕ) (w : WindowSpec) → slice_get q.spec.windows i ≡ Some w → ArePanesOf (pacing_at ps w.stream w.part) w.over (slice_get p.panes i)) pacings by_spec in
      by_windows q.pacings q.spec.windows p.panes q.panes y.typed.ranged.window_spans count y.bounds.pane_count panes y.bounds.panes

  pub one_plan : p ≡ q
  one_plan = all_parts p q spec pacings same_layers same_kept same_panes
