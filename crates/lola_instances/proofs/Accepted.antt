-- What of a plan's bounds makes it storable.
use Rattle.std.proofs.Common.{◌≡◌, ℕ, zero, suc, ◌*◌, ◌≤◌, List, [], ◌∷◌, drop, refl, subst, arith, Option, Some, None, slice_get, Bool, true, false, ◌&&◌, IsTrue}
use Rattle.std.proofs.lemmas.Bool.{leb-true}
use Rattle.lola_model.specs.Bounds.{ArePanesOf, HasBounds, pacing_at}
use Rattle.lola_model.specs.Named.{all_windows, is_span}
use Rattle.lola_model.specs.Store.{StreamLayout, layouts_from}
use Rattle.lola_model.specs.declared.pacing.ClausePacings.{ClausePacings}
use Rattle.lola_model.specs.declared.pacing.Pacing.{Pacing}
use Rattle.lola_model.specs.declared.pacing.Pacing.TheVariants.{Event, Periodic, Local}
use Rattle.lola_model.specs.declared.plan.PaneSize.{PaneSize}
use Rattle.lola_model.specs.declared.plan.Plan.{Plan}
use Rattle.lola_model.specs.declared.spec.Stream.{Stream}
use Rattle.lola_model.specs.declared.spec.WindowSpec.{WindowSpec}
use Rattle.lola_instances.specs.Layouts.{first_kept}
use Rattle.lola_instances.specs.Opening.{IsCut}

first : (a b : Bool) → (a && b) ≡ true → a ≡ true
first true b h = refl
first false b h = absurd (cc)

second : (a b : Bool) → (a && b) ≡ true → b ≡ true
second true b h = h
second false b h = absurd (cc)

-- a window has a length
span_at : (ws : List WindowSpec) (i : ℕ) (w : WindowSpec) → all_windows is_span ws ≡ true → slice_get ws i ≡ Some w → 1 ≤ w.over
span_at [] zero w h e = absurd (cc)
span_at [] (suc i) w h e = absurd (cc)
span_at (x ∷ ws) zero w h e = let q : x ≡ w = cc in subst (λ (z : WindowSpec). 1 ≤ z.over) q (leb-true 1 x.over (first _ _ (first _ _ h)))
span_at (x ∷ ws) (suc i) w h e = span_at ws i w (second (is_span x) (all_windows is_span ws) h) e

-- both parts of a product that is no 0 are none

times_zero : (a : ℕ) → a * 0 ≡ 0
times_zero a = omega arith

first_part : (a b n : ℕ) → a * b ≡ n → 1 ≤ n → 1 ≤ a
first_part zero b n e l = absurd (omega (arith, e, l))
first_part (suc a) b n e l = omega arith

second_part : (a b n : ℕ) → a * b ≡ n → 1 ≤ n → 1 ≤ b
second_part a zero n e l = absurd (omega (arith, e, l, times_zero a))
second_part a (suc b) n e l = omega arith

by_pacing : (o : Option Pacing) (w : WindowSpec) (p : PaneSize) → ArePanesOf o w.over (Some p) → p.count * p.pane ≡ w.over
by_pacing None w p h = absurd h
by_pacing (Some (Event f)) w p h = absurd h
by_pacing (Some (Periodic r)) w p h = h.count
by_pacing (Some (Local r)) w p h = absurd h

-- the windows of a plan are cut into panes
pub cut_of : (plan : Plan) → HasBounds plan → IsTrue (all_windows is_span plan.spec.windows)
    → (i : ℕ) (w : WindowSpec) (p : PaneSize) → slice_get plan.spec.windows i ≡ Some w → slice_get plan.panes i ≡ Some p → IsCut w p
cut_of plan b h i w p e f =
    let l = span_at plan.spec.windows i w h e in
    let o = by_pacing (pacing_at plan.pacings w.stream w.part) w p (subst (λ (z : Option PaneSize). ArePanesOf (pacing_at plan.pacings w.stream w.part) w.over z) f (b.panes i w e)) in
    record { pane = second_part p.count p.pane w.over o l; count = first_part p.count p.pane w.over o l; over = o }

-- each stream keeps a value

first_ge : (ks : List ℕ) → ((k : ℕ) → slice_get ks 0 ≡ Some k → 1 ≤ k) → 1 ≤ first_kept ks
first_ge [] h = omega arith
first_ge (k ∷ ks) h = h k refl

pub kept_from : (ss : List Stream) (ks : List ℕ) (ps : List ClausePacings) → ((i : ℕ) (k : ℕ) → slice_get ks i ≡ Some k → 1 ≤ k) → (i : ℕ) (l : StreamLayout) → slice_get (layouts_from ss ks ps) i ≡ Some l → 1 ≤ l.kept
kept_from [] ks ps h zero l e = absurd (cc)
kept_from [] ks ps h (suc i) l e = absurd (cc)
kept_from (s ∷ ss) ks ps h zero l e = subst (λ (z : StreamLayout). 1 ≤ z.kept) (same e) (first_ge ks (λ k q. h 0 k q))
  where
    same : {x y : StreamLayout} → Some x ≡ Some y → x ≡ y
    same q = cc
kept_from (s ∷ ss) ks ps h (suc i) l e = kept_from ss (drop 1 ks) (drop 1 ps) (rest ks h) i l e
  where
    rest : (ks : List ℕ) → ((i : ℕ) (k : ℕ) → slice_get ks i ≡ Some k → 1 ≤ k) → (i : ℕ) (k : ℕ) → slice_get (drop 1 ks) i ≡ Some k → 1 ≤ k
    rest [] h i k e = h i k e
    rest (x ∷ ks) h i k e = h (suc i) k e

pub kept_of : (plan : Plan) → HasBounds plan → (i : ℕ) (k : ℕ) → slice_get plan.kept i ≡ Some k → 1 ≤ k
kept_of plan b i k e = let q = b.kept i k e in omega arith
