-- The kept values and the panes of a specification.
use Rattle.std.proofs.Common.{◌≡◌, refl, sym, ap, subst, ℕ, zero, suc, ◌+◌, ◌/◌, ◌≤◌, List, [], ◌∷◌, Option, Some, length, slice_get, arith}
use Rattle.std.specs.List.{All}
use Rattle.std.proofs.Math.Nat.{div-mul_cancel}
use Rattle.std.proofs.lemmas.List.Elements.{All-head, All-tail}
use Rattle.lola_value.specs.Rate.{period_over}
use Rattle.lola_value.specs.Ratio.{Ratio}
use Rattle.lola_bounds.specs.Bounds.{AreBounds}
use Rattle.lola_bounds.specs.Panes.{ArePaned, ArePanesOfWindow, IsPaned}
use Rattle.lola_model.specs.Bounds.{ArePanes, ArePanesOf, IsKept, greatest_offset, offsets_onto}
use Rattle.lola_model.specs.declared.pacing.ClausePacings.{ClausePacings}
use Rattle.lola_model.specs.declared.pacing.Pacing.{Pacing}
use Rattle.lola_model.specs.declared.plan.PaneSize.{PaneSize}
use Rattle.lola_model.specs.declared.spec.Spec.{Spec}
use Rattle.lola_model.specs.declared.spec.Stream.{Stream}
use Rattle.lola_model.specs.declared.spec.WindowSpec.{WindowSpec}
use Rattle.lola_front_law.proofs.ClausesFound.{gcd_of}

-- ---- kept values

-- of the streams from number n on
kept_from : Spec → ℕ → List Stream → List ℕ
kept_from spec n [] = []
kept_from spec n (s ∷ ss) = (1 + greatest_offset (offsets_onto n spec)) ∷ kept_from spec (suc n) ss

length-kept : (spec : Spec) (n : ℕ) (ss : List Stream) → length (kept_from spec n ss) ≡ length ss
unfolding kept_from
length-kept spec n [] = refl
length-kept spec n (s ∷ ss) = ap suc (length-kept spec (suc n) ss)

kept_at : (spec : Spec) (n : ℕ) (ss : List Stream) (i j k : ℕ) → j ≡ n + i → slice_get (kept_from spec n ss) i ≡ Some k → IsKept spec j k
unfolding kept_from
kept_at spec n [] i j k e h = cc h
kept_at spec n (s ∷ ss) zero j k e h =
    let at : j ≡ n = omega (arith, e) in
    let is : 1 + greatest_offset (offsets_onto n spec) ≡ k = cc h in
    subst (λ (m : ℕ). IsKept spec m k) (sym at) (sym is)
kept_at spec n (s ∷ ss) (suc i) j k e h = kept_at spec (suc n) ss i j k (omega (arith, e)) h

-- ---- panes

-- a window's panes, and that they are few
pub record HasPane (pacings : List ClausePacings) (w : WindowSpec) : Type 0 where
  pub size : PaneSize
  pub are : ArePanesOfWindow pacings w (Some size)
  pub few : size.count ≤ 65536

pane_of : (pacings : List ClausePacings) (w : WindowSpec) → IsPaned pacings w → HasPane pacings w
pane_of pacings w paned =
    let r : Ratio = paned.rate in
    let g = gcd_of (period_over r / r.num) w.over in
    let size : PaneSize = record { pane = g.divisor; count = w.over / g.divisor } in
    let are : ArePanes r w.over size = record { whole = paned.panes.whole; pane = g.is; count = div-mul_cancel g.divisor g.is.1 } in
    let P : Option Pacing → Type 0 = λ p. ArePanesOf p w.over (Some size) in
    record { size = size; are = subst P (sym paned.periodic) are; few = paned.panes.few size are }

pub record HasPanes (pacings : List ClausePacings) (ws : List WindowSpec) : Type 0 where
  pub sizes : List PaneSize
  pub count : length sizes ≡ length ws
  pub each : (i : ℕ) (w : WindowSpec) → slice_get ws i ≡ Some w → ArePanesOfWindow pacings w (slice_get sizes i)
  pub few : (i : ℕ) (p : PaneSize) → slice_get sizes i ≡ Some p → p.count ≤ 65536

panes_of : (pacings : List ClausePacings) (ws : List WindowSpec) → All (IsPaned pacings) ws → HasPanes pacings ws
panes_of pacings [] h = record { sizes = []; count = refl; each = λ i w e. cc e; few = λ i p e. cc e }
panes_of pacings (w ∷ ws) h = go (pane_of pacings w (All-head (IsPaned pacings) w ws h)) (panes_of pacings ws (All-tail (IsPaned pacings) w ws h))
  where
    each_of : (p : HasPane pacings w) (rest : HasPanes pacings ws) (i : ℕ) (v : WindowSpec) → slice_get (w ∷ ws) i ≡ Some v → ArePanesOfWindow pacings v (slice_get (p.size ∷ rest.sizes) i)
    each_of p rest zero v e = let same : w ≡ v = cc e in subst (λ (x : WindowSpec). ArePanesOfWindow pacings x (Some p.size)) same p.are
    each_of p rest (suc i) v e = rest.each i v e

    few_of : (p : HasPane pacings w) (rest : HasPanes pacings ws) (i : ℕ) (q : PaneSize) → slice_get (p.size ∷ rest.sizes) i ≡ Some q → q.count ≤ 65536
    few_of p rest zero q e = let same : p.size ≡ q = cc e in subst (λ (x : PaneSize). x.count ≤ 65536) same p.few
    few_of p rest (suc i) q e = rest.few i q e

    go : HasPane pacings w → HasPanes pacings ws → HasPanes pacings (w ∷ ws)
    go p rest = record { sizes = p.size ∷ rest.sizes; count = ap suc rest.count; each = each_of p rest; few = few_of p rest }

-- ---- both

pub bounds_of : (spec : Spec) (pacings : List ClausePacings) → ArePaned pacings spec → (kept : List ℕ) × (panes : List PaneSize) × AreBounds spec pacings kept panes
bounds_of spec pacings paned =
    let p = panes_of pacings spec.windows paned in (
      kept_from spec 0 spec.streams,
      p.sizes,
      record {
        kept_count = length-kept spec 0 spec.streams;
        kept_each = λ n k e. kept_at spec 0 spec.streams n n k (omega arith) e;
        pane_count = p.count;
        pane_each = p.each;
        pane_few = p.few;
      },
    )
