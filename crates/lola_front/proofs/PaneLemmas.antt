-- Windows whose panes are not too many have panes as a plan has to have them.
use Rattle.std.proofs.Common.{◌≡◌, sym, subst, ℕ, zero, suc, ◌*◌, ◌/◌, ◌<◌, ◌≤◌, List, [], ◌∷◌, true, nat_le, arith}
use Rattle.std.specs.List.{All}
use Rattle.std.specs.Int.{IsGcd}
use Rattle.std.proofs.lemmas.Bool.{leb-true}
use Rattle.std.proofs.lemmas.List.Elements.{All-cons, All-head, All-tail}
use Rattle.std.proofs.lemmas.Nat.Gcd.{dvd_antisymm}
use Rattle.lola_value.specs.Ratio.{Ratio}
use Rattle.lola_value.specs.Rate.{period_over}
use Rattle.lola_model.specs.Bounds.{ArePanes}
use Rattle.lola_model.specs.Named.{IsNamed, all_windows, is_span}
use Rattle.lola_model.specs.Pacings.{ArePacings}
use Rattle.lola_model.specs.Typed.{IsTyped}
use Rattle.lola_model.specs.WindowRefusals.{IsFineEnough}
use Rattle.lola_model.specs.declared.pacing.ClausePacings.{ClausePacings}
use Rattle.lola_model.specs.declared.plan.PaneSize.{PaneSize}
use Rattle.lola_model.specs.declared.spec.Spec.{Spec}
use Rattle.lola_model.specs.declared.spec.WindowSpec.{WindowSpec}
use Rattle.lola_bounds.specs.Panes.{ArePaned, HasFewPanes, IsPaned}
use Rattle.lola_graph.proofs.ReadLemmas.{and_first, and_second}
use Rattle.lola_pacing.specs.Accepted.{IsWindowPaced, PacesWindows}

-- there is one greatest common divisor
one_divisor : (a b g h : ℕ) → IsGcd a b g → IsGcd a b h → g ≡ h
one_divisor a b g h x y = dvd_antisymm (y.2 g x.0 x.1) (x.2 h y.0 y.1)

-- what is multiplied by the same
le_factor : (a b n : ℕ) → a * suc n ≤ b * suc n → a ≤ b
le_factor zero b n h = omega arith
le_factor (suc a) zero n h = absurd (omega (arith, h))
le_factor (suc a) (suc b) n h = let g : a ≤ b = le_factor a b n (omega (arith, h)) in omega (arith, g)

not_more : (count pane over : ℕ) → count * pane ≡ over → 0 < over → over ≤ 65536 * pane → count ≤ 65536
not_more count zero over e some few = absurd (omega arith)
not_more count (suc pane) over e some few = le_factor count 65536 pane (subst (λ (k : ℕ). k ≤ 65536 * suc pane) (sym e) few)

few_where : (r : Ratio) (over : ℕ) → 0 < over → (fine : IsFineEnough r over) → (p : PaneSize) → ArePanes r over p → p.count ≤ 65536
few_where r over some fine p are =
    let same = one_divisor (period_over r / r.num) over p.pane fine.pane are.pane fine.is_pane in
    let count = subst (λ (k : ℕ). p.count * k ≡ over) same are.count in
    not_more p.count fine.pane over count some fine.few

has_few : (r : Ratio) (over : ℕ) → 0 < over → IsFineEnough r over → HasFewPanes r over
has_few r over some fine = record { whole = fine.whole; some = some; few = few_where r over some fine }

paned_all : (pacings : List ClausePacings) (ws : List WindowSpec) → all_windows is_span ws ≡ true → All (IsWindowPaced pacings) ws → All (IsPaned pacings) ws
paned_all pacings [] h k = λ i d lt. absurd (omega arith)
paned_all pacings (w ∷ ws) h k =
    let span = and_first (is_span w) (all_windows is_span ws) h in
    let some : 0 < w.over = leb-true 1 w.over (and_first (nat_le 1 w.over) (nat_le w.over 4000000000000000000) span) in
    let one = All-head (IsWindowPaced pacings) w ws k in
    All-cons (IsPaned pacings) w ws (record { rate = one.rate; periodic = one.periodic; panes = has_few one.rate w.over some one.fine })
    (paned_all pacings ws (and_second (is_span w) (all_windows is_span ws) h) (All-tail (IsWindowPaced pacings) w ws k))

pub are_paned : PacesWindows → (spec : Spec) (pacings : List ClausePacings) → IsNamed spec → IsTyped spec → ArePacings spec pacings → ArePaned pacings spec
are_paned law spec pacings named typed are = paned_all pacings spec.windows typed.ranged.window_spans (law.paced spec pacings named typed are)
