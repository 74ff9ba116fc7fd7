-- Panes of windows.
use Rattle.std.proofs.Common.{◌≡◌, refl, ap, sym, subst, ℕ, ◌/◌, ◌<◌, ◌≤◌, zero, suc, ◌+◌, List, [], ◌∷◌, ◌++◌, length, take, get_or, Option, Some, None, IsSome}
use Rattle.std.proofs.Math.Nat.{div-mul_cancel}
use Rattle.std.proofs.lemmas.List.{take_more}
use Rattle.std.proofs.lemmas.List.Elements.{All-head, All-tail}
use Rattle.std.specs.List.{All, AllZip, slice_get}
use Rattle.std.specs.Option.{SomeIff}
use Rattle.std.specs.Int.{IsGcd}
use Rattle.lola_value.specs.Ratio.{Ratio}
use Rattle.lola_value.specs.Rate.{period_over}
use Rattle.lola_model.specs.Bounds.{ArePanes, ArePanesOf}
use Rattle.lola_model.specs.declared.pacing.Pacing.{Pacing}
use Rattle.lola_model.specs.declared.pacing.ClausePacings.{ClausePacings}
use Rattle.lola_model.specs.declared.spec.WindowSpec.{WindowSpec}
use Rattle.lola_model.specs.declared.plan.PaneSize.{PaneSize}
use Rattle.lola_bounds.specs.Panes.{HasFewPanes, IsPaned, ArePanesOfWindow}

-- the greatest common divisor and how often it goes into the length
pub panes_of : (r : Ratio) (over period pane : ℕ) → HasFewPanes r over → period ≡ period_over r / r.num → IsGcd period over pane → ArePanes r over (record { pane = pane; count = over / pane })
panes_of r over period pane h e g = record {
  whole = h.whole;
  pane = subst (λ p. IsGcd p over pane) e g;
  count = div-mul_cancel pane g.1;
}

-- the value of what is there exactly where a fact holds
pub value_of : (r : Option ℕ) (P : Type 0) (v x : ℕ) → r ≡ Some x → SomeIff r P v → x ≡ v
value_of r P v x e h = (let g : SomeIff (Some x) P v = subst (λ (o : Option ℕ). SomeIff o P v) e h in g).1

-- it is there where the fact holds
pub some_where : (r : Option ℕ) (P : Type 0) (v : ℕ) → P → SomeIff r P v → IsSome r
some_where None P v p h = absurd (h p)
some_where (Some x) P v p h = refl

-- there are few
pub few_panes : (r : Ratio) (over period pane : ℕ) → HasFewPanes r over → period ≡ period_over r / r.num → IsGcd period over pane → over / pane ≤ 65536
few_panes r over period pane h e g = h.few (record { pane = pane; count = over / pane }) (panes_of r over period pane h e g)

-- lists in step have the same places
pub zip_at : (pacings : List ClausePacings) (ws : List WindowSpec) (ps : List PaneSize) → AllZip (λ w p. ArePanesOfWindow pacings w (Some p)) ws ps → (i : ℕ) (w : WindowSpec) → slice_get ws i ≡ Some w → ArePanesOfWindow pacings w (slice_get ps i)
zip_at pacings [] ps h i w e = absurd (cc)
zip_at pacings (v ∷ ws) [] h i w e = absurd h
zip_at pacings (v ∷ ws) (p ∷ ps) h zero w e = let same : v ≡ w = cc in subst (λ (x : WindowSpec). ArePanesOfWindow pacings x (Some p)) same h.0
zip_at pacings (v ∷ ws) (p ∷ ps) h (suc i) w e = zip_at pacings ws ps h.1 i w e

-- none of a window has too many
few_of : (pacings : List ClausePacings) (w : WindowSpec) (p : PaneSize) → IsPaned pacings w → ArePanesOfWindow pacings w (Some p) → p.count ≤ 65536
few_of pacings w p a h = a.panes.few p (subst (λ (o : Option Pacing). ArePanesOf o w.over (Some p)) a.periodic h)

pub zip_few : (pacings : List ClausePacings) (ws : List WindowSpec) (ps : List PaneSize) → All (IsPaned pacings) ws → AllZip (λ w p. ArePanesOfWindow pacings w (Some p)) ws ps → (i : ℕ) (p : PaneSize) → slice_get ps i ≡ Some p → p.count ≤ 65536
zip_few pacings [] [] a h i p e = absurd (cc)
zip_few pacings [] (q ∷ ps) a h i p e = absurd h
zip_few pacings (w ∷ ws) [] a h i p e = absurd h
zip_few pacings (w ∷ ws) (q ∷ ps) a h zero p e = let same : q ≡ p = cc in subst (λ (x : PaneSize). x.count ≤ 65536) same (few_of pacings w q (All-head (IsPaned pacings) w ws a) h.0)
zip_few pacings (w ∷ ws) (q ∷ ps) a h (suc i) p e = zip_few pacings ws ps (All-tail (IsPaned pacings) w ws a) h.1 i p e

-- so many as windows
pub zip_length : (pacings : List ClausePacings) (ws : List WindowSpec) (ps : List PaneSize) → AllZip (λ w p. ArePanesOfWindow pacings w (Some p)) ws ps → length ps ≡ length ws
zip_length pacings [] [] h = refl
zip_length pacings [] (p ∷ ps) h = absurd h
zip_length pacings (w ∷ ws) [] h = absurd h
zip_length pacings (w ∷ ws) (p ∷ ps) h = ap (λ n. suc n) (zip_length pacings ws ps h.1)

-- one more of each
zip_push : (pacings : List ClausePacings) (ws : List WindowSpec) (ps : List PaneSize) (w : WindowSpec) (p : PaneSize) → AllZip (λ w p. ArePanesOfWindow pacings w (Some p)) ws ps → ArePanesOfWindow pacings w (Some p)
    → AllZip (λ w p. ArePanesOfWindow pacings w (Some p)) (ws ++ w ∷ []) (ps ++ p ∷ [])
zip_push pacings [] [] w p h g = (g, tt)
zip_push pacings [] (q ∷ ps) w p h g = absurd h
zip_push pacings (v ∷ ws) [] w p h g = absurd h
zip_push pacings (v ∷ ws) (q ∷ ps) w p h g = (h.0, zip_push pacings ws ps w p h.1 g)

pub zip_more : (pacings : List ClausePacings) (ws : List WindowSpec) (i : ℕ) (ps : List PaneSize) (p : PaneSize) (d : WindowSpec) → i < length ws → AllZip (λ w p. ArePanesOfWindow pacings w (Some p)) (take i ws) ps → ArePanesOfWindow pacings (get_or ws i d) (Some p)
    → AllZip (λ w p. ArePanesOfWindow pacings w (Some p)) (take (i + 1) ws) (ps ++ p ∷ [])
zip_more pacings ws i ps p d lt h g = subst (λ (xs : List WindowSpec). AllZip (λ w p. ArePanesOfWindow pacings w (Some p)) xs (ps ++ p ∷ [])) (sym (take_more ws i d lt)) (zip_push pacings (take i ws) ps (get_or ws i d) p h g)
