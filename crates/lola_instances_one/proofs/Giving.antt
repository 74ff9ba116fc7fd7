-- What callers keep of panes from one value to the next.
use Rattle.std.proofs.Common.{◌≡◌, ◌∙◌, ℕ, ◌+◌, ◌≤◌, ◌<◌, ◌^◌, List, [], ◌∷◌, map, refl, sym, subst, arith, slice_get, IsTrue, MatchOption}
use Rattle.lola_value.specs.declared.value.Kind.{Kind}
use Rattle.lola_value.specs.declared.value.Value.{Value}
use Rattle.lola_value.specs.Kinds.{is_of_kind}
use Rattle.lola_panes.specs.Standing.{Partials}
use Rattle.lola_instances_one.specs.declared.window.WindowPanes.{WindowPanes}
use Rattle.lola_instances_one.specs.Telling.{AllReady, Told, ToldAll, AllGiven}
use Rattle.lola_instances_one.specs.Unborn.{empty_panes, AllOnto, AllPanesOf}

-- panes that were given fewer than 2 ^ 63 values can be given one more
pub given_ready : (offset later most : ℕ) (kind : Kind) (v : Value) (ps : List Partials) → AllGiven offset most kind ps → offset ≤ later → most < 2 ^ 63 → IsTrue (is_of_kind kind v) → AllReady later v ps
given_ready offset later most kind v [] h l m k = tt
given_ready offset later most kind v (p ∷ ps) h l m k =
    let a = h.0.0 in
    let b = h.0.1 in
    (record { offset = omega arith; added = omega arith; kind = subst (λ (x : Kind). IsTrue (is_of_kind x v)) (sym h.0.2) k }, given_ready offset later most kind v ps h.1 l m k)

-- and have one more then
pub given_told : (offset later most : ℕ) (kind : Kind) (v : Value) (ps qs : List Partials) → AllGiven offset most kind ps → ToldAll later v ps qs → AllGiven later (most + 1) kind qs
given_told offset later most kind v [] [] h t = tt
given_told offset later most kind v [] (q ∷ qs) h t = absurd t
given_told offset later most kind v (p ∷ ps) [] h t = absurd t
given_told offset later most kind v (p ∷ ps) (q ∷ qs) h t =
    let a = h.0.1 in
    let n = t.0.newest in
    let b = t.0.added in
    ((omega arith, omega arith, t.0.window.kind ∙ h.0.2), given_told offset later most kind v ps qs h.1 t.1)

-- panes that were given no value
pub given_none : (kind : Kind) (ws : List WindowPanes) → AllOnto kind ws → AllGiven 0 0 kind (map empty_panes ws)
given_none kind [] h = tt
given_none kind (w ∷ ws) h = ((omega arith, omega arith, h.0), given_none kind ws h.1)

-- they are of the same windows

pub panes_none : (ws : List WindowPanes) → AllPanesOf ws (map empty_panes ws)
panes_none [] = tt
panes_none (w ∷ ws) = (record { aggregation = refl; kind = refl; pane = refl; count = refl; exact = refl }, panes_none ws)

pub panes_told : (offset : ℕ) (v : Value) (ws : List WindowPanes) (ps qs : List Partials) → AllPanesOf ws ps → ToldAll offset v ps qs → AllPanesOf ws qs
panes_told offset v [] [] [] h t = tt
panes_told offset v [] [] (q ∷ qs) h t = absurd t
panes_told offset v [] (p ∷ ps) qs h t = absurd h
panes_told offset v (w ∷ ws) [] qs h t = absurd h
panes_told offset v (w ∷ ws) (p ∷ ps) [] h t = absurd t
panes_told offset v (w ∷ ws) (p ∷ ps) (q ∷ qs) h t =
    let s = t.0.window in
    (record { aggregation = s.aggregation ∙ h.0.aggregation; kind = s.kind ∙ h.0.kind; pane = s.pane ∙ h.0.pane; count = s.count ∙ h.0.count; exact = s.exact ∙ h.0.exact }, panes_told offset v ws ps qs h.1 t.1)

-- the first window's panes, and none where there is no window
pub told_none : (offset : ℕ) (v : Value) (qs : List Partials) → ToldAll offset v [] qs → qs ≡ []
told_none offset v [] t = refl
told_none offset v (q ∷ qs) t = absurd t

pub told_first : (offset : ℕ) (v : Value) (p : Partials) (ps qs : List Partials) → ToldAll offset v (p ∷ ps) qs → MatchOption (slice_get qs 0) ⊥ (Told offset v p)
told_first offset v p ps [] t = absurd t
told_first offset v p ps (q ∷ qs) t = t.0
