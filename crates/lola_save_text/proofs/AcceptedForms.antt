-- An accepted plan has the forms that the laws of state texts stand on.
use Rattle.std.proofs.Common.{◌≡◌, ℕ, zero, suc, ◌+◌, ◌*◌, ◌≤◌, List, [], ◌∷◌, ◌++◌, length, drop, refl, sym, subst, arith, Option, Some, None, slice_get, unwrap_or, true, false, not, ◌&&◌, nat_eq}
use Rattle.std.proofs.lemmas.Bool.{and_parts, cond_both, eqb-true, leb-true}
use Rattle.lola_value.specs.declared.value.Kind.{Kind}
use Rattle.lola_model.specs.Acceptance.{IsAccepted}
use Rattle.lola_model.specs.Bounds.{ArePanesOf, HasBounds, pacing_at}
use Rattle.lola_model.specs.Named.{all_streams, all_windows, count_with, has_clause, has_when, is_input_shape, is_of_bool, is_output_shape, is_span, is_trigger_shape, is_well_shaped}
use Rattle.lola_model.specs.Store.{layouts_from}
use Rattle.lola_model.specs.declared.pacing.ClausePacings.{ClausePacings}
use Rattle.lola_model.specs.declared.pacing.Pacing.{Pacing}
use Rattle.lola_model.specs.declared.pacing.Pacing.TheVariants.{Event, Periodic, Local}
use Rattle.lola_model.specs.declared.plan.PaneSize.{PaneSize}
use Rattle.lola_model.specs.declared.plan.Plan.{Plan}
use Rattle.lola_model.specs.declared.spec.Clause.{Clause}
use Rattle.lola_model.specs.declared.spec.Sort.{Sort}
use Rattle.lola_model.specs.declared.spec.Sort.TheVariants as sort
use Rattle.lola_model.specs.declared.spec.Stream.{Stream}
use Rattle.lola_model.specs.declared.spec.WindowSpec.{WindowSpec}
use Rattle.lola_save_text.specs.Forms.{AreStorable, HaveLength, WindowForm, first_size, forms_of, one_onto, stream_forms, windows_onto}

-- a stream without a spawn clause has no parameters

none-of : (ks : List Kind) → length ks ≡ 0 → ks ≡ []
none-of [] e = refl
none-of (k ∷ ks) e = absurd (omega (arith, e))

unspawned : (o : Option Clause) (ks : List Kind) → nat_eq (count_with o) (length ks) ≡ true → elim o [ None ↦ false | Some k ↦ true ] ≡ false → ks ≡ []
unspawned None ks e f = none-of ks (sym (eqb-true 0 (length ks) e))
unspawned (Some c) ks e f = absurd (cc)

by-sort : (s : Stream) (so : Sort) → elim so [ sort.Input ↦ is_input_shape s | sort.Output ↦ is_output_shape s | sort.Trigger ↦ is_trigger_shape s ] ≡ true
    → elim s.spawn [ None ↦ false | Some k ↦ true ] ≡ false → s.parameters ≡ []
by-sort s sort.Input e f = none-of s.parameters (eqb-true (length s.parameters) 0 (and_parts _ _ (and_parts _ _ e).1).0)
by-sort s sort.Output e f = unspawned s.spawn s.parameters (and_parts _ _ (and_parts _ _ e).1).0 f
by-sort s sort.Trigger e f =
    let r = nat_eq (length s.parameters) 0 && (not (has_clause s.spawn) && not (has_clause s.close)) in
    let w = not (has_when s.eval) && r in
    let one = (and_parts (is_of_bool s.kind) (nat_eq (count_with s.eval) 1 && w) e).1 in
    let two = (and_parts (nat_eq (count_with s.eval) 1) w one).1 in
    none-of s.parameters (eqb-true (length s.parameters) 0 (and_parts (nat_eq (length s.parameters) 0) (not (has_clause s.spawn) && not (has_clause s.close)) (and_parts (not (has_when s.eval)) r two).1).0)

-- panes have a length

no-product : (a : ℕ) → a * 0 ≡ 0
no-product a = omega arith

part-some : (a b n : ℕ) → a * b ≡ n → 1 ≤ n → 1 ≤ b
part-some a zero n e l = absurd (omega (arith, e, l, no-product a))
part-some a (suc b) n e l = omega arith

-- the panes at a place
abbrev size_at : List PaneSize → ℕ → PaneSize
size_at ps i = unwrap_or (slice_get ps i) (record { pane = 1; count = 1 })

by-pacing : (o : Option Pacing) (over : ℕ) (p : Option PaneSize) → 1 ≤ over → ArePanesOf o over p → 1 ≤ (unwrap_or p (record { pane = 1; count = 1 })).pane
by-pacing None over p l h = absurd h
by-pacing (Some (Event f)) over p l h = absurd h
by-pacing (Some (Local r)) over p l h = absurd h
by-pacing (Some (Periodic r)) over None l h = absurd h
by-pacing (Some (Periodic r)) over (Some p) l h = part-some p.count p.pane over h.count l

span-at : (ws : List WindowSpec) (i : ℕ) (w : WindowSpec) → all_windows is_span ws ≡ true → slice_get ws i ≡ Some w → 1 ≤ w.over
span-at [] zero w h e = absurd (cc)
span-at [] (suc i) w h e = absurd (cc)
span-at (x ∷ ws) zero w h e =
    let q : x ≡ w = cc in
    subst (λ (z : WindowSpec). 1 ≤ z.over) q (leb-true 1 x.over (and_parts _ _ (and_parts _ _ h).0).0)
span-at (x ∷ ws) (suc i) w h e = span-at ws i w (and_parts (is_span x) (all_windows is_span ws) h).1 e

-- each of these windows has panes with a length
abbrev AllSized : List WindowSpec → List PaneSize → Type 0
AllSized ws ps = (i : ℕ) (w : WindowSpec) → slice_get ws i ≡ Some w → 1 ≤ (size_at ps i).pane

all-sized : (plan : Plan) → HasBounds plan → all_windows is_span plan.spec.windows ≡ true → AllSized plan.spec.windows plan.panes
all-sized plan b h i w e = by-pacing (pacing_at plan.pacings w.stream w.part) w.over (slice_get plan.panes i) (span-at plan.spec.windows i w h e) (b.panes i w e)

sized-rest : (w : WindowSpec) (ws : List WindowSpec) (ps : List PaneSize) → AllSized (w ∷ ws) ps → AllSized ws (drop 1 ps)
sized-rest w ws [] h i v e = h (suc i) v e
sized-rest w ws (p ∷ ps) h i v e = h (suc i) v e

both-have : (xs ys : List WindowForm) → HaveLength xs → HaveLength ys → HaveLength (xs ++ ys)
both-have [] ys a b = b
both-have (x ∷ xs) ys a b = (a.0, both-have xs ys a.1 b)

onto-have : (n k : ℕ) (ws : List WindowSpec) (ps : List PaneSize) → AllSized ws ps → HaveLength (windows_onto n k ws ps)
onto-have n k [] ps h = tt
onto-have n k (w ∷ ws) ps h =
    both-have (one_onto n k w (first_size ps)) (windows_onto n (k + 1) ws (drop 1 ps))
    (cond_both (nat_eq w.target n) (record { number = k; how = w.using; pane = (first_size ps).pane; count = (first_size ps).count } ∷ []) [] HaveLength (λ _. (h 0 w refl, tt)) (λ _. tt))
    (onto-have n (k + 1) ws (drop 1 ps) (sized-rest w ws ps h))

forms-have : (plan : Plan) (n : ℕ) (ss : List Stream) (kept : List ℕ) (pacings : List ClausePacings) → all_streams is_well_shaped ss ≡ true → AllSized plan.spec.windows plan.panes
    → AreStorable (stream_forms plan n (layouts_from ss kept pacings))
forms-have plan n [] kept pacings h a = tt
forms-have plan n (s ∷ ss) kept pacings h a =
    (by-sort s s.sort (and_parts _ _ h).0, onto-have n 0 plan.spec.windows plan.panes a, forms-have plan (n + 1) ss (drop 1 kept) (drop 1 pacings) (and_parts _ _ h).1 a)

pub accepted-storable : (plan : Plan) → IsAccepted plan → AreStorable (forms_of plan)
accepted-storable plan h = forms-have plan 0 plan.spec.streams plan.kept plan.pacings h.named.shapes (all-sized plan h.bounds h.typed.ranged.window_spans)
