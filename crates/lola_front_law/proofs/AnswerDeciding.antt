-- Each text has one refusal, or plans that differ in addresses alone.
use Rattle.std.proofs.Common.{◌≡◌, refl, sym, ap, subst, ◌∙◌, ℕ, suc, ◌+◌, List, [], ◌∷◌, Some, length, slice_get, ◌⊎◌, inl, inr}
use Rattle.lola_value.specs.declared.front.Refusal.{Refusal}
use Rattle.lola_model.specs.Bounds.{ArePanesOf, greatest_offset, offsets_onto, pacing_at}
use Rattle.lola_model.specs.Graph.{IsLayer, edges_of, layer_of}
use Rattle.lola_model.specs.Nodes.{node_count}
use Rattle.lola_model.specs.declared.graph.Edge.{Edge}
use Rattle.lola_model.specs.declared.pacing.ClausePacings.{ClausePacings}
use Rattle.lola_model.specs.declared.plan.Plan.{Plan}
use Rattle.lola_model.specs.declared.spec.Spec.{Spec}
use Rattle.lola_model.specs.declared.spec.Stream.{Stream}
use Rattle.lola_model.specs.declared.spec.WindowSpec.{WindowSpec}
use Rattle.lola_front.specs.Front.{IsPlanOf, IsRefusalOf}
use Rattle.lola_front_law.specs.Alike.{plain_plan}
use Rattle.lola_front_law.specs.Decided.{IsDecided, IsEarlyRefusal, IsLateRefusal}
use Rattle.lola_front_law.specs.OneAnswer.{HasOneAnswer}
use Rattle.lola_front_law.proofs.AlikePlans.{same_offsets}
use Rattle.lola_front_law.proofs.CycleDeciding.{alike_specs, has_one_graph, same_places}
use Rattle.lola_front_law.proofs.EdgeLemmas.{places}
use Rattle.lola_front_law.proofs.KindDeciding.{kinds_decided}
use Rattle.lola_front_law.proofs.PacingDeciding.{has_one_pacing}
use Rattle.lola_front_law.proofs.PlainPlans.{full_plain}
use Rattle.lola_front_law.proofs.RestLemmas.{all_parts, by_numbers, by_windows, one_layers}

count_of_places : (ss : List Stream) → length (places ss) ≡ length ss
count_of_places [] = refl
count_of_places (s ∷ ss) = ap suc (count_of_places ss)

module _ (bytes : List ℕ) (early : IsDecided bytes) where
  sides : (r : Refusal) → IsRefusalOf bytes r → IsEarlyRefusal bytes r ⊎ IsLateRefusal bytes r
  sides r (inl token) = inl (inl token)
  sides r (inr (inl syntax)) = inl (inr (inl syntax))
  sides r (inr (inr (inl name))) = inl (inr (inr name))
  sides r (inr (inr (inr late))) = inr late

  one_late : (r q : Refusal) → IsLateRefusal bytes r → IsLateRefusal bytes q → r ≡ q
  one_late r q (inl a) (inl b) = (kinds_decided bytes).one_refusal r q a b
  one_late r q (inl a) (inr b) = absurd ((kinds_decided bytes).no_later q r b a)
  one_late r q (inr a) (inl b) = absurd ((kinds_decided bytes).no_later r q a b)
  one_late r q (inr (inl a)) (inr (inl b)) = (has_one_pacing bytes).one_refusal r q a b
  one_late r q (inr (inl a)) (inr (inr b)) = absurd ((has_one_pacing bytes).no_later q r b a)
  one_late r q (inr (inr a)) (inr (inl b)) = absurd ((has_one_pacing bytes).no_later r q a b)
  one_late r q (inr (inr a)) (inr (inr b)) = (has_one_graph bytes).one_refusal r q a b

  one_of : (r q : Refusal) → IsEarlyRefusal bytes r ⊎ IsLateRefusal bytes r → IsEarlyRefusal bytes q ⊎ IsLateRefusal bytes q → r ≡ q
  one_of r q (inl a) (inl b) = early.one_refusal r q a b
  one_of r q (inl a) (inr b) = absurd (early.no_later q r b a)
  one_of r q (inr a) (inl b) = absurd (early.no_later r q a b)
  one_of r q (inr a) (inr b) = one_late r q a b

  not_planned : (plan : Plan) (r : Refusal) → IsPlanOf bytes plan → IsEarlyRefusal bytes r ⊎ IsLateRefusal bytes r → ⊥
  not_planned plan r p (inl a) = early.no_plan plan r p a
  not_planned plan r p (inr (inl a)) = (kinds_decided bytes).no_plan plan r p a
  not_planned plan r p (inr (inr (inl a))) = (has_one_pacing bytes).no_plan plan r p a
  not_planned plan r p (inr (inr (inr a))) = (has_one_graph bytes).no_plan plan r p a

  same_layers : (plan other : Plan) → IsPlanOf bytes plan → IsPlanOf bytes other → plan.layers ≡ other.layers
  same_layers plan other p q =
      let edges = (has_one_graph bytes).one_graph plan.spec other.spec p.full q.full in
      let count : length plan.layers ≡ node_count (edges_of other.spec) = subst (λ (es : List Edge). length plan.layers ≡ node_count es) edges p.accepted.layer_count in
      let layers = subst (λ (es : List Edge). (n : ℕ) → IsLayer es n (layer_of plan.layers n)) edges p.accepted.layers.layers in
      one_layers (edges_of other.spec) plan.layers other.layers (count ∙ sym q.accepted.layer_count) layers q.accepted.layers.layers

  same_kept : (plan other : Plan) → IsPlanOf bytes plan → IsPlanOf bytes other → plan.kept ≡ other.kept
  same_kept plan other p q =
      let alike = alike_specs bytes plan.spec other.spec p.full q.full in
      let streams : length plan.spec.streams ≡ length other.spec.streams =
      sym (count_of_places plan.spec.streams) ∙ (ap length (same_places bytes plan.spec other.spec p.full q.full) ∙ count_of_places other.spec.streams)
      in
      by_numbers (λ n. 1 + greatest_offset (offsets_onto n other.spec)) plan.kept other.kept
      (p.accepted.bounds.kept_count ∙ (streams ∙ sym q.accepted.bounds.kept_count))
      (λ n k e.
      p.accepted.bounds.kept n k e
      ∙ ap (λ (ks : List ℕ). 1 + greatest_offset ks) (same_offsets n p.full.spec q.full.spec plan.spec other.spec p.full.filled q.full.filled alike))
      q.accepted.bounds.kept

  windows_once : (plan other : Plan) → IsPlanOf bytes plan → IsPlanOf bytes other → plan.spec.windows ≡ other.spec.windows
  windows_once plan other p q = ap (λ (s : Spec). s.windows) (full_plain bytes plan.spec other.spec p.full q.full)

  pacings_once : (plan other : Plan) → IsPlanOf bytes plan → IsPlanOf bytes other → plan.pacings ≡ other.pacings
  pacings_once plan other p q = (has_one_pacing bytes).one_list plan.spec other.spec plan.pacings other.pacings p.full q.full p.accepted.paced q.accepted.paced

  same_panes : (plan other : Plan) → IsPlanOf bytes plan → IsPlanOf bytes other → plan.panes ≡ other.panes
  same_panes plan other p q =
      let windows = windows_once plan other p q in
      let count : length plan.panes ≡ length other.spec.windows = p.accepted.bounds.pane_count ∙ ap length windows in
      let by_spec =
      subst (λ (ws : List WindowSpec). (i : ℕ) (w : WindowSpec) → slice_get ws i ≡ Some w → ArePanesOf (pacing_at plan.pacings w.stream w.part) w.over (slice_get plan.panes i)) windows
      p.accepted.bounds.panes
      in
      let panes =
      subst
      (λ (ps : List ClausePacings). (i : ℕ) (w : WindowSpec) → slice_get other.spec.windows i ≡ Some w → ArePanesOf (pacing_at ps w.stream w.part) w.over (slice_get plan.panes i))
      (pacings_once plan other p q) by_spec
      in
      by_windows other.pacings other.spec.windows plan.panes other.panes q.accepted.typed.ranged.window_spans count q.accepted.bounds.pane_count panes q.accepted.bounds.panes

  pub has_one_answer : HasOneAnswer bytes
  has_one_answer = record {
    is_either = λ plan r p a. not_planned plan r p (sides r a);
    one_refusal = λ r q a b. one_of r q (sides r a) (sides q b);
    one_plan = λ plan other p q.
        all_parts (plain_plan plan) (plain_plan other) (full_plain bytes plan.spec other.spec p.full q.full) (pacings_once plan other p q) (same_layers plan other p q)
        (same_kept plan other p q) (same_panes plan other p q);
  }
