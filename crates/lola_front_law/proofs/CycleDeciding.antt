-- Each text has one graph, and so one refusal for a closed walk, or none.
use Rattle.std.proofs.Common.{◌≡◌, sym, ap, subst, ◌∙◌, ℕ, List, Option, Some, slice_get, inl, inr}
use Rattle.lola_value.specs.declared.front.Refusal.{Refusal}
use Rattle.lola_parser_grammar.specs.declared.declarations.Declaration.{Declaration}
use Rattle.lola_graph.specs.Cycle.{IsLeastOnCycle}
use Rattle.lola_model.specs.Graph.{IsOnZeroWalk, edges_of}
use Rattle.lola_model.specs.declared.graph.Edge.{Edge}
use Rattle.lola_model.specs.declared.plan.Plan.{Plan}
use Rattle.lola_model.specs.declared.spec.Spec.{Spec}
use Rattle.lola_names.specs.Specification.{Resolves}
use Rattle.lola_front.specs.Front.{IsFull, IsPlanOf, IsCycleRefusal}
use Rattle.lola_front_law.specs.OneCycle.{HasOneGraph}
use Rattle.lola_front_law.proofs.Deciding.{one_reading}
use Rattle.lola_front_law.proofs.AlikeStreams.{AlikeStreams}
use Rattle.lola_front_law.proofs.EdgeLemmas.{edges_alike, full_edges, place_in, places, places_alike, places_filled}
use Rattle.lola_front_law.proofs.KindLemmas.{specs_alike}
use Rattle.lola_front_law.proofs.RestLemmas.{both_parts, one_stream}

one_number : (o : Option ℕ) (m n : ℕ) → o ≡ Some m → o ≡ Some n → m ≡ n
one_number o m n a b = cc

module _ (bytes : List ℕ) where
  pub alike_specs : (full other : Spec) (a : IsFull bytes full) (b : IsFull bytes other) → AlikeStreams a.spec.windows b.spec.windows a.spec.streams b.spec.streams
  alike_specs full other a b =
      let same = one_reading bytes a.resolved.declarations b.resolved.declarations a.resolved.read b.resolved.read in
      specs_alike b.resolved.declarations a.spec b.spec (subst (λ (ds : List Declaration). Resolves ds a.spec) same a.resolved.resolves) b.resolved.resolves

  one_graph : (full other : Spec) → IsFull bytes full → IsFull bytes other → edges_of full ≡ edges_of other
  one_graph full other a b =
      let alike = alike_specs full other a b in
      sym (full_edges a.spec full a.filled) ∙ (edges_alike a.spec.windows b.spec.windows 0 a.spec.streams b.spec.streams alike ∙ full_edges b.spec other b.filled)

  pub same_places : (full other : Spec) → IsFull bytes full → IsFull bytes other → places full.streams ≡ places other.streams
  same_places full other a b =
      let alike = alike_specs full other a b in
      sym (places_filled _ _ a.spec.streams full.streams a.filled.streams)
      ∙ (places_alike a.spec.windows b.spec.windows a.spec.streams b.spec.streams alike ∙ places_filled _ _ b.spec.streams other.streams b.filled.streams)

  one_refusal : (r q : Refusal) → IsCycleRefusal bytes r → IsCycleRefusal bytes q → r ≡ q
  one_refusal r q a b =
      let x = a.cycle.cycle in
      let y = b.cycle.cycle in
      let graph = one_graph a.full b.full a.is_full b.is_full in
      let least = subst (λ (es : List Edge). IsLeastOnCycle es (Some x.stream)) graph x.least in
      let same = one_stream x.stream y.stream (λ lt. y.least.1 x.stream lt least.0) (λ lt. least.1 y.stream lt y.least.0) in
      let here = place_in a.full.streams x.stream x.place.0 x.place.1 in
      let there = place_in b.full.streams y.stream y.place.0 y.place.1 in
      let moved : slice_get (places b.full.streams) y.stream ≡ Some x.place.0.place =
      ap (λ (n : ℕ). slice_get (places b.full.streams) n) (sym same)
      ∙ (ap (λ (ps : List ℕ). slice_get ps x.stream) (sym (same_places a.full b.full a.is_full b.is_full)) ∙ here)
      in
      both_parts r q (x.is_cycle ∙ sym y.is_cycle)
      (x.place.2 ∙ one_number (slice_get (places b.full.streams) y.stream) x.place.0.place y.place.0.place moved there ∙ sym y.place.2)

  no_plan : (plan : Plan) (r : Refusal) → IsPlanOf bytes plan → IsCycleRefusal bytes r → ⊥
  no_plan plan r p a =
      let none = subst (λ (es : List Edge). (n : ℕ) → IsOnZeroWalk es n → ⊥) (one_graph plan.spec a.full p.full a.is_full) p.accepted.acyclic.none in
      elim a.cycle.cycle.least.0 [ inl walk ↦ none _ walk | inr walk ↦ none _ walk ]

  pub has_one_graph : HasOneGraph bytes
  has_one_graph = record { one_graph = one_graph; one_refusal = one_refusal; no_plan = no_plan }
