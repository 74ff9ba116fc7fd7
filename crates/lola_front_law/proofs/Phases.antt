-- The answers of the phases join to a plan or a refusal of each text.
use Rattle.std.proofs.Common.{◌≡◌, refl, inl, inr, ℕ, zero, suc, ◌<◌, List, [], ◌∷◌, Some, length, slice_get, arith}
use Rattle.lola_value.specs.declared.front.Code.TheVariants as code
use Rattle.lola_value.specs.declared.front.Refusal.{Refusal}
use Rattle.lola_parser_grammar.specs.declared.declarations.Declaration.{Declaration}
use Rattle.lola_parser_grammar.specs.Cursor.{lexemes}
use Rattle.lola_parser_grammar.specs.Whole.{most_levels}
use Rattle.lola_names.specs.Specification.{Resolves}
use Rattle.lola_names.specs.Targets.{targets_of}
use Rattle.lola_names.specs.Resolvable.{ResolvesEach}
use Rattle.lola_names.specs.Meant.{ClosesAreSpawned, ResolvedIsNamed, ResolvedNotesConstants, SpelledClosesAreSpawned}
use Rattle.lola_types.specs.Refused.{kind_refusals}
use Rattle.lola_front.specs.Filled.{FilledIsNamed, FilledIsTyped}
use Rattle.lola_pacing.specs.Accepted.{PacesWindows}
use Rattle.lola_graph.specs.Cycle.{IsLeastOnCycle}
use Rattle.lola_graph.proofs.ReadLemmas.{graph_small}
use Rattle.lola_bounds.specs.Bounds.{AreBounds}
use Rattle.lola_model.specs.Graph.{edges_of}
use Rattle.lola_model.specs.Named.{IsNamed}
use Rattle.lola_model.specs.Pacings.{IsRefused}
use Rattle.lola_model.specs.Typed.{IsTyped}
use Rattle.lola_model.specs.declared.plan.Plan.{Plan}
use Rattle.lola_model.specs.declared.spec.Spec.{Spec}
use Rattle.lola_model.specs.declared.spec.Stream.{Stream}
use Rattle.lola_front.specs.Front.{IsFull, IsResolved}
use Rattle.lola_front.proofs.EndLemmas.{is_stream}
use Rattle.lola_front.proofs.OffsetLemmas.{graph_offsets}
use Rattle.lola_front.proofs.PaneLemmas.{are_paned}
use Rattle.lola_front_law.specs.Decided.{AreDecided, AreNamed, IsEarlyRefusal}
use Rattle.lola_front_law.specs.OneKind.{KindsAreOne}
use Rattle.lola_front_law.specs.Planned.{FindsBounds, FindsLayers, FindsPacings, HasLayers, HasPacings}
use Rattle.lola_front_law.specs.Rated.{AreRated}
use Rattle.lola_front_law.proofs.FullFilled.{filled_of}
use Rattle.lola_front_law.proofs.RatedStreams.{filled_rated, streams_rated}
use Rattle.lola_front_law.specs.Answered.{HasAnAnswer}

-- what stands of each phase
pub record Phases : Type 0 where
  pub decided : AreDecided
  pub resolved : ResolvesEach
  pub spawned : SpelledClosesAreSpawned
  pub named : ResolvedIsNamed
  pub noted : ResolvedNotesConstants
  pub kinds : KindsAreOne
  pub full_named : FilledIsNamed
  pub full_typed : FilledIsTyped
  pub paced : FindsPacings
  pub windows : PacesWindows
  pub layered : FindsLayers
  pub bounded : FindsBounds

-- a stream of a number that is low enough
stream_at : (ss : List Stream) (n : ℕ) → n < length ss → (stream : Stream) × (slice_get ss n ≡ Some stream)
stream_at [] n low = absurd (omega (arith, low))
stream_at (s ∷ ss) zero low = (s, refl)
stream_at (s ∷ ss) (suc n) low = stream_at ss n (omega (arith, low))

module _ (phases : Phases) (bytes : List ℕ) where
  early : (r : Refusal) → IsEarlyRefusal bytes r → HasAnAnswer bytes
  early r (inl token) = inr (r, inl token)
  early r (inr (inl syntax)) = inr (r, inr (inl syntax))
  early r (inr (inr name)) = inr (r, inr (inr (inl name)))

  -- ---- with kinds filled in

  module _ (full : Spec) (is_full : IsFull bytes full) (named : IsNamed full) (typed : IsTyped full) where
    planned : HasPacings full → HasLayers (edges_of full) → HasAnAnswer bytes
    planned p l =
        let b = phases.bounded full p.pacings (are_paned phases.windows full p.pacings named typed p.are) in
        let bounds : AreBounds full p.pacings b.0 b.1 = b.2 in
        let plan : Plan = record { spec = full; pacings = p.pacings; layers = l.layers; kept = b.0; panes = b.1 } in
        inl (
          plan,
          record {
            full = is_full;
            accepted = record {
              named = named;
              typed = typed;
              paced = p.are;
              acyclic = record { none = l.acyclic };
              layers = record { layers = l.each };
              layer_count = l.count;
              bounds = record { kept_count = bounds.kept_count; kept = bounds.kept_each; pane_count = bounds.pane_count; panes = bounds.pane_each; few = bounds.pane_few };
              rates = p.rates;
            };
          },
        )

    closed : HasPacings full → (stream : ℕ) → IsLeastOnCycle (edges_of full) (Some stream) → HasAnAnswer bytes
    closed p stream least =
        let s = stream_at full.streams stream (is_stream full stream least) in
        let r : Refusal = record { code = code.ZeroCycle; at = s.0.place } in
        inr (
          r,
          inr (inr (inr (inr (inr (record {
            full = full;
            is_full = is_full;
            cycle = record { pacings = p.pacings; paced = p.are; cycle = record { stream = stream; least = least; is_cycle = refl; place = (s.0, s.1, refl) } };
          }))))),
        )

    paced : HasPacings full → HasAnAnswer bytes
    paced p =
        elim (phases.layered (edges_of full) (graph_small full named.numbers named.few_streams (graph_offsets full named))) [
          | inl l ↦ planned p l
          | inr c ↦ closed p c.0 c.1
        ]

    unpaced : (r : Refusal) → IsRefused full r → HasAnAnswer bytes
    unpaced r refused = inr (r, inr (inr (inr (inr (inl (record { full = full; is_full = is_full; refused = refused }))))))

    filled : AreRated full.streams → HasAnAnswer bytes
    filled rated = elim (phases.paced full named rated) [ inl p ↦ paced p | inr r ↦ unpaced r.0 r.1 ]

  -- ---- with names resolved

  module _ (ds : List Declaration) (are : AreNamed bytes ds) (spec : Spec) (resolves : Resolves ds spec) where
    resolved : IsResolved bytes spec
    resolved = record { declarations = ds; read = are.read; names = are.names; resolves = resolves }

    spawned : ClosesAreSpawned ds
    spawned = phases.spawned most_levels (lexemes bytes are.read.tokens) ds are.read.read

    is_named : IsNamed spec
    is_named = phases.named ds spec spawned are.names resolves

    clean : kind_refusals spec ≡ [] → HasAnAnswer bytes
    clean kinds =
        let f = filled_of spec in
        let is_full : IsFull bytes f.0 = record { spec = spec; resolved = resolved; kinds = kinds; filled = f.1 } in
        filled f.0 is_full (phases.full_named spec f.0 is_named f.1)
        (phases.full_typed spec f.0 is_named (phases.noted ds spec spawned are.names resolves) kinds f.1)
        (filled_rated _ _ spec.streams f.0.streams f.1.streams (streams_rated ds (targets_of ds) spec.texts spec.windows 0 0 ds spec.streams resolves.streams))

    declared : HasAnAnswer bytes
    declared = elim ((phases.kinds bytes).is_some spec resolved) [ inl kinds ↦ clean kinds | inr r ↦ inr (r.0, inr (inr (inr (inl r.1)))) ]

  pub answered : HasAnAnswer bytes
  answered = elim ((phases.decided bytes).is_some) [
    | inl named ↦
        let spec = phases.resolved named.0 in
        declared named.0 named.1 spec.0 spec.1
    | inr r ↦ early r.0 r.1
  ]
