-- The row of a step before its closes is what a round of questions leaves alone, and what it holds of each stream.
use Rattle.std.proofs.Common.{◌≡◌, refl, ap, ◌∙◌, sym, ℕ, zero, suc, ◌+◌, ◌<◌, ◌⊎◌, inl, inr, List, [], ◌∷◌, Option, Some, None, Bool, true, false, slice_get, arith, if◌then◌else◌, length}
use Rattle.std.specs.List.{Contains}
use Rattle.std.proofs.lemmas.List.Elements.{Contains-append_left, Contains-append_right}
use Rattle.lola_model.specs.Accepted.{IsAcyclic}
use Rattle.lola_model.specs.Content.{content}
use Rattle.lola_model.specs.Graph.{eval_node, spawn_node, spawn_nodes, nodes_from, nodes_of, edges_of}
use Rattle.lola_model.specs.Model.{is_input, outcomes_from, spawned_in, stream_outcome}
use Rattle.lola_model.specs.Table.{Step, StreamRow, TableRow}
use Rattle.lola_model.specs.declared.graph.Edge.{Edge}
use Rattle.lola_model.specs.declared.plan.Plan.{Plan}
use Rattle.lola_model.specs.declared.spec.Clause.{Clause}
use Rattle.lola_model.specs.declared.spec.Stream.{Stream}
use Rattle.lola_model.proofs.Layers.{layers_fall, layer_low}
use Rattle.lola_model.proofs.Outcomes.{Falls}
use Rattle.lola_model.proofs.Rounds.{AllBelow, row_of, round_of, rounds_of, asked_is, settled}
use Rattle.lola_model.proofs.Targets.{lead_to_nodes, among, from_among, to_among, among_acyclic}
use Rattle.lola_model.proofs.Walks.{depth_of, layer_exists}
use Rattle.lola_step_contents.specs.Nexts.{inputs_before}
use Rattle.lola_step_contents.specs.Stages.{full_row}

spawn_below : (rank : ℕ → ℕ) (d n : ℕ) (k : Option Clause) → ((m : ℕ) → Contains (spawn_nodes n k) m → rank m < d) → (k ≡ None) ⊎ (rank (spawn_node n) < d)
spawn_below rank d n None h = inl refl
spawn_below rank d n (Some k) h = inr (h (spawn_node n) (0, omega arith, refl))

-- where all nodes are so low, the nodes of all streams are
all_below : (rank : ℕ → ℕ) (d n : ℕ) (ss : List Stream) → ((m : ℕ) → Contains (nodes_from n ss) m → rank m < d) → AllBelow rank d n ss
all_below rank d n [] h = tt
all_below rank d n (s ∷ ss) h = (
  h (eval_node n) (0, omega arith, refl),
  spawn_below rank d n s.spawn (λ m c. h m (Contains-append_right (eval_node n ∷ []) _ m (Contains-append_left (spawn_nodes n s.spawn) _ m c))),
  all_below rank d (n + 1) ss (λ m c. h m (Contains-append_right (eval_node n ∷ []) _ m (Contains-append_right (spawn_nodes n s.spawn) _ m c))),
)

module _ (plan : Plan) (acyclic : IsAcyclic plan.spec) where
  abbrev count : ℕ
  count = length plan.spec.streams

  abbrev edges : List Edge
  edges = among count (edges_of plan.spec)

  abbrev depth : ℕ
  depth = length (nodes_of plan.spec)

  targets : (e : Edge) → Contains edges e → Contains (nodes_of plan.spec) e.to
  targets e c = let k = from_among count (edges_of plan.spec) e c in lead_to_nodes plan.spec e k.0 k.1

  abbrev rank : ℕ → ℕ
  rank = depth_of edges depth

  edges_fall : Falls rank count (edges_of plan.spec)
  edges_fall e c w lt =
      layers_fall edges rank (layer_exists edges (nodes_of plan.spec) targets (among_acyclic count (edges_of plan.spec) acyclic.none)) e (to_among count (edges_of plan.spec) e c lt) w

  nodes_low : AllBelow rank depth 0 plan.spec.streams
  nodes_low =
      all_below rank depth 0 plan.spec.streams
      (layer_low edges rank (layer_exists edges (nodes_of plan.spec) targets (among_acyclic count (edges_of plan.spec) acyclic.none)) (nodes_of plan.spec) targets)

  rounds_end : (start : ℕ) (rows : List TableRow) (step : Step) → round_of plan start rows step (rounds_of plan start rows step depth) ≡ rounds_of plan start rows step depth
  rounds_end start rows step = settled rank plan start rows step depth edges_fall nodes_low

-- an input before or none, and those after it
pub count_more : (b : Bool) (i j : ℕ) → (if b then i + 1 else i) + j ≡ i + ((if b then 1 else 0) + j)
count_more true i j = omega arith
count_more false i j = omega arith

module _ (plan : Plan) (start : ℕ) (rows : List TableRow) (step : Step) where
  -- what all streams do
  abbrev pub full : List StreamRow
  full = (full_row plan start rows step).streams

  -- it is the row of the step
  pub full_is : full_row plan start rows step ≡ row_of step full
  full_is =
      let e = asked_is plan start rows step (length (nodes_of plan.spec)) in
      e ∙ sym (ap (λ (r : TableRow). row_of step r.streams) e)

  -- a round leaves it alone
  pub fixed : IsAcyclic plan.spec → full ≡ round_of plan start rows step full
  fixed acyclic =
      let e : full ≡ rounds_of plan start rows step (length (nodes_of plan.spec)) = ap (λ (r : TableRow). r.streams) (asked_is plan start rows step (length (nodes_of plan.spec))) in
      e ∙ (sym (rounds_end plan acyclic start rows step) ∙ ap (round_of plan start rows step) (sym e))

  -- what the stream of a number does, where all streams do what this row says
  pub outcome_at : (row : TableRow) (n i m k j : ℕ) (ss : List Stream) (s : Stream) → k ≡ n + m → j ≡ i + inputs_before ss m → slice_get ss m ≡ Some s
      → slice_get (outcomes_from plan start rows step row n i ss) m ≡ Some (stream_outcome plan start rows step (content start rows row) k j s (spawned_in (slice_get row.streams k)))
  outcome_at row n i m k j [] s e f g = absurd (cc)
  outcome_at row n i zero k j (r ∷ ss) s e f g =
      let a : k ≡ n = omega arith in
      let b : j ≡ i = omega arith in
      let c : r ≡ s = cc in
      rw (a, b, ← c) refl
  outcome_at row n i (suc m) k j (r ∷ ss) s e f g =
      outcome_at row (n + 1) (if is_input r then i + 1 else i) m k j ss s (omega arith) (f ∙ sym (count_more (is_input r) i (inputs_before ss m))) g

  -- of each stream
  abbrev pub full_at : ℕ → Stream → StreamRow
  full_at n s = stream_outcome plan start rows step (content start rows (row_of step full)) n (inputs_before plan.spec.streams n) s (spawned_in (slice_get full n))

  pub at_full : IsAcyclic plan.spec → (n : ℕ) (s : Stream) → slice_get plan.spec.streams n ≡ Some s → slice_get full n ≡ Some (full_at n s)
  at_full acyclic n s e =
      ap (λ ys. slice_get ys n) (fixed acyclic)
      ∙ outcome_at (row_of step full) 0 0 n n (inputs_before plan.spec.streams n) plan.spec.streams s (omega arith) (omega arith) e
