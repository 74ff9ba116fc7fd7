-- Walks of weight 0 in a graph without a closed one.
use Rattle.std.proofs.Common.{◌≡◌, refl, ap, ℕ, zero, suc, ◌<◌, ◌≤◌, List, [], ◌∷◌, true, arith, length, inl, inr}
use Rattle.std.specs.Prelude.{slice_index}
use Rattle.std.specs.List.{Contains}
use Rattle.std.proofs.lemmas.Bool.{cases_eq}
use Rattle.std.proofs.lemmas.Option.{unwrap_or-slice_get}
use Rattle.std.proofs.lemmas.List.Elements.{Contains-append_right}
use Rattle.lola_model.specs.Graph.{IsWalk, IsOnZeroWalk, AllWeightless, IsLayer, layer_of}
use Rattle.lola_model.specs.declared.graph.Edge.{Edge}
use Rattle.lola_model.proofs.Layers.{layer_low}
use Rattle.lola_model.proofs.Walks.{depth_of, layer_exists}
use Rattle.lola_model.specs.Nodes.{node_count}
use Rattle.lola_graph.specs.Small.{is_small_graph}
use Rattle.lola_graph.proofs.NodeLemmas.{node_low}
use Rattle.lola_layers.proofs.GraphLemmas.{count_low}
use Rattle.lola_layers.specs.Raised.{IsReached, AreReached, AreFalling}

-- all numbers below a bound
abbrev upto : ℕ → List ℕ
upto zero = []
upto (suc k) = k ∷ upto k

length-upto : (k : ℕ) → length (upto k) ≡ k
length-upto zero = refl
length-upto (suc k) = ap suc (length-upto k)

in_upto : (k n : ℕ) → n < k → Contains (upto k) n
in_upto zero n lt = absurd (omega arith)
in_upto (suc k) n lt = elim (cases_eq k n) [ inl e ↦ (0, omega arith, e) | inr ne ↦ Contains-append_right (k ∷ []) (upto k) n (in_upto k n (omega (arith, ne))) ]

module _ (edges : List Edge) (none : (n : ℕ) → ¬ (IsOnZeroWalk edges n)) where
  abbrev nodes : List ℕ
  nodes = upto (node_count edges)

  targets : (e : Edge) → Contains edges e → Contains nodes e.to
  targets e c = in_upto (node_count edges) e.to (node_low edges e c).1

  abbrev depth : ℕ → ℕ
  depth n = depth_of edges (length nodes) n

  is_depth : (n : ℕ) → IsLayer edges n (depth n)
  is_depth n = layer_exists edges nodes targets none n

  walk_low : (n : ℕ) (walk : List Edge) (to : ℕ) → IsWalk edges n walk to → AllWeightless walk → length walk ≤ node_count edges
  walk_low n [] to w f = omega arith
  walk_low n (e ∷ es) to w f =
      let rest : length es ≤ depth e.to = (is_depth e.to).greatest es to w.2 f.1 in
      let low : depth e.to < length nodes = layer_low edges depth is_depth nodes targets e.to (targets e w.0) in
      omega (arith, rest, low, length-upto (node_count edges))

  -- no layer that is reached is above the number of nodes
  pub reached_low : is_small_graph edges ≡ true → (n layer : ℕ) → IsReached edges n layer → layer ≤ 2048
  reached_low small n layer r = omega (arith, walk_low n r.0 r.1 r.2 r.3, r.4, count_low edges small)

module _ (edges : List Edge) (layers : List ℕ) (falling : AreFalling edges layers) where
  no_longer : (n : ℕ) (walk : List Edge) (to : ℕ) → IsWalk edges n walk to → AllWeightless walk → length walk ≤ slice_index layers n
  no_longer n [] to w f = omega arith
  no_longer n (e ∷ es) to w f =
      let from : slice_index layers e.from ≡ slice_index layers n = ap (λ k. slice_index layers k) w.1 in
      omega (arith, from, no_longer e.to es to w.2 f.1, falling e w.0 f.0)

  is_longest : AreReached edges layers → (n : ℕ) → IsLayer edges n (slice_index layers n)
  is_longest reached n = record { reached = reached n; greatest = λ walk to w f. no_longer n walk to w f }

  -- where layers are reached and fall, they are those of the graph
  pub are_layers : AreReached edges layers → (n : ℕ) → IsLayer edges n (layer_of layers n)
  are_layers reached n = rw (unwrap_or-slice_get layers n 0) (is_longest reached n)
