-- Each graph without a closed walk of weight 0 has layers.
use Rattle.std.proofs.Common.{◌≡◌, refl, sym, ap, subst, ◌∙◌, inl, inr, ℕ, zero, suc, ◌+◌, ◌<◌, ◌≤◌, List, [], ◌∷◌, length, map, arith}
use Rattle.std.proofs.lemmas.Bool.{cases_lt}
use Rattle.lola_model.proofs.Strictly.{Contains-map}
use Rattle.lola_model.proofs.Walks.{depth_of, layer_exists}
use Rattle.lola_model.specs.Graph.{IsLayer, IsOnZeroWalk, layer_of}
use Rattle.lola_model.specs.Nodes.{node_count}
use Rattle.lola_model.specs.declared.graph.Edge.{Edge}
use Rattle.lola_front_law.proofs.CyclesFound.{first_low}

-- the values of a function at so many numbers in a row
listed_from : (ℕ → ℕ) → ℕ → ℕ → List ℕ
listed_from f n zero = []
listed_from f n (suc k) = f n ∷ listed_from f (suc n) k

length-listed : (f : ℕ → ℕ) (n k : ℕ) → length (listed_from f n k) ≡ k
unfolding listed_from
length-listed f n zero = refl
length-listed f n (suc k) = ap suc (length-listed f (suc n) k)

listed_at : (f : ℕ → ℕ) (n k i j : ℕ) → j ≡ n + i → i < k → layer_of (listed_from f n k) i ≡ f j
unfolding listed_from
listed_at f n zero i j e low = absurd (omega (arith, low))
listed_at f n (suc k) zero j e low = ap f (omega (arith, e))
listed_at f n (suc k) (suc i) j e low = listed_at f (suc n) k i j (omega (arith, e)) (omega (arith, low))

listed_past : (f : ℕ → ℕ) (n k i : ℕ) → k ≤ i → layer_of (listed_from f n k) i ≡ 0
unfolding listed_from
listed_past f n zero i past = refl
listed_past f n (suc k) zero past = absurd (omega (arith, past))
listed_past f n (suc k) (suc i) past = listed_past f (suc n) k i (omega (arith, past))

module _ (edges : List Edge) (none : (n : ℕ) → ¬ (IsOnZeroWalk edges n)) where
  abbrev nodes : List ℕ
  nodes = map (λ (e : Edge). e.to) edges

  abbrev depth : ℕ → ℕ
  depth n = depth_of edges (length nodes) n

  is_depth : (n : ℕ) → IsLayer edges n (depth n)
  is_depth n = layer_exists edges nodes (λ e c. Contains-map (λ (x : Edge). x.to) edges e c) none n

  -- past all edges a node is in layer 0
  depth_past : (n : ℕ) → node_count edges ≤ n → depth n ≡ 0
  depth_past n past =
      let r = (is_depth n).reached in
      elim (cases_lt 0 (length r.0)) [
        | inl some ↦ absurd (let low = first_low edges r.0 n r.1 r.2 some in omega (arith, low, past))
        | inr few ↦ let e : length r.0 ≡ depth n = r.4 in omega (arith, few, e)
      ]

  abbrev layers : List ℕ
  layers = listed_from depth 0 (node_count edges)

  layer_is : (n : ℕ) → layer_of layers n ≡ depth n
  layer_is n = elim (cases_lt n (node_count edges)) [
    | inl low ↦ listed_at depth 0 (node_count edges) n n (omega arith) low
    | inr past ↦ listed_past depth 0 (node_count edges) n past ∙ sym (depth_past n past)
  ]

  pub layers_of : (layers : List ℕ) × ((n : ℕ) → IsLayer edges n (layer_of layers n)) × (length layers ≡ node_count edges)
  layers_of = (layers, λ n. subst (λ (l : ℕ). IsLayer edges n l) (sym (layer_is n)) (is_depth n), length-listed depth 0 (node_count edges))
