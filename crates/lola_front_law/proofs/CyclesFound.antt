-- Each graph has a least stream on a closed walk of weight 0, or no such walk.
use Rattle.std.proofs.Common.{◌≡◌, refl, sym, subst, ◌⊎◌, inl, inr, ℕ, zero, suc, ◌/◌, ◌<◌, ℤ, pos, negsuc, List, [], ◌∷◌, Option, Some, None, true, length, arith}
use Rattle.std.specs.List.{Contains}
use Rattle.std.proofs.lemmas.Bool.{cases_eq}
use Rattle.lola_graph.specs.Cycle.{IsLeastOnCycle, IsOnCycle}
use Rattle.lola_graph.specs.Paths.{IsRead}
use Rattle.lola_graph.specs.Small.{is_small_graph}
use Rattle.lola_graph.proofs.CycleLemmas.{each_weightless, small_most}
use Rattle.lola_model.proofs.Strictly.{Contains-cases, Contains-here, Contains-none, Contains-there}
use Rattle.lola_model.proofs.Walks.{weightless_sum}
use Rattle.lola_model.specs.Graph.{AllWeightless, IsOnZeroWalk, IsWalk, eval_node, spawn_node}
use Rattle.lola_model.specs.Nodes.{node_count}
use Rattle.lola_model.specs.declared.graph.Edge.{Edge}
use Rattle.lola_front_law.proofs.Telling.{Least, Told, both_told, least_below}
use Rattle.lola_front_law.proofs.Reaching.{IsPathBy, IsReached, path_below, reached_told}

-- ---- single edges

weight_told : (w : ℤ) → Told (w ≡ pos 0)
weight_told (pos zero) = inl refl
weight_told (pos (suc k)) = inr (λ e. cc e)
weight_told (negsuc k) = inr (λ e. cc e)

equal_told : (n m : ℕ) → Told (n ≡ m)
equal_told n m = elim (cases_eq n m) [ inl e ↦ inl e | inr ne ↦ inr ne ]

-- the nodes of an edge are counted
pub node_low : (edges : List Edge) (e : Edge) → Contains edges e → (e.from < node_count edges) × (e.to < node_count edges)
node_low [] e c = absurd (Contains-none e c)
node_low (x ∷ xs) e c = go (Contains-cases x e xs c) (node_low xs e)
  where
    go : (x ≡ e) ⊎ Contains xs e → (Contains xs e → (e.from < node_count xs) × (e.to < node_count xs)) → (e.from < node_count (x ∷ xs)) × (e.to < node_count (x ∷ xs))
    go (inl same) others =
        let P : Edge → Type 0 = λ y. (y.from < node_count (x ∷ xs)) × (y.to < node_count (x ∷ xs)) in
        subst P same (omega arith, omega arith)
    go (inr d) others = let h = others d in (omega (arith, h.0), omega (arith, h.1))

-- an edge of weight 0 leads from one node to another
read_told : (edges : List Edge) (n m : ℕ) → Told (IsRead edges n m)
read_told [] n m = inr (λ r. Contains-none r.0 r.1)
read_told (e ∷ es) n m = go (both_told (equal_told e.from n) (both_told (equal_told e.to m) (weight_told e.weight))) (read_told es n m)
  where
    behind : IsRead es n m → IsRead (e ∷ es) n m
    behind r = (r.0, Contains-there e r.0 es r.1, r.2, r.3, r.4)

    neither : ((e.from ≡ n) × ((e.to ≡ m) × (e.weight ≡ pos 0)) → ⊥) → (IsRead es n m → ⊥) → IsRead (e ∷ es) n m → ⊥
    neither never none r = elim (Contains-cases e r.0 es r.1) [
      | inl same ↦
          let P : Edge → Type 0 = λ y. (y.from ≡ n) × ((y.to ≡ m) × (y.weight ≡ pos 0)) in
          never (subst P (sym same) (r.2, (r.3, r.4)))
      | inr d ↦ none (r.0, d, r.2, r.3, r.4)
    ]

    go : Told ((e.from ≡ n) × ((e.to ≡ m) × (e.weight ≡ pos 0))) → Told (IsRead es n m) → Told (IsRead (e ∷ es) n m)
    go (inl h) t = inl (e, Contains-here e es, h.0, h.1.0, h.1.1)
    go (inr never) (inl r) = inl (behind r)
    go (inr never) (inr none) = inr (neither never none)

-- ---- closed walks

module _ (edges : List Edge) where
  walk_path : (es : List Edge) (e : Edge) (n m : ℕ) → IsWalk edges n (e ∷ es) m → AllWeightless (e ∷ es) → (over : List ℕ) × IsPathBy (IsRead edges) n over m
  walk_path [] e n m w f = ([], (e, w.0, w.1, w.2, f.0))
  walk_path (x ∷ xs) e n m w f =
      let r = walk_path xs x e.to m w.2 f.1 in
      (e.to ∷ r.0, ((e, w.0, w.1, refl, f.0), r.1))

  path_walk : (over : List ℕ) (n m : ℕ) → IsPathBy (IsRead edges) n over m → (walk : List Edge) × IsWalk edges n walk m × AllWeightless walk × (0 < length walk)
  path_walk [] n m r = (r.0 ∷ [], (r.1, r.2, r.3), (r.4, tt), omega arith)
  path_walk (x ∷ xs) n m p =
      let r = p.0 in
      let q = path_walk xs x m p.1 in
      let P : ℕ → Type 0 = λ k. IsWalk edges k q.0 m in
      (r.0 ∷ q.0, (r.1, r.2, subst P (sym r.3) q.1), (r.4, q.2), omega arith)

  path_closes : (n : ℕ) → IsReached (IsRead edges) (node_count edges) n n → IsOnZeroWalk edges n
  path_closes n r = let q = path_walk r.over n n r.path in (q.0, q.1, q.3, weightless_sum edges q.0 q.2)

  read_low : (n m : ℕ) → IsRead edges n m → m < node_count edges
  read_low n m r = let low : r.0.to < node_count edges = (node_low edges r.0 r.1).1 in subst (λ (k : ℕ). k < node_count edges) r.3 low

  pub first_low : (walk : List Edge) (n m : ℕ) → IsWalk edges n walk m → 0 < length walk → n < node_count edges
  first_low [] n m w some = absurd (omega (arith, some))
  first_low (e ∷ es) n m w some = subst (λ (k : ℕ). k < node_count edges) w.1 (node_low edges e w.0).0

  module _ (small : is_small_graph edges ≡ true) where
    closes : (walk : List Edge) (n : ℕ) → IsWalk edges n walk n → AllWeightless walk → 0 < length walk → IsReached (IsRead edges) (node_count edges) n n
    closes [] n w f some = absurd (omega (arith, some))
    closes (e ∷ es) n w f some =
        let p = walk_path es e n n w f in
        record { over = p.0; path = p.1; below = path_below (IsRead edges) (node_count edges) read_low p.0 n n p.1 }

    walk_returns : (n : ℕ) → IsOnZeroWalk edges n → IsReached (IsRead edges) (node_count edges) n n
    walk_returns n z = closes z.0 n z.1 (each_weightless edges (small_most edges small) z.0 n n z.1 z.3) z.2

    zero_walk_told : (n : ℕ) → Told (IsOnZeroWalk edges n)
    zero_walk_told n = elim (reached_told (IsRead edges) (read_told edges) (node_count edges) n n) [ inl r ↦ inl (path_closes n r) | inr never ↦ inr (λ z. never (walk_returns n z)) ]

    on_cycle_told : (s : ℕ) → Told (IsOnCycle edges s)
    on_cycle_told s = go (zero_walk_told (eval_node s)) (zero_walk_told (spawn_node s))
      where
        go : Told (IsOnZeroWalk edges (eval_node s)) → Told (IsOnZeroWalk edges (spawn_node s)) → Told (IsOnCycle edges s)
        go (inl z) t = inl (inl z)
        go (inr never) (inl z) = inl (inr z)
        go (inr never) (inr none) = inr (λ c. elim c [ inl z ↦ never z | inr z ↦ none z ])

    halves : (n : ℕ) → (n ≡ eval_node (n / 2)) ⊎ (n ≡ spawn_node (n / 2))
    halves n = elim (cases_eq n (eval_node (n / 2))) [ inl e ↦ inl e | inr ne ↦ inr (omega (arith, ne)) ]

    of_node : (n : ℕ) → (n ≡ eval_node (n / 2)) ⊎ (n ≡ spawn_node (n / 2)) → IsOnZeroWalk edges n → IsOnCycle edges (n / 2)
    of_node n (inl e) z = inl (subst (λ (k : ℕ). IsOnZeroWalk edges k) e z)
    of_node n (inr e) z = inr (subst (λ (k : ℕ). IsOnZeroWalk edges k) e z)

    none_closes : ((s : ℕ) → s < node_count edges → IsOnCycle edges s → ⊥) → (n : ℕ) → IsOnZeroWalk edges n → ⊥
    none_closes none n z =
        let low : n < node_count edges = first_low z.0 n n z.1 z.2 in
        none (n / 2) (omega (arith, low)) (of_node n (halves n) z)

    -- the least stream on a closed walk, or that there is none
    pub cycle_of : (stream : Option ℕ) × IsLeastOnCycle edges stream
    cycle_of = go (least_below (IsOnCycle edges) on_cycle_told (node_count edges))
      where
        go : Least (IsOnCycle edges) (node_count edges) → (stream : Option ℕ) × IsLeastOnCycle edges stream
        go (inl some) = (Some some.0, (some.2, some.3))
        go (inr none) = (None, none_closes none)
