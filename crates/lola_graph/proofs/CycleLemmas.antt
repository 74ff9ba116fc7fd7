-- Closed walks of weight 0 are paths within a step that come back.
use Rattle.std.proofs.Common.{◌≡◌, refl, ℕ, zero, suc, ◌/◌, ◌<◌, ◌≤◌, List, [], ◌∷◌, Option, Some, None, true, ◌&&◌, nat_lt, ℤ, pos, negsuc, ◌≤ℤ◌, arith, length, ◌⊎◌, inl, inr}
use Rattle.std.specs.List.{Contains}
use Rattle.std.specs.Option.{option_map}
use Rattle.std.proofs.lemmas.Bool.{ltb-true, cases_eq}
use Rattle.std.proofs.lemmas.Int.{ints}
use Rattle.std.proofs.lemmas.List.Sums.{AllPass-from_list_all}
use Rattle.lola_model.specs.Graph.{IsWalk, IsOnZeroWalk, AllWeightless, weight_along, eval_node, spawn_node}
use Rattle.lola_model.specs.declared.graph.Edge.{Edge}
use Rattle.lola_model.proofs.Walks.{weightless_sum}
use Rattle.lola_graph.specs.Cycle.{IsOnCycle, IsLeastOnCycle}
use Rattle.lola_model.specs.Nodes.{node_count}
use Rattle.lola_graph.specs.Paths.{read_by, IsPath, Reaches, AreReads, IsLeastNode}
use Rattle.lola_graph.specs.Small.{is_small_weight, is_small_edge, is_small_graph}
use Rattle.lola_graph.proofs.ListLemmas.{no_element}
use Rattle.lola_graph.proofs.ReadLemmas.{and_first, and_second}

-- past the end no node is read
pub reads_low : (lists : List (List ℕ)) (n m : ℕ) → Contains (read_by lists n) m → n < length lists
reads_low [] n m c = absurd (no_element m c)
reads_low (x ∷ xs) zero m c = omega arith
reads_low (x ∷ xs) (suc n) m c = omega (arith, reads_low xs n m c)

path_low : (lists : List (List ℕ)) (over : List ℕ) (n m : ℕ) → IsPath lists n over m → n < length lists
path_low lists [] n m p = reads_low lists n m p
path_low lists (x ∷ xs) n m p = reads_low lists n x p.0

-- where no node with a list reads itself, none does
pub none_reaches : (lists : List (List ℕ)) → ((m : ℕ) → m < length lists → ¬ (Reaches lists m m)) → (n : ℕ) → ¬ (Reaches lists n n)
none_reaches lists h n r = h n (path_low lists r.0 n n r.1) r

weight_most : (w : ℤ) → is_small_weight w ≡ true → w ≤ℤ pos 0
weight_most (pos zero) h = omega (arith, ints)
weight_most (pos (suc k)) h = absurd (cc)
weight_most (negsuc k) h = omega (arith, ints)

-- edges of a small graph weigh at most 0
pub small_most : (edges : List Edge) → is_small_graph edges ≡ true → (e : Edge) → Contains edges e → e.weight ≤ℤ pos 0
small_most edges h e c =
    let pass : is_small_edge e ≡ true = rw c.2 at (AllPass-from_list_all is_small_edge edges h c.0 e c.1) in
    weight_most e.weight (and_second (nat_lt e.from 2048 && nat_lt e.to 2048) (is_small_weight e.weight) pass)

pub count_low : (edges : List Edge) → is_small_graph edges ≡ true → node_count edges ≤ 2048
count_low [] h = omega arith
count_low (e ∷ es) h =
    let first = and_first (is_small_edge e) (is_small_graph es) h in
    let ends = and_first (nat_lt e.from 2048 && nat_lt e.to 2048) (is_small_weight e.weight) first in
    let from = ltb-true e.from 2048 (and_first (nat_lt e.from 2048) (nat_lt e.to 2048) ends) in
    let to = ltb-true e.to 2048 (and_second (nat_lt e.from 2048) (nat_lt e.to 2048) ends) in
    omega (arith, from, to, count_low es (and_second (is_small_edge e) (is_small_graph es) h))

module _ (edges : List Edge) (most : (e : Edge) → Contains edges e → e.weight ≤ℤ pos 0) where
  sum_most : (walk : List Edge) (n to : ℕ) → IsWalk edges n walk to → weight_along walk ≤ℤ pos 0
  sum_most [] n to w = omega (arith, ints)
  sum_most (e ∷ es) n to w = omega (arith, ints, most e w.0, sum_most es e.to to w.2)

  -- where no weight is above 0, a walk of weight 0 has only edges of weight 0
  pub each_weightless : (walk : List Edge) (n to : ℕ) → IsWalk edges n walk to → weight_along walk ≡ pos 0 → AllWeightless walk
  each_weightless [] n to w z = tt
  each_weightless (e ∷ es) n to w z =
      let a = most e w.0 in
      let b = sum_most es e.to to w.2 in
      let first : e.weight ≡ pos 0 = omega (arith, ints, z) in
      let others : weight_along es ≡ pos 0 = omega (arith, ints, z) in
      (first, each_weightless es e.to to w.2 others)

module _ (edges : List Edge) (lists : List (List ℕ)) (h : AreReads edges lists) where
  walk_reaches : (es : List Edge) (e : Edge) (n m : ℕ) → IsWalk edges n (e ∷ es) m → AllWeightless (e ∷ es) → Reaches lists n m
  walk_reaches [] e n m w f = ([], h.complete n m (e, w.0, w.1, w.2, f.0))
  walk_reaches (x ∷ xs) e n m w f =
      let r = walk_reaches xs x e.to m w.2 f.1 in
      (e.to ∷ r.0, (h.complete n e.to (e, w.0, w.1, refl, f.0), r.1))

  path_walk : (over : List ℕ) (n m : ℕ) → IsPath lists n over m → (walk : List Edge) × IsWalk edges n walk m × AllWeightless walk × (0 < length walk)
  path_walk [] n m p = let r = h.sound n m p in (r.0 ∷ [], (r.1, r.2, r.3), (r.4, tt), omega arith)
  path_walk (x ∷ xs) n m p =
      let r = h.sound n x p.0 in
      let q = path_walk xs x m p.1 in
      (r.0 ∷ q.0, (r.1, r.2, rw r.3 q.1), (r.4, q.2), omega arith)

  -- a path that comes back is a closed walk of weight 0
  pub path_closes : (n : ℕ) → Reaches lists n n → IsOnZeroWalk edges n
  path_closes n r = let q = path_walk r.0 n n r.1 in (q.0, q.1, q.3, weightless_sum edges q.0 q.2)

  module _ (small : is_small_graph edges ≡ true) where
    closed : (walk : List Edge) (n : ℕ) → IsWalk edges n walk n → AllWeightless walk → 0 < length walk → Reaches lists n n
    closed [] n w f lt = absurd (omega arith)
    closed (e ∷ es) n w f lt = walk_reaches es e n n w f

    -- and each such walk is one
    pub walk_returns : (n : ℕ) → IsOnZeroWalk edges n → Reaches lists n n
    walk_returns n z = closed z.0 n z.1 (each_weightless edges (small_most edges small) z.0 n n z.1 z.3) z.2

    own_node : (n : ℕ) → (n ≡ eval_node (n / 2)) ⊎ (n ≡ spawn_node (n / 2)) → IsOnZeroWalk edges n → IsOnCycle edges (n / 2)
    own_node n (inl e) z = inl (rw (← e) z)
    own_node n (inr e) z = inr (rw (← e) z)

    halves : (n : ℕ) → (n ≡ eval_node (n / 2)) ⊎ (n ≡ spawn_node (n / 2))
    halves n = elim (cases_eq n (eval_node (n / 2))) [ inl e ↦ inl e | inr ne ↦ inr (omega (arith, ne)) ]

    -- the stream of the least node is the least stream
    pub least_stream : (node : Option ℕ) → IsLeastNode lists node → IsLeastOnCycle edges (option_map (λ n. n / 2) node)
    least_stream None g = λ n z. g n (walk_returns n z)
    least_stream (Some n) g = (
      own_node n (halves n) (path_closes n g.0),
      λ m lt c. elim c [
        | inl a ↦ g.1 (eval_node m) (omega arith) (walk_returns (eval_node m) a)
        | inr b ↦ g.1 (spawn_node m) (omega arith) (walk_returns (spawn_node m) b)
      ],
    )
