-- Where the two nodes of a stream stand: its spawn node is lower than its eval node, or in layer 0 where there is none.
use Rattle.std.proofs.Common.{◌≡◌, refl, sym, ℕ, zero, suc, ◌+◌, ◌*◌, ◌<◌, ◌≤◌, inl, inr, List, [], ◌∷◌, ◌++◌, Option, Some, None, slice_get, length, arith}
use Rattle.std.specs.List.{Contains}
use Rattle.std.proofs.lemmas.Option.{slice_get_within}
use Rattle.std.proofs.lemmas.List.Elements.{Contains-append_cases, Contains-push_cases}
use Rattle.lola_model.specs.Accepted.{HasLayers}
use Rattle.lola_model.specs.Graph.{IsWalk, clause_reads, edge_to, edges_from, edges_of, eval_node, layer_of, reads, reads_all, spawn_node, to_spawn, weight_of, when_reads, window_edge, with_reads}
use Rattle.lola_model.specs.declared.expr.Arguments.{Arguments}
use Rattle.lola_model.specs.declared.expr.Arguments.TheVariants.{End, More'}
use Rattle.lola_model.specs.declared.expr.Expr.{Expr}
use Rattle.lola_model.specs.declared.expr.Expr.TheVariants.{Literal, Parameter, Read, Window, Defaults', Unary', Both', Choice'}
use Rattle.lola_model.specs.declared.graph.Edge.{Edge}
use Rattle.lola_model.specs.declared.plan.Plan.{Plan}
use Rattle.lola_model.specs.declared.spec.Clause.{Clause}
use Rattle.lola_model.specs.declared.spec.Stream.{Stream}
use Rattle.lola_model.specs.declared.spec.WindowSpec.{WindowSpec}
use Rattle.lola_model.proofs.Layers.{layers_fall}
use Rattle.lola_model.proofs.Outcomes.{Falls, falls_head}
use Rattle.lola_model.proofs.Rounds.{falls_of_stream}

-- none of these edges begins at this node
abbrev NoneFrom : ℕ → List Edge → Type 0
NoneFrom node edges = (e : Edge) → Contains edges e → e.from ≡ node → ⊥

none_of_none : (node : ℕ) → NoneFrom node []
none_of_none node e c = let k : c.0 < 0 = c.1 in absurd (omega arith)

none_of_both : (node : ℕ) (xs ys : List Edge) → NoneFrom node xs → NoneFrom node ys → NoneFrom node (xs ++ ys)
none_of_both node xs ys f g e c = elim (Contains-append_cases xs ys e c) [ inl a ↦ f e a | inr b ↦ g e b ]

none_of_one : (node : ℕ) (x : Edge) → (x.from ≡ node → ⊥) → NoneFrom node (x ∷ [])
none_of_one node x h e c = elim (Contains-push_cases [] x e c) [ inl a ↦ none_of_none node e a | inr p ↦ rw (← p) h ]

-- what an expression reads begins at its own node
module _ (node : ℕ) (ws : List WindowSpec) (from : ℕ) (other : from ≡ node → ⊥) where
  none_of_window : (w : Option WindowSpec) → NoneFrom node (window_edge from w)
  none_of_window None = none_of_none node
  none_of_window (Some w) = none_of_one node _ other

  mutual
    none_of_reads : (x : Expr) → NoneFrom node (reads ws from x)
    none_of_reads (Literal place v) = none_of_none node
    none_of_reads (Parameter place i) = none_of_none node
    none_of_reads (Read place n how args) = none_of_both node (edge_to from n (weight_of how) ∷ []) (reads_all ws from args) (none_of_one node _ other) (none_of_all args)
    none_of_reads (Window place w args) = none_of_both node (window_edge from (slice_get ws w)) (reads_all ws from args) (none_of_window (slice_get ws w)) (none_of_all args)
    none_of_reads (Defaults' place u a v b) = none_of_both node (reads ws from a) (reads ws from b) (none_of_reads a) (none_of_reads b)
    none_of_reads (Unary' place operator u a) = none_of_reads a
    none_of_reads (Both' place operator u a v b) = none_of_both node (reads ws from a) (reads ws from b) (none_of_reads a) (none_of_reads b)
    none_of_reads (Choice' place u a v b w d) =
        none_of_both node (reads ws from a) (reads ws from b ++ reads ws from d) (none_of_reads a)
        (none_of_both node (reads ws from b) (reads ws from d) (none_of_reads b) (none_of_reads d))

    none_of_all : (args : Arguments) → NoneFrom node (reads_all ws from args)
    none_of_all End = none_of_none node
    none_of_all (More' u a v rest) = none_of_both node (reads ws from a) (reads_all ws from rest) (none_of_reads a) (none_of_all rest)

  none_of_when : (x : Option Expr) → NoneFrom node (when_reads ws from x)
  none_of_when None = none_of_none node
  none_of_when (Some e) = none_of_reads e

  none_of_with : (es : List Expr) → NoneFrom node (with_reads ws from es)
  none_of_with [] = none_of_none node
  none_of_with (e ∷ es) = none_of_both node (reads ws from e) (with_reads ws from es) (none_of_reads e) (none_of_with es)

  none_of_clause : (k : Option Clause) → NoneFrom node (clause_reads ws from k)
  none_of_clause None = none_of_none node
  none_of_clause (Some k) = none_of_both node (when_reads ws from k.when) (with_reads ws from k.with) (none_of_when k.when) (none_of_with k.with)

none_to_spawn : (k n : ℕ) (c : Option Clause) → NoneFrom (spawn_node k) (to_spawn n c)
none_to_spawn k n None = none_of_none (spawn_node k)
none_to_spawn k n (Some c) = none_of_one (spawn_node k) _ (λ e. let a : 2 * n ≡ 2 * k + 1 = e in omega arith)

-- the spawn node of a stream without a spawn clause reads nothing
module _ (ws : List WindowSpec) (k : ℕ) where
  none_of_spawn : (n : ℕ) (s : Stream) → (n ≡ k → s.spawn ≡ None) → (c : Option Clause) → s.spawn ≡ c → NoneFrom (spawn_node k) (clause_reads ws (spawn_node n) c)
  none_of_spawn n s h None f = none_of_none (spawn_node k)
  none_of_spawn n s h (Some c) f = none_of_clause (spawn_node k) ws (spawn_node n) (λ e. let a : 2 * n + 1 ≡ 2 * k + 1 = e in let b : n ≡ k = omega arith in let g = h b in absurd (cc)) (Some c)

  none_of_edges : (n : ℕ) (ss : List Stream) → ((m : ℕ) (s : Stream) → k ≡ n + m → slice_get ss m ≡ Some s → s.spawn ≡ None) → NoneFrom (spawn_node k) (edges_from ws n ss)
  none_of_edges n [] h = none_of_none (spawn_node k)
  none_of_edges n (s ∷ ss) h =
      none_of_both (spawn_node k) (to_spawn n s.spawn) _ (none_to_spawn k n s.spawn)
      (none_of_both (spawn_node k) (clause_reads ws (spawn_node n) s.spawn) _ (none_of_spawn n s (λ e. h 0 s (omega arith) refl) s.spawn refl)
      (none_of_both (spawn_node k) (clause_reads ws (eval_node n) s.eval) _ (none_of_clause (spawn_node k) ws (eval_node n) (λ e. let a : 2 * n ≡ 2 * k + 1 = e in omega arith) s.eval)
      (none_of_edges (n + 1) ss (λ m r e f. h (suc m) r (omega arith) f))))

module _ (plan : Plan) (layers : HasLayers plan) where
  -- a node that reads nothing is in layer 0
  lowest : (node : ℕ) → NoneFrom node (edges_of plan.spec) → layer_of plan.layers node ≡ 0
  lowest node none = let r = (layers.layers node).reached in from r.0 r.1 r.2 r.4
    where
      from : (walk : List Edge) (to : ℕ) → IsWalk (edges_of plan.spec) node walk to → length walk ≡ layer_of plan.layers node → layer_of plan.layers node ≡ 0
      from [] to w e = sym e
      from (x ∷ xs) to w e = absurd (none x w.0 w.1)

  -- the spawn node of a stream without a spawn clause
  pub no_spawn_lowest : (n : ℕ) (s : Stream) → slice_get plan.spec.streams n ≡ Some s → s.spawn ≡ None → layer_of plan.layers (spawn_node n) ≡ 0
  no_spawn_lowest n s at none =
      lowest (spawn_node n) (none_of_edges plan.spec.windows n 0 plan.spec.streams
      (λ m r e f. let a : n ≡ m = omega arith in let b : slice_get plan.spec.streams n ≡ Some r = (rw a f) in let c : s ≡ r = cc in rw (← c) none))

  falls_at : (rank : ℕ → ℕ) (count n m k : ℕ) (ss : List Stream) (s : Stream) → k ≡ n + m → slice_get ss m ≡ Some s → Falls rank count (edges_from plan.spec.windows n ss) → Falls rank count (to_spawn k s.spawn)
  falls_at rank count n m k [] s e f h = absurd (cc)
  falls_at rank count n zero k (r ∷ ss) s e f h =
      let a : k ≡ n = omega arith in
      let b : r ≡ s = cc in
      rw (a, ← b) (falls_of_stream rank count plan.spec.windows n r ss h).to_spawn
  falls_at rank count n (suc m) k (r ∷ ss) s e f h = falls_at rank count (n + 1) m k ss s (omega arith) f (falls_of_stream rank count plan.spec.windows n r ss h).others

  -- a spawn node is lower than the eval node
  pub spawn_is_lower : (n : ℕ) (s : Stream) (k : Clause) → slice_get plan.spec.streams n ≡ Some s → s.spawn ≡ Some k → layer_of plan.layers (spawn_node n) < layer_of plan.layers (eval_node n)
  spawn_is_lower n s k at e =
      let rank : ℕ → ℕ = layer_of plan.layers in
      let count : ℕ = length plan.spec.streams in
      let all : Falls rank count (edges_of plan.spec) = λ x c w lt. layers_fall (edges_of plan.spec) rank layers.layers x c w in
      let own : Falls rank count (to_spawn n s.spawn) = falls_at rank count 0 n n plan.spec.streams s (omega arith) at all in
      let there : Falls rank count (to_spawn n (Some k)) = rw e at own in
      let lt : n < length plan.spec.streams = slice_get_within plan.spec.streams n s at in
      falls_head rank count _ [] there refl (omega arith)

  -- a spawn node is no higher than an eval node
  pub spawn_no_higher : (n : ℕ) (s : Stream) → slice_get plan.spec.streams n ≡ Some s → layer_of plan.layers (spawn_node n) ≤ layer_of plan.layers (eval_node n)
  spawn_no_higher n s at = by s.spawn refl
    where
      by : (c : Option Clause) → s.spawn ≡ c → layer_of plan.layers (spawn_node n) ≤ layer_of plan.layers (eval_node n)
      by None e = let z = no_spawn_lowest n s at e in omega arith
      by (Some k) e = let lt = spawn_is_lower n s k at e in omega arith
