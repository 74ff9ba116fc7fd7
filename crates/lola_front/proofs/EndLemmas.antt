-- A stream with a node on a closed walk is a stream of the specification.
use Rattle.std.proofs.Common.{◌≡◌, subst, ℕ, ◌+◌, ◌*◌, ◌<◌, List, [], ◌∷◌, ◌++◌, Option, Some, None, ℤ, pos, arith, length, slice_get, inl, inr}
use Rattle.std.specs.List.{Contains}
use Rattle.std.proofs.lemmas.List.Elements.{Contains-append_cases}
use Rattle.lola_model.proofs.Strictly.{Contains-cases, Contains-none}
use Rattle.lola_model.specs.Graph.{IsLayer, IsWalk, IsOnZeroWalk, layer_of, weight_of, edge_to, window_edge, reads, reads_all, when_reads, with_reads, clause_reads, to_spawn, edges_from, edges_of, eval_node, spawn_node}
use Rattle.lola_model.specs.declared.expr.Expr.{Expr}
use Rattle.lola_model.specs.declared.expr.Expr.TheVariants.{Literal, Parameter, Read, Window, Defaults', Unary', Both', Choice'}
use Rattle.lola_model.specs.declared.expr.Arguments.{Arguments}
use Rattle.lola_model.specs.declared.expr.Arguments.TheVariants.{End, More'}
use Rattle.lola_model.specs.declared.graph.Edge.{Edge}
use Rattle.lola_model.specs.declared.spec.Clause.{Clause}
use Rattle.lola_model.specs.declared.spec.Spec.{Spec}
use Rattle.lola_model.specs.declared.spec.Stream.{Stream}
use Rattle.lola_model.specs.declared.spec.WindowSpec.{WindowSpec}
use Rattle.lola_graph.specs.Cycle.{IsLeastOnCycle, IsOnCycle}
use Rattle.lola_model.specs.Nodes.{node_count}
use Rattle.lola_front.specs.Front.{AreLayers}

-- each of these edges leads away from a node of one of so many streams
abbrev LeadFrom : ℕ → List Edge → Type 0
LeadFrom count edges = (e : Edge) → Contains edges e → e.from < 2 * count

module _ (count : ℕ) where
  from_none : LeadFrom count []
  from_none e c = absurd (Contains-none e c)

  from_one : (x : Edge) → x.from < 2 * count → LeadFrom count (x ∷ [])
  from_one x lt e c = elim (Contains-cases x e [] c) [ inl p ↦ subst (λ (y : Edge). y.from < 2 * count) p lt | inr d ↦ absurd (Contains-none e d) ]

  from_both : (xs ys : List Edge) → LeadFrom count xs → LeadFrom count ys → LeadFrom count (xs ++ ys)
  from_both xs ys f g e c = elim (Contains-append_cases xs ys e c) [ inl a ↦ f e a | inr b ↦ g e b ]

  module _ (ws : List WindowSpec) (from : ℕ) (lt : from < 2 * count) where
    from_edge : (n : ℕ) (w : ℤ) → LeadFrom count (edge_to from n w ∷ [])
    from_edge n w = from_one (edge_to from n w) lt

    from_window : (w : Option WindowSpec) → LeadFrom count (window_edge from w)
    from_window None = from_none
    from_window (Some w) = from_edge w.target (pos 0)

    mutual
      from_reads : (x : Expr) → LeadFrom count (reads ws from x)
      from_reads (Literal place v) = from_none
      from_reads (Parameter place i) = from_none
      from_reads (Read place n how args) = from_both (edge_to from n (weight_of how) ∷ []) (reads_all ws from args) (from_edge n (weight_of how)) (from_all args)
      from_reads (Window place w args) = from_both (window_edge from (slice_get ws w)) (reads_all ws from args) (from_window (slice_get ws w)) (from_all args)
      from_reads (Defaults' place u a v b) = from_both (reads ws from a) (reads ws from b) (from_reads a) (from_reads b)
      from_reads (Unary' place operator u a) = from_reads a
      from_reads (Both' place operator u a v b) = from_both (reads ws from a) (reads ws from b) (from_reads a) (from_reads b)
      from_reads (Choice' place u a v b w d) =
          from_both (reads ws from a) (reads ws from b ++ reads ws from d) (from_reads a) (from_both (reads ws from b) (reads ws from d) (from_reads b) (from_reads d))

      from_all : (args : Arguments) → LeadFrom count (reads_all ws from args)
      from_all End = from_none
      from_all (More' u a v rest) = from_both (reads ws from a) (reads_all ws from rest) (from_reads a) (from_all rest)

    from_when : (x : Option Expr) → LeadFrom count (when_reads ws from x)
    from_when None = from_none
    from_when (Some e) = from_reads e

    from_with : (es : List Expr) → LeadFrom count (with_reads ws from es)
    from_with [] = from_none
    from_with (e ∷ es) = from_both (reads ws from e) (with_reads ws from es) (from_reads e) (from_with es)

    from_clause : (c : Option Clause) → LeadFrom count (clause_reads ws from c)
    from_clause None = from_none
    from_clause (Some c) = from_both (when_reads ws from c.when) (with_reads ws from c.with) (from_when c.when) (from_with c.with)

  from_spawn : (n : ℕ) (k : Option Clause) → n < count → LeadFrom count (to_spawn n k)
  from_spawn n None lt = from_none
  from_spawn n (Some c) lt = from_one _ (let low : eval_node n < 2 * count = omega arith in low)

  from_streams : (ws : List WindowSpec) (n : ℕ) (ss : List Stream) → n + length ss ≡ count → LeadFrom count (edges_from ws n ss)
  from_streams ws n [] e = from_none
  from_streams ws n (s ∷ ss) e =
      let at : n < count = omega arith in
      let eval : eval_node n < 2 * count = omega arith in
      let spawn : spawn_node n < 2 * count = omega arith in
      let next : (n + 1) + length ss ≡ count = omega arith in
      from_both (to_spawn n s.spawn) _ (from_spawn n s.spawn at)
      (from_both (clause_reads ws (spawn_node n) s.spawn) _ (from_clause ws (spawn_node n) spawn s.spawn)
      (from_both (clause_reads ws (eval_node n) s.eval) _ (from_clause ws (eval_node n) eval s.eval)
      (from_streams ws (n + 1) ss next)))

  first_edge : (edges : List Edge) (n to : ℕ) (walk : List Edge) → LeadFrom count edges → IsWalk edges n walk to → 0 < length walk → n < 2 * count
  first_edge edges n to [] h w lt = absurd (omega arith)
  first_edge edges n to (e ∷ es) h w lt = subst (λ (k : ℕ). k < 2 * count) w.1 (h e w.0)

  of_node : (edges : List Edge) (n : ℕ) → LeadFrom count edges → IsOnZeroWalk edges n → n < 2 * count
  of_node edges n h z = first_edge edges n n z.0 h z.1 z.2

  of_stream : (edges : List Edge) (stream : ℕ) → LeadFrom count edges → IsOnCycle edges stream → stream < count
  of_stream edges stream h (inl z) = let lt : 2 * stream < 2 * count = of_node edges (eval_node stream) h z in omega arith
  of_stream edges stream h (inr z) = let lt : 2 * stream + 1 < 2 * count = of_node edges (spawn_node stream) h z in omega arith

pub is_stream : (spec : Spec) (stream : ℕ) → IsLeastOnCycle (edges_of spec) (Some stream) → stream < length spec.streams
is_stream spec stream h = of_stream (length spec.streams) (edges_of spec) stream (from_streams (length spec.streams) spec.windows 0 spec.streams (omega arith)) h.0

-- what the search for a closed walk answers, in words of the specification

pub least_of : (spec : Spec) (edges : List Edge) (o : Option ℕ) (stream : ℕ) → edges ≡ edges_of spec → o ≡ Some stream → IsLeastOnCycle edges o → IsLeastOnCycle (edges_of spec) (Some stream)
least_of spec edges o stream all is h =
    subst (λ (es : List Edge). IsLeastOnCycle es (Some stream)) all (subst (λ (p : Option ℕ). IsLeastOnCycle edges p) is h)

pub are_layers : (spec : Spec) (edges : List Edge) (o : Option ℕ) (layers : List ℕ) → edges ≡ edges_of spec → o ≡ None → IsLeastOnCycle edges o
    → ((n : ℕ) → IsLayer edges n (layer_of layers n)) → length layers ≡ node_count edges → AreLayers spec layers
are_layers spec edges o layers all is h each count =
    let none = subst (λ (p : Option ℕ). IsLeastOnCycle edges p) is h in
    record {
      acyclic = record { none = subst (λ (es : List Edge). (n : ℕ) → ¬ (IsOnZeroWalk es n)) all none };
      each = subst (λ (es : List Edge). (n : ℕ) → IsLayer es n (layer_of layers n)) all each;
      count = subst (λ (es : List Edge). length layers ≡ node_count es) all count;
    }
