-- The edges of the parts of a clause that read are those of the clause.
use Rattle.std.proofs.Common.{◌≡◌, refl, ap, ◌∙◌, ℕ, List, [], ◌∷◌, ◌++◌, Option, Some, None, append-nil, slice_get}
use Rattle.std.specs.List.{flat_map}
use Rattle.lola_model.specs.Graph.{weight_of, edge_to, window_edge, reads, reads_all, when_reads, with_reads, clause_reads}
use Rattle.lola_model.specs.Parts.{listed, listed_all, listed_when, listed_with, listed_clause}
use Rattle.lola_model.specs.declared.expr.Arguments.{Arguments}
use Rattle.lola_model.specs.declared.expr.Arguments.TheVariants.{End, More'}
use Rattle.lola_model.specs.declared.expr.Expr.{Expr}
use Rattle.lola_model.specs.declared.expr.Expr.TheVariants.{Literal, Parameter, Read, Window, Defaults', Unary', Both', Choice'}
use Rattle.lola_model.specs.declared.graph.Edge.{Edge}
use Rattle.lola_model.specs.declared.spec.Clause.{Clause}
use Rattle.lola_model.specs.declared.spec.WindowSpec.{WindowSpec}
use Rattle.lola_model.specs.Visits.{parts_of, TakesAll}
use Rattle.lola_model.proofs.Fused.{listed_both, gathered}
use Rattle.lola_graph.specs.Readable.{part_reads}

module _ (ws : List WindowSpec) (from : ℕ) where
  two_read : (a b : Expr) → flat_map (part_reads ws from) (listed parts_of a) ≡ reads ws from a → flat_map (part_reads ws from) (listed parts_of b) ≡ reads ws from b
      → flat_map (part_reads ws from) (listed parts_of a ++ listed parts_of b) ≡ reads ws from a ++ reads ws from b
  two_read a b h k = listed_both (part_reads ws from) (listed parts_of a) (listed parts_of b) (reads ws from a) (reads ws from b) h k

  mutual
    expr_reads : (e : Expr) → flat_map (part_reads ws from) (listed parts_of e) ≡ reads ws from e
    expr_reads (Literal place v) = refl
    expr_reads (Parameter place i) = refl
    expr_reads (Read place n how args) =
        listed_both (part_reads ws from) (parts_of (Read place n how args)) (listed_all parts_of args) (edge_to from n (weight_of how) ∷ []) (reads_all ws from args) refl (arguments_read args)
    expr_reads (Window place w args) =
        listed_both (part_reads ws from) (parts_of (Window place w args)) (listed_all parts_of args) (window_edge from (slice_get ws w)) (reads_all ws from args)
        (append-nil (window_edge from (slice_get ws w))) (arguments_read args)
    expr_reads (Defaults' place u a v b) = two_read a b (expr_reads a) (expr_reads b)
    expr_reads (Unary' place operator u a) = expr_reads a
    expr_reads (Both' place operator u a v b) = two_read a b (expr_reads a) (expr_reads b)
    expr_reads (Choice' place u a v b w d) =
        listed_both (part_reads ws from) (listed parts_of a) (listed parts_of b ++ listed parts_of d) (reads ws from a) (reads ws from b ++ reads ws from d) (expr_reads a) (two_read b d (expr_reads b) (expr_reads d))

    arguments_read : (args : Arguments) → flat_map (part_reads ws from) (listed_all parts_of args) ≡ reads_all ws from args
    arguments_read End = refl
    arguments_read (More' u a v rest) = listed_both (part_reads ws from) (listed parts_of a) (listed_all parts_of rest) (reads ws from a) (reads_all ws from rest) (expr_reads a) (arguments_read rest)

  when_read : (o : Option Expr) → flat_map (part_reads ws from) (listed_when parts_of o) ≡ when_reads ws from o
  when_read None = refl
  when_read (Some e) = expr_reads e

  with_read : (es : List Expr) → flat_map (part_reads ws from) (listed_with parts_of es) ≡ with_reads ws from es
  with_read [] = refl
  with_read (e ∷ es) = listed_both (part_reads ws from) (listed parts_of e) (listed_with parts_of es) (reads ws from e) (with_reads ws from es) (expr_reads e) (with_read es)

  clause_read : (o : Option Clause) → flat_map (part_reads ws from) (listed_clause parts_of o) ≡ clause_reads ws from o
  clause_read None = refl
  clause_read (Some c) = listed_both (part_reads ws from) (listed_when parts_of c.when) (listed_with parts_of c.with) (when_reads ws from c.when) (with_reads ws from c.with) (when_read c.when) (with_read c.with)

  -- what is put by one part after another
  pub edges_put : (o : Option Clause) (old new : List Edge) → TakesAll (λ p old new. new ≡ old ++ part_reads ws from p) (listed_clause parts_of o) old new → new ≡ old ++ clause_reads ws from o
  edges_put o old new h = gathered (λ (edges : List Edge). edges) (part_reads ws from) (listed_clause parts_of o) old new h ∙ ap (λ edges. old ++ edges) (clause_read o)
