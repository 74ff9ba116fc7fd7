-- Expressions whose reads are edges of a small graph.
use Rattle.std.specs.Prelude.{ℕ, List, [], ◌∷◌, ◌++◌, Option, Bool, true, ◌&&◌, nat_lt, slice_get}
use Rattle.lola_model.specs.Graph.{weight_of, edge_to, window_edge, eval_node, spawn_node, to_spawn, clause_reads}
use Rattle.lola_model.specs.declared.expr.Access.{Access}
use Rattle.lola_model.specs.declared.expr.Access.TheVariants as access
use Rattle.lola_model.specs.declared.expr.Arguments.{Arguments}
use Rattle.lola_model.specs.declared.expr.Expr.{Expr}
use Rattle.lola_model.specs.declared.spec.Clause.{Clause}
use Rattle.lola_model.specs.declared.spec.Stream.{Stream}
use Rattle.lola_model.specs.declared.graph.Edge.{Edge}
use Rattle.lola_model.specs.declared.spec.WindowSpec.{WindowSpec}
use Rattle.lola_model.specs.Visits.{parts_pass, arguments_pass, when_passes, clause_passes}
use Rattle.lola_model.specs.declared.part.ReadPart.{ReadPart}
use Rattle.lola_model.specs.declared.part.ReadPart.TheVariants.{Read, Window}
use Rattle.lola_graph.specs.Small.{is_small_offset}

-- an access by no more than 4,096 values
abbrev pub is_small_access : Access → Bool
is_small_access (access.Offset k) = is_small_offset k
is_small_access _ = true

-- a part that reads a stream of a number below 1,024
abbrev pub is_readable_part : ReadPart → Bool
is_readable_part (Read at n how) = nat_lt n 1024 && is_small_access how
is_readable_part (Window at w) = true

-- each part of an expression that reads is so
abbrev pub is_readable : Expr → Bool
is_readable = parts_pass is_readable_part

-- of arguments
abbrev pub are_readable : Arguments → Bool
are_readable = arguments_pass is_readable_part

-- a condition, if there is one
abbrev pub is_readable_when : Option Expr → Bool
is_readable_when = when_passes is_readable_part

-- a clause, if there is one
abbrev pub is_readable_clause : Option Clause → Bool
is_readable_clause = clause_passes is_readable_part

-- the edge of a part that reads
abbrev pub part_reads : List WindowSpec → ℕ → ReadPart → List Edge
part_reads ws from (Read at n how) = edge_to from n (weight_of how) ∷ []
part_reads ws from (Window at w) = window_edge from (slice_get ws w)

-- the clauses of a stream that are nodes
abbrev pub is_readable_stream : Stream → Bool
is_readable_stream s = is_readable_clause s.spawn && is_readable_clause s.eval

-- a window onto a stream of a number below 1,024
abbrev pub is_readable_window : WindowSpec → Bool
is_readable_window w = nat_lt w.target 1024

-- the edges from the nodes of stream n
abbrev pub stream_edges : List WindowSpec → ℕ → Stream → List Edge
stream_edges ws n s = to_spawn n s.spawn ++ (clause_reads ws (spawn_node n) s.spawn ++ clause_reads ws (eval_node n) s.eval)
