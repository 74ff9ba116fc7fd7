-- Graphs of at most 1,024 streams, and specifications that have such graphs.
use Rattle.std.specs.Prelude.{ℕ, ℤ, pos, negsuc, List, [], Bool, true, false, ◌&&◌, nat_lt, nat_le, zero, suc, IsTrue}
use Rattle.std.specs.List.{list_all}
use Rattle.lola_model.specs.Bounds.{offset_by}
use Rattle.lola_model.specs.Parts.{listed_spec}
use Rattle.lola_model.specs.declared.expr.Expr.{Expr}
use Rattle.lola_model.specs.declared.expr.Expr.TheVariants.{Read}
use Rattle.lola_model.specs.declared.graph.Edge.{Edge}
use Rattle.lola_model.specs.declared.spec.Spec.{Spec}

-- a weight from -4,096 to 0
abbrev pub is_small_weight : ℤ → Bool
is_small_weight (pos zero) = true
is_small_weight (pos (suc k)) = false
is_small_weight (negsuc k) = nat_lt k 4096

-- its nodes are below 2,048
abbrev pub is_small_edge : Edge → Bool
is_small_edge e = (nat_lt e.from 2048 && nat_lt e.to 2048) && is_small_weight e.weight

-- so are all nodes of the graph
abbrev pub is_small_graph : List Edge → Bool
is_small_graph edges = list_all is_small_edge edges

-- the offset of an expression that is itself an access, if it has one
abbrev pub offset_in : Expr → List ℕ
offset_in (Read place n how args) = offset_by how
offset_in _ = []

-- an offset of at most 4,096
abbrev pub is_small_offset : ℕ → Bool
is_small_offset k = nat_le k 4096

-- no access goes back by more than 4,096 values
abbrev pub HasSmallOffsets : Spec → Type 0
HasSmallOffsets spec = IsTrue (list_all is_small_offset (listed_spec offset_in spec))
