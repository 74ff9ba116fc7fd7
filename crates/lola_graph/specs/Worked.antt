-- Clauses and streams of a specification of two streams and one window.
use Rattle.std.specs.Prelude.{◌≡◌, List, Option, true, length}
use Rattle.std.specs.List.{list_all}
use Rattle.lola_model.specs.Accepted.{IsInRange, IsClauseInRange, AreClausesInRange}
use Rattle.lola_model.specs.Parts.{listed, listed_clause, listed_streams}
use Rattle.lola_model.specs.declared.expr.Expr.{Expr}
use Rattle.lola_model.specs.declared.spec.Clause.{Clause}
use Rattle.lola_model.specs.declared.spec.Stream.{Stream}
use Rattle.lola_graph.specs.Small.{is_small_offset, offset_in}

pub record IsFineExpr (e : Expr) : Type 0 where
  pub range : IsInRange 2 1 e
  pub offsets : list_all is_small_offset (listed offset_in e) ≡ true

pub record IsFineClause (c : Option Clause) : Type 0 where
  pub range : IsClauseInRange 2 1 c
  pub offsets : list_all is_small_offset (listed_clause offset_in c) ≡ true

pub record IsFineStream (s : Stream) : Type 0 where
  pub spawn : IsFineClause s.spawn
  pub eval : IsFineClause s.eval
  pub close : IsFineClause s.close

pub record AreFineStreams (ss : List Stream) : Type 0 where
  pub two : length ss ≡ 2
  pub range : AreClausesInRange 2 1 ss
  pub offsets : list_all is_small_offset (listed_streams offset_in ss) ≡ true
