-- A function value that reads what is nested, to a depth.
use Rattle.std.specs.Prelude.{ℕ, Bool, Result}
use Rattle.std.specs.declared.alloc.Global.{Global}
use denote.Ref.{MutBor}
use Rattle.lola_parser_grammar.specs.declared.expressions.Expr.{Expr}
use Rattle.lola_parser_grammar.specs.declared.error.ParseError.{ParseError}
use Rattle.lola_parser_grammar.specs.Cursor.{Cursor, IsRead}
use Rattle.lola_parser_grammar.specs.Grammar.{nested}

pub record Nests (depth : ℕ) (pre : Global → MutBor Cursor → Bool → ℕ → Type 0)
    (post : Global → MutBor Cursor → Bool → ℕ → Result Expr ParseError → MutBor Cursor → Type 0) : Type 0 where
  pub callable : (alloc : Global) (old : MutBor Cursor) (is_whole : Bool) → pre alloc old is_whole depth
  pub reads : (alloc : Global) (old new : MutBor Cursor) (is_whole : Bool) (r : Result Expr ParseError) → post alloc old is_whole depth r new
      → IsRead (nested is_whole depth) old.now r new.now
