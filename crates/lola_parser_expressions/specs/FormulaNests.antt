-- A function value that reads what is nested, to a depth.
use Rattle.std.specs.Prelude.{ℕ, Result}
use Rattle.std.specs.declared.alloc.Global.{Global}
use denote.Ref.{MutBor}
use Rattle.lola_parser_grammar.specs.declared.pacing.Formula.{Formula}
use Rattle.lola_parser_grammar.specs.declared.error.ParseError.{ParseError}
use Rattle.lola_parser_grammar.specs.Cursor.{Cursor, IsRead}
use Rattle.lola_parser_grammar.specs.Grammar.{formula_in}

pub record NestsFormula (depth : ℕ) (pre : Global → MutBor Cursor → ℕ → Type 0)
    (post : Global → MutBor Cursor → ℕ → Result Formula ParseError → MutBor Cursor → Type 0) : Type 0 where
  pub callable : (alloc : Global) (old : MutBor Cursor) → pre alloc old depth
  pub reads : (alloc : Global) (old new : MutBor Cursor) (r : Result Formula ParseError) → post alloc old depth r new
      → IsRead (formula_in depth) old.now r new.now
