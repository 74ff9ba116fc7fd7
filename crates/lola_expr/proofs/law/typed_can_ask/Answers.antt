-- The law.
use Rattle.lola_expr.proofs.Asks.{typed_can_ask, typed_in_plan}
use Rattle.lola_expr.proofs.law.typed_can_ask.Goals as goal

pub returns : goal.returns
returns c =
    record {
      store = λ s p kinds given typed ready. typed_can_ask s p kinds given c.args._expr.now typed ready;
      plan = λ plan s p kinds layout given typed ready. typed_in_plan s p kinds given plan layout c.args._expr.now typed ready;
    }
