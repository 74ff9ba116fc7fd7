use Rattle.std.proofs.Common.{length}
use Rattle.lola_value.specs.Shorts.{widened}
use Rattle.lola_expr.specs.Machine.{Leads}
use Rattle.lola_expr.proofs.Means.{Means}
use Rattle.lola_expr.proofs.machine.run_code.Given as goal

-- what is left of the code leads to what the expression means
abbrev pub invariant-run : goal.invariant-run
invariant-run g l =
    Leads (g.S.StreamStore.remembers l.store) (g.S.StreamStore.seen l.store) l.params (λ r. Means (g.S.StreamStore.remembers l.store) (g.S.StreamStore.seen l.store) l.params l.fn._expr r)
    l.code 0 (widened l.hand) l.stack

abbrev pub decreases-run : goal.decreases-run
decreases-run g l = length l.code
