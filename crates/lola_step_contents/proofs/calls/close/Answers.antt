-- The lift of the clauses of `close`.
use Rattle.std.proofs.Common.{sym, subst}
use Rattle.lola_model.specs.Store.{Stands}
use Rattle.lola_step_contents.specs.Changed.{closed}
use Rattle.lola_step_contents.proofs.Closes.{stands_closed}
use Rattle.lola_step_contents.proofs.calls.close.Goals as goal

pub returns-clause-stands : goal.returns-clause-stands
returns-clause-stands g c names content stands =
    let old = g.S.StreamStore.remembers c.args.store.now in
    let new = g.S.StreamStore.remembers c.close.new.self in
    subst (λ s. Stands names new s (closed content c.args.stream c.args.index)) (sym c.close.ensures.seen)
    (stands_closed names old new c.args.stream c.args.index c.close.ensures.past (g.S.StreamStore.seen c.args.store.now) content stands)
