-- The lift of the clauses of `begin`.
use Rattle.std.proofs.Common.{sym, subst}
use Rattle.lola_model.specs.Runs.{begun}
use Rattle.lola_model.specs.Store.{Stands}
use Rattle.lola_model.proofs.Changes.{stands_begun}
use Rattle.lola_step_contents.proofs.calls.begin.Goals as goal

pub returns-clause-stands : goal.returns-clause-stands
returns-clause-stands g c names content stands =
    let old = g.S.StreamStore.remembers c.args.store.now in
    let new = g.S.StreamStore.remembers c.begin.new.self in
    subst (λ s. Stands names new s (begun content c.args.time)) (sym c.begin.ensures.seen)
    (stands_begun names old new (g.S.StreamStore.seen c.args.store.now) c.args.time (c.begin.ensures.past names) content stands)
