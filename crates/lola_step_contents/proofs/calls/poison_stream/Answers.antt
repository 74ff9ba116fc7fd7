-- The lift of the clauses of `poison_stream`.
use Rattle.std.proofs.Common.{sym, subst}
use Rattle.lola_model.specs.Store.{Stands}
use Rattle.lola_step_contents.specs.Changed.{spoiled}
use Rattle.lola_step_contents.proofs.Tellings.{stands_spoiled}
use Rattle.lola_step_contents.proofs.calls.poison_stream.Goals as goal

pub returns-clause-stands : goal.returns-clause-stands
returns-clause-stands g c names content stands =
    let old = g.S.StreamStore.remembers c.args.store.now in
    let new = g.S.StreamStore.remembers c.poison_stream.new.self in
    subst (λ s. Stands names new s (spoiled content c.args.stream)) (sym c.poison_stream.ensures.seen)
    (stands_spoiled names old new (c.poison_stream.ensures.past names) (g.S.StreamStore.seen c.args.store.now) content c.args.stream stands)
