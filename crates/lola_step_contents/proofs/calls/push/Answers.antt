-- The lift of the clauses of `push`.
use Rattle.std.proofs.Common.{sym, subst}
use Rattle.lola_value.specs.declared.value.Outcome.TheVariants as outcome
use Rattle.lola_value.specs.Answer.{Given}
use Rattle.lola_value.specs.Naming.{read}
use Rattle.lola_model.specs.Store.{Stands}
use Rattle.lola_step_contents.specs.Changed.{told}
use Rattle.lola_step_contents.proofs.Tellings.{stands_told}
use Rattle.lola_step_contents.proofs.calls.push.Goals as goal

pub returns-clause-stands : goal.returns-clause-stands
returns-clause-stands g c names content held stands =
    let old = g.S.StreamStore.remembers c.args.store.now in
    let new = g.S.StreamStore.remembers c.push.new.self in
    subst (λ s. Stands names new s (told content c.args.stream c.args.index (Given (read names c.args.value)))) (sym c.push.ensures.seen)
    (stands_told names old new (λ n i values kept. c.push.ensures.past names n i values held kept) (g.S.StreamStore.seen c.args.store.now) content
    c.args.stream c.args.index (outcome.Value c.args.value) held stands)
