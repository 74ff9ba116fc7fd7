-- The lift of the clauses of `poison`.
use Rattle.std.proofs.Common.{sym, subst}
use Rattle.lola_value.specs.declared.value.Outcome.TheVariants as outcome
use Rattle.lola_value.specs.Answer.{Poisoned}
use Rattle.lola_model.specs.Store.{Stands}
use Rattle.lola_step_contents.specs.Changed.{told}
use Rattle.lola_step_contents.proofs.Tellings.{stands_told}
use Rattle.lola_step_contents.proofs.calls.poison.Goals as goal

pub returns-clause-stands : goal.returns-clause-stands
returns-clause-stands g c names content stands =
    let old = g.S.StreamStore.remembers c.args.store.now in
    let new = g.S.StreamStore.remembers c.poison.new.self in
    subst (λ s. Stands names new s (told content c.args.stream c.args.index Poisoned)) (sym c.poison.ensures.seen)
    (stands_told names old new (c.poison.ensures.past names) (g.S.StreamStore.seen c.args.store.now) content c.args.stream c.args.index outcome.Poison tt stands)
