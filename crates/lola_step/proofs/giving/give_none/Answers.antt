use Rattle.std.proofs.Common.{subst, sym}
use Rattle.lola_value.specs.Naming.{read_outcome}
use Rattle.lola_value.specs.declared.value.Outcome.{Outcome}
use Rattle.lola_model.specs.Content.{seen}
use Rattle.lola_model.specs.Store.{Stands}
use Rattle.lola_step_contents.specs.Changed.{told}
use Rattle.lola_step.proofs.OneByOne.{stands_missing}
use Rattle.lola_step.proofs.giving.give_none.Goals as goal

pub returns-in-Missing-clause-stands : goal.returns-in-Missing-clause-stands
returns-in-Missing-clause-stands g c names d h =
    let remembers = g.S.StreamStore.remembers c.args.store.now in
    let shown = g.S.StreamStore.seen c.args.store.now in
    let P : Outcome → Type 0 = λ o. Stands names remembers shown (told d c.args.task.stream c.args.task.index (seen (read_outcome names o))) in
    subst P (sym c.in-Missing.is) (stands_missing names remembers shown d c.args.task.stream c.args.task.index c.requires.can.silent h)
