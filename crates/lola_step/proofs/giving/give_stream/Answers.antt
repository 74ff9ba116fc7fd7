use Rattle.std.proofs.Common.{◌∙◌, sym, subst}
use Rattle.lola_model.specs.Store.{Seen, Stands}
use Rattle.lola_step_contents.proofs.OneStream.{stands_kept}
use Rattle.lola_step.specs.Given.{told_outcomes}
use Rattle.lola_step.proofs.Together.{stands_all, whole_given, whole_kinds, whole_running, whole_silent}
use Rattle.lola_step.proofs.giving.give_stream.Goals as goal

pub give_each-requires-clause-running : goal.give_each-requires-clause-running
give_each-requires-clause-running g c = whole_running (g.S.StreamStore.seen c.args.store.now) c.args._tasks.now c.args.results.now c.requires.some c.requires.can

pub give_each-requires-clause-silent : goal.give_each-requires-clause-silent
give_each-requires-clause-silent g c =
    whole_silent (g.S.StreamStore.seen c.args.store.now) c.args.stream c.args._tasks.now c.args.results.now c.requires.places c.requires.tasks c.requires.can c.requires.each

pub give_each-requires-clause-kinds : goal.give_each-requires-clause-kinds
give_each-requires-clause-kinds g c =
    whole_kinds (g.S.StreamStore.seen c.args.store.now) c.args.stream c.args._tasks.now c.args.results.now c.requires.places c.requires.tasks c.requires.can

pub returns-clause-seen : goal.returns-clause-seen
returns-clause-seen g c =
    c.give_each.ensures.seen
    ∙ sym (whole_given (g.S.StreamStore.seen c.args.store.now) c.args.stream c.args._tasks.now c.args.results.now c.requires.places c.requires.tasks)

pub returns-clause-stands : goal.returns-clause-stands
returns-clause-stands g c names d held h =
    let old = g.S.StreamStore.remembers c.args.store.now in
    let new = g.S.StreamStore.remembers c.give_each.new.self in
    let s = g.S.StreamStore.seen c.args.store.now in
    let tasks = c.args._tasks.now in
    let rs = c.args.results.now in
    let kept = stands_kept names old new (λ n i values m. c.give_each.ensures.past names n i values held m) s d h in
    subst (λ (t : Seen). Stands names new t (told_outcomes names d tasks rs))
    (whole_given s c.args.stream tasks rs c.requires.places c.requires.tasks ∙ sym c.give_each.ensures.seen)
    (stands_all names new tasks rs s d c.requires.can held kept)
