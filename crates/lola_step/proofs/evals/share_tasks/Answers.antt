use Rattle.std.proofs.Common.{List, arith, subst, sym}
use Rattle.std.proofs.lemmas.List.{drop_at}
use Rattle.lola_value.specs.declared.value.Outcome.{Outcome}
use Rattle.lola_step.specs.Given.{AreResults}
use Rattle.lola_step.proofs.Results.{each_is_result}
use Rattle.lola_step.proofs.evals.share_tasks.Goals as goal

pub returns-clause-results : goal.returns-clause-results
returns-clause-results g c =
    let remembers = g.S.StreamStore.remembers c.args.store.now in
    let shown = g.S.StreamStore.seen c.args.store.now in
    let places = c.run_tasks.new.results in
    let R : List Outcome → Type 0 = λ rs. AreResults c.args.plan.now c.args.moment.now remembers shown c.args.tasks.now rs in
    subst R (sym (drop_at c.split_at_mut-places.result.0.now places c.args.from c.split_at_mut-places.ensures.front_len))
    (each_is_result c.args.plan.now c.args.moment.now remembers shown c.args.tasks.now places
    (omega (arith, c.run_tasks.auto.results, c.split_at_mut-places.ensures.back_len, c.requires.places)) c.run_tasks.ensures)
