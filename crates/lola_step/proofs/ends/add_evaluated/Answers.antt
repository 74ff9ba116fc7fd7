use Rattle.std.proofs.Common.{◌≡◌, ◌∙◌, ◌++◌, List, Some, ap, if◌then◌else◌, length, subst, sym}
use Rattle.lola_value.specs.declared.value.Params.{Params}
use Rattle.lola_model.specs.Store.{instances_seen, no_params}
use Rattle.lola_step.specs.Found.{step_values_among, step_values_with}
use Rattle.lola_step.specs.Notes.{AreOfStream, asked_in, in_span}
use Rattle.lola_step.specs.Tasks.{params_seen}
use Rattle.lola_step.specs.declared.step_value.StepValue.{StepValue}
use Rattle.lola_step.proofs.Valued.{among_alone, as_many, fit_alone, fit_pushed}
use Rattle.lola_step.proofs.ends.add_evaluated.Goals as goal

pub add_values-requires-clause-asked : goal.add_values-requires-clause-asked
add_values-requires-clause-asked g c =
    let s = g.S.StreamStore.seen c.args.store.now in
    subst (AreOfStream c.args.number 0 (length (instances_seen s c.args.number))) (sym c.tasks_of.ensures.value) c.requires.asked

pub returns-then-has_clause-clause-items : goal.returns-then-has_clause-clause-items
returns-then-has_clause-clause-items g c =
    let s = g.S.StreamStore.seen c.args.store.now in
    c.add_values.ensures.items
    ∙ (ap (λ ts. c.args.step_values.now.items ++ step_values_among s c.args.number ts c.outcomes_of-outcomes.result.now) c.tasks_of.ensures.value
    ∙ ap (λ os. c.args.step_values.now.items ++ step_values_among s c.args.number (asked_in c.args.tasks.now (Some c.args.span)) os) c.outcomes_of-outcomes.ensures.value)

pub returns-else-has_clause-clause-items : goal.returns-else-has_clause-clause-items
returns-else-has_clause-clause-items g c =
    let s = g.S.StreamStore.seen c.args.store.now in
    let n = c.args.number in
    let ts = asked_in c.args.tasks.now (Some c.args.span) in
    let os = in_span c.args.results.now (Some c.args.span) in
    let none = c.requires.spawns ∙ (sym c.has_clause.ensures ∙ c.if-has_clause.false) in
    let same : step_values_among s n ts os ≡ step_values_with n no_params os =
    among_alone s n no_params (λ i. ap (λ b. if b then params_seen s n i else no_params) none) ts os (as_many c.args.tasks.now c.args.results.now c.args.span c.requires.each) in
    c.add_alone.ensures.items
    ∙ ap (λ (vs : List StepValue). c.args.step_values.now.items ++ vs)
    (ap (λ (p : Params). step_values_with n p c.outcomes_of-outcomes.result.now) c.requires.bare
    ∙ (ap (step_values_with n no_params) c.outcomes_of-outcomes.ensures.value ∙ sym same))

pub returns-else-has_clause-clause-fit : goal.returns-else-has_clause-clause-fit
returns-else-has_clause-clause-fit g c =
    let l = (g.S.StreamStore.seen c.args.store.now).layout in
    let os = c.outcomes_of-outcomes.result.now in
    fit_pushed l c.args.step_values.now.items (step_values_with c.args.number no_params os) c.add_alone.new.step_values.items
    (c.add_alone.ensures.items ∙ ap (λ (p : Params). c.args.step_values.now.items ++ step_values_with c.args.number p os) c.requires.bare)
    (fit_alone l c.args.number (c.requires.unnamed (sym c.has_clause.ensures ∙ c.if-has_clause.false)) os)
