use Rattle.std.proofs.Common.{ap, sym, ◌∙◌}
use Rattle.lola_model.specs.Refusals.{first_of}
use Rattle.lola_pacing.proofs.PhaseLemmas.{is_refused, are_pacings}
use Rattle.lola_pacing.proofs.check.answer.Goals as goal

pub returns-in-Some : goal.returns-in-Some
returns-in-Some c =
    let f = c.args.found.now in
    is_refused c.args.spec.now f.owns.items f.spawns.items f.evals.items f.closes.items f.window_refusals.items c.requires.found
    c.as_slice-streams.result.now c.deref.result.now c.deref-2.result.now c.deref-3.result.now c.deref-4.result.now c.in_ok-list.list.items c.in-Some.refusal
    c.as_slice-streams.ensures c.deref.ensures.value c.deref-2.ensures.value c.deref-3.ensures.value c.deref-4.ensures.value c.in_ok-list.ensures
    (sym (c.first.ensures ∙ ap first_of c.deref-5.ensures.value) ∙ c.in-Some.is)

pub returns : goal.returns
returns c =
    let f = c.args.found.now in
    are_pacings c.args.spec.now f.owns.items f.spawns.items f.evals.items f.closes.items f.window_refusals.items c.requires.found
    c.as_slice-streams.result.now c.deref.result.now c.deref-2.result.now c.deref-3.result.now c.deref-4.result.now c.in_ok-list.list.items
    c.deref-in-None.result.now c.deref-in-None-2.result.now c.deref-in-None-3.result.now c.in_ok-pacings-in-None.pacings
    c.as_slice-streams.ensures c.deref.ensures.value c.deref-2.ensures.value c.deref-3.ensures.value c.deref-4.ensures.value c.in_ok-list.ensures
    (sym (c.first.ensures ∙ ap first_of c.deref-5.ensures.value) ∙ c.in-None.is)
    c.deref-in-None.ensures.value c.deref-in-None-2.ensures.value c.deref-in-None-3.ensures.value c.in_ok-pacings-in-None.ensures
