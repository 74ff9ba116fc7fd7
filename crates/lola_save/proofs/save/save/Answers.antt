use Rattle.std.proofs.Common.{◌++◌, ◌∙◌, ap, subst}
use Rattle.std.proofs.lemmas.Result.{on_err_weaker, on_ok_weaker}
use Rattle.lola_value.specs.Appending.{AppendsPart}
use Rattle.lola_save_text.specs.Forms.{forms_of}
use Rattle.lola_save_text.specs.Lines.{state_text}
use Rattle.lola_save.proofs.save.save.Goals as goal

pub returns-clause-ok : goal.returns-clause-ok
returns-clause-ok c =
    let plan = c.args.engine.now.state.plan in
    on_ok_weaker c.write_state.result (λ e before journal h. e ∙ ap (λ s. c.args.to.now ++ state_text c.args.spec.now plan s) (c.in_ok-state.ensures before journal h))
    (c.write_state.ensures.ok plan (c.as_slice-2.ensures ∙ c.in_ok-forms.ensures ∙ ap forms_of c.plan.ensures))

pub returns-clause-memory : goal.returns-clause-memory
returns-clause-memory c =
    let plan = c.args.engine.now.state.plan in
    on_err_weaker c.write_state.result (λ e before journal h. subst (λ s. AppendsPart c.args.to.now c.write_state.new.to (state_text c.args.spec.now plan s)) (c.in_ok-state.ensures before journal h) e)
    (c.write_state.ensures.memory plan (c.as_slice-2.ensures ∙ c.in_ok-forms.ensures ∙ ap forms_of c.plan.ensures))
