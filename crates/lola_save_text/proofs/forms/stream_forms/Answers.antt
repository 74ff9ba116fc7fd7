use Rattle.std.proofs.Common.{◌≡◌, ◌++◌, [], List, drop, length, arith, ap, sym, ◌∙◌, append-nil}
use Rattle.std.proofs.lemmas.List.{drop_all}
use Rattle.lola_model.specs.Store.{layouts_from}
use Rattle.lola_model.specs.declared.spec.Stream.{Stream}
use Rattle.lola_save_text.specs.Forms.{stream_forms}
use Rattle.lola_save_text.proofs.PlanForms.{any-pacings}
use Rattle.lola_save_text.proofs.forms.stream_forms.Goals as goal

pub returns : goal.returns
returns c =
    let plan = c.args.plan.now in
    let all : drop c.loop-number.number plan.spec.streams ≡ [] = drop_all c.loop-number.number plan.spec.streams (let e = ap length c.as_slice-stream-items.ensures in omega (arith, e)) in
    sym (append-nil c.loop-number.forms)
    ∙ ap (λ (ss : List Stream). c.loop-number.forms ++ stream_forms plan c.loop-number.number (layouts_from ss c.loop-number.kept.now [])) (sym all)
    ∙ c.loop-number.invariant
    ∙ any-pacings plan 0 plan.spec.streams plan.kept [] plan.pacings
