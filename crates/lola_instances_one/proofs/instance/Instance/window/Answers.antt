use Rattle.std.proofs.Common.{◌∙◌, subst, slice_get, MatchOption}
use Rattle.lola_instances_one.specs.Holdings.{Holdings}
use Rattle.lola_instances_one.specs.WindowAnswers.{IsFold}
use Rattle.lola_instances_one.proofs.Remembering.{window-found}
use Rattle.lola_instances_one.proofs.instance.Instance.window.Goals as goal

pub returns-in_default-clause-value : goal.returns-in_default-clause-value
returns-in_default-clause-value c =
    let r = c.fold_at.result in
    let o = c.widen.ensures ∙ c.now.ensures in
    window-found c.args.step c.args.offset c.args.self.now c.args.place r (λ k e. c.in_default.not-Fault k (o ∙ e)) (λ e. c.in_default.not-Poison (o ∙ e))
    (subst (λ (w : Holdings). MatchOption (slice_get w.panes c.args.place) ⊥ (IsFold c.args.offset r)) c.self.view_is c.fold_at.ensures.value)
