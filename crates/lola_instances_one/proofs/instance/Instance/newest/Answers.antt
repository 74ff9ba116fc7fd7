use Rattle.std.proofs.Common.{◌≡◌, ◌∙◌, ◌≤◌, sym, ap, subst}
use Rattle.lola_value.specs.declared.value.Outcome.TheVariants as outcome
use Rattle.lola_value.specs.Shorts.{widened}
use Rattle.lola_buffer.specs.Kept.{before_newest}
use Rattle.lola_instances_one.specs.Holdings.{Holdings, shown}
use Rattle.lola_instances_one.proofs.Remembering.{not_missing, newest-now, newest-answers, answer_kind}
use Rattle.lola_instances_one.proofs.instance.Instance.newest.Goals as goal

pub returns-in-Missing-clause-value : goal.returns-in-Missing-clause-value
returns-in-Missing-clause-value c = λ start time names values h.
    let s = c.args.self.now in
    let none : shown c.args.step s ≡ outcome.Missing = sym c.now-now.ensures ∙ (sym c.short.ensures ∙ ap widened c.in-Missing.is) in
    let q = c.back.ensures.value ∙ ap (λ (w : Holdings). before_newest 0 w.ring.values) c.self.view_is in
    newest-answers start time c.args.step names s values h c.or_missing.result c.back.result none c.or_missing.ensures q (subst (λ (w : Holdings). 1 ≤ w.ring.capacity) c.self.view_is c.back.ensures.capacity)

pub returns-in-Missing-clause-kind : goal.returns-in-Missing-clause-kind
returns-in-Missing-clause-kind c = λ k o h.
    let q = c.back.ensures.value ∙ ap (λ (w : Holdings). before_newest 0 w.ring.values) c.self.view_is in
    answer_kind k c.args.self.now.ring.values 0 c.or_missing.result c.back.result c.or_missing.ensures q h

pub returns-in_default-clause-value : goal.returns-in_default-clause-value
returns-in_default-clause-value c = λ start time names values h.
    let some = not_missing c.short.result c.now-now.result c.short.ensures c.in_default.not-Missing in
    newest-now start time c.args.step names c.args.self.now values h c.now-now.result c.now-now.ensures some
