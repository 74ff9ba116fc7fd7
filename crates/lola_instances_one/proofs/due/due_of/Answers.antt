use Rattle.std.proofs.Common.{ℕ, ◌∙◌, ◌+◌, ◌-◌, ap, min}
use Rattle.lola_value.specs.Rate.{next_in_time}
use Rattle.lola_instances_one.specs.Moments.{after_latest}
use Rattle.lola_instances_one.proofs.Moments.{cut_before, due_found, due_none}
use Rattle.lola_instances_one.proofs.due.due_of.Goals as goal

pub returns-in-Some-clause-due : goal.returns-in-Some-clause-due
returns-in-Some-clause-due c =
    let passed = c.saturating_sub-passed.ensures ∙ ap (λ (x : ℕ). x - 1) c.saturating_sub.ensures in
    let sum = ap (λ (x : ℕ). min x after_latest) c.saturating_add.ensures ∙ cut_before (c.args.born + c.in-Some.offset) in
    c.min.ensures ∙ sum ∙ due_found c.args.born c.args.from c.args.rate.now c.in-Some._number c.in-Some.offset (c.in-Some.ensures.value ∙ ap (next_in_time c.args.rate.now) passed)

pub returns-in-None-clause-due : goal.returns-in-None-clause-due
returns-in-None-clause-due c =
    let passed = c.saturating_sub-passed.ensures ∙ ap (λ (x : ℕ). x - 1) c.saturating_sub.ensures in
    due_none c.args.born c.args.from c.args.rate.now (c.in-None.ensures.value ∙ ap (next_in_time c.args.rate.now) passed)
