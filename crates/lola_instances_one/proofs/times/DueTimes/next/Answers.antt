use Rattle.std.proofs.Common.{◌∙◌, ap}
use Rattle.std.specs.Option.{option_and_then}
use Rattle.lola_value.specs.Times.{up_to_latest}
use Rattle.lola_instances_one.specs.Dues.{due_of_births, Timetable}
use Rattle.lola_instances_one.specs.Moments.{least_due}
use Rattle.lola_instances_one.specs.Queues.{births_of}
use Rattle.lola_instances_one.proofs.DueBirths.{next_is, none_is}
use Rattle.lola_instances_one.proofs.times.DueTimes.next.Goals as goal

pub returns-then-least-le-LATEST : goal.returns-then-least-le-LATEST
returns-then-least-le-LATEST c =
    let queue = births_of c.self.inside.queue.items in
    let is = c.least_from-least.ensures ∙ ap (λ rs. least_due rs c.args.from queue) c.as_slice.ensures.value in
    next_is c.self.inside.rates.items c.args.from c.least_from-least.result c.self.inside.births.items queue c.self.invariant.same is c.if-least-le-LATEST.true
    ∙ ap (λ (t : Timetable). option_and_then up_to_latest (due_of_births t.rates c.args.from t.births)) c.self.view_is

pub returns-else-least-le-LATEST : goal.returns-else-least-le-LATEST
returns-else-least-le-LATEST c =
    let queue = births_of c.self.inside.queue.items in
    let is = c.least_from-least.ensures ∙ ap (λ rs. least_due rs c.args.from queue) c.as_slice.ensures.value in
    none_is c.self.inside.rates.items c.args.from c.least_from-least.result c.self.inside.births.items queue c.self.invariant.same is c.if-least-le-LATEST.false
    ∙ ap (λ (t : Timetable). option_and_then up_to_latest (due_of_births t.rates c.args.from t.births)) c.self.view_is
