use Rattle.std.proofs.Common.{◌≡◌, ◌<◌, ◌+◌, ℕ, List, length, ap, subst, sym, ◌∙◌, arith}
use Rattle.std.proofs.lemmas.Grind.{common_steps}
use Rattle.std.proofs.lemmas.List.Edits.{length-remove}
use Rattle.lola_instances_one.specs.declared.queue.Birth.{Birth}
use Rattle.lola_instances_one.specs.Queues.{births_of, HasBirths}
use Rattle.lola_instances_one.proofs.DueBirths.{is_queued, removed}
use Rattle.lola_instances_one.proofs.Queues.{others_right}
use Rattle.lola_instances_one.proofs.times.DueTimes.remove.Goals as goal

pub take_out-requires-clause-born : goal.take_out-requires-clause-born
take_out-requires-clause-born c =
    let within : c.args.index < length c.self.inside.births.items = grind (arith, common_steps) in
    is_queued c.self.inside.births.items (births_of c.self.inside.queue.items) c.args.index c.remove-born.result c.self.invariant.same within c.remove-born.ensures.value

pub invariant_of-self : goal.invariant_of-self
invariant_of-self c =
    let births = c.self.inside.births.items in
    let old = c.self.inside.queue.items in
    let new = c.take_out.new.queue.items in
    let h = c.self.invariant in
    let w = c.take_out.ensures.without in
    let within : c.args.index < length births = grind (arith, common_steps) in
    let fewer : length c.remove-born.new.self.items + 1 ≡ length births = ap (λ (bs : List ℕ). length bs + 1) c.remove-born.ensures.items ∙ length-remove births c.args.index within in
    let less : length new + 1 ≡ length old = ap (λ (es : List Birth). length es + 1) w.rest ∙ length-remove old w.place w.within in
    record {
      right = others_right c.self.inside.rates.items c.self.inside.passed c.remove-born.result old new h.right w;
      same = subst (λ bs. HasBirths bs (births_of new)) (sym c.remove-born.ensures.items) (removed births c.args.index c.remove-born.result old new h.same within c.remove-born.ensures.value w);
      in_births = let room = h.in_births in let same = c.remove-born.ensures.capacity in omega arith;
      in_queue = let room = h.in_queue in let same = c.take_out.ensures.capacity in omega arith;
    }
