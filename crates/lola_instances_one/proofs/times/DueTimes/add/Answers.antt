use Rattle.std.proofs.Common.{◌≡◌, ℕ, suc, ◌≤◌, ◌+◌, ◌∷◌, [], List, length, ap, sym, subst, ◌∙◌, arith, rules}
use Rattle.std.proofs.lemmas.List.{length-append}
use Rattle.std.proofs.lemmas.List.Sorted.{length_permutation}
use Rattle.lola_model.specs.StepOrder.{AreRates}
use Rattle.lola_instances_one.specs.declared.queue.Birth.{Birth}
use Rattle.lola_instances_one.specs.Moments.{due_at}
use Rattle.lola_instances_one.specs.Queues.{births_of, HasBirths}
use Rattle.lola_instances_one.proofs.DueBirths.{added}
use Rattle.lola_instances_one.proofs.Queues.{is_entry, one_more}
use Rattle.lola_instances_one.proofs.times.DueTimes.add.Goals as goal

pub invariant_of-self : goal.invariant_of-self
invariant_of-self c =
    let rates = c.self.inside.rates.items in
    let passed = c.self.inside.passed in
    let births = c.self.inside.births.items in
    let old = c.self.inside.queue.items in
    let new = c.put.new.queue.items in
    let h = c.self.invariant in
    let e : Birth = record { due = c.next_due-due.result; born = c.args.born } in
    let are : AreRates rates = subst AreRates c.as_slice.ensures.value c.next_due-due.ensures.rates in
    let due : e.due ≡ due_at rates c.args.born passed = c.next_due-due.ensures.due ∙ ap (λ rs. due_at rs c.args.born passed) c.as_slice.ensures.value in
    let some : 1 ≤ c.self.inside.room = search rules in
    let longer : length new ≡ suc (length old) = length_permutation (e ∷ old) new c.put.ensures.entries in
    let more : length c.push_reserved.new.self.items ≡ length births + 1 = ap (λ (bs : List ℕ). length bs) c.push_reserved.ensures.items ∙ length-append births (c.args.born ∷ []) in
    record {
      right = one_more rates passed old new e h.right.entries (is_entry rates passed e are due) c.put.ensures.order c.put.ensures.entries;
      same = subst (λ bs. HasBirths bs (births_of new)) (sym c.push_reserved.ensures.items) (added births old new e h.same c.put.ensures.entries);
      in_births = let room = h.in_births in let same = c.push_reserved.ensures.capacity in omega arith;
      in_queue = let room = h.in_queue in let same = c.put.ensures.capacity in omega arith;
    }
