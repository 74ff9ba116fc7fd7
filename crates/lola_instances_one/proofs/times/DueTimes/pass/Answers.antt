use Rattle.std.proofs.Common.{◌≡◌, length, subst, sym, arith}
use Rattle.std.proofs.lemmas.List.{length-map}
use Rattle.std.proofs.lemmas.List.Sorted.{length_permutation}
use Rattle.lola_instances_one.specs.declared.queue.Birth.{Birth}
use Rattle.lola_instances_one.specs.Queues.{births_of, IsQueue}
use Rattle.lola_instances_one.proofs.DueBirths.{moved}
use Rattle.lola_instances_one.proofs.Queues.{still_right}
use Rattle.lola_instances_one.proofs.times.DueTimes.pass.Goals as goal

pub renew-requires : goal.renew-requires
renew-requires c =
    let queue = c.self.inside.queue.items in
    subst (λ rs. IsQueue rs c.args.moment queue) (sym c.as_slice.ensures.value)
    (still_right c.self.inside.rates.items c.self.inside.passed c.args.moment queue (omega arith) c.self.invariant.right)

pub invariant_of-self : goal.invariant_of-self
invariant_of-self c =
    let old = c.self.inside.queue.items in
    let new = c.renew.new.queue.items in
    let h = c.self.invariant in
    let same : length (births_of new) ≡ length (births_of old) = length_permutation (births_of old) (births_of new) c.renew.ensures.births in
    let long : length (births_of new) ≡ length new = length-map new (λ (e : Birth). e.born) in
    let was : length (births_of old) ≡ length old = length-map old (λ (e : Birth). e.born) in
    record {
      right = subst (λ rs. IsQueue rs c.args.moment new) c.as_slice.ensures.value c.renew.ensures.queue;
      same = moved c.self.inside.births.items (births_of old) (births_of new) h.same c.renew.ensures.births;
      in_births = h.in_births;
      in_queue = let room = h.in_queue in let more = c.renew.ensures.capacity in omega arith;
    }
