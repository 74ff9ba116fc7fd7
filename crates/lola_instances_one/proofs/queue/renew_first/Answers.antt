use Rattle.std.proofs.Common.{◌≡◌, ◌∷◌, refl, rules}
use Rattle.lola_instances_one.proofs.Queues.{split_first, renewed, same_births}
use Rattle.lola_instances_one.proofs.queue.renew_first.Goals as goal

pub returns-clause-queue : goal.returns-clause-queue
returns-clause-queue c =
    let split : c.args.queue.now.items ≡ c.index-first.result.now ∷ c.pop_front-passed.new.self.items = split_first _ _ _ (search rules) c.index-first.ensures c.pop_front-passed.ensures.rest in
    renewed c.args.rates.now c.args.moment c.args.queue.now.items c.pop_front-passed.new.self.items c.put.new.queue.items c.index-first.result.now _ c.requires split c.next_due-due.ensures.rates c.next_due-due.ensures.due c.put.ensures.order c.put.ensures.entries

pub returns-clause-births : goal.returns-clause-births
returns-clause-births c =
    let split : c.args.queue.now.items ≡ c.index-first.result.now ∷ c.pop_front-passed.new.self.items = split_first _ _ _ (search rules) c.index-first.ensures c.pop_front-passed.ensures.rest in
    same_births c.args.queue.now.items c.pop_front-passed.new.self.items c.put.new.queue.items c.index-first.result.now _ split refl c.put.ensures.entries
