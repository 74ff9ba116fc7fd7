use Rattle.lola_merge.proofs.Waiting.{puts}
use Rattle.std.specs.VecDeque.{deque_len, deque_capacity}
use Rattle.lola_merge.proofs.world.put_back.Goals as goal

pub returns : goal.returns
returns c = puts (λ q. q.items) (λ q. deque_len q) (λ q. deque_capacity q) c.args.queues.now.items c.args.at c.index_mut.result.now c.push_front_reserved.new.self c.requires.0 c.index_mut.ensures.value c.args.row c.push_front_reserved.ensures.items
