use Rattle.std.proofs.Common.{◌≡◌, ◌+◌, ◌∙◌, MatchOption, sym, subst}
use Rattle.std.specs.VecDeque.{deque_len, deque_capacity}
use Rattle.lola_merge.proofs.Answering.{none_left}
use Rattle.lola_merge.proofs.Waiting.{pops, room_left}
use Rattle.lola_merge.proofs.world.pop_row.Goals as goal

pub returns : goal.returns
returns c = let q = c.index_mut.result.now in let q' = c.pop_front.new.self in let e = c.pop_front.ensures in
    pops (λ q. q.items) (λ q. deque_len q) (λ q. deque_capacity q) c.args.queues.now.items c.args.at q q' c.requires c.index_mut.ensures.value c.pop_front.result e.items
    (λ none. none_left q.items (sym q.ok.0 ∙ (subst (λ r. MatchOption r ((deque_len q ≡ 0) × (deque_len q' ≡ 0)) (λ _. deque_len q' + 1 ≡ deque_len q)) none e.cases).0))
    (room_left c.pop_front.result (deque_len q) (deque_len q') (deque_capacity q) (deque_capacity q') e.cases q.small.1 e.capacity)
