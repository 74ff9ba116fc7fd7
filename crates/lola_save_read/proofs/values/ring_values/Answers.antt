use Rattle.std.proofs.Common.{◌≡◌, true, arith}
use Rattle.lola_save_read.proofs.ValueRows.{ring-full, ring-more, ring-stops, ring-whole}
use Rattle.lola_save_read.proofs.values.ring_values.Goals as goal

pub returns-then-is_nothing : goal.returns-then-is_nothing
returns-then-is_nothing c =
    ring-whole c.args.kind c.args.most c.loop-turn._turn c.args.bytes.now c.loop-turn.values c.loop-turn.left.now c.loop-turn.invariant (omega arith) (c.is_nothing.ensures.0 c.if-is_nothing.true)

pub returns-in-None : goal.returns-in-None
returns-in-None c =
    ring-stops c.args.kind c.args.most c.loop-turn._turn c.args.bytes.now c.loop-turn.values c.loop-turn.left.now c.loop-turn.invariant
    (λ e. let t : c.is_nothing.result ≡ true = c.is_nothing.ensures.1 e in let f = c.if-is_nothing.false in absurd (cc)) (rw c.in-None.is at c.in_ok-next_value.ensures)

pub loop-turn-preserved : goal.loop-turn-preserved
loop-turn-preserved c =
    rw c.in_ok-push-in-Some.ensures.ok
    (ring-more c.args.kind c.loop-turn._turn c.args.bytes.now c.loop-turn.values c.loop-turn.left.now c.in-Some.value c.in-Some.rest.now c.loop-turn.invariant (rw c.in-Some.is at c.in_ok-next_value.ensures))

pub returns-then-is_nothing-2 : goal.returns-then-is_nothing-2
returns-then-is_nothing-2 c =
    ring-whole c.args.kind c.args.most c.loop-turn._turn c.args.bytes.now c.loop-turn.values c.loop-turn.left.now c.loop-turn.invariant (omega arith) (c.is_nothing-2.ensures.0 c.if-is_nothing-2.true)

pub returns-else-is_nothing-2 : goal.returns-else-is_nothing-2
returns-else-is_nothing-2 c =
    ring-full c.args.kind c.args.most c.loop-turn._turn c.args.bytes.now c.loop-turn.values c.loop-turn.left.now c.loop-turn.invariant (omega arith)
    (λ e. let t : c.is_nothing-2.result ≡ true = c.is_nothing-2.ensures.1 e in let f = c.if-is_nothing-2.false in absurd (cc))
