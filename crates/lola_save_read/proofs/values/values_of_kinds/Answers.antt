use Rattle.std.proofs.Common.{◌≡◌, true, refl}
use Rattle.lola_save_read.proofs.ValueRows.{values-end-at, values-full, values-next, values-stop-next, values-whole}
use Rattle.lola_save_read.proofs.values.values_of_kinds.Goals as goal

pub returns-in-None : goal.returns-in-None
returns-in-None c = values-stop-next c.args.kinds.now c.loop-kind.kind-index _ _ c.args.bytes.now c.loop-kind.values c.loop-kind.left.now c.loop-kind-test.true refl c.loop-kind.invariant (rw c.in-None.is at c.in_ok-next_value.ensures)

pub loop-kind-preserved : goal.loop-kind-preserved
loop-kind-preserved c =
    rw c.in_ok-push-in-Some.ensures.ok
    (values-next c.args.kinds.now c.loop-kind.kind-index _ _ c.args.bytes.now c.loop-kind.values c.loop-kind.left.now c.in-Some.value c.in-Some.rest.now c.loop-kind-test.true refl c.loop-kind.invariant (rw c.in-Some.is at c.in_ok-next_value.ensures))

pub returns-then-is_nothing : goal.returns-then-is_nothing
returns-then-is_nothing c =
    values-whole c.args.kinds.now c.args.bytes.now c.loop-kind.values c.loop-kind.left.now
    (values-end-at c.args.kinds.now c.loop-kind.kind-index c.args.bytes.now c.loop-kind.values c.loop-kind.left.now c.loop-kind-test.false c.loop-kind.invariant) (c.is_nothing.ensures.0 c.if-is_nothing.true)

pub returns-else-is_nothing : goal.returns-else-is_nothing
returns-else-is_nothing c =
    values-full c.args.kinds.now c.args.bytes.now c.loop-kind.values c.loop-kind.left.now
    (values-end-at c.args.kinds.now c.loop-kind.kind-index c.args.bytes.now c.loop-kind.values c.loop-kind.left.now c.loop-kind-test.false c.loop-kind.invariant)
    (λ e. let t : c.is_nothing.result ≡ true = c.is_nothing.ensures.1 e in let f = c.if-is_nothing.false in absurd (cc))
