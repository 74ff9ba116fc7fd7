use Rattle.std.proofs.Common.{◌≡◌, ◌+◌, ◌<◌, ◌≤◌, ◌^◌, length, drop, ap, arith}
use Rattle.lola_model.specs.Store.{instances_seen}
use Rattle.lola_step.specs.Scratches.{instances_to_come, of_streams}
use Rattle.lola_step.proofs.Counts.{counts_next, few_to_come, has_layout}
use Rattle.lola_step.proofs.scratch.count_instances.Goals as goal

pub instances-requires : goal.instances-requires
instances-requires g c =
    let e : length c.as_slice-n-end.result.now ≡ length c.args.plan.now.spec.streams = ap length c.as_slice-n-end.ensures in
    let lt : c.loop-n.n < length c.args.plan.now.spec.streams = omega (arith, c.loop-n-test.true, e) in
    has_layout c.args.plan.now (g.S.StreamStore.seen c.args.store.now) c.loop-n.n c.requires.of lt

pub overflow_add-count-in-loop-n : goal.overflow_add-count-in-loop-n
overflow_add-count-in-loop-n g c =
    let s = g.S.StreamStore.seen c.args.store.now in
    let e : length c.as_slice-n-end.result.now ≡ length c.args.plan.now.spec.streams = ap length c.as_slice-n-end.ensures in
    let f : length s.streams ≡ length c.args.plan.now.spec.streams = c.requires.of.streams in
    let lt : c.loop-n.n < length s.streams = omega (arith, c.loop-n-test.true, e, f) in
    let next : of_streams (drop c.loop-n.n s.streams) ≡ (length (instances_seen s c.loop-n.n) + 1) + of_streams (drop (c.loop-n.n + 1) s.streams) =
    counts_next s.streams c.loop-n.n lt in
    let few : instances_to_come s ≤ 2 ^ 30 = few_to_come c.args.plan.now s c.requires.of c.requires.accepted.named.few_streams in
    let so_far : c.loop-n.count + of_streams (drop c.loop-n.n s.streams) ≡ instances_to_come s = c.loop-n.invariant in
    let r : c.instances.result ≡ length (instances_seen s c.loop-n.n) = c.instances.ensures in
    omega (arith, next, few, so_far, r)

pub loop-n-preserved : goal.loop-n-preserved
loop-n-preserved g c =
    let s = g.S.StreamStore.seen c.args.store.now in
    let e : length c.as_slice-n-end.result.now ≡ length c.args.plan.now.spec.streams = ap length c.as_slice-n-end.ensures in
    let f : length s.streams ≡ length c.args.plan.now.spec.streams = c.requires.of.streams in
    let lt : c.loop-n.n < length s.streams = omega (arith, c.loop-n-test.true, e, f) in
    let next : of_streams (drop c.loop-n.n s.streams) ≡ (length (instances_seen s c.loop-n.n) + 1) + of_streams (drop (c.loop-n.n + 1) s.streams) =
    counts_next s.streams c.loop-n.n lt in
    let so_far : c.loop-n.count + of_streams (drop c.loop-n.n s.streams) ≡ instances_to_come s = c.loop-n.invariant in
    let r : c.instances.result ≡ length (instances_seen s c.loop-n.n) = c.instances.ensures in
    omega (arith, next, so_far, r)
