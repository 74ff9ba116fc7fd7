use Rattle.std.proofs.Common.{◌∙◌, ◌+◌, Some, None, arith, drop, get_or, length, refl}
use Rattle.lola_step.specs.Schedules.{has_duty}
use Rattle.lola_step.specs.declared.schedule.Duty.TheVariants as duty
use Rattle.lola_step.proofs.Between.{AreFoundBelow, found_end, found_first, found_duty}
use Rattle.lola_step.proofs.Conditions.{finds_closings, found_all, found_fault, found_stream}
use Rattle.lola_step.proofs.Standing.{room_there}
use Rattle.lola_step.proofs.Duties.{walk_first, walk_on}
use Rattle.lola_step.proofs.closes.find_closings.Goals as goal

pub loop-number-init : goal.loop-number-init
loop-number-init g c =
    let plan = c.args.plan.now in
    let m = c.args.moment.now in
    let remembers = g.S.StreamStore.remembers c.args.store.now in
    let s = g.S.StreamStore.seen c.args.store.now in
    record {
      walk = walk_first (has_duty plan duty.Close) plan.spec.streams (AreFoundBelow plan m remembers s c.args.closing.now) c.args.duties.now c.requires.duties
          (found_first plan m remembers s c.args.closing.now c.requires.none);
      capacity = refl;
    }

pub stream_at-stream-requires : goal.stream_at-stream-requires
stream_at-stream-requires g c = (found_duty c.args.plan.now c.args.moment.now (g.S.StreamStore.remembers c.args.store.now) (g.S.StreamStore.seen c.args.store.now) c.loop-number.closing c.args.duties.now c.loop-number.number-index c.loop-number.invariant.walk c.loop-number-test.true).below

pub find_in_stream-requires-clause-closable : goal.find_in_stream-requires-clause-closable
find_in_stream-requires-clause-closable g c = (found_duty c.args.plan.now c.args.moment.now (g.S.StreamStore.remembers c.args.store.now) (g.S.StreamStore.seen c.args.store.now) c.loop-number.closing c.args.duties.now c.loop-number.number-index c.loop-number.invariant.walk c.loop-number-test.true).holds.closable

pub find_in_stream-requires-clause-room : goal.find_in_stream-requires-clause-room
find_in_stream-requires-clause-room g c =
    let t = found_duty c.args.plan.now c.args.moment.now (g.S.StreamStore.remembers c.args.store.now) (g.S.StreamStore.seen c.args.store.now) c.loop-number.closing c.args.duties.now c.loop-number.number-index c.loop-number.invariant.walk c.loop-number-test.true in
    omega (arith, room_there (g.S.StreamStore.seen c.args.store.now) (get_or c.args.duties.now c.loop-number.number-index 0), t.holds.count, c.loop-number.invariant.capacity)

pub returns-in-Some-clause-closable : goal.returns-in-Some-clause-closable
returns-in-Some-clause-closable g c = c.in-Some.ensures.closable.closable

pub returns-in-Some-clause-finds : goal.returns-in-Some-clause-finds
returns-in-Some-clause-finds g c =
    let plan = c.args.plan.now in
    let m = c.args.moment.now in
    let remembers = g.S.StreamStore.remembers c.args.store.now in
    let s = g.S.StreamStore.seen c.args.store.now in
    let n = get_or c.args.duties.now c.loop-number.number-index 0 in
    let new = c.find_in_stream.new.closing.items in
    let t = found_duty c.args.plan.now c.args.moment.now (g.S.StreamStore.remembers c.args.store.now) (g.S.StreamStore.seen c.args.store.now) c.loop-number.closing c.args.duties.now c.loop-number.number-index c.loop-number.invariant.walk c.loop-number-test.true in
    finds_closings plan c.requires.accepted m remembers s c.requires.of (Some (n, c.in-Some.kind)) new
    (found_fault plan m remembers s n c.stream_at-stream.result.now c.stream_at-stream.ensures c.loop-number.closing.items new t.holds.found c.in-Some.kind c.in-Some.ensures.finds)

pub loop-number-preserved : goal.loop-number-preserved
loop-number-preserved g c =
    let plan = c.args.plan.now in
    let m = c.args.moment.now in
    let remembers = g.S.StreamStore.remembers c.args.store.now in
    let s = g.S.StreamStore.seen c.args.store.now in
    let n = get_or c.args.duties.now c.loop-number.number-index 0 in
    let new = c.find_in_stream.new.closing in
    let t = found_duty c.args.plan.now c.args.moment.now (g.S.StreamStore.remembers c.args.store.now) (g.S.StreamStore.seen c.args.store.now) c.loop-number.closing c.args.duties.now c.loop-number.number-index c.loop-number.invariant.walk c.loop-number-test.true in
    record {
      walk = walk_on (has_duty plan duty.Close) plan.spec.streams (AreFoundBelow plan m remembers s c.loop-number.closing) (AreFoundBelow plan m remembers s new)
          n (drop (c.loop-number.number-index + 1) c.args.duties.now) t (record {
            closable = c.find_in_stream.ensures.closable;
            found = found_stream plan m remembers s n c.stream_at-stream.result.now c.stream_at-stream.ensures c.loop-number.closing.items new.items t.holds.found c.in_default.ensures.finds;
            count = omega (arith, c.find_in_stream.ensures.count, room_there s n, t.holds.count);
          });
      capacity = c.find_in_stream.ensures.capacity ∙ c.loop-number.invariant.capacity;
    }

pub returns-clause-closable : goal.returns-clause-closable
returns-clause-closable g c = (found_end c.args.plan.now c.args.moment.now (g.S.StreamStore.remembers c.args.store.now) (g.S.StreamStore.seen c.args.store.now) c.loop-number.closing c.args.duties.now c.loop-number.number-index c.loop-number.invariant.walk (omega arith)).closable.closable

pub returns-clause-finds : goal.returns-clause-finds
returns-clause-finds g c =
    let plan = c.args.plan.now in
    let m = c.args.moment.now in
    let remembers = g.S.StreamStore.remembers c.args.store.now in
    let s = g.S.StreamStore.seen c.args.store.now in
    let e = found_end c.args.plan.now c.args.moment.now (g.S.StreamStore.remembers c.args.store.now) (g.S.StreamStore.seen c.args.store.now) c.loop-number.closing c.args.duties.now c.loop-number.number-index c.loop-number.invariant.walk (omega arith) in
    finds_closings plan c.requires.accepted m remembers s c.requires.of None c.loop-number.closing.items
    (found_all plan m remembers s (length plan.spec.streams) c.loop-number.closing.items (omega arith) e.found)
