use Rattle.std.proofs.Common.{◌+◌, arith, drop, get_or, length}
use Rattle.lola_step.specs.Schedules.{has_duty}
use Rattle.lola_step.specs.declared.schedule.Duty.TheVariants as duty
use Rattle.lola_step.proofs.Between.{AreNotedBelow, has_duty_there, seek_evals, seek_has, sought_end, sought_first, sought_duty}
use Rattle.lola_step.proofs.Seeking.{sought_all, sought_next, unsought_set}
use Rattle.lola_step.proofs.Duties.{IsDuty, walk_first, walk_on}
use Rattle.lola_step.proofs.evals.seek_layer.Goals as goal
use Rattle.lola_step.proofs.evals.seek_layer.Goals.{In-loop-number}

-- the next of the streams, and what is noted of those before it
next : (g : _) (c : In-loop-number g)
    → IsDuty (has_duty c.args.plan.now (duty.Seek c.args.layer)) c.args.plan.now.spec.streams
    (AreNotedBelow c.args.plan.now c.args.moment.now c.args.spawn_results.now (g.S.StreamStore.remembers c.args.store.now) (g.S.StreamStore.seen c.args.store.now) c.args.layer c.loop-number.sought)
    (get_or c.args.duties.now c.loop-number.number-index 0) (drop (c.loop-number.number-index + 1) c.args.duties.now)
next g c =
    sought_duty c.args.plan.now c.args.moment.now c.args.spawn_results.now (g.S.StreamStore.remembers c.args.store.now) (g.S.StreamStore.seen c.args.store.now) c.args.layer c.loop-number.sought
    c.args.duties.now c.loop-number.number-index c.loop-number.invariant c.loop-number-test.true

pub loop-number-init : goal.loop-number-init
loop-number-init g c =
    let plan = c.args.plan.now in
    let remembers = g.S.StreamStore.remembers c.args.store.now in
    let s = g.S.StreamStore.seen c.args.store.now in
    walk_first (has_duty plan (duty.Seek c.args.layer)) plan.spec.streams (AreNotedBelow plan c.args.moment.now c.args.spawn_results.now remembers s c.args.layer c.args.sought.now)
    c.args.duties.now c.requires.duties (sought_first plan c.args.moment.now c.args.spawn_results.now remembers s c.args.layer c.args.sought.now c.requires.unsought)

pub stream_at-stream-requires : goal.stream_at-stream-requires
stream_at-stream-requires g c = (next g (goal.at.stream_at-stream-requires g c).In-loop-number).below

pub seek_stream-requires-clause-few : goal.seek_stream-requires-clause-few
seek_stream-requires-clause-few g c = omega (arith, (next g (goal.at.seek_stream-requires-clause-few g c).In-loop-number).below, c.requires.accepted.named.few_streams)

pub seek_stream-requires-clause-duty : goal.seek_stream-requires-clause-duty
seek_stream-requires-clause-duty g c =
    let n = get_or c.args.duties.now c.loop-number.number-index 0 in
    let x = c.stream_at-stream.result.now in
    let t = next g (goal.at.seek_stream-requires-clause-duty g c).In-loop-number in
    seek_evals c.args.plan.now c.args.layer n x (has_duty_there c.args.plan.now (duty.Seek c.args.layer) n t.at x t.is c.stream_at-stream.ensures t.passes)

pub bounds-sought-n : goal.bounds-sought-n
bounds-sought-n g c = omega (arith, (next g (goal.at.bounds-sought-n g c).In-loop-number).below, c.requires.sought, c.loop-number.auto.sought)

pub loop-number-preserved : goal.loop-number-preserved
loop-number-preserved g c =
    let plan = c.args.plan.now in
    let m = c.args.moment.now in
    let spawn_results = c.args.spawn_results.now in
    let remembers = g.S.StreamStore.remembers c.args.store.now in
    let s = g.S.StreamStore.seen c.args.store.now in
    let n = get_or c.args.duties.now c.loop-number.number-index 0 in
    let x = c.stream_at-stream.result.now in
    let t = next g (goal.at.loop-number-preserved g c).In-loop-number in
    let some = seek_has plan c.args.layer n x (has_duty_there plan (duty.Seek c.args.layer) n t.at x t.is c.stream_at-stream.ensures t.passes) in
    walk_on (has_duty plan (duty.Seek c.args.layer)) plan.spec.streams _ _ n (drop (c.loop-number.number-index + 1) c.args.duties.now) t (
      sought_next plan m spawn_results remembers s c.args.layer n x c.seek_stream.result c.loop-number.sought
          (omega (arith, t.below, c.requires.sought, c.loop-number.auto.sought)) c.stream_at-stream.ensures c.seek_stream.ensures t.holds.0,
      unsought_set plan n x c.seek_stream.result c.loop-number.sought c.stream_at-stream.ensures some t.holds.1,
    )

pub returns-clause-sought : goal.returns-clause-sought
returns-clause-sought g c =
    let plan = c.args.plan.now in
    let m = c.args.moment.now in
    let spawn_results = c.args.spawn_results.now in
    let remembers = g.S.StreamStore.remembers c.args.store.now in
    let s = g.S.StreamStore.seen c.args.store.now in
    sought_all plan m spawn_results remembers s c.args.layer (length plan.spec.streams) c.loop-number.sought (omega arith)
    (sought_end plan m spawn_results remembers s c.args.layer c.loop-number.sought c.args.duties.now c.loop-number.number-index c.loop-number.invariant (omega arith)).0

pub returns-clause-unsought : goal.returns-clause-unsought
returns-clause-unsought g c =
    let plan = c.args.plan.now in
    (sought_end plan c.args.moment.now c.args.spawn_results.now (g.S.StreamStore.remembers c.args.store.now) (g.S.StreamStore.seen c.args.store.now) c.args.layer c.loop-number.sought
    c.args.duties.now c.loop-number.number-index c.loop-number.invariant (omega arith)).1
