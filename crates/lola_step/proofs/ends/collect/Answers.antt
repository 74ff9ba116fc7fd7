use Rattle.std.proofs.Common.{◌∙◌, ◌+◌, ap, arith, drop, get_or, length, refl, slice_get}
use Rattle.std.proofs.lemmas.Option.{slice_get-get_or}
use Rattle.lola_model.specs.Named.{is_well_shaped}
use Rattle.lola_model.specs.Store.{Layout, parameters_of}
use Rattle.lola_step_contents.proofs.Shapes.{passes_at}
use Rattle.lola_step.specs.Notes.{IsSpan}
use Rattle.lola_step.specs.Schedules.{has_duty}
use Rattle.lola_step.specs.Scratches.{no_span}
use Rattle.lola_step.specs.declared.schedule.Duty.TheVariants as duty
use Rattle.lola_step.proofs.Between.{AreCollected, collected_end, collected_next, collected_duty, has_duty_there}
use Rattle.lola_step.proofs.Layouts.{parameters_there}
use Rattle.lola_step.proofs.Single.{spawns_here, without}
use Rattle.lola_step.proofs.Standing.{room_there}
use Rattle.lola_step.proofs.Duties.{IsDuty, walk_on}
use Rattle.lola_step.proofs.Valued.{collects_end, step_values_end}
use Rattle.lola_step.proofs.ends.collect.Goals as goal
use Rattle.lola_step.proofs.ends.collect.Goals.{In-loop-number}

-- the next of the streams, and what holds of those before it
next : (g : _) (c : In-loop-number g)
    → IsDuty (has_duty c.args.plan.now (duty.Shown c.args._show)) c.args.plan.now.spec.streams
    (AreCollected c.args.plan.now c.args._show (g.S.StreamStore.seen c.args.store.now) c.args.tasks.now c.args.results.now c.args.spans.now c.loop-number.step_values)
    (get_or c.args.duties.now c.loop-number.number-index 0) (drop (c.loop-number.number-index + 1) c.args.duties.now)
next g c =
    collected_duty c.args.plan.now c.args._show (g.S.StreamStore.seen c.args.store.now) c.args.tasks.now c.args.results.now c.args.spans.now c.requires.spans c.loop-number.step_values c.args.duties.now
    c.loop-number.number-index c.loop-number.invariant.walk c.loop-number-test.true

-- its span
here : (g : _) (c : In-loop-number g)
    → IsSpan (g.S.StreamStore.seen c.args.store.now) c.args.tasks.now c.args.results.now (get_or c.args.duties.now c.loop-number.number-index 0)
    (get_or c.args.spans.now (get_or c.args.duties.now c.loop-number.number-index 0) no_span)
here g c =
    let n = get_or c.args.duties.now c.loop-number.number-index 0 in
    let below = (next g c).below in
    c.requires.within n _ (slice_get-get_or c.args.spans.now n no_span (omega (arith, below, c.requires.spans)))

pub stream_at-stream-requires : goal.stream_at-stream-requires
stream_at-stream-requires g c = (next g (goal.at.stream_at-stream-requires g c).In-loop-number).below

pub bounds-spans-number : goal.bounds-spans-number
bounds-spans-number g c = omega (arith, (next g (goal.at.bounds-spans-number g c).In-loop-number).below, c.requires.spans)

pub add_asked-requires-clause-spawns : goal.add_asked-requires-clause-spawns
add_asked-requires-clause-spawns g c =
    spawns_here c.args.plan.now (g.S.StreamStore.seen c.args.store.now) c.requires.of.layout (get_or c.args.duties.now c.loop-number.number-index 0) c.stream_at-stream.result.now
    c.stream_at-stream.ensures

pub add_asked-requires-clause-unnamed : goal.add_asked-requires-clause-unnamed
add_asked-requires-clause-unnamed g c none =
    let plan = c.args.plan.now in
    let n = get_or c.args.duties.now c.loop-number.number-index 0 in
    let x = c.stream_at-stream.result.now in
    ap (λ (l : Layout). parameters_of (slice_get l.streams n)) c.requires.of.layout
    ∙ (parameters_there plan.spec.streams plan.kept plan.pacings n x c.stream_at-stream.ensures
    ∙ without x (passes_at is_well_shaped plan.spec.streams n x c.requires.accepted.named.shapes c.stream_at-stream.ensures) none)

pub add_asked-requires-clause-within : goal.add_asked-requires-clause-within
add_asked-requires-clause-within g c = (here g (goal.at.add_asked-requires-clause-within g c).In-loop-number).within

pub add_asked-requires-clause-asked : goal.add_asked-requires-clause-asked
add_asked-requires-clause-asked g c = (here g (goal.at.add_asked-requires-clause-asked g c).In-loop-number).asked

pub add_asked-requires-clause-room : goal.add_asked-requires-clause-room
add_asked-requires-clause-room g c =
    let at = (goal.at.add_asked-requires-clause-room g c).In-loop-number in
    omega (
      arith,
      (here g at).few,
      room_there (g.S.StreamStore.seen c.args.store.now) (get_or c.args.duties.now c.loop-number.number-index 0),
      (next g at).holds.count,
      c.loop-number.invariant.capacity,
    )

pub loop-number-preserved : goal.loop-number-preserved
loop-number-preserved g c =
    let plan = c.args.plan.now in
    let show = c.args._show in
    let s = g.S.StreamStore.seen c.args.store.now in
    let n = get_or c.args.duties.now c.loop-number.number-index 0 in
    let at = (goal.at.loop-number-preserved g c).In-loop-number in
    let t = next g at in
    let x = c.stream_at-stream.result.now in
    record {
      walk = walk_on (has_duty plan (duty.Shown show)) plan.spec.streams _ _ n (drop (c.loop-number.number-index + 1) c.args.duties.now) t
          (collected_next plan show s c.args.tasks.now c.args.results.now c.args.spans.now c.requires.spans c.loop-number.step_values c.add_asked.new.step_values n x _ c.stream_at-stream.ensures
          (has_duty_there plan (duty.Shown show) n t.at x t.is c.stream_at-stream.ensures t.passes) refl c.add_asked.ensures.items
          (omega (arith, c.add_asked.ensures.count, (here g at).few, room_there s n, t.holds.count)) t.holds);
      bare = c.add_asked.ensures.bare;
      fit = c.add_asked.ensures.fit c.loop-number.invariant.fit;
      capacity = c.add_asked.ensures.capacity ∙ c.loop-number.invariant.capacity;
    }

pub returns-clause-step_values : goal.returns-clause-step_values
returns-clause-step_values g c =
    let plan = c.args.plan.now in
    let s = g.S.StreamStore.seen c.args.store.now in
    let all = collected_end plan c.args._show s c.args.tasks.now c.args.results.now c.args.spans.now c.requires.spans c.loop-number.step_values c.args.duties.now c.loop-number.number-index c.loop-number.invariant.walk (omega arith) in
    step_values_end plan c.args._show c.args.spans.now c.args.tasks.now c.args.results.now s (length plan.spec.streams) c.loop-number.step_values.items all.items (omega arith)
    c.requires.of.layout c.requires.within c.loop-number.invariant.fit

pub returns-clause-values : goal.returns-clause-values
returns-clause-values g c =
    let plan = c.args.plan.now in
    let s = g.S.StreamStore.seen c.args.store.now in
    let all = collected_end plan c.args._show s c.args.tasks.now c.args.results.now c.args.spans.now c.requires.spans c.loop-number.step_values c.args.duties.now c.loop-number.number-index c.loop-number.invariant.walk (omega arith) in
    collects_end plan c.args._show c.args.spans.now c.args.tasks.now c.args.results.now s (length plan.spec.streams) c.loop-number.step_values.items all.items (omega arith)
    (g.S.StreamStore.remembers c.args.store.now) c.requires.accepted c.requires.of.layout c.requires.spans
