use Rattle.std.proofs.Common.{◌≡◌, ◌∙◌, ◌<◌, ◌≤◌, ◌+◌, ◌∷◌, ap, arith, drop, get_or, length, length-append, refl, sym, vec_len}
use Rattle.lola_step.specs.Notes.{layer_tasks, stream_tasks}
use Rattle.lola_step.specs.Rooms.{rooms}
use Rattle.lola_step.specs.Schedules.{has_duty}
use Rattle.lola_step.specs.declared.schedule.Duty.TheVariants as duty
use Rattle.lola_step.proofs.Between.{AreGathered, gathered_end, gathered_first, gathered_duty, has_duty_there}
use Rattle.lola_step.proofs.Elements.{cut}
use Rattle.lola_step.proofs.Gathering.{all_rooms, gathers_spans, gathers_tasks, layer_fits}
use Rattle.lola_step.proofs.Layouts.{layouts_length, pacings_length}
use Rattle.lola_step.proofs.Single.{never_local, no_clause}
use Rattle.lola_step.proofs.Standing.{room_alone}
use Rattle.lola_step.proofs.Duties.{walk_first, walk_on}
use Rattle.lola_step.proofs.evals.gather.Goals as goal

pub loop-number-init : goal.loop-number-init
loop-number-init g c =
    let plan = c.args.plan.now in
    record {
      walk = walk_first (has_duty plan (duty.Eval c.args.layer)) plan.spec.streams
          (AreGathered plan c.args.moment.now c.args.spawn_results.now c.args.sought.now (g.S.StreamStore.seen c.args.store.now) c.args.layer
          c.args.tasks.now.items c.args.spans.now c.args.tasks.now.items c.args.spans.now)
          c.args.duties.now c.requires.duties
          (gathered_first plan c.args.moment.now c.args.spawn_results.now c.args.sought.now (g.S.StreamStore.seen c.args.store.now) c.args.layer c.args.tasks.now.items c.args.spans.now);
      known = c.requires.known;
      places_room = refl;
      tasks_room = refl;
    }

pub stream_at-requires : goal.stream_at-requires
stream_at-requires g c = (gathered_duty c.args.plan.now c.args.moment.now c.args.spawn_results.now c.args.sought.now (g.S.StreamStore.seen c.args.store.now) c.args.layer c.args.tasks.now.items c.args.spans.now c.loop-number.tasks.items c.loop-number.spans (c.loop-number.auto.spans ∙ c.requires.spans) c.args.duties.now c.loop-number.number-index c.loop-number.invariant.walk c.loop-number-test.true).below

pub gather_stream-requires : goal.gather_stream-requires
gather_stream-requires g c =
    let plan = c.args.plan.now in
    let m = c.args.moment.now in
    let spawn_results = c.args.spawn_results.now in
    let sought = c.args.sought.now in
    let layer = c.args.layer in
    let streams = plan.spec.streams in
    let n = get_or c.args.duties.now c.loop-number.number-index 0 in
    let x = c.stream_at.result.now in
    let seen = g.S.StreamStore.seen c.args.store.now in
    let t = gathered_duty c.args.plan.now c.args.moment.now c.args.spawn_results.now c.args.sought.now (g.S.StreamStore.seen c.args.store.now) c.args.layer c.args.tasks.now.items c.args.spans.now c.loop-number.tasks.items c.loop-number.spans (c.loop-number.auto.spans ∙ c.requires.spans) c.args.duties.now c.loop-number.number-index c.loop-number.invariant.walk c.loop-number-test.true in
    let within : n < length streams = t.below in
    let at : drop n streams ≡ x ∷ drop (n + 1) streams = cut streams n x c.stream_at.ensures in
    let all = layer_tasks plan m spawn_results sought seen layer 0 streams in
    let rest = layer_tasks plan m spawn_results sought seen layer n (drop n streams) in
    let now = stream_tasks plan m spawn_results sought seen layer n x in
    let fits = layer_fits plan m spawn_results sought seen layer 0 streams (rooms seen) (omega arith) (all_rooms plan m spawn_results sought seen layer c.requires.of.streams) in
    let few : length now ≤ length rest =
    omega (arith, ap (λ xs. length (layer_tasks plan m spawn_results sought seen layer n xs)) at, length-append now (layer_tasks plan m spawn_results sought seen layer (n + 1) (drop (n + 1) streams))) in
    let counted : length c.loop-number.tasks.items + length rest ≡ length c.args.tasks.now.items + length all =
    sym (length-append c.loop-number.tasks.items rest) ∙ (ap length t.holds.tasks ∙ length-append c.args.tasks.now.items all) in
    record {
      few = omega (arith, within, c.requires.accepted.named.few_streams);
      duty = has_duty_there plan (duty.Eval layer) n t.at x t.is c.stream_at.ensures t.passes;
      pacings = omega (arith, within, pacings_length plan c.requires.accepted);
      spawn_results = omega (arith, within, c.requires.spawn_results);
      in_time = omega (arith, c.requires.moment.time_is, c.requires.of.in_time);
      order = omega (arith, c.requires.moment.time_is, c.requires.moment.start_is, c.requires.of.order);
      single = λ none. (never_local plan seen c.requires.of.layout n x c.stream_at.ensures c.requires.accepted c.requires.of none, c.requires.of.single n x c.stream_at.ensures (no_clause x.spawn none));
      spans = omega (arith, within, c.loop-number.auto.spans, c.requires.spans);
      known = c.loop-number.invariant.known;
      store = omega (arith, within, ap (λ l. length l.streams) c.requires.of.layout, layouts_length streams plan.kept plan.pacings);
      places_room = omega (arith, room_alone seen n, c.loop-number.invariant.places_room, c.requires.places_room);
      tasks_room = omega (arith, counted, few, fits, c.loop-number.tasks.ok.0, c.args.tasks.now.ok.0, c.loop-number.invariant.tasks_room, c.requires.tasks_room);
    }

pub loop-number-preserved : goal.loop-number-preserved
loop-number-preserved g c =
    let plan = c.args.plan.now in
    let m = c.args.moment.now in
    let spawn_results = c.args.spawn_results.now in
    let sought = c.args.sought.now in
    let layer = c.args.layer in
    let streams = plan.spec.streams in
    let n = get_or c.args.duties.now c.loop-number.number-index 0 in
    let x = c.stream_at.result.now in
    let seen = g.S.StreamStore.seen c.args.store.now in
    let t = gathered_duty c.args.plan.now c.args.moment.now c.args.spawn_results.now c.args.sought.now (g.S.StreamStore.seen c.args.store.now) c.args.layer c.args.tasks.now.items c.args.spans.now c.loop-number.tasks.items c.loop-number.spans (c.loop-number.auto.spans ∙ c.requires.spans) c.args.duties.now c.loop-number.number-index c.loop-number.invariant.walk c.loop-number-test.true in
    let at : drop n streams ≡ x ∷ drop (n + 1) streams = cut streams n x c.stream_at.ensures in
    let P = AreGathered plan m spawn_results sought seen layer c.args.tasks.now.items c.args.spans.now c.loop-number.tasks.items c.loop-number.spans in
    let Q = AreGathered plan m spawn_results sought seen layer c.args.tasks.now.items c.args.spans.now c.gather_stream.new.tasks.items c.gather_stream.new.spans in
    record {
      walk = walk_on (has_duty plan (duty.Eval layer)) streams P Q n (drop (c.loop-number.number-index + 1) c.args.duties.now) t (record {
        tasks = gathers_tasks plan m spawn_results sought seen layer n x streams _ _ _ at c.gather_stream.ensures.tasks t.holds.tasks;
        noted = gathers_spans plan m spawn_results sought seen layer n x streams (length c.loop-number.tasks.items) (length c.gather_stream.new.tasks.items)
            (vec_len c.loop-number.tasks) c.loop-number.spans c.gather_stream.new.spans _
            (omega (arith, t.below, c.loop-number.auto.spans, c.requires.spans)) at
            (ap length c.gather_stream.ensures.tasks ∙ length-append c.loop-number.tasks.items (stream_tasks plan m spawn_results sought seen layer n x))
            c.loop-number.tasks.ok.0 c.gather_stream.ensures.spans t.holds.noted;
      });
      known = c.gather_stream.ensures.known;
      places_room = c.gather_stream.ensures.places ∙ c.loop-number.invariant.places_room;
      tasks_room = c.gather_stream.ensures.capacity ∙ c.loop-number.invariant.tasks_room;
    }

pub returns : goal.returns
returns g c =
    let plan = c.args.plan.now in
    let m = c.args.moment.now in
    let spawn_results = c.args.spawn_results.now in
    let sought = c.args.sought.now in
    let seen = g.S.StreamStore.seen c.args.store.now in
    let all = gathered_end plan m spawn_results sought seen c.args.layer c.args.tasks.now.items c.args.spans.now c.loop-number.tasks.items c.loop-number.spans
    (c.loop-number.auto.spans ∙ c.requires.spans) c.args.duties.now c.loop-number.number-index c.loop-number.invariant.walk (omega arith) in
    record {
      known = c.loop-number.invariant.known;
      tasks = all.tasks;
      spans = all.noted;
      places = c.loop-number.invariant.places_room;
      capacity = c.loop-number.invariant.tasks_room;
    }
