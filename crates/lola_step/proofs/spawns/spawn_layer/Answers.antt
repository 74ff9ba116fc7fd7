-- Stream by stream, from stage to stage.
use Rattle.std.proofs.Common.{◌≡◌, ◌∙◌, ◌+◌, arith, drop, get_or, length, sym}
use Rattle.std.proofs.lemmas.Option.{slice_get-get_or}
use Rattle.std.proofs.lemmas.Bool.{or_parts}
use Rattle.lola_step.specs.Found.{is_faulted}
use Rattle.lola_step.specs.Schedules.{has_duty}
use Rattle.lola_step.specs.declared.spawn_result.SpawnResult.TheVariants as spawn_result
use Rattle.lola_step.specs.declared.schedule.Duty.TheVariants as duty
use Rattle.lola_step.proofs.Activities.{moment_later}
use Rattle.lola_step.proofs.Between.{spawned_end, spawned_duty}
use Rattle.lola_step.proofs.Faultless.{fine_next}
use Rattle.lola_step.proofs.Shown.{goes_on_same}
use Rattle.lola_step.proofs.SpawnDuties.{AreSpawned, one_more_spawned}
use Rattle.lola_step.proofs.Duties.{walk_first, walk_on}
use Rattle.lola_step.proofs.spawns.spawn_layer.Goals as goal

pub loop-number-init : goal.loop-number-init
loop-number-init g c =
    let plan = c.args.plan.now in
    let remembers = g.S.StreamStore.remembers c.args.store.now in
    let s = g.S.StreamStore.seen c.args.store.now in
    record {
      fine = λ none fine. fine;
      walk = walk_first (has_duty plan (duty.Spawn c.args.layer)) plan.spec.streams (λ n. AreSpawned plan c.args.moment.now c.args.layer n c.args.spawn_results.now c.args.spawn_results.now remembers s remembers s)
          c.args.duties.now c.requires.duties (record {
            at = c.requires.at;
            goes_on = goes_on_same s;
            takes = λ names rows step run. run;
            with_spawn_results = λ names rows step run with_spawn_results. with_spawn_results;
          });
    }

pub stream_at-stream-requires : goal.stream_at-stream-requires
stream_at-stream-requires g c = (spawned_duty c.args.plan.now c.requires.accepted c.args.moment.now c.args.layer c.args.spawn_results.now c.loop-number.spawn_results (g.S.StreamStore.remembers c.args.store.now) (g.S.StreamStore.seen c.args.store.now) (g.S.StreamStore.remembers c.loop-number.store) (g.S.StreamStore.seen c.loop-number.store) (c.loop-number.auto.spawn_results ∙ c.requires.spawn_results) c.args.duties.now c.loop-number.number-index c.loop-number.invariant.walk c.loop-number-test.true).below

pub spawn_stream-spawn_result-requires-clause-at : goal.spawn_stream-spawn_result-requires-clause-at
spawn_stream-spawn_result-requires-clause-at g c = (spawned_duty c.args.plan.now c.requires.accepted c.args.moment.now c.args.layer c.args.spawn_results.now c.loop-number.spawn_results (g.S.StreamStore.remembers c.args.store.now) (g.S.StreamStore.seen c.args.store.now) (g.S.StreamStore.remembers c.loop-number.store) (g.S.StreamStore.seen c.loop-number.store) (c.loop-number.auto.spawn_results ∙ c.requires.spawn_results) c.args.duties.now c.loop-number.number-index c.loop-number.invariant.walk c.loop-number-test.true).holds.at

pub spawn_stream-spawn_result-requires-clause-moment : goal.spawn_stream-spawn_result-requires-clause-moment
spawn_stream-spawn_result-requires-clause-moment g c =
    let t = spawned_duty c.args.plan.now c.requires.accepted c.args.moment.now c.args.layer c.args.spawn_results.now c.loop-number.spawn_results (g.S.StreamStore.remembers c.args.store.now) (g.S.StreamStore.seen c.args.store.now) (g.S.StreamStore.remembers c.loop-number.store) (g.S.StreamStore.seen c.loop-number.store) (c.loop-number.auto.spawn_results ∙ c.requires.spawn_results) c.args.duties.now c.loop-number.number-index c.loop-number.invariant.walk c.loop-number-test.true in
    moment_later c.args.plan.now c.args.moment.now (g.S.StreamStore.seen c.args.store.now) c.requires.moment (g.S.StreamStore.seen c.loop-number.store) t.holds.goes_on

pub loop-number-preserved : goal.loop-number-preserved
loop-number-preserved g c =
    let plan = c.args.plan.now in
    let n = get_or c.args.duties.now c.loop-number.number-index 0 in
    let spawn_results = c.loop-number.spawn_results in
    let t = spawned_duty c.args.plan.now c.requires.accepted c.args.moment.now c.args.layer c.args.spawn_results.now c.loop-number.spawn_results (g.S.StreamStore.remembers c.args.store.now) (g.S.StreamStore.seen c.args.store.now) (g.S.StreamStore.remembers c.loop-number.store) (g.S.StreamStore.seen c.loop-number.store) (c.loop-number.auto.spawn_results ∙ c.requires.spawn_results) c.args.duties.now c.loop-number.number-index c.loop-number.invariant.walk c.loop-number-test.true in
    let long : length spawn_results ≡ length plan.spec.streams = c.loop-number.auto.spawn_results ∙ c.requires.spawn_results in
    record {
      fine = λ none fine.
          let p = or_parts (is_faulted c.spawn_stream-spawn_result.result) c.loop-number.failed (sym c.or_faulted-failed.ensures ∙ none) in
          fine_next spawn_results n c.spawn_stream-spawn_result.result (omega (arith, long, t.below)) p.0 (c.loop-number.invariant.fine p.1 fine);
      walk = walk_on (has_duty plan (duty.Spawn c.args.layer)) plan.spec.streams _ _ n (drop (c.loop-number.number-index + 1) c.args.duties.now) t
          (one_more_spawned plan c.args.moment.now c.args.layer n c.args.spawn_results.now spawn_results (g.S.StreamStore.remembers c.args.store.now) (g.S.StreamStore.seen c.args.store.now)
          (g.S.StreamStore.remembers c.loop-number.store) (g.S.StreamStore.seen c.loop-number.store) (g.S.StreamStore.remembers c.spawn_stream-spawn_result.new.store) (g.S.StreamStore.seen c.spawn_stream-spawn_result.new.store)
          (get_or spawn_results n spawn_result.Fine) c.spawn_stream-spawn_result.result t.holds long t.below (slice_get-get_or spawn_results n spawn_result.Fine (omega (arith, long, t.below))) c.spawn_stream-spawn_result.ensures);
    }

pub returns : goal.returns
returns g c = let e = spawned_end c.args.plan.now c.requires.accepted c.args.moment.now c.args.layer c.args.spawn_results.now c.loop-number.spawn_results (g.S.StreamStore.remembers c.args.store.now) (g.S.StreamStore.seen c.args.store.now) (g.S.StreamStore.remembers c.loop-number.store) (g.S.StreamStore.seen c.loop-number.store) (c.loop-number.auto.spawn_results ∙ c.requires.spawn_results) c.args.duties.now c.loop-number.number-index c.loop-number.invariant.walk (omega arith) in record { at = e.at; goes_on = e.goes_on; takes = e.takes; with_spawn_results = e.with_spawn_results; fine = c.loop-number.invariant.fine }
