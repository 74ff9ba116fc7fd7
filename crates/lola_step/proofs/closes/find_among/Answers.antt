use Rattle.std.proofs.Common.{◌∙◌, ◌<◌, Some, arith, length, refl}
use Rattle.lola_model.specs.Store.{instances_seen}
use Rattle.lola_step.proofs.Closable.{up_to_noted, up_to_stream}
use Rattle.lola_step.proofs.Conditions.{found_among, found_next}
use Rattle.lola_step.proofs.closes.find_among.Goals as goal

pub loop-index-preserved : goal.loop-index-preserved
loop-index-preserved g c =
    let s = g.S.StreamStore.seen c.args.store.now in
    let n = c.args.stream in
    let i = c.loop-index.index in
    let below : i < length (instances_seen s n) = omega arith in
    record {
      closable = up_to_noted s n i c.loop-index.closing.items c.loop-index.invariant.closable c.close_condition-condition.result c.note_condition-least.new.closing.items
          c.note_condition-least.ensures.closing c.requires.spawns below;
      found = found_next c.args.plan.now c.args.moment.now c.args.pacing.now (g.S.StreamStore.remembers c.args.store.now) s (Some c.args.clause.now) n c.requires.layout i below c.close_condition-condition.result
          c.loop-index.least c.note_condition-least.result c.args.closing.now.items c.loop-index.closing.items c.note_condition-least.new.closing.items
          c.close_condition-condition.ensures c.note_condition-least.ensures.least c.note_condition-least.ensures.closing c.loop-index.invariant.found;
      count = omega (arith, c.note_condition-least.ensures.count, c.loop-index.invariant.count);
      capacity = c.note_condition-least.ensures.capacity ∙ c.loop-index.invariant.capacity;
    }

pub loop-index-init : goal.loop-index-init
loop-index-init g c = record {
  closable = c.requires.closable;
  found = λ names content shown. (refl, refl);
  count = omega arith;
  capacity = refl;
}

pub close_condition-condition-requires-clause-lives : goal.close_condition-condition-requires-clause-lives
close_condition-condition-requires-clause-lives g c = omega (arith, c.loop-index-test.true, c.instances-index-end.ensures)

pub note_condition-least-requires : goal.note_condition-least-requires
note_condition-least-requires g c =
    let below : c.loop-index.index < length (instances_seen (g.S.StreamStore.seen c.args.store.now) c.args.stream) = omega (arith, c.loop-index-test.true, c.instances-index-end.ensures) in
    record { room = omega (arith, below, c.loop-index.invariant.count, c.loop-index.invariant.capacity, c.requires.room) }

pub returns-clause-closable : goal.returns-clause-closable
returns-clause-closable g c = up_to_stream (g.S.StreamStore.seen c.args.store.now) c.args.stream c.loop-index.index c.loop-index.closing.items c.loop-index.invariant.closable

pub returns-clause-finds : goal.returns-clause-finds
returns-clause-finds g c =
    found_among c.args.plan.now c.args.moment.now c.args.pacing.now (g.S.StreamStore.remembers c.args.store.now) (g.S.StreamStore.seen c.args.store.now) (Some c.args.clause.now) c.args.stream
    c.loop-index.index c.loop-index.least c.args.closing.now.items c.loop-index.closing.items (omega (arith, c.loop-index-test.false, c.instances-index-end.ensures)) c.loop-index.invariant.found

pub returns-clause-count : goal.returns-clause-count
returns-clause-count g c = omega (arith, c.loop-index.auto.index-end, c.instances-index-end.ensures, c.loop-index.invariant.count)

pub returns-clause-capacity : goal.returns-clause-capacity
returns-clause-capacity g c = c.loop-index.invariant.capacity
