-- Input by input, from stage to stage.
use Rattle.std.proofs.Common.{sym, ap, ◌∙◌, slice_get, arith, ◌+◌, drop, get_or}
use Rattle.lola_model.specs.Store.{kind_in}
use Rattle.lola_step.specs.Inputs.{input_outcome_at}
use Rattle.lola_step.specs.Schedules.{has_duty}
use Rattle.lola_step.specs.Steps.{is_input_outcome}
use Rattle.lola_step.specs.declared.schedule.Duty.TheVariants as duty
use Rattle.lola_step.proofs.Between.{told_end, told_duty}
use Rattle.lola_step.proofs.Shown.{goes_on_same}
use Rattle.lola_step.proofs.Telling.{AreTold, before_first, kind_of_input, one_instance, one_more_told, silent_before}
use Rattle.lola_step.proofs.Duties.{walk_first, walk_on}
use Rattle.lola_step.proofs.inputs.tell_inputs.Goals as goal

pub loop-number-init : goal.loop-number-init
loop-number-init g c =
    let plan = c.args.plan.now in
    let remembers = g.S.StreamStore.remembers c.args.store.now in
    let s = g.S.StreamStore.seen c.args.store.now in
    record {
      counted = omega arith;
      walk = walk_first (has_duty plan duty.Input) plan.spec.streams (λ n. AreTold plan c.args.is_row c.args.inputs.now n 0 remembers s remembers s) c.args.duties.now c.requires.duties (record {
        input_is = sym (before_first plan.spec.streams);
        at = c.requires.at;
        goes_on = goes_on_same s;
        takes = λ names rows step run reads begins. begins;
      });
    }

pub tell-requires-clause-running : goal.tell-requires-clause-running
tell-requires-clause-running g c = (told_duty c.args.plan.now c.requires.accepted c.args.is_row c.args.inputs.now c.requires.inputs c.loop-number.input (g.S.StreamStore.remembers c.args.store.now) (g.S.StreamStore.seen c.args.store.now) (g.S.StreamStore.remembers c.loop-number.store) (g.S.StreamStore.seen c.loop-number.store) c.args.duties.now c.loop-number.number-index c.loop-number.invariant.walk c.loop-number-test.true).holds.at.running

pub tell-requires-clause-index : goal.tell-requires-clause-index
tell-requires-clause-index g c =
    let t = told_duty c.args.plan.now c.requires.accepted c.args.is_row c.args.inputs.now c.requires.inputs c.loop-number.input (g.S.StreamStore.remembers c.args.store.now) (g.S.StreamStore.seen c.args.store.now) (g.S.StreamStore.remembers c.loop-number.store) (g.S.StreamStore.seen c.loop-number.store) c.args.duties.now c.loop-number.number-index c.loop-number.invariant.walk c.loop-number-test.true in
    one_instance c.args.plan.now c.requires.accepted (get_or c.args.duties.now c.loop-number.number-index 0) t.at t.is (g.S.StreamStore.seen c.loop-number.store) t.holds.at t.passes

pub tell-requires-clause-silent : goal.tell-requires-clause-silent
tell-requires-clause-silent g c =
    let t = told_duty c.args.plan.now c.requires.accepted c.args.is_row c.args.inputs.now c.requires.inputs c.loop-number.input (g.S.StreamStore.remembers c.args.store.now) (g.S.StreamStore.seen c.args.store.now) (g.S.StreamStore.remembers c.loop-number.store) (g.S.StreamStore.seen c.loop-number.store) c.args.duties.now c.loop-number.number-index c.loop-number.invariant.walk c.loop-number-test.true in
    silent_before c.args.plan.now c.requires.accepted (get_or c.args.duties.now c.loop-number.number-index 0) t.at t.is (g.S.StreamStore.seen c.loop-number.store) t.holds.at t.passes

pub tell-requires-clause-kind : goal.tell-requires-clause-kind
tell-requires-clause-kind g c =
    let n = get_or c.args.duties.now c.loop-number.number-index 0 in
    let t = told_duty c.args.plan.now c.requires.accepted c.args.is_row c.args.inputs.now c.requires.inputs c.loop-number.input (g.S.StreamStore.remembers c.args.store.now) (g.S.StreamStore.seen c.args.store.now) (g.S.StreamStore.remembers c.loop-number.store) (g.S.StreamStore.seen c.loop-number.store) c.args.duties.now c.loop-number.number-index c.loop-number.invariant.walk c.loop-number-test.true in
    let s = g.S.StreamStore.seen c.loop-number.store in
    let is = c.outcome_at.ensures ∙ ap (input_outcome_at c.args.inputs.now) t.holds.input_is in
    ap (is_input_outcome (kind_in (slice_get s.layout.streams n))) is
    ∙ kind_of_input c.args.plan.now c.requires.accepted n t.at t.is s c.args.is_row c.args.inputs.now t.holds.at c.requires.inputs t.passes

pub loop-number-preserved : goal.loop-number-preserved
loop-number-preserved g c =
    let plan = c.args.plan.now in
    let n = get_or c.args.duties.now c.loop-number.number-index 0 in
    let t = told_duty c.args.plan.now c.requires.accepted c.args.is_row c.args.inputs.now c.requires.inputs c.loop-number.input (g.S.StreamStore.remembers c.args.store.now) (g.S.StreamStore.seen c.args.store.now) (g.S.StreamStore.remembers c.loop-number.store) (g.S.StreamStore.seen c.loop-number.store) c.args.duties.now c.loop-number.number-index c.loop-number.invariant.walk c.loop-number-test.true in
    record {
      counted = ap (λ k. k + 1) c.loop-number.invariant.counted;
      walk = walk_on (has_duty plan duty.Input) plan.spec.streams _ _ n (drop (c.loop-number.number-index + 1) c.args.duties.now) t
          (one_more_told plan c.requires.accepted c.args.is_row c.args.inputs.now c.requires.inputs n c.loop-number.input t.at t.is
          (g.S.StreamStore.remembers c.args.store.now) (g.S.StreamStore.seen c.args.store.now) (g.S.StreamStore.remembers c.loop-number.store) (g.S.StreamStore.seen c.loop-number.store) t.holds
          (g.S.StreamStore.remembers c.tell.new.store) (g.S.StreamStore.seen c.tell.new.store) c.outcome_at.result t.passes c.outcome_at.ensures c.tell.ensures.seen c.tell.ensures.stands);
    }

pub returns : goal.returns
returns g c =
    let e = told_end c.args.plan.now c.requires.accepted c.args.is_row c.args.inputs.now c.requires.inputs c.loop-number.input (g.S.StreamStore.remembers c.args.store.now) (g.S.StreamStore.seen c.args.store.now) (g.S.StreamStore.remembers c.loop-number.store) (g.S.StreamStore.seen c.loop-number.store) c.args.duties.now c.loop-number.number-index c.loop-number.invariant.walk (omega arith) in
    record { at = e.at; goes_on = e.goes_on; takes = e.takes }
