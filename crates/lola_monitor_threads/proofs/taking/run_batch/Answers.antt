use Rattle.std.proofs.Common.{◌∙◌, ap, sym, subst, refl}
use Rattle.lola_model.specs.Trace.{input_kinds}
use Rattle.lola_monitor_run.specs.Verdicts.{Setting}
use Rattle.lola_monitor_run.specs.Running.{keeping}
use Rattle.lola_monitor_threads.specs.Takings.{IsPartlyRun, place}
use Rattle.lola_monitor_threads.proofs.Entries.{RanSome, all_halts, all_run, next_halts, ran_more, ran_none, way_on, way_to_next}
use Rattle.lola_monitor_threads.proofs.taking.run_batch.Goals as goal

pub loop-entry-init : goal.loop-entry-init
loop-entry-init g c = record {
  kinds = c.requires.inputs;
  way = c.requires.under_way;
  ran = ran_none c.args.inputs.now.count (place (keeping c.args.run.now) (g.K.Sink.state c.args.out.now) (g.T.Sink.state c.args.trace.now)) c.args.batch.now;
  setting = refl;
}

pub test_entry-requires-clause-under_way : goal.test_entry-requires-clause-under_way
test_entry-requires-clause-under_way g c κs within =
    let now = place (keeping c.loop-entry.run) (g.K.Sink.state c.loop-entry.out) (g.T.Sink.state c.loop-entry.trace) in
    way_to_next now c.in-Some.entry c.pop_front.new.self (subst (IsPartlyRun now) c.in-Some.ensures.first c.loop-entry.invariant.way)

pub returns-in-Err-clause-halts : goal.returns-in-Err-clause-halts
returns-in-Err-clause-halts g c =
    let old = place (keeping c.args.run.now) (g.K.Sink.state c.args.out.now) (g.T.Sink.state c.args.trace.now) in
    let mid = place (keeping c.loop-entry.run) (g.K.Sink.state c.loop-entry.out) (g.T.Sink.state c.loop-entry.trace) in
    let new = place (keeping c.test_entry.new.run) (g.K.Sink.state c.test_entry.new.out) (g.T.Sink.state c.test_entry.new.trace) in
    next_halts c.in-Err.halt c.args.inputs.now.count old mid new c.args.batch.now c.in-Some.entry c.pop_front.new.self
    (subst (RanSome c.args.inputs.now.count old mid c.args.batch.now) c.in-Some.ensures.first c.loop-entry.invariant.ran) c.in-Err.ensures.halts

pub loop-entry-preserved : goal.loop-entry-preserved
loop-entry-preserved g c =
    let inv = c.loop-entry.invariant in
    let old = place (keeping c.args.run.now) (g.K.Sink.state c.args.out.now) (g.T.Sink.state c.args.trace.now) in
    let mid = place (keeping c.loop-entry.run) (g.K.Sink.state c.loop-entry.out) (g.T.Sink.state c.loop-entry.trace) in
    let new = place (keeping c.test_entry.new.run) (g.K.Sink.state c.test_entry.new.out) (g.T.Sink.state c.test_entry.new.trace) in
    record {
      kinds = inv.kinds ∙ ap (λ (s : Setting). input_kinds s.plan.spec.streams) (sym c.test_entry.ensures.setting);
      way = way_on mid new c.in-Some.entry c.pop_front.new.self (subst (IsPartlyRun mid) c.in-Some.ensures.first inv.way) c.in_default-test_entry.ensures.goes;
      ran = ran_more c.args.inputs.now.count old mid new c.args.batch.now c.in-Some.entry c.pop_front.new.self (subst (RanSome c.args.inputs.now.count old mid c.args.batch.now) c.in-Some.ensures.first inv.ran)
          c.in_default-test_entry.ensures.source c.in_default-test_entry.ensures.goes;
      setting = c.test_entry.ensures.setting ∙ inv.setting;
    }

pub returns-clause-halts : goal.returns-clause-halts
returns-clause-halts g c =
    let old = place (keeping c.args.run.now) (g.K.Sink.state c.args.out.now) (g.T.Sink.state c.args.trace.now) in
    let new = place (keeping c.loop-entry.run) (g.K.Sink.state c.loop-entry.out) (g.T.Sink.state c.loop-entry.trace) in
    all_halts c.args.inputs.now.count old new c.args.batch.now (subst (RanSome c.args.inputs.now.count old new c.args.batch.now) (c.in_default.ensures.none.0 refl) c.loop-entry.invariant.ran)

pub returns-clause-goes : goal.returns-clause-goes
returns-clause-goes g c =
    let old = place (keeping c.args.run.now) (g.K.Sink.state c.args.out.now) (g.T.Sink.state c.args.trace.now) in
    let new = place (keeping c.loop-entry.run) (g.K.Sink.state c.loop-entry.out) (g.T.Sink.state c.loop-entry.trace) in
    all_run c.args.inputs.now.count old new c.args.batch.now (subst (RanSome c.args.inputs.now.count old new c.args.batch.now) (c.in_default.ensures.none.0 refl) c.loop-entry.invariant.ran)
