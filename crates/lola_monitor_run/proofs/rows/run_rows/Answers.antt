use Rattle.std.proofs.Common.{suc, Ok, Err, ◌∙◌, refl}
use Rattle.lola_monitor_run.specs.Running.{keeping}
use Rattle.lola_monitor_run.specs.Feeds.{supplies_of, world}
use Rattle.lola_monitor_run.proofs.Rounding.{few_sources, fresh_sources, round_goes, round_less, round_quiet}
use Rattle.lola_monitor_run.proofs.Runs.{started}
use Rattle.lola_monitor_run.proofs.Writing.{received_more, received_none, were_taken, writes_more}
use Rattle.lola_monitor_run.proofs.rows.run_rows.Goals as goal

pub loop-stop-init : goal.loop-stop-init
loop-stop-init g c = record {
  so_far = (0, started (world (keeping c.args.run.now) (supplies_of c.args.feed.now) (g.K.Sink.state c.args.out.now) (g.T.Sink.state c.args.trace.now)) (few_sources c.args.feed.now c.requires.fresh.many.1) c.requires.none (fresh_sources c.args.feed.now c.requires.fresh));
  idle = c.requires.idle;
  places = refl;
  steps_before = refl;
  received = received_none (g.K.Sink.state c.args.out.now);
  traced = received_none (g.T.Sink.state c.args.trace.now);
}

pub loop-stop-preserved : goal.loop-stop-preserved
loop-stop-preserved g c =
    let so = c.loop-stop.invariant.so_far in
    let out = g.K.Sink.state in
    let trace = g.T.Sink.state in
    record {
      so_far = (suc so.0, round_goes _ _ _ c.in-Ok-true.ensures.goes _ so.0 so.1);
      idle = c.in-Ok-true.ensures.idle;
      places = c.run_round.ensures.places ∙ c.loop-stop.invariant.places;
      steps_before = c.run_round.ensures.steps_before ∙ c.loop-stop.invariant.steps_before;
      received = received_more (out c.args.out.now) (out c.loop-stop.out) (out c.run_round.new.out) c.loop-stop.invariant.received c.in-Ok-true.ensures.writes.0;
      traced = received_more (trace c.args.trace.now) (trace c.loop-stop.trace) (trace c.run_round.new.trace) c.loop-stop.invariant.traced c.in-Ok-true.ensures.writes.1;
    }

pub loop-stop-smaller : goal.loop-stop-smaller
loop-stop-smaller g c = round_less _ _ _ c.in-Ok-true.field-0-test c.in-Ok-true.ensures.goes

pub returns-in-Ok-false-clause-run : goal.returns-in-Ok-false-clause-run
returns-in-Ok-false-clause-run g c =
    let so = c.loop-stop.invariant.so_far in
    ((suc so.0, round_goes _ _ _ c.in-Ok-false.ensures.goes _ so.0 so.1), round_quiet _ _ _ c.in-Ok-false.field-0-test c.in-Ok-false.ensures.goes)

pub returns-in-Ok-false-clause-ends : goal.returns-in-Ok-false-clause-ends
returns-in-Ok-false-clause-ends g c =
    let i = c.loop-stop.invariant in
    let out = g.K.Sink.state in
    let trace = g.T.Sink.state in
    record {
      taken = were_taken _ (suc i.so_far.0) _ (round_goes _ _ _ c.in-Ok-false.ensures.goes _ i.so_far.0 i.so_far.1) (round_quiet _ _ _ c.in-Ok-false.field-0-test c.in-Ok-false.ensures.goes);
      writes = writes_more (Ok tt) (out c.args.out.now) (out c.loop-stop.out) (out c.run_round.new.out) (trace c.args.trace.now) (trace c.loop-stop.trace) (trace c.run_round.new.trace) i.received i.traced c.in-Ok-false.ensures.writes;
    }

pub returns-in-Ok-false-clause-going : goal.returns-in-Ok-false-clause-going
returns-in-Ok-false-clause-going g c = let so = c.loop-stop.invariant.so_far in (round_goes _ _ _ c.in-Ok-false.ensures.goes _ so.0 so.1).going

pub returns-in-Err-clause-run : goal.returns-in-Err-clause-run
returns-in-Err-clause-run g c = let so = c.loop-stop.invariant.so_far in c.in-Err.ensures.goes _ so.0 so.1

pub returns-in-Err-clause-ends : goal.returns-in-Err-clause-ends
returns-in-Err-clause-ends g c =
    let i = c.loop-stop.invariant in
    let out = g.K.Sink.state in
    let trace = g.T.Sink.state in
    record {
      taken = tt;
      writes = writes_more (Err c.in-Err.stop) (out c.args.out.now) (out c.loop-stop.out) (out c.run_round.new.out) (trace c.args.trace.now) (trace c.loop-stop.trace) (trace c.run_round.new.trace) i.received i.traced c.in-Err.ensures.writes;
    }
