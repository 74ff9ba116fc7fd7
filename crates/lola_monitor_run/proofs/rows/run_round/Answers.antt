use Rattle.std.proofs.Common.{◌||◌, ◌<◌, ◌+◌, Bool, ℕ, Err, refl, subst, sym, ◌∙◌, add-one, length, arith}
use Rattle.lola_monitor_run.specs.Running.{keeping}
use Rattle.lola_monitor_run.specs.Feeds.{supplies_of, world}
use Rattle.lola_monitor_run.specs.Turning.{InRound}
use Rattle.lola_monitor_run.proofs.Counting.{room_left}
use Rattle.lola_monitor_run.proofs.Rounding.{round_begins, round_over, round_stops, round_turns, sources_many}
use Rattle.lola_monitor_run.proofs.Writing.{received_more, received_none, writes_more}
use Rattle.lola_monitor_run.proofs.rows.run_round.Goals as goal

pub loop-source-init : goal.loop-source-init
loop-source-init g c = record {
  round = round_begins (world (keeping c.args.run.now) (supplies_of c.args.feed.now) (g.K.Sink.state c.args.out.now) (g.T.Sink.state c.args.trace.now));
  count = c.sources-count.ensures;
  idle = c.requires.idle;
  places = refl;
  setting = refl;
  steps_before = refl;
  received = received_none (g.K.Sink.state c.args.out.now);
  traced = received_none (g.T.Sink.state c.args.trace.now);
}

pub run_turn-requires-clause-going : goal.run_turn-requires-clause-going
run_turn-requires-clause-going g c κs lives =
    let u = c.requires.under_way in
    (c.loop-source.invariant.round.so_far u.0 u.1 u.2).going

pub run_turn-requires-clause-room : goal.run_turn-requires-clause-room
run_turn-requires-clause-room g c κs lives =
    let u = c.requires.under_way in
    room_left u.0 u.1 c.loop-source.source _ (c.loop-source.invariant.round.so_far u.0 u.1 u.2)

pub returns-in-Err-clause-goes : goal.returns-in-Err-clause-goes
returns-in-Err-clause-goes g c =
    let i = c.loop-source.invariant in
    let out = g.K.Sink.state in
    let trace = g.T.Sink.state in
    let now = world (keeping c.loop-source.run) (supplies_of c.loop-source.feed) (out c.loop-source.out) (trace c.loop-source.trace) in
    let many = i.round.many in let workers = sources_many c.args.feed.now in let count = i.count in let below = c.loop-source-test.true in
    let there : c.loop-source.source < length (supplies_of c.loop-source.feed) = omega (arith, many, workers, count, below) in
    round_stops c.loop-source.source c.loop-source.moved _ now i.round there c.in-Err.stop _ c.in-Err.ensures.steps

pub returns-in-Err-clause-writes : goal.returns-in-Err-clause-writes
returns-in-Err-clause-writes g c =
    let i = c.loop-source.invariant in
    let out = g.K.Sink.state in
    let trace = g.T.Sink.state in
    writes_more (Err c.in-Err.stop) (out c.args.out.now) (out c.loop-source.out) (out c.run_turn.new.out) (trace c.args.trace.now) (trace c.loop-source.trace) (trace c.run_turn.new.trace) i.received i.traced c.in-Err.ensures.writes

pub loop-source-preserved : goal.loop-source-preserved
loop-source-preserved g c =
    let i = c.loop-source.invariant in
    let out = g.K.Sink.state in
    let trace = g.T.Sink.state in
    let old = world (keeping c.args.run.now) (supplies_of c.args.feed.now) (out c.args.out.now) (trace c.args.trace.now) in
    let now = world (keeping c.loop-source.run) (supplies_of c.loop-source.feed) (out c.loop-source.out) (trace c.loop-source.trace) in
    let next = world (keeping c.run_turn.new.run) (supplies_of c.run_turn.new.feed) (out c.run_turn.new.out) (trace c.run_turn.new.trace) in
    let many = i.round.many in let workers = sources_many c.args.feed.now in let count = i.count in let below = c.loop-source-test.true in
    let there : c.loop-source.source < length (supplies_of c.loop-source.feed) = omega (arith, many, workers, count, below) in
    record {
      round = subst (λ (b : Bool). InRound (c.loop-source.source + 1) b old next) (sym c.either-moved.ensures)
          (subst (λ (k : ℕ). InRound k (c.loop-source.moved || c.in-Ok.row) old next) (sym (add-one c.loop-source.source))
          (round_turns c.loop-source.source c.loop-source.moved old now i.round there c.in-Ok.row next c.in-Ok.ensures.steps));
      count = i.count;
      idle = c.in-Ok.ensures.idle;
      places = c.run_turn.ensures.places ∙ i.places;
      setting = c.run_turn.ensures.setting ∙ i.setting;
      steps_before = c.run_turn.ensures.steps_before ∙ i.steps_before;
      received = received_more (out c.args.out.now) (out c.loop-source.out) (out c.run_turn.new.out) i.received c.in-Ok.ensures.writes.0;
      traced = received_more (trace c.args.trace.now) (trace c.loop-source.trace) (trace c.run_turn.new.trace) i.traced c.in-Ok.ensures.writes.1;
    }

pub returns-clause-goes : goal.returns-clause-goes
returns-clause-goes g c =
    let i = c.loop-source.invariant in
    let past = c.loop-source-test.false in let within = c.loop-source.auto.source-end in
    round_over c.loop-source.source c.sources-count.result c.loop-source.moved _ _ i.round (i.count ∙ sym (sources_many c.args.feed.now)) (omega (arith, past, within))

pub returns-clause-writes : goal.returns-clause-writes
returns-clause-writes g c = let i = c.loop-source.invariant in (i.received, i.traced)
