use Rattle.std.proofs.Common.{◌≡◌, rules}
use Rattle.lola_monitor_run.specs.declared.run.Run.{Run}
use Rattle.lola_monitor_run.specs.Running.{keeping}
use Rattle.lola_monitor_threads.specs.Takings.{Taking, place}
use Rattle.lola_monitor_threads.specs.Sending.{HasSent}
use Rattle.lola_monitor_threads.proofs.SentWorkers.{of_equals}
use Rattle.lola_monitor_threads.proofs.sending.send_all.Goals as goal

pub scoped-taker-requires : goal.scoped-taker-requires
scoped-taker-requires g c =
    record {
      at = λ a. (
        c.requires,
        (
          record { owned = c.type_bounds.send-S.owned; leaving = search rules },
          record { owned = c.type_bounds.send-P.owned; leaving = search rules },
          record { shared = c.type_bounds.sync-I.shared },
          record { shared = c.type_bounds.sync-R.shared },
          record { shared = c.type_bounds.sync-G.shared },
        ),
      );
    }

pub returns : goal.returns
returns g c =
    let taker_back : c.taker-1.given.0 ≡ c.scoped-taker.result.0.now = search rules in
    let run_back : c.run-1.given.0 ≡ c.scoped-taker.result.1.now = search rules in
    let out_back : c.out-1.given.0 ≡ c.scoped-taker.result.2.now = search rules in
    let trace_named = c.scoped-taker.ensures.1.1.1.1.0 in
    let trace_back : c.trace-1.given.0 ≡ c.scoped-taker.result.3.now = search (rules, trace_named, c.trace-1.given.1, c.take_back-4.ensures) in
    of_equals (λ (taker : Taking) (run : Run) (out : g.row.K.Denot) (trace : g.row.T.Denot).
    HasSent c.scoped-taker.result.5 c.args.waiting.items c.scoped-taker.result.4.items c.args.taker.now taker (place (keeping c.args.run.now) (g.K.Sink.state c.args.out.now) (g.T.Sink.state c.args.trace.now)) (place (keeping run) (g.K.Sink.state out) (g.T.Sink.state trace)))
    c.scoped-taker.result.0.now c.taker-1.given.0 c.scoped-taker.result.1.now c.run-1.given.0 c.scoped-taker.result.2.now c.out-1.given.0 c.scoped-taker.result.3.now c.trace-1.given.0
    taker_back run_back out_back trace_back c.scoped-taker.ensures.1.1.1.1.1
