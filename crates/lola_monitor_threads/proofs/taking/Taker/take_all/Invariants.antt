use Rattle.std.proofs.Common.{◌≡◌, Ok, vec_capacity}
use Rattle.std.specs.List.{AllZip}
use Rattle.lola_monitor_run.specs.Verdicts.{AreOfSources}
use Rattle.lola_monitor_run.specs.Running.{IsSetAs, keeping}
use Rattle.lola_monitor_threads.specs.Seated.{WentOn}
use Rattle.lola_monitor_threads.specs.Takings.{Halts, HasRun, HasRunTaken, IsReady, IsSameTaker, Place, place}
use Rattle.lola_monitor_threads.proofs.taking.Taker.take_all.Given as goal

abbrev pub invariant-loop : goal.invariant-loop
invariant-loop g l =
    let out = g.K.Sink.state in
    let trace = g.T.Sink.state in
    record {
      turns : (goal.iterator-loop g).can_next l.iterator' × (goal.iterator-loop g).is_finite l.iterator';
      ready : IsReady l.self (g.I.SourceIntake.id l.intake) (keeping l.run);
      here : AllZip WentOn l.fn.here.items l.here.items;
      room : vec_capacity l.here ≡ vec_capacity l.fn.here;
      seat : IsSameTaker l.fn.self.seat l.self.seat;
      inputs : l.self.inputs ≡ l.fn.self.inputs;
      setting : IsSetAs (keeping l.fn.run) (keeping l.run);
      run : HasRunTaken l.self (place (keeping l.run) (out l.out) (trace l.trace));
      halts : (first : Place) → HasRun first l.fn.self.seat.taken (place (keeping l.fn.run) (out l.fn.out) (trace l.fn.trace)) → AreOfSources l.fn.self.inputs.count l.fn.self.seat.taken
          → Halts (Ok tt) l.fn.self.inputs.count first l.self.seat.taken (place (keeping l.run) (out l.out) (trace l.trace));
    }
