use Rattle.std.proofs.Common.{rules, arith, ◌∙◌, ap, map, [], ◌∷◌}
use Rattle.std.proofs.lemmas.List.{length-map, map-append}
use Rattle.lola_feed.specs.SharedIntakes.{SeatShown}
use Rattle.lola_monitor_threads.specs.Seated.{seated}
use Rattle.lola_monitor_threads.proofs.Pairing.{parted_last}
use Rattle.lola_monitor_threads.proofs.run.take_apart.Goals as goal

pub loop-seated-preserved : goal.loop-seated-preserved
loop-seated-preserved g c =
    let inv = c.loop-seated.invariant in
    let shows = g.P.IntakeSeat.shows in
    let worker = c.into_parts-worker.result.0 in
    let held = c.into_parts-worker.result.1 in
    let seat = c.into_seat.result in
    let many = length-map c.loop-seated.seats.items shows in
    record {
      seated = parted_last c.loop-seated.workers.items c.push_reserved.new.self.items (map shows c.loop-seated.seats.items) (map shows c.push_reserved-in-Some.new.self.items) worker (shows seat) c.loop-seated.back.items c.pop.new.self.items c.in-Some.seated _
          c.push_reserved.ensures.items (ap (map shows) c.push_reserved-in-Some.ensures.items ∙ map-append shows c.loop-seated.seats.items (seat ∷ [])) (let a = inv.workers in let b = inv.seats in omega arith) c.in-Some.ensures.items
          (ap (λ (p : SeatShown). seated worker p) c.into_seat.ensures ∙ c.into_parts-worker.ensures.parts) inv.seated;
      workers = search rules;
      seats = search rules;
      room = (search rules, search rules);
    }
