use Rattle.std.proofs.Common.{◌∙◌, [], ◌∷◌, ap, arith, map, rules, subst, sym}
use Rattle.std.proofs.lemmas.List.{length-map, map-append}
use Rattle.lola_feed.specs.Feeding.{Working}
use Rattle.lola_feed.specs.SharedIntakes.{SeatedAt}
use Rattle.lola_monitor_threads.specs.Seated.{IsNewPair, IsSeated, seated}
use Rattle.lola_monitor_threads.proofs.Offering.{seated_first}
use Rattle.lola_monitor_threads.proofs.Pairing.{joined_last, last_pair}
use Rattle.lola_monitor_threads.proofs.Places.{zip_long}
use Rattle.lola_monitor_threads.proofs.run.seat_all.Goals as goal

pub create-requires : goal.create-requires
create-requires g c =
    let shows = g.P.IntakeSeat.shows in
    let seat = c.in-Some-pop.seat in
    let sat = ap (map shows) c.in-Some-pop.ensures.items ∙ map-append shows c.pop-in-Some.new.self.items (seat ∷ []) in
    (last_pair c.loop-worker.workers.items c.pop.new.self.items (map shows c.loop-worker.seats.items) (map shows c.pop-in-Some.new.self.items) c.in-Some.worker (shows seat) c.loop-worker.invariant.pairs c.in-Some.ensures.items sat).1.1

pub create-requires-in-Some-pop : goal.create-requires-in-Some-pop
create-requires-in-Some-pop g c =
    let shows = g.P.IntakeSeat.shows in
    let seat = c.in-Some-pop.seat in
    let sat = ap (map shows) c.in-Some-pop.ensures.items ∙ map-append shows c.pop-in-Some.new.self.items (seat ∷ []) in
    let pair = (last_pair c.loop-worker.workers.items c.pop.new.self.items (map shows c.loop-worker.seats.items) (map shows c.pop-in-Some.new.self.items) c.in-Some.worker (shows seat) c.loop-worker.invariant.pairs c.in-Some.ensures.items sat).1 in
    subst (λ (w : Working). IsSeated w c.create.result) (sym c.read_ahead.ensures) (subst (IsSeated c.in-Some.worker) (sym c.create.ensures) (seated_first c.in-Some.worker (shows seat) pair))

pub loop-worker-preserved-in-Some-pop : goal.loop-worker-preserved-in-Some-pop
loop-worker-preserved-in-Some-pop g c =
    let inv = c.loop-worker.invariant in
    let shows = g.P.IntakeSeat.shows in
    let seat = c.in-Some-pop.seat in
    let sat = ap (map shows) c.in-Some-pop.ensures.items ∙ map-append shows c.pop-in-Some.new.self.items (seat ∷ []) in
    record {
      pairs = (last_pair c.loop-worker.workers.items c.pop.new.self.items (map shows c.loop-worker.seats.items) (map shows c.pop-in-Some.new.self.items) c.in-Some.worker (shows seat) inv.pairs c.in-Some.ensures.items sat).0;
      seated = joined_last c.loop-worker.workers.items c.pop.new.self.items (map shows c.loop-worker.seats.items) (map shows c.pop-in-Some.new.self.items) c.in-Some.worker (shows seat) inv.pairs c.in-Some.ensures.items sat
          c.loop-worker.waiting.items c.push_reserved.new.self.items _ c.create-in-Some-pop.result c.push_reserved.ensures.items
          (c.create-in-Some-pop.ensures ∙ (ap (λ (w : Working). seated w c.create.result.seat) c.read_ahead.ensures ∙ ap (λ (d : SeatedAt). seated c.in-Some.worker d.seat) c.create.ensures)) inv.seated;
      room = search rules;
      workers = cc (c.pop.ensures.capacity, inv.workers);
      seats = cc (c.pop-in-Some.ensures.capacity, inv.seats);
    }

-- there are as many seats as workers
pub loop-worker-preserved-in_default-pop : goal.loop-worker-preserved-in_default-pop
loop-worker-preserved-in_default-pop g c =
    let long = zip_long IsNewPair c.loop-worker.workers.items (map g.P.IntakeSeat.shows c.loop-worker.seats.items) c.loop-worker.invariant.pairs in
    let many = length-map c.loop-worker.seats.items g.P.IntakeSeat.shows in
    let none = c.in_default-pop.ensures.cases in
    let some = c.in-Some.ensures.cases in
    let seats = c.loop-worker.seats.ok.0 in
    let workers = c.loop-worker.workers.ok.0 in
    absurd (omega arith)

pub loop-worker-preserved : goal.loop-worker-preserved
loop-worker-preserved g c =
    let long = zip_long IsNewPair c.loop-worker.workers.items (map g.P.IntakeSeat.shows c.loop-worker.seats.items) c.loop-worker.invariant.pairs in
    let many = length-map c.loop-worker.seats.items g.P.IntakeSeat.shows in
    let none = c.in_default-pop.ensures.cases in
    let some = c.in-Some.ensures.cases in
    let seats = c.loop-worker.seats.ok.0 in
    let workers = c.loop-worker.workers.ok.0 in
    absurd (omega arith)
