use Rattle.std.proofs.Common.{subst}
use Rattle.lola_monitor_threads.specs.Seated.{Seated, WentOn}
use Rattle.lola_monitor_threads.proofs.Passing.{went_on_at}
use Rattle.lola_monitor_threads.proofs.here.turn_one.Goals as goal

pub returns-clause-here : goal.returns-clause-here
returns-clause-here g c =
    went_on_at c.args.here.now.items c.args.place c.index_mut.result.now c.turn.new.self c.requires
    (subst (λ (r : Seated). WentOn r c.turn.new.self) c.index_mut.ensures.value c.turn.ensures)
