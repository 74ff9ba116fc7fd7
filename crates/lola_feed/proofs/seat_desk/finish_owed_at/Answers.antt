use Rattle.lola_feed.proofs.DeskCalls.{made-again}
use Rattle.lola_feed.proofs.seat_desk.finish_owed_at.Goals as goal

pub invariant_of-held : goal.invariant_of-held
invariant_of-held g c = let was = c.held.invariant.1 c.if-not-held.false in made-again c.held.inside.told _ (g.P.IntakeSeat.shows c.held.inside.seat) (g.P.IntakeSeat.shows c.finish.new.seat) c.finish.result was.0 was.1 c.finish.ensures.shows c.is_owed-owes.ensures
