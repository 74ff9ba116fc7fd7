use Rattle.lola_feed.proofs.Turning.{returned}
use Rattle.lola_feed.proofs.sources.give_all_back.Goals as goal

pub returns-clause-returned : goal.returns-clause-returned
returns-clause-returned g c names rooms before lent so places =
    let state = g.F.Shelf.state in
    returned names rooms before (state c.args.shelf.now) (state c.return_all.new.shelf) lent c.args.workers.items so places c.return_all.ensures
