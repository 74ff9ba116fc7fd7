use Rattle.std.proofs.Common.{◌≡◌, ◌≤◌, length}
use Rattle.lola_feed.specs.Lending.{AreGiven, all_back, places_of, sources_of}
use Rattle.lola_feed.proofs.sources.return_all.Given as goal

abbrev pub invariant-loop-workers : goal.invariant-loop-workers
invariant-loop-workers g l =
    let state = g.F.Shelf.state in
    record {
      given : AreGiven (state l.shelf).asks (places_of l.workers.items);
      out : length l.workers.items ≤ (state l.shelf).out;
      all : all_back (state l.shelf) (sources_of l.workers.items) ≡ all_back (state l.fn.shelf) (sources_of l.fn.workers.items);
    }

abbrev pub decreases-loop-workers : goal.decreases-loop-workers
decreases-loop-workers g l = length l.workers.items
