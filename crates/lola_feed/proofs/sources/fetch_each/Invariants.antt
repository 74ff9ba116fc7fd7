use Rattle.std.proofs.Common.{◌≡◌, ◌≤◌, Global, drop, length, map, string_bytes, take, vec_capacity}
use Rattle.lola_feed.specs.Fetching.{HasLent}
use Rattle.lola_feed.specs.Lending.{names_at}
use Rattle.lola_feed.proofs.sources.fetch_each.Given as goal

abbrev pub invariant-loop-at : goal.invariant-loop-at
invariant-loop-at g l =
    let state = g.F.Shelf.state in
    record {
      lent : HasLent (take l.at (names_at (map (string_bytes {Z = Global}) l.words) l.names)) (take l.at l.fn.rooms.items) (state l.fn.shelf) (state l.shelf) l.workers.items;
      rooms : l.rooms.items ≡ drop l.at l.fn.rooms.items;
      count : length l.workers.items ≡ l.at;
      space : length l.names ≤ vec_capacity l.workers;
    }
