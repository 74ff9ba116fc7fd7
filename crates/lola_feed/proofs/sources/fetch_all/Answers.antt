use Rattle.std.proofs.Common.{Global, map, string_bytes}
use Rattle.lola_feed.specs.Lending.{names_at}
use Rattle.lola_feed.proofs.Shelves.{all_lent}
use Rattle.lola_feed.proofs.Turning.{returnable, stopped}
use Rattle.lola_feed.proofs.sources.fetch_all.Goals as goal

pub returns-in-Ok : goal.returns-in-Ok
returns-in-Ok g c = all_lent _ _ _ _ _ c.in-Ok.ensures

pub return_all-requires-clause-given : goal.return_all-requires-clause-given
return_all-requires-clause-given g c κs within =
    let state = g.F.Shelf.state in
    let names = names_at (map (string_bytes {Z = Global}) c.args.words.now) c.args.names.now in
    (returnable c.in-Err.stop names c.args.rooms.items (state c.args.shelf.now) (state c.fetch_each.new.shelf) c.fetch_each.new.workers.items c.in-Err.ensures).given

pub return_all-requires-clause-out : goal.return_all-requires-clause-out
return_all-requires-clause-out g c κs within =
    let state = g.F.Shelf.state in
    let names = names_at (map (string_bytes {Z = Global}) c.args.words.now) c.args.names.now in
    (returnable c.in-Err.stop names c.args.rooms.items (state c.args.shelf.now) (state c.fetch_each.new.shelf) c.fetch_each.new.workers.items c.in-Err.ensures).out

pub returns : goal.returns
returns g c =
    let state = g.F.Shelf.state in
    let names = names_at (map (string_bytes {Z = Global}) c.args.words.now) c.args.names.now in
    stopped c.in-Err.stop names c.args.rooms.items (state c.args.shelf.now) (state c.fetch_each.new.shelf) (state c.return_all.new.shelf) c.fetch_each.new.workers.items c.return_all.new.workers.items c.in-Err.ensures c.return_all.ensures
