use Rattle.std.proofs.Common.{rules, ◌<◌, [], Global, ℕ, length, map, slice_get, string_bytes, unwrap_or}
use Rattle.lola_feed.specs.Lending.{names_at}
use Rattle.lola_feed.proofs.Asking.{broke_one, name_there, one_more, rooms_left}
use Rattle.lola_feed.proofs.sources.fetch_each.Goals as goal

pub returns-in-Err-Failed : goal.returns-in-Err-Failed
returns-in-Err-Failed g c =
    let state = g.F.Shelf.state in
    let words = map (string_bytes {Z = Global}) c.args.words.now in
    let k = c.loop-at.at in
    record {
      name = c.word_at.result.now;
      is = name_there (λ (n : ℕ). unwrap_or (slice_get words n) []) c.args.names.now k c.word_at.result.now c.loop-at-test.true c.word_at.ensures;
      mid = state c.loop-at.shelf;
      lent = c.loop-at.invariant.lent;
      broke = broke_one c.fetch_one.result c.in-Err-Failed.field-0 (state c.loop-at.shelf) (state c.fetch_one.new.shelf) c.word_at.result.now c.in-Err-Failed.is c.in-Err-Failed.field-0-is c.fetch_one.ensures.failed;
    }

pub loop-at-preserved : goal.loop-at-preserved
loop-at-preserved g c =
    let state = g.F.Shelf.state in
    let words = map (string_bytes {Z = Global}) c.args.words.now in
    let names = names_at words c.args.names.now in
    let all = c.args.rooms.now.items in
    let rest = c.loop-at.rooms.items in
    let k = c.loop-at.at in
    let name = c.word_at.result.now in
    let is = name_there (λ (n : ℕ). unwrap_or (slice_get words n) []) c.args.names.now k name c.loop-at-test.true c.word_at.ensures in
    let some : 0 < length rest = search rules in
    let within : k < length all = search rules in
    record {
      lent = one_more k names all rest (state c.args.shelf.now) (state c.loop-at.shelf) (state c.fetch_one.new.shelf) c.loop-at.workers.items c.push_reserved.new.self.items name c.remove-room.result c.in-Ok.worker c.loop-at.invariant.lent is c.loop-at.invariant.rooms some c.remove-room.ensures.value c.in-Ok.ensures.given c.in-Ok.ensures.worker c.push_reserved.ensures.items;
      rooms = rooms_left k all rest c.remove-room.new.self.items c.remove-room.result within c.loop-at.invariant.rooms c.remove-room.ensures.items;
      count = search rules;
      space = search rules;
    }
