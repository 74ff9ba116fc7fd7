use Rattle.std.proofs.Common.{rules, ◌<◌, ap, ◌∙◌, length}
use Rattle.lola_feed.proofs.Turning.{front_given, one_back, split_front}
use Rattle.lola_feed.proofs.sources.return_all.Goals as goal

pub give_back-requires-clause-given : goal.give_back-requires-clause-given
give_back-requires-clause-given g c =
    let items = c.loop-workers.workers.items in
    let some : 0 < length items = search rules in
    let are = split_front items c.remove-worker.result c.remove-worker.new.self.items some c.remove-worker.ensures.value c.remove-worker.ensures.items in
    let file = c.into_source.ensures ∙ ap (λ r. r.source) c.into_reader.ensures in
    front_given (g.F.Shelf.state c.loop-workers.shelf).asks items c.remove-worker.new.self.items c.remove-worker.result (g.F.File.Source.state c.into_source.result) are file c.loop-workers.invariant.given

pub loop-workers-preserved : goal.loop-workers-preserved
loop-workers-preserved g c =
    let items = c.loop-workers.workers.items in
    let some : 0 < length items = search rules in
    let are = split_front items c.remove-worker.result c.remove-worker.new.self.items some c.remove-worker.ensures.value c.remove-worker.ensures.items in
    let file = c.into_source.ensures ∙ ap (λ r. r.source) c.into_reader.ensures in
    let state = g.F.Shelf.state in
    let back = one_back (state c.loop-workers.shelf) (state c.give_back.new.self) (state c.args.shelf.now) c.remove-worker.result (g.F.File.Source.state c.into_source.result) items c.remove-worker.new.self.items c.args.workers.now.items are file c.give_back.ensures c.loop-workers.invariant.given c.loop-workers.invariant.out c.loop-workers.invariant.all in
    record { given = back.given; out = back.out; all = back.all_is }
