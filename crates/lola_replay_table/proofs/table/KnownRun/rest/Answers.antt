use Rattle.std.proofs.Common.{◌≡◌, ◌<◌, ◌∙◌, List, ap, length, slice_set, subst, sym}
use Rattle.lola_replay_table.specs.Open.{changed_at}
use Rattle.lola_replay_table.specs.Resting.{rested_stream}
use Rattle.lola_replay_table.specs.declared.table.KnownStream.{KnownStream}
use Rattle.lola_replay_table.proofs.ChangedLists.{on-ok, set-changed}
use Rattle.lola_replay_table.proofs.table.KnownRun.rest.Goals as goal

pub returns : goal.returns
returns c =
    let f = rested_stream c.args.time c.args.closed.now in
    let within : c.args.stream < length c.self.inside.items.items = subst (λ (ks : List KnownStream). c.args.stream < length ks) (sym c.self.view_is) c.requires in
    on-ok (c.rest.new.self ≡ f c.index_mut.result.now)
    (slice_set c.self.inside.items.items c.args.stream c.rest.new.self ≡ changed_at c.args.stream f c.args.self.now) c.rest.result
    (λ is.
    ap (slice_set c.self.inside.items.items c.args.stream) is
    ∙ set-changed f c.args.stream c.self.inside.items.items c.index_mut.result.now within c.index_mut.ensures.value
    ∙ ap (changed_at c.args.stream f) c.self.view_is)
    c.rest.ensures
