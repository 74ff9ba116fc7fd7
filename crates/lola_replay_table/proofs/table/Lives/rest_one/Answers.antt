use Rattle.std.proofs.Common.{◌≡◌, ◌<◌, ◌∙◌, List, ap, length, slice_set, subst, sym}
use Rattle.lola_replay_table.specs.Open.{changed_at}
use Rattle.lola_replay_table.specs.Resting.{rested_life}
use Rattle.lola_replay_table.specs.declared.table.KnownLife.{KnownLife}
use Rattle.lola_replay_table.proofs.ChangedLists.{on-ok, set-changed}
use Rattle.lola_replay_table.proofs.table.Lives.rest_one.Goals as goal

pub returns : goal.returns
returns c =
    let f = rested_life c.args.time in
    let within : c.args.place < length c.self.inside.items.items = subst (λ (ls : List KnownLife). c.args.place < length ls) (sym c.self.view_is) c.requires in
    on-ok (c.rest.new.self ≡ f c.index_mut.result.now)
    (slice_set c.self.inside.items.items c.args.place c.rest.new.self ≡ changed_at c.args.place f c.args.self.now) c.rest.result
    (λ is.
    ap (slice_set c.self.inside.items.items c.args.place) is
    ∙ set-changed f c.args.place c.self.inside.items.items c.index_mut.result.now within c.index_mut.ensures.value
    ∙ ap (changed_at c.args.place f) c.self.view_is)
    c.rest.ensures
