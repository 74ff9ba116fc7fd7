use Rattle.std.proofs.Common.{◌≡◌, ◌<◌, ◌∙◌, List, ap, length, slice_set, subst, sym}
use Rattle.lola_replay_table.specs.Open.{changed_at, with_spawn}
use Rattle.lola_replay_table.specs.declared.table.KnownStream.{KnownStream}
use Rattle.lola_replay_table.proofs.ChangedLists.{on-ok, set-changed}
use Rattle.lola_replay_table.proofs.table.KnownRun.note_spawn.Goals as goal

pub returns : goal.returns
returns c =
    let within : c.args.stream < length c.self.inside.items.items = subst (λ (ks : List KnownStream). c.args.stream < length ks) (sym c.self.view_is) c.requires in
    on-ok (c.note_spawn.new.self ≡ with_spawn c.args.time c.args.spawned c.index_mut.result.now)
    (slice_set c.self.inside.items.items c.args.stream c.note_spawn.new.self ≡ changed_at c.args.stream (with_spawn c.args.time c.args.spawned) c.args.self.now) c.note_spawn.result
    (λ is.
    ap (slice_set c.self.inside.items.items c.args.stream) is
    ∙ set-changed (with_spawn c.args.time c.args.spawned) c.args.stream c.self.inside.items.items c.index_mut.result.now within c.index_mut.ensures.value
    ∙ ap (changed_at c.args.stream (with_spawn c.args.time c.args.spawned)) c.self.view_is)
    c.note_spawn.ensures
