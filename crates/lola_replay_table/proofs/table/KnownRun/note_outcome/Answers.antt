use Rattle.std.proofs.Common.{◌≡◌, ◌∙◌, List, Some, ap, slice_get, slice_set}
use Rattle.std.proofs.lemmas.Option.{slice_get_within}
use Rattle.lola_replay_table.specs.Open.{changed_at, with_life_outcome}
use Rattle.lola_replay_table.specs.declared.table.KnownLife.{KnownLife}
use Rattle.lola_replay_table.specs.declared.table.KnownStream.{KnownStream}
use Rattle.lola_replay_table.proofs.ChangedLists.{set-changed}
use Rattle.lola_replay_table.proofs.table.KnownRun.note_outcome.Goals as goal

pub returns : goal.returns
returns c =
    let at : slice_get c.self.inside.items.items c.args.stream ≡ Some c.requires.stream = ap (λ (ks : List KnownStream). slice_get ks c.args.stream) c.self.view_is ∙ c.requires.at in
    ap (λ (ls : List KnownLife). slice_set c.self.inside.items.items c.args.stream (record { input = c.index_mut.result.now.input; spawned = c.index_mut.result.now.spawned; lives = ls })) c.note.ensures
    ∙ set-changed (with_life_outcome c.args.place c.args.outcome) c.args.stream c.self.inside.items.items c.index_mut.result.now (slice_get_within c.self.inside.items.items c.args.stream c.requires.stream at) c.index_mut.ensures.value
    ∙ ap (changed_at c.args.stream (with_life_outcome c.args.place c.args.outcome)) c.self.view_is
