use Rattle.std.proofs.Common.{◌<◌, ◌∙◌, List, ap, length, subst, sym}
use Rattle.lola_replay_table.specs.Open.{changed_at, with_outcome}
use Rattle.lola_replay_table.specs.declared.table.KnownLife.{KnownLife}
use Rattle.lola_replay_table.proofs.ChangedLists.{set-changed}
use Rattle.lola_replay_table.proofs.table.Lives.note.Goals as goal

pub returns : goal.returns
returns c =
    let within : c.args.place < length c.self.inside.items.items = subst (λ (ls : List KnownLife). c.args.place < length ls) (sym c.self.view_is) c.requires in
    set-changed (with_outcome c.args.outcome) c.args.place c.self.inside.items.items c.index_mut.result.now within c.index_mut.ensures.value
    ∙ ap (changed_at c.args.place (with_outcome c.args.outcome)) c.self.view_is
