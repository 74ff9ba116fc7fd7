-- An instance without an outcome may be told that it has none.
use Rattle.std.proofs.Common.{◌≡◌, sym, ap, ◌∙◌, slice_get}
use Rattle.lola_model.specs.Store.{after_outcome, kind_in}
use Rattle.lola_step.proofs.Telling.{no_value_is_missing, silent_seen, silent_stands}
use Rattle.lola_step.proofs.inputs.tell.Goals as goal

pub returns-in_default : goal.returns-in_default
returns-in_default g c =
    let s = g.S.StreamStore.seen c.args.store.now in
    let n = c.args.stream in
    let o = c.args.outcome in
    let same : after_outcome s n 0 o ≡ s =
    ap (after_outcome s n 0) (no_value_is_missing (kind_in (slice_get s.layout.streams n)) o c.requires.kind c.in_default.not-Value) ∙ silent_seen s n 0 c.requires.silent in
    record {
      seen = sym same;
      stands = λ names d held stands. silent_stands names (g.S.StreamStore.remembers c.args.store.now) s d n 0 o same held stands;
    }
