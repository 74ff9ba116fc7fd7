use Rattle.std.proofs.Common.{◌∙◌, ap, slice_get, ◌++◌, ◌∷◌, []}
use Rattle.lola_value.specs.declared.value.Value.{Value}
use Rattle.lola_value.proofs.ShortLemmas.{short_value_of_kind}
use Rattle.lola_model.specs.Store.{kind_in}
use Rattle.lola_instances.specs.Stores.{bounded_seen, values_kept}
use Rattle.lola_save.proofs.LoadedOne.{value-more}
use Rattle.lola_save.proofs.loaded_values.load_value.Goals as goal

pub of-requires : goal.of-requires
of-requires c = short_value_of_kind (kind_in (slice_get (bounded_seen c.args.store.now).layout.streams c.args.stream)) c.in_ok-value.value (c.in_ok-value.ensures.value _ c.requires.kind).kind

pub returns-clause-value : goal.returns-clause-value
returns-clause-value c = record {
  v = c.in_ok-value.value;
  named = c.in_ok-value.ensures.value _ c.requires.kind;
  more = value-more c.args.store.now c.restore_value.new.self c.args.stream c.args.index c.of.result c.restore_value.ensures.seen c.restore_value.ensures.places c.restore_value.ensures.slot c.requires.free
      ∙ ap (λ (v : Value). values_kept c.args.store.now c.args.stream c.args.index ++ v ∷ []) c.of.ensures;
}
