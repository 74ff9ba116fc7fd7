use Rattle.std.proofs.Common.{refl, ap, sym, ◌∙◌, ℕ, map, slice_get}
use Rattle.circular_buffer.specs.Buffer.{keep_last}
use Rattle.lola_model.specs.Store.{instances_seen, start_seen}
use Rattle.lola_instances.specs.Saved.{values_by_now}
use Rattle.lola_instances.specs.Stores.{bounded_remembers, bounded_seen}
use Rattle.lola_save_text.specs.PaneFolds.{panes_of}
use Rattle.lola_save.proofs.Lives.{instance-taken}
use Rattle.lola_save.proofs.instances.instance_of.Goals as goal

pub returns : goal.returns
returns c =
    let s = c.args.store.now in
    let held = c.args.engine.now.state.texts.held in
    instance-taken (bounded_seen s) (bounded_remembers s) held c.args.form.now c.args.stream c.args.index
    (slice_get (instances_seen (bounded_seen s) c.args.stream) c.args.index) refl _ c.params_of.result c.birth_of-born.ensures c.params_of.ensures.value c.in_ok-params.ensures
    (λ values h.
    c.in_ok-ring.ensures
    ∙ c.kept_values_are_last.ensures held c.args.stream c.args.index values h
    ∙ ap (λ (k : ℕ). keep_last k (map (λ v. v.1) (values_by_now s held c.args.stream c.args.index values))) (sym c.requires.form.kept))
    (λ values h.
    c.in_ok-panes.ensures held values h
    ∙ ap (map (λ w. panes_of (start_seen (bounded_seen s)) w (values_by_now s held c.args.stream c.args.index values))) c.as_slice.ensures)
