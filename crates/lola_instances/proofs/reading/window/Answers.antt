use Rattle.std.proofs.Common.{◌∙◌, ℕ, Option, IsTrue, MatchOption, ap, sym, subst}
use Rattle.lola_value.specs.Kinds.{is_outcome_of}
use Rattle.lola_model.specs.Store.{gives_kind, kind_in, window_kind_of}
use Rattle.lola_model.specs.declared.spec.WindowSpec.{WindowSpec}
use Rattle.lola_instances_one.specs.declared.window.WindowPanes.{WindowPanes}
use Rattle.lola_instances_stream.specs.Rights.{AreTimely}
use Rattle.lola_instances_stream.specs.Windowed.{IsWhole}
use Rattle.lola_instances.specs.Stores.{bounded_seen}
use Rattle.lola_instances.proofs.Asking.{OfStream, layout_at, placed_window, whole_offset, window_told}
use Rattle.lola_instances.proofs.reading.window.Goals as goal

pub window-requires-clause-steady : goal.window-requires-clause-steady
window-requires-clause-steady c = λ i x e. ((c.args.s.now.right c.spec_of.result.now.target c.lives_of.result.now c.lives_of.ensures).each i x e).steady

pub window-requires-clause-timely : goal.window-requires-clause-timely
window-requires-clause-timely c =
    let s = c.args.s.now in
    let l = c.lives_of.result.now in
    subst (λ (n : ℕ). AreTimely s.step n l) (sym c.offset_of.ensures) (λ i x e. ((s.right c.spec_of.result.now.target l c.lives_of.ensures).each i x e).timely)

pub window-requires-clause-place : goal.window-requires-clause-place
window-requires-clause-place c =
    (placed_window c.args.s.now c.args.window c.place_of_panes-place.result c.spec_of.result.now c.lives_of.result.now c.spec_of.ensures c.place_of_panes-place.ensures c.lives_of.ensures c.requires.window).below

pub window-requires-clause-whole : goal.window-requires-clause-whole
window-requires-clause-whole c =
    let s = c.args.s.now in
    let l = c.lives_of.result.now in
    let f = placed_window s c.args.window c.place_of_panes-place.result c.spec_of.result.now l c.spec_of.ensures c.place_of_panes-place.ensures c.lives_of.ensures c.requires.window in
    let k = whole_offset s c.args.window c.place_of_panes-place.result c.spec_of.result.now l f c.requires.whole in
    subst (λ (o : Option WindowPanes). MatchOption o ⊥ (IsWhole c.offset_of.result)) (sym f.at) (k.0, c.offset_of.ensures ∙ k.1)

pub returns-clause-living : goal.returns-clause-living
returns-clause-living c =
    let s = c.args.s.now in
    let l = c.lives_of.result.now in
    let w = c.spec_of.result.now in
    let p = c.args.params.now in
    let r = c.window.result in
    let f = placed_window s c.args.window c.place_of_panes-place.result w l c.spec_of.ensures c.place_of_panes-place.ensures c.lives_of.ensures c.requires.window in
    window_told s c.args.window w f.size f.q l p r c.spec_of.ensures f.is c.lives_of.ensures
    (subst (λ (n : ℕ). OfStream s l n p r f.q) c.offset_of.ensures (subst (λ (o : Option WindowPanes). MatchOption o ⊥ (OfStream s l c.offset_of.result p r)) f.at c.window.ensures.living))

pub returns-clause-kind : goal.returns-clause-kind
returns-clause-kind c =
    let s = c.args.s.now in
    let l = c.lives_of.result.now in
    let w = c.spec_of.result.now in
    let r = c.window.result in
    let f = placed_window s c.args.window c.place_of_panes-place.result w l c.spec_of.ensures c.place_of_panes-place.ensures c.lives_of.ensures c.requires.window in
    let k : IsTrue (is_outcome_of (gives_kind f.q.aggregation f.q.kind) r) = subst (λ (o : Option WindowPanes). MatchOption o ⊥ (λ q. IsTrue (is_outcome_of (gives_kind q.aggregation q.kind) r))) f.at c.window.ensures.kind in
    let e = f.is.kind_is ∙ sym (ap kind_in (layout_at s.streams.items w.target l c.lives_of.ensures)) in
    subst (λ (o : Option WindowSpec). IsTrue (is_outcome_of (window_kind_of (bounded_seen s) o) r)) (sym c.spec_of.ensures)
    (subst (λ t. t) (λ j. IsTrue (is_outcome_of (gives_kind (f.is.aggregation j) (e j)) r)) k)
