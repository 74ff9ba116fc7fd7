use Rattle.std.proofs.Common.{◌≡◌, ◌∙◌, ◌<◌, ap, length, subst, sym, slice_get}
use Rattle.std.proofs.lemmas.Option.{slice_get_within}
use Rattle.lola_model.specs.Store.{instances_seen, start_seen, target_of}
use Rattle.lola_instances.specs.Saved.{panes_at, values_by_now}
use Rattle.lola_instances.specs.Stores.{bounded_remembers, bounded_seen}
use Rattle.lola_panes.specs.Standing.{StandFor}
use Rattle.lola_save_text.specs.Offsets.{by_offset}
use Rattle.lola_save.proofs.WindowPanes.{window-have, window-none, window-some}
use Rattle.lola_save.proofs.panes.window_panes.Goals as goal

pub newest_pane-requires-clause-window : goal.newest_pane-requires-clause-window
newest_pane-requires-clause-window c = slice_get_within (bounded_seen c.args.store.now).layout.windows c.args.window.now.number c.requires.window.spec c.requires.window.at

pub newest_pane-requires-clause-index : goal.newest_pane-requires-clause-index
newest_pane-requires-clause-index c =
    let s = bounded_seen c.args.store.now in
    let onto : target_of (slice_get s.layout.windows c.args.window.now.number) ≡ c.args.stream = ap target_of c.requires.window.at ∙ c.requires.window.target in
    subst (λ n. c.args.index < length (instances_seen s n)) (sym onto) c.requires.index

pub partials_of-requires-clause-window : goal.partials_of-requires-clause-window
partials_of-requires-clause-window c = slice_get_within (bounded_seen c.args.store.now).layout.windows c.args.window.now.number c.requires.window.spec c.requires.window.at

pub partials_of-requires-clause-index : goal.partials_of-requires-clause-index
partials_of-requires-clause-index c =
    let s = bounded_seen c.args.store.now in
    let onto : target_of (slice_get s.layout.windows c.args.window.now.number) ≡ c.args.stream = ap target_of c.requires.window.at ∙ c.requires.window.target in
    subst (λ n. c.args.index < length (instances_seen s n)) (sym onto) c.requires.index

pub partials_of-requires-clause-panes : goal.partials_of-requires-clause-panes
partials_of-requires-clause-panes c =
    let w = c.args.window.now in
    window-have (panes_at c.args.store.now w.number c.args.index) c.in-Some.last c.kept_panes.result w.count c.in-Some.ensures
    (λ p e.
    (c.panes_stand_for_values.ensures.window w.number c.args.index c.requires.window.spec c.requires.window.size p c.requires.window.at c.requires.window.size_at e).2
    ∙ sym c.requires.window.count)
    c.kept_panes.ensures

pub returns-in-None : goal.returns-in-None
returns-in-None c names values h =
    let st = c.args.store.now in
    let s = bounded_seen st in
    let w = c.args.window.now in
    let onto : target_of (slice_get s.layout.windows w.number) ≡ c.args.stream = ap target_of c.requires.window.at ∙ c.requires.window.target in
    window-none (start_seen s) w (values_by_now st names c.args.stream c.args.index values) (panes_at st w.number c.args.index)
    (λ p e.
    subst (λ n. bounded_remembers st names n c.args.index values → StandFor p (by_offset (start_seen s) (values_by_now st names n c.args.index values))) onto
    (c.panes_stand_for_values.ensures.stand names w.number c.args.index values p e) h)
    (λ p e.
    let of = c.panes_stand_for_values.ensures.window w.number c.args.index c.requires.window.spec c.requires.window.size p c.requires.window.at c.requires.window.size_at e in
    (of.0 ∙ sym c.requires.window.how, of.1 ∙ sym c.requires.window.pane, of.2 ∙ sym c.requires.window.count))
    c.newest_panes_are_same.ensures c.in-None.ensures

pub returns-in_ok-partials-in-Some : goal.returns-in_ok-partials-in-Some
returns-in_ok-partials-in-Some c names values h =
    let st = c.args.store.now in
    let s = bounded_seen st in
    let w = c.args.window.now in
    let onto : target_of (slice_get s.layout.windows w.number) ≡ c.args.stream = ap target_of c.requires.window.at ∙ c.requires.window.target in
    window-some (start_seen s) w (values_by_now st names c.args.stream c.args.index values) (panes_at st w.number c.args.index)
    (λ p e.
    subst (λ n. bounded_remembers st names n c.args.index values → StandFor p (by_offset (start_seen s) (values_by_now st names n c.args.index values))) onto
    (c.panes_stand_for_values.ensures.stand names w.number c.args.index values p e) h)
    (λ p e.
    let of = c.panes_stand_for_values.ensures.window w.number c.args.index c.requires.window.spec c.requires.window.size p c.requires.window.at c.requires.window.size_at e in
    (of.0 ∙ sym c.requires.window.how, of.1 ∙ sym c.requires.window.pane, of.2 ∙ sym c.requires.window.count))
    c.newest_panes_are_same.ensures c.in-Some.last c.kept_panes.result c.in_ok-partials-in-Some.partials c.kept_partials_are_same.ensures c.in-Some.ensures c.kept_panes.ensures c.in_ok-partials-in-Some.ensures
