use Rattle.std.proofs.Common.{◌≡◌, ◌∙◌, ℕ, Option, Some, [], MatchOption, ap, slice_get, subst, sym}
use Rattle.lola_panes.specs.Standing.{StandFor}
use Rattle.lola_model.specs.Store.{Seen, kind_in, start_seen}
use Rattle.lola_instances.specs.Stores.{bounded_seen, values_kept}
use Rattle.lola_save_text.specs.declared.forms.WindowForm.{WindowForm}
use Rattle.lola_save_text.specs.declared.state.SavedPanes.{SavedPanes}
use Rattle.lola_save.specs.Fitting.{IsWholeStreamOf}
use Rattle.lola_save.specs.Loaded.{ArePanesLoaded, AreValuesOf, times_seen}
use Rattle.lola_save.proofs.LoadedInstance.{blank-panes, blank-values, loaded-one, newborn-on}
use Rattle.lola_save.proofs.LoadedOne.{silent-on}
use Rattle.lola_save.proofs.LoadedPanes.{loaded-on}
use Rattle.lola_save.proofs.loaded_instances.load_instance.Goals as goal

pub load_values-requires-clause-none : goal.load_values-requires-clause-none
load_values-requires-clause-none c = blank-values c.args.store.now c.args.stream c.args.index c.requires.blank c.kept_values_are_last.ensures

pub load_panes-requires-clause-none : goal.load_panes-requires-clause-none
load_panes-requires-clause-none c = λ w v e t.
    let before = ap (λ (s : Seen). slice_get s.layout.windows w) (sym c.in_ok-load_values.ensures.one.seen) ∙ e in
    subst (λ o. MatchOption o ⊥ (λ p. StandFor p [])) (sym (c.in_ok-load_values.ensures.panes w v before t))
    (blank-panes c.args.store.now c.args.stream c.args.index c.requires.blank c.panes_stand_for_values.ensures.stand w v before t)

pub returns-clause-loaded : goal.returns-clause-loaded
returns-clause-loaded c =
    let old = c.args.store.now in
    let mid = c.load_values.new.store in
    let new = c.load_panes.new.store in
    let n = c.args.stream in
    let i = c.args.index in
    let form = c.args.form.now in
    let saved = c.args.saved.now in
    let names = c.load_values.new.texts.held in
    let v = c.in_ok-load_values.ensures in
    let p = c.in_ok-load_panes.ensures in
    let seen : bounded_seen new ≡ bounded_seen old = p.one.seen ∙ v.one.seen in
    let silent = silent-on old new n i seen c.requires.blank.silent in
    let whole : IsWholeStreamOf (bounded_seen new).layout n form = subst (λ (s : Seen). IsWholeStreamOf s.layout n form) (sym seen) c.requires.form in
    let ring : AreValuesOf names saved.ring (values_kept new n i) = subst (λ t. t) (λ j. AreValuesOf names (c.as_slice.ensures j) (values_kept new n i)) (subst (λ vs. AreValuesOf names c.as_slice.result.now vs) (sym p.values) v.values) in
    let panes : (k : ℕ) (w : WindowForm) (o : Option SavedPanes) → slice_get form.windows k ≡ Some w → slice_get saved.panes k ≡ Some o → ArePanesLoaded new i (kind_in (slice_get (bounded_seen new).layout.streams n)) w o =
    λ k w o e f.
    loaded-on (bounded_seen new) (bounded_seen mid) new i n w o (sym p.one.seen)
    (p.loaded k w o (ap (λ ws. slice_get ws k) c.as_slice-2.ensures ∙ e) (ap (λ ps. slice_get ps k) c.as_slice-3.ensures ∙ f)) in
    loaded-one new (times_seen (bounded_seen old)) names n i form saved c.silent_remembers_by_windows.ensures c.values_are_within.ensures c.panes_are_restored.ensures silent (ap start_seen (sym seen)) whole ring panes
    (newborn-on c.args.texts.now.held names form c.requires.blank.silent.x saved v.more.held (c.requires.newborn c.requires.blank.silent.x c.requires.blank.silent.at))
