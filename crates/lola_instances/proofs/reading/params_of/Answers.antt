use Rattle.std.proofs.Common.{ℕ, ◌≡◌, ◌∙◌, Option, Some, None, List, IsTrue, MatchOption, slice_get, ap, sym, subst}
use Rattle.std.specs.Option.{option_map}
use Rattle.std.proofs.lemmas.Option.{slice_get-map}
use Rattle.lola_value.specs.declared.value.Kind.{Kind}
use Rattle.lola_value.specs.declared.value.Params.{Params}
use Rattle.lola_value.specs.Kinds.{are_of_kinds}
use Rattle.lola_value.specs.Naming.{the_values}
use Rattle.lola_model.specs.Store.{SeenInstance, instances_of, parameters_of}
use Rattle.lola_instances_one.specs.Holdings.{Holdings, slot_seen}
use Rattle.lola_instances.proofs.Asking.{layout_at, stream_at, stream_within, index_is}
use Rattle.lola_instances.proofs.reading.params_of.Goals as goal

seen_params : (step : ℕ) (o : Option Holdings) (r : Params) → MatchOption o ⊥ (λ s. r ≡ s.params) → MatchOption (option_map (slot_seen step) o) ⊥ (λ (x : SeenInstance). r ≡ x.params)
seen_params step None r h = h
seen_params step (Some s) r h = h

pub lives_of-requires : goal.lives_of-requires
lives_of-requires c = stream_within c.args.s.now.step c.args.s.now.streams.items c.args.stream c.args.index c.requires

pub params_of-requires-clause-index : goal.params_of-requires-clause-index
params_of-requires-clause-index c = index_is c.args.s.now.step c.args.s.now.streams.items c.args.stream c.lives_of.result.now c.lives_of.ensures c.args.index c.requires

pub params_of-requires-clause-steady : goal.params_of-requires-clause-steady
params_of-requires-clause-steady c = λ i x e. ((c.args.s.now.right c.args.stream c.lives_of.result.now c.lives_of.ensures).each i x e).steady

pub returns-clause-value : goal.returns-clause-value
returns-clause-value c =
    let s = c.args.s.now in
    let l = c.lives_of.result.now in
    let r = c.params_of.result in
    subst (λ (o : Option SeenInstance). MatchOption o ⊥ (λ (x : SeenInstance). r ≡ x.params))
    (sym (ap (λ o. slice_get (instances_of o) c.args.index) (stream_at s.step s.streams.items c.args.stream l c.lives_of.ensures) ∙ slice_get-map (slot_seen s.step) l.slots c.args.index))
    (seen_params s.step (slice_get l.slots c.args.index) r c.params_of.ensures.value)

pub returns-clause-kinds : goal.returns-clause-kinds
returns-clause-kinds c =
    subst (λ (ks : List Kind). IsTrue (are_of_kinds ks (the_values c.params_of.result))) (sym (ap parameters_of (layout_at c.args.s.now.streams.items c.args.stream c.lives_of.result.now c.lives_of.ensures))) c.params_of.ensures.kinds
