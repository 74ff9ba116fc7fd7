use Rattle.std.proofs.Common.{ℕ, ◌≡◌, refl, ◌∙◌, List, Option, Some, None, slice_get, ap, sym, subst}
use Rattle.std.specs.Option.{option_map}
use Rattle.std.proofs.lemmas.Option.{slice_get-map}
use Rattle.lola_value.specs.declared.value.Kind.{Kind}
use Rattle.lola_value.specs.declared.value.Params.{Params}
use Rattle.lola_model.specs.Store.{SeenInstance, instances_of, parameters_of}
use Rattle.lola_model.specs.Whereabouts.{AreOthers}
use Rattle.lola_instances_one.specs.Holdings.{Holdings, slot_seen}
use Rattle.lola_instances.proofs.Asking.{layout_at, stream_at}
use Rattle.lola_instances.proofs.reading.find.Goals as goal

-- an instance that is seen is one of the stream
seen_one : (step : ℕ) (kinds : List Kind) (p : Params) (o : Option Holdings) (x : SeenInstance) → option_map (slot_seen step) o ≡ Some x
    → ((s : Holdings) → o ≡ Some s → AreOthers kinds p s.params) → AreOthers kinds p x.params
seen_one step kinds p None x e h = absurd (cc)
seen_one step kinds p (Some s) x e h =
    let q : slot_seen step s ≡ x = cc in
    subst (λ (y : SeenInstance). AreOthers kinds p y.params) q (h s refl)

pub find-requires-clause-steady : goal.find-requires-clause-steady
find-requires-clause-steady c = λ i x e. ((c.args.s.now.right c.args.stream c.lives_of.result.now c.lives_of.ensures).each i x e).steady

pub returns : goal.returns
returns c = λ j x at out.
    let s = c.args.s.now in
    let l = c.lives_of.result.now in
    let there = sym (ap (λ o. slice_get (instances_of o) j) (stream_at s.step s.streams.items c.args.stream l c.lives_of.ensures) ∙ slice_get-map (slot_seen s.step) l.slots j) ∙ at in
    let kinds = sym (ap parameters_of (layout_at s.streams.items c.args.stream l c.lives_of.ensures)) in
    subst (λ (ks : List Kind). AreOthers ks c.args.params.now x.params) kinds
    (seen_one s.step l.layout.parameters c.args.params.now (slice_get l.slots j) x there (λ i e. c.find.ensures j i e out))
