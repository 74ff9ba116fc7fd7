use Rattle.std.proofs.Common.{ℕ, ◌≡◌, ◌∙◌, Option, Some, None, MatchOption, slice_get, ap, sym, subst}
use Rattle.std.specs.Option.{option_map}
use Rattle.std.proofs.lemmas.Option.{slice_get-map}
use Rattle.lola_model.specs.Store.{SeenInstance, instances_of}
use Rattle.lola_instances_one.specs.Holdings.{Holdings, slot_seen}
use Rattle.lola_instances.proofs.Asking.{stream_at, stream_within, index_is}
use Rattle.lola_instances.proofs.reading.born.Goals as goal

seen_born : (step : ℕ) (o : Option Holdings) (r : ℕ) → MatchOption o ⊥ (λ s. r ≡ s.born) → MatchOption (option_map (slot_seen step) o) ⊥ (λ (x : SeenInstance). r ≡ x.born)
seen_born step None r h = h
seen_born step (Some s) r h = h

pub lives_of-requires : goal.lives_of-requires
lives_of-requires c = stream_within c.args.s.now.step c.args.s.now.streams.items c.args.stream c.args.index c.requires

pub born-requires : goal.born-requires
born-requires c = index_is c.args.s.now.step c.args.s.now.streams.items c.args.stream c.lives_of.result.now c.lives_of.ensures c.args.index c.requires

pub returns : goal.returns
returns c =
    let s = c.args.s.now in
    let l = c.lives_of.result.now in
    let r = c.born.result in
    subst (λ (o : Option SeenInstance). MatchOption o ⊥ (λ (x : SeenInstance). r ≡ x.born))
    (sym (ap (λ o. slice_get (instances_of o) c.args.index) (stream_at s.step s.streams.items c.args.stream l c.lives_of.ensures) ∙ slice_get-map (slot_seen s.step) l.slots c.args.index))
    (seen_born s.step (slice_get l.slots c.args.index) r c.born.ensures)
