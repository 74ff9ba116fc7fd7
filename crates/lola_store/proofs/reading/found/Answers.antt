use Rattle.std.proofs.Common.{◌≡◌, ◌∙◌, ◌<◌, ◌≤◌, ℕ, get_or, List, length, map, Some, slice_get, refl, ap, sym, subst, arith}
use Rattle.std.proofs.lemmas.List.{length-map}
use Rattle.std.proofs.lemmas.Option.{slice_get_read}
use Rattle.lola_instances_stream.specs.Each.{Each}
use Rattle.lola_store.specs.declared.instance.Instance.{Instance}
use Rattle.lola_store.specs.declared.population.Population.{Population}
use Rattle.lola_store.specs.Instances.{place_in}
use Rattle.lola_store.specs.Populations.{lives_in, population_layout}
use Rattle.lola_store.proofs.Places.{place_shows, four}
use Rattle.lola_store.proofs.reading.found.Goals as goal

at : (ls : List Population) (n : ℕ) (l : Population) → n < length (map population_layout ls) → l ≡ get_or ls n l → slice_get ls n ≡ Some l
at ls n l h g = slice_get_read ls (length ls) n l refl (omega (arith, length-map ls population_layout)) g

pub place-requires-clause-counts : goal.place-requires-clause-counts
place-requires-clause-counts c =
    let s = c.args.s.now in
    let l = c.index-population.result.now in
    let e : slice_get s.streams.items c.args.stream ≡ Some l = at s.streams.items c.args.stream l c.requires.fits.stream c.index-population.ensures in
    subst (Each (λ (x : Instance). x.params.count ≤ 4)) (sym c.as_slice.ensures.value) (λ i x f. four x.params ((s.right c.args.stream l e).each i x f).formed)

pub returns : goal.returns
returns c =
    let s = c.args.s.now in
    let l = c.index-population.result.now in
    let e : slice_get s.streams.items c.args.stream ≡ Some l = at s.streams.items c.args.stream l c.requires.fits.stream c.index-population.ensures in
    c.place.ensures ∙ (ap (λ xs. place_in c.args.params.now xs 0) c.as_slice.ensures.value
    ∙ sym (place_shows s.step c.args.params.now s.streams.items c.args.stream ∙ ap (λ o. place_in c.args.params.now (lives_in o) 0) e))
