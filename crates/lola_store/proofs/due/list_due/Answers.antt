use Rattle.std.proofs.Common.{◌≡◌, ◌∙◌, Some, slice_get, length, refl, arith}
use Rattle.std.proofs.lemmas.List.{length-map}
use Rattle.std.proofs.lemmas.Option.{slice_get_read}
use Rattle.lola_store.specs.Dues.{due_lives}
use Rattle.lola_store.specs.Populations.{population_layout}
use Rattle.lola_store.proofs.Dues.{places_shown}
use Rattle.lola_store.proofs.due.list_due.Goals as goal

pub returns-clause-places : goal.returns-clause-places
returns-clause-places c =
    let ls = c.args.s.now.streams.items in
    let l = c.index-population.result.now in
    let at : slice_get ls c.args.stream ≡ Some l =
    slice_get_read ls (length ls) c.args.stream l refl (omega (arith, c.requires.stream, length-map ls population_layout)) c.index-population.ensures in
    c.list_among.ensures.places
    ∙ (λ j. due_lives (c.as_slice-2.ensures.value j) c.args.time 0 (c.as_slice.ensures.value j))
    ∙ places_shown c.args.s.now c.args.stream c.args.time l at
