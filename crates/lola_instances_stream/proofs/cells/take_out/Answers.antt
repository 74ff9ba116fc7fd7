use Rattle.std.proofs.Common.{◌≡◌, Bool, List, Option, None, Some, length, refl, sym, subst, arith, slice_get, slice_set, MatchOption}
use Rattle.std.proofs.lemmas.Option.{slice_get_read, slice_get_within}
use Rattle.lola_instances_one.specs.Holdings.{Holdings}
use Rattle.lola_instances_stream.specs.Cells.{AreKnown}
use Rattle.lola_instances_stream.specs.Listings.{HasCell}
use Rattle.lola_instances_stream.proofs.Known.{known_less}
use Rattle.lola_instances_stream.proofs.Taken.{flagged_long, taken_there}
use Rattle.lola_instances_stream.proofs.cells.take_out.Goals as goal

pub set-requires : goal.set-requires
set-requires c =
    let cells = c.args.cells.now.items in
    let t = taken_there cells c.args.cell c.requires.taken in
    let within = slice_get_within cells c.args.cell (Some t.0) t.1 in
    let long = flagged_long cells c.args.flags.now c.requires.known.flagged in
    omega arith

pub returns-clause-known : goal.returns-clause-known
returns-clause-known c =
    let cells = c.args.cells.now.items in
    let cell = c.args.cell in
    let table = c.args.table.now in
    let after = c.remove.new.self in
    let held = c.index_mut.result.now in
    let t = taken_there cells cell c.requires.taken in
    let within = slice_get_within cells cell (Some t.0) t.1 in
    let at : slice_get cells cell ≡ Some held = slice_get_read cells (length cells) cell held refl within c.index_mut.ensures.value in
    let is : held ≡ Some t.0 = (let e = t.1 in cc) in
    let params = subst (λ (o : Option Holdings). MatchOption o ⊥ (λ s. c.take_params-params.result ≡ s.params)) is c.take_params-params.ensures.params in
    subst (λ (o : Option Holdings). AreKnown (slice_set cells cell o) c.set.new.self after) (sym c.take_params-params.ensures.gone)
    (subst (λ (bits : List Bool). AreKnown (slice_set cells cell None) bits after) (sym c.set.ensures)
    (known_less cells cell c.args.flags.now table after t.0 t.1 c.requires.known c.remove.ensures.kept
    (λ kept. subst (λ p. HasCell p None table.entries after.entries) params (c.remove.ensures.cell kept))))
