-- The cell of the instance at the place holds it, and another with the same parameters after the call.
use Rattle.std.proofs.Common.{◌≡◌, ◌∙◌, Option, Some, length, refl, sym, ap, subst, arith, slice_get, slice_set, MatchOption}
use Rattle.std.proofs.lemmas.List.{length-set}
use Rattle.std.proofs.lemmas.Option.{slice_get_read, slice_get_within}
use Rattle.lola_instances_one.specs.Holdings.{Holdings}
use Rattle.lola_instances_one.specs.Telling.{AllReady}
use Rattle.lola_instances_stream.specs.Cells.{IsTaken, Line, living}
use Rattle.lola_instances_stream.specs.Changes.{HasTold, IsChangedAt}
use Rattle.lola_instances_stream.proofs.Known.{known_changed, place_changed}
use Rattle.lola_instances_stream.proofs.Taken.{stands_get, stands_place, stands_taken}
use Rattle.lola_instances_stream.proofs.cells.Cells.add_value.Goals as goal

pub index_mut-requires : goal.index_mut-requires
index_mut-requires c =
    let cells = c.self.inside.cells.items in
    let st = c.cell_at-cell.ensures in
    let within = slice_get_within cells c.cell_at-cell.result (Some st.0) (stands_get cells c.cell_at-cell.result c.args.place st.0 st.1) in
    omega arith

pub tell_in-requires-clause-taken : goal.tell_in-requires-clause-taken
tell_in-requires-clause-taken c =
    let cells = c.self.inside.cells.items in
    let cell = c.cell_at-cell.result in
    let st = c.cell_at-cell.ensures in
    let within = slice_get_within cells cell (Some st.0) (stands_get cells cell c.args.place st.0 st.1) in
    let at = slice_get_read cells (length cells) cell c.index_mut.result.now refl within c.index_mut.ensures.value in
    subst IsTaken at (stands_taken cells cell c.args.place st.0 st.1)

pub invariant_of-self : goal.invariant_of-self
invariant_of-self c =
    let cells = c.self.inside.cells.items in
    let cell = c.cell_at-cell.result in
    let new = c.tell_in.new.slot in
    let st = c.cell_at-cell.ensures in
    let within = slice_get_within cells cell (Some st.0) (stands_get cells cell c.args.place st.0 st.1) in
    let at = slice_get_read cells (length cells) cell c.index_mut.result.now refl within c.index_mut.ensures.value in
    let R = HasTold c.args.step c.args.offset c.args.value in
    let h = place_changed R cells (slice_set cells cell new) cell c.index_mut.result.now new c.tell_in.ensures at refl c.args.place st.0 st.1 in
    let n = ap length h.set in
    let k = length-set cells cell new in
    let m = length-set (living cells) c.args.place h.y in
    record {
      known = known_changed R cells (slice_set cells cell new) cell c.index_mut.result.now new c.tell_in.ensures at refl c.self.inside.flags c.self.inside.table c.self.invariant.known;
      count = let was = c.self.invariant.count in omega arith;
      room = c.self.invariant.room;
      long = c.self.invariant.long;
    }

pub returns-clause-changed : goal.returns-clause-changed
returns-clause-changed c =
    let cells = c.self.inside.cells.items in
    let cell = c.cell_at-cell.result in
    let new = c.tell_in.new.slot in
    let st = c.cell_at-cell.ensures in
    let within = slice_get_within cells cell (Some st.0) (stands_get cells cell c.args.place st.0 st.1) in
    let at = slice_get_read cells (length cells) cell c.index_mut.result.now refl within c.index_mut.ensures.value in
    let R = HasTold c.args.step c.args.offset c.args.value in
    subst (λ (l : Line). IsChangedAt R c.args.place l.items (living (slice_set cells cell new))) c.self.view_is
    (place_changed R cells (slice_set cells cell new) cell c.index_mut.result.now new c.tell_in.ensures at refl c.args.place st.0 st.1)

pub tell_in-requires-clause-ready : goal.tell_in-requires-clause-ready
tell_in-requires-clause-ready c =
    let cells = c.self.inside.cells.items in
    let cell = c.cell_at-cell.result in
    let held = c.index_mut.result.now in
    let st = c.cell_at-cell.ensures in
    let got = stands_get cells cell c.args.place st.0 st.1 in
    let within = slice_get_within cells cell (Some st.0) got in
    let at : slice_get cells cell ≡ Some held = slice_get_read cells (length cells) cell held refl within c.index_mut.ensures.value in
    let is : held ≡ Some st.0 = cc in
    let path = ap (λ (l : Line). slice_get l.items c.args.place) (sym c.self.view_is) ∙ stands_place cells cell c.args.place st.0 st.1 ∙ sym is in
    subst (λ (o : Option Holdings). MatchOption o ⊥ (λ s. AllReady c.args.offset c.args.value s.panes)) path c.requires.ready
