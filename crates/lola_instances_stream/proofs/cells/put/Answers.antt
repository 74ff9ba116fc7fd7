use Rattle.std.proofs.Common.{◌≡◌, ℕ, ◌++◌, ◌∷◌, [], Bool, true, List, Option, Some, length, sym, subst, arith, slice_set, IsTrue}
use Rattle.lola_value.specs.Kinds.{is_well_formed}
use Rattle.lola_instances_one.specs.Holdings.{Holdings}
use Rattle.lola_instances_stream.specs.Cells.{AreKnown}
use Rattle.lola_instances_stream.specs.Listings.{HasCell}
use Rattle.lola_instances_stream.proofs.Known.{known_more}
use Rattle.lola_instances_stream.proofs.cells.put.Goals as goal

pub returns-clause-known : goal.returns-clause-known
returns-clause-known c =
    let cells = c.args.cells.now.items in
    let slot = c.args.slot in
    let table = c.args.table.now in
    let after = c.add.new.self in
    let n : c.len-cell.result ≡ length cells = omega (arith, c.len-cell.ensures) in
    let formed = subst (λ p. IsTrue (is_well_formed p)) c.params-params.ensures.value c.params-params.ensures.formed in
    subst (λ (cs : List (Option Holdings)). AreKnown cs c.set.new.self after) (sym c.push_reserved.ensures.items)
    (subst (λ (bits : List Bool). AreKnown (cells ++ Some slot ∷ []) bits after) (sym c.set.ensures)
    (subst (λ (k : ℕ). AreKnown (cells ++ Some slot ∷ []) (slice_set c.args.flags.now k true) after) (sym n)
    (known_more cells c.args.flags.now table after slot formed c.requires.known c.requires.bits c.requires.absent c.add.ensures.kept
    (λ kept. subst (λ (k : ℕ). HasCell slot.params (Some k) table.entries after.entries) n
    (subst (λ p. HasCell p (Some c.len-cell.result) table.entries after.entries) c.params-params.ensures.value (c.add.ensures.cell kept))))))
