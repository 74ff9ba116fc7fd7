use Rattle.std.proofs.Common.{◌≡◌, ◌∙◌, List, Option, length, filter, is_some, nat_lt, sym, ap, subst, arith}
use Rattle.lola_instances_one.specs.Holdings.{Holdings}
use Rattle.lola_instances_stream.specs.Cells.{AreKnown, living}
use Rattle.lola_instances_stream.proofs.Known.{known_packed}
use Rattle.lola_instances_stream.proofs.Taken.{living_packed, flagged_long, packed_full}
use Rattle.lola_instances_stream.proofs.cells.pack.Goals as goal

pub returns-clause-known : goal.returns-clause-known
returns-clause-known c =
    let cells = c.args.cells.now.items in
    let e = c.compact.ensures.cells in
    let m = ap length e in
    let n : c.len.result ≡ length (filter is_some cells) = omega (arith, c.len.ensures) in
    let long = flagged_long cells c.args.flags.now c.requires.known.flagged in
    subst (λ (cs : List (Option Holdings)). AreKnown cs c.fill.new.self c.pack.new.self) (sym e)
    (known_packed cells c.args.flags.now c.fill.new.self c.args.table.now c.pack.new.self c.requires.known c.pack.ensures.kept c.pack.ensures.entries
    (omega (arith, c.fill.ensures.length))
    (λ i l. c.fill.ensures.bits i (omega (arith, c.fill.ensures.length)) ∙ ap (nat_lt i) n))

pub returns-clause-items : goal.returns-clause-items
returns-clause-items c = ap living c.compact.ensures.cells ∙ living_packed c.args.cells.now.items

pub returns-clause-full : goal.returns-clause-full
returns-clause-full c =
    subst (λ (cs : List (Option Holdings)). length (living cs) ≡ length cs) (sym c.compact.ensures.cells) (packed_full c.args.cells.now.items)
