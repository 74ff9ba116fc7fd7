use Rattle.std.proofs.Common.{rules, ◌≡◌, ◌∙◌, Some, slice_get}
use Rattle.lola_panes.proofs.Rising.{rising-left}
use Rattle.lola_panes.proofs.ring.has_left.Goals as goal

pub returns-in-Some : goal.returns-in-Some
returns-in-Some c =
    let e : slice_get c.args.ring.now.items c.args.place ≡ Some c.in-Some.p.now = search rules in
    c.is_past.ensures ∙ rising-left c.args.count c.args.k 0 c.args.place c.args.ring.now.items c.in-Some.p.now c.requires.rising e
