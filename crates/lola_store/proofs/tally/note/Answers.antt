use Rattle.std.proofs.Common.{rules, ◌≡◌, ◌∙◌, ◌+◌, ◌+ℤ◌, ◌&&◌, ◌||◌, to_z, of_z, ap}
use Rattle.std.proofs.lemmas.Int.{to_z-of_z}
use mir.Syntax.{w128}
use Rattle.lola_store.specs.Tallies.{number_in}
use Rattle.lola_store.proofs.tally.note.Goals as goal

pub returns : goal.returns
returns c =
    let t = c.args.tally.now in
    let z : to_z w128 (of_z w128 c.whole_with.result) ≡ t.whole +ℤ number_in c.args.v = to_z-of_z w128 c.whole_with.result (search rules) ∙ c.whole_with.ensures in
    λ i. record { many = t.many + 1; whole = z i; lowest = c.lowest_with.ensures i; highest = c.highest_with.ensures i; every = (c.both.ensures ∙ ap (λ b. t.every && b) c.truth-b.ensures) i; any = (c.one_of.ensures ∙ ap (λ b. t.any || b) c.truth-b.ensures) i }
