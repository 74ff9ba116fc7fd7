use Rattle.std.proofs.Common.{◌≡◌, ◌∙◌, ◌<◌, ℕ, arith, nat_lt, sym, true}
use Rattle.std.proofs.lemmas.Bool.Decides.{nat_tests}
use Rattle.lola_clock.proofs.Moments.{due_stepped, rest_stepped}
use Rattle.lola_clock.proofs.timers.moment_for.Goals as goal

above : (to due : ℕ) → nat_lt to due ≡ true → to < due
above to due is = grind (arith, nat_tests)

pub returns-then-is_above-clause-due : goal.returns-then-is_above-clause-due
returns-then-is_above-clause-due c =
    let k = c.args.timer.now in
    let next = c.one_later-next in
    let at = c.requires.usable.stands c.if-known.true c.requires.due in
    due_stepped c.args.start c.args.to at.0 k.due next.result.due k.rest next.result.rest c.placed.result.due k.rate next.ensures.rate c.requires.order at.1 (next.ensures.later at.0 at.1) c.requires.due (above c.args.to next.result.due (sym c.is_above.ensures ∙ c.if-is_above.true)) c.placed.ensures.due

pub returns-then-is_above-clause-rest : goal.returns-then-is_above-clause-rest
returns-then-is_above-clause-rest c =
    let k = c.args.timer.now in
    let next = c.one_later-next in
    let at = c.requires.usable.stands c.if-known.true c.requires.due in
    rest_stepped c.args.start c.args.to at.0 k.due next.result.due k.rest next.result.rest c.placed.result.rest k.rate next.ensures.rate c.requires.order at.1 (next.ensures.later at.0 at.1) c.requires.due (above c.args.to next.result.due (sym c.is_above.ensures ∙ c.if-is_above.true)) c.placed.ensures.rest
