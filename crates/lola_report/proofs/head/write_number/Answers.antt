-- Twenty digits fit before the comma.
use Rattle.std.proofs.Common.{◌≡◌, ◌+◌, ◌-◌, ◌<◌, ◌++◌, ℕ, List, length, arith, ap, ◌∙◌, length-set}
use Rattle.std.specs.Fmt.{decimal}
use Rattle.lola_report.proofs.Heads.{comma_at, twenty_at_most}
use Rattle.lola_report.proofs.head.write_number.Goals as goal

pub write_digits-requires : goal.write_digits-requires
write_digits-requires c = (omega (arith, twenty_at_most c.args.n (omega arith)), omega (arith, length-set {A = ℕ}))

pub returns-clause-text : goal.returns-clause-text
returns-clause-text c =
    let next : c.args.before - 1 + 1 ≡ c.args.before = omega arith in
    let inside : c.args.before - 1 < length c.args.room.now = omega arith in
    c.write_digits.ensures.written ∙ ap (λ (l : List ℕ). decimal c.args.n ++ l) (comma_at c.args.room.now (c.args.before - 1) c.args.before next inside)

pub returns-clause-within : goal.returns-clause-within
returns-clause-within c = (omega (arith, twenty_at_most c.args.n (omega arith), c.write_digits.ensures.start), omega (arith, c.write_digits.ensures.start))
