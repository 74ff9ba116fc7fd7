-- Nine digits fit before the comma, and eleven before the point.
use Rattle.std.proofs.Common.{◌≡◌, ◌/◌, ◌%◌, ◌++◌, [], ◌∷◌, ℕ, List, length, arith, drop, ap, ◌∙◌, length-set}
use Rattle.std.specs.Fmt.{decimal}
use Rattle.lola_value.specs.Times.{nine_digits}
use Rattle.lola_value.proofs.Printing.{nine_at_most, eleven_at_most}
use Rattle.lola_report.proofs.Heads.{comma_last, point_between, zeros_lead}
use Rattle.lola_report.proofs.head.write_time.Goals as goal

pub write_digits-nanoseconds_from-requires : goal.write_digits-nanoseconds_from-requires
write_digits-nanoseconds_from-requires c = (omega (arith, nine_at_most c.args.t), omega (arith, length-set {A = ℕ}))

pub write_digits-requires : goal.write_digits-requires
write_digits-requires c = (omega (arith, eleven_at_most c.args.t (omega arith)), omega (arith, length-set {A = ℕ}))

pub returns-clause-text : goal.returns-clause-text
returns-clause-text c =
    let first = c.write_digits-nanoseconds_from in
    let second = c.write_digits in
    let t = c.args.t in
    let long : length c.args.room.now ≡ 64 = omega arith in
    let long' : length first.new.buf ≡ 64 = omega (arith, length-set {A = ℕ}) in
    let written : drop first.result first.new.buf ≡ decimal (t % 1000000000) ++ 44 ∷ [] = first.ensures.written ∙ ap (λ (l : List ℕ). decimal (t % 1000000000) ++ l) (comma_last c.args.room.now long) in
    let behind = zeros_lead c.args.room.now first.new.buf (decimal (t % 1000000000)) first.result c.requires first.ensures.start (nine_at_most t) written first.ensures.before in
    point_between first.new.buf (decimal (t / 1000000000)) (drop second.result second.new.buf) (nine_digits (t % 1000000000)) long' behind second.ensures.written

pub returns-clause-within : goal.returns-clause-within
returns-clause-within c = (omega (arith, eleven_at_most c.args.t (omega arith), c.write_digits.ensures.start), omega (arith, c.write_digits.ensures.start))
