use Rattle.std.proofs.Common.{◌≡◌, ◌/◌, ◌%◌, ◌-◌, ◌++◌, ℕ, List, length, arith, drop, take, OnOk, ap, ◌∙◌, subst, length-set}
use Rattle.std.specs.Fmt.{decimal}
use Rattle.std.proofs.lemmas.List.{take_rest}
use Rattle.lola_value.specs.Times.{time_text, nine_digits}
use Rattle.lola_value.proofs.Printing.{zeros_lead, point_between, nine_at_most, eleven_at_most}
use Rattle.lola_value.proofs.times.time_text.Goals as goal

pub write_digits-nanoseconds_from-requires : goal.write_digits-nanoseconds_from-requires
write_digits-nanoseconds_from-requires c = (omega (arith, nine_at_most c.args.t), omega arith)

pub write_digits-from-requires : goal.write_digits-from-requires
write_digits-from-requires c = (eleven_at_most c.args.t (omega arith), omega (arith, length-set {A = ℕ}))

pub returns-clause-ok : goal.returns-clause-ok
returns-clause-ok c =
    let first = c.write_digits-nanoseconds_from in
    let second = c.write_digits-from in
    let t = c.args.t in
    let behind = zeros_lead first.new.buf (decimal (t % 1000000000)) first.result first.ensures.start (nine_at_most t) first.ensures.written first.ensures.before in
    let all = point_between first.new.buf (decimal (t / 1000000000)) (drop second.result second.new.buf) (nine_digits (t % 1000000000)) (omega arith) behind second.ensures.written in
    let long : 21 ≡ length second.new.buf = omega (arith, length-set {A = ℕ}) in
    let appended : take (21 - second.result) (drop second.result second.new.buf) ≡ time_text t = ap (λ n. take (n - second.result) (drop second.result second.new.buf)) long ∙ take_rest second.new.buf second.result ∙ all in
    let P : List ℕ → Type 0 = λ l. OnOk c.append.result (c.append.new.self ≡ c.args.to.now ++ l) in
    subst P appended c.append.ensures.ok
