use Rattle.std.proofs.Common.{◌/◌, ◌%◌, ◌++◌, ℕ, List, arith, drop, take, ap, ◌∙◌, length-set}
use Rattle.std.specs.Fmt.{decimal}
use Rattle.lola_value.specs.Times.{nine_digits}
use Rattle.lola_value.proofs.Printing.{zeros_lead, point_between, nine_at_most, eleven_at_most}
use Rattle.lola_save_read.proofs.words.print_time.Goals as goal

pub write_digits-nanoseconds_from-requires : goal.write_digits-nanoseconds_from-requires
write_digits-nanoseconds_from-requires c = (omega (arith, nine_at_most c.args.t), omega arith)

pub write_digits-requires : goal.write_digits-requires
write_digits-requires c = (eleven_at_most c.args.t (omega arith), omega (arith, length-set {A = ℕ}))

pub returns-clause-text : goal.returns-clause-text
returns-clause-text c =
    let first = c.write_digits-nanoseconds_from in
    let second = c.write_digits in
    let t = c.args.t in
    let written = first.ensures.written ∙ ap (λ (l : List ℕ). decimal (t % 1000000000) ++ drop 21 l) c.requires in
    let before = first.ensures.before ∙ ap (take first.result) c.requires in
    let behind = zeros_lead first.new.buf (decimal (t % 1000000000)) first.result first.ensures.start (nine_at_most t) written before in
    point_between first.new.buf (decimal (t / 1000000000)) (drop second.result second.new.buf) (nine_digits (t % 1000000000)) (omega arith) behind second.ensures.written
