use Rattle.std.proofs.Common.{◌∙◌, sym, ap, get_or, ◌^◌}
use Rattle.lola_rows.specs.Values.{below, digit_after}
use Rattle.lola_rows.proofs.NumeralFacts.{below-is, below-some, digits-done-at, digits-none-at, digits-some-at, digits-start, some-digits}
use Rattle.lola_rows.proofs.numbers.size_of.Goals as goal

pub returns-in_err-size : goal.returns-in_err-size
returns-in_err-size c =
    let xs = c.args.digits.now in
    c.from_residual.ensures
    ∙ sym (ap (below (2 ^ 64)) (digits-start xs (some-digits xs c.if-is_empty.ensures) ∙ c.loop-digit.invariant.reads)
    ∙ digits-none-at (2 ^ 64) c.loop-digit.size xs c.loop-digit.digit-index c.loop-digit-test.true (sym c.with_digit.ensures ∙ c.in_err-size.was))

pub loop-digit-preserved : goal.loop-digit-preserved
loop-digit-preserved c =
    let xs = c.args.digits.now in
    let more = sym c.with_digit.ensures ∙ c.in_ok-size.was in
    record {
      fits = below-is (2 ^ 64) c.in_ok-size.size (digit_after c.loop-digit.size (get_or xs c.loop-digit.digit-index 0)) more;
      reads = c.loop-digit.invariant.reads ∙ digits-some-at (2 ^ 64) c.loop-digit.size c.in_ok-size.size xs c.loop-digit.digit-index c.loop-digit-test.true more;
    }

pub returns : goal.returns
returns c =
    let xs = c.args.digits.now in
    sym (ap (below (2 ^ 64)) (digits-start xs (some-digits xs c.if-is_empty.ensures) ∙ c.loop-digit.invariant.reads ∙ digits-done-at c.loop-digit.size xs c.loop-digit.digit-index c.loop-digit-test.false)
    ∙ below-some (2 ^ 64) c.loop-digit.size c.loop-digit.invariant.fits)
