use Rattle.std.proofs.Common.{arith, ◌∙◌, ◌++◌, ◌+◌, ◌*◌, ◌-◌, ◌<◌, replicate, take, length-append, length-take, ap, sym}
use Rattle.lola_value.proofs.Reading.{below_more, number_more, in_padding}
use Rattle.lola_value.proofs.times.first_nine.Goals as goal

pub loop-place-preserved : goal.loop-place-preserved
loop-place-preserved c =
    let digits = c.args.digits.now in
    let place = c.loop-place.place in
    let inside : place < 9 = omega arith in
    record {
      below = below_more c.loop-place.number c.digit_at.result place c.loop-place.invariant.below c.digit_at.ensures.below;
      value = number_more (take 9 (digits ++ replicate 9 48)) place c.loop-place.number _ _
          (omega (arith, length-take 9 (digits ++ replicate 9 48), length-append digits (replicate 9 48)))
          (ap (λ d. c.loop-place.number * 10 + d) (c.digit_at.ensures.value ∙ ap (λ b. b - 48) (sym (in_padding digits place inside))))
          c.loop-place.invariant.value;
    }
