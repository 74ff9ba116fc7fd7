use Rattle.std.proofs.Common.{◌≡◌, ◌-◌, ◌++◌, ◌∙◌, sym, ap, suc, arith, drop, ◌∷◌}
use Rattle.lola_value.specs.Naming.{the_values}
use Rattle.lola_value.specs.Shorts.{value_in}
use Rattle.lola_expr.specs.Machine.{top}
use Rattle.lola_expr.proofs.Steps.{gone, taken}
use Rattle.lola_expr.proofs.asking.take_params.Goals as goal

pub loop-left-preserved-in-Some : goal.loop-left-preserved-in-Some
loop-left-preserved-in-Some c =
    let i = c.loop-left.invariant in
    let e = c.in-Some.ensures in
    let n : c.loop-left.left ≡ suc (c.loop-left.left - 1) = omega (arith, c.loop-left-test.true) in (
      ap (λ l. top (c.loop-left.left - 1) c.pop.new.self ++ l) (c.led_by-params.ensures.values ∙ ap (λ x. x ∷ the_values c.loop-left.params) c.value_of-first.ensures)
          ∙ sym (taken c.loop-left.left (c.loop-left.left - 1) (value_in c.in-Some.v) (the_values c.loop-left.params) c.pop.new.self n)
          ∙ ap (λ l. top c.loop-left.left l ++ the_values c.loop-left.params) (sym e)
          ∙ i.0,
      sym (gone c.loop-left.left (c.loop-left.left - 1) (value_in c.in-Some.v) c.pop.new.self n) ∙ ap (λ l. drop c.loop-left.left l) (sym e) ∙ i.1,
      omega (arith, c.led_by-params.ensures.count, i.2, n),
      c.led_by-params.ensures.well_formed i.3,
    )
