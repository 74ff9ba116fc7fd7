use Rattle.std.proofs.Common.{◌≡◌, ◌<◌, ◌++◌, ◌∷◌, List, length, sym, ap, ◌∙◌, arith}
use Rattle.lola_parser.specs.declared.pending.Pending.{Pending}
use Rattle.lola_parser.specs.Parts.{left_by_all}
use Rattle.lola_parser.proofs.Turning.{turn_keeps, turn_stops}
use Rattle.lola_parser.proofs.Falling.{weights, turn_falls}
use Rattle.lola_parser.proofs.expressions.expression_is_read.Goals as goal

pub returns-in_default-turn : goal.returns-in_default-turn
returns-in_default-turn c = λ n less.
    let short : length c.loop-part.cursor < n = omega (arith, c.loop-part.invariant.within, less) in
    sym (c.loop-part.invariant.same n less) ∙ ap (λ (qs : List Pending). left_by_all n qs c.loop-part.cursor) c.in-Some.ensures
    ∙ turn_stops n c.in-Some.part c.pop.new.self c.loop-part.cursor short c.in_default-turn.ensures

pub loop-part-smaller : goal.loop-part-smaller
loop-part-smaller c =
    let f = turn_falls c.in-Some.part c.pop.new.self c.in-Some-turn.parts.now c.loop-part.cursor c.turn.new.cursor c.in-Some-turn.ensures in
    let put : weights c.put-in-Some.new.self ≡ weights (c.in-Some-turn.parts.now ++ c.pop.new.self) = ap weights c.in_ok-put-2.ensures in
    let had : weights c.loop-part.stack ≡ weights (c.in-Some.part ∷ c.pop.new.self) = ap weights c.in-Some.ensures in
    omega (arith, f.0, put, had)

pub loop-part-preserved : goal.loop-part-preserved
loop-part-preserved c = record {
  same = λ n less.
      let short : length c.loop-part.cursor < n = omega (arith, c.loop-part.invariant.within, less) in
      ap (λ (qs : List Pending). left_by_all n qs c.turn.new.cursor) c.in_ok-put-2.ensures
      ∙ turn_keeps n c.in-Some.part c.pop.new.self c.in-Some-turn.parts.now c.loop-part.cursor c.turn.new.cursor short c.in-Some-turn.ensures
      ∙ ap (λ (qs : List Pending). left_by_all n qs c.loop-part.cursor) (sym c.in-Some.ensures)
      ∙ c.loop-part.invariant.same n less;
  within =
      let f = turn_falls c.in-Some.part c.pop.new.self c.in-Some-turn.parts.now c.loop-part.cursor c.turn.new.cursor c.in-Some-turn.ensures in
      omega (arith, f.1, c.loop-part.invariant.within);
}
