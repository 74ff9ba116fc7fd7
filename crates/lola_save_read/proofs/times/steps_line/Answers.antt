use Rattle.std.proofs.Common.{arith, sym, ◌∙◌}
use Rattle.std.proofs.lemmas.Bool.{leb-false, leb-true}
use Rattle.lola_save_text.specs.Fitting.{most_steps}
use Rattle.lola_save_read.proofs.ReadTimes.{steps-many, steps-no-line, steps-no-number, steps-there}
use Rattle.lola_save_read.proofs.times.steps_line.Goals as goal

pub returns-in-None : goal.returns-in-None
returns-in-None c = steps-no-line c.args.bytes.now c.in-None.ensures

pub returns-in-None-number_word : goal.returns-in-None-number_word
returns-in-None-number_word c = steps-no-number c.args.bytes.now c.in-Some.body.now c.in-Some.rest.now c.in-Some.ensures c.in-None-number_word.ensures

pub returns-then-are_few : goal.returns-then-are_few
returns-then-are_few c =
    steps-there c.args.bytes.now c.in-Some.body.now c.in-Some.rest.now c.in-Some-number_word.steps c.in-Some.ensures c.in-Some-number_word.ensures
    (leb-true c.in-Some-number_word.steps most_steps (sym c.are_few.ensures ∙ c.if-are_few.true))

pub returns-else-are_few : goal.returns-else-are_few
returns-else-are_few c =
    steps-many c.args.bytes.now c.in-Some.body.now c.in-Some.rest.now c.in-Some-number_word.steps c.in-Some.ensures c.in-Some-number_word.ensures (omega arith)
    (leb-false c.in-Some-number_word.steps most_steps (sym c.are_few.ensures ∙ c.if-are_few.false))
