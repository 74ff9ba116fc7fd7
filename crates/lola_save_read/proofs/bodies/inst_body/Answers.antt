use Rattle.std.proofs.Common.{[], sym, ap, ◌∙◌}
use Rattle.lola_save_text.specs.Lines.{values_text}
use Rattle.lola_save_read.specs.Turns.{seen_after}
use Rattle.lola_save_read.proofs.BodyForms.{inst-there, no-inst-birth, no-params, seen-params}
use Rattle.lola_save_read.proofs.bodies.inst_body.Goals as goal

pub returns-in-None-clause-read : goal.returns-in-None-clause-read
returns-in-None-clause-read c = no-inst-birth c.args.times c.args.form.now c.args.low c.requires.times c.args.body.now (seen_after [] c.args.seen.now) c.in-None.ensures

pub returns-in-None-2-clause-read : goal.returns-in-None-2-clause-read
returns-in-None-2-clause-read c =
    no-params c.args.times c.args.form.now c.args.low c.requires.times c.args.body.now (seen_after [] c.args.seen.now) c.in-Some.born c.in-Some.words.now c.in-Some.ensures
    (rw (c.as_slice.ensures, c.in-None-2.is) at c.in_ok-values_of_kinds-in-Some.ensures)

pub is_new-requires-clause-spelling : goal.is_new-requires-clause-spelling
is_new-requires-clause-spelling c =
    let read = rw (c.as_slice.ensures, c.in-Some-2.is) at c.in_ok-values_of_kinds-in-Some.ensures in
    read.1 ∙ ap values_text (sym c.as_slice-in-Some-2.ensures)

pub returns-then-fresh-clause-read : goal.returns-then-fresh-clause-read
returns-then-fresh-clause-read c =
    let read = rw (c.as_slice.ensures, c.in-Some-2.is) at c.in_ok-values_of_kinds-in-Some.ensures in
    inst-there c.args.times c.args.form.now c.args.low c.requires.times c.args.body.now (seen_after [] c.args.seen.now) c.in-Some.born c.in-Some.words.now c.in-Some.ensures c.in-Some-2.params read.0 read.1
    (sym (rw c.as_slice-in-Some-2.ensures at c.in_ok-fresh-in-Some-2.ensures.answer) ∙ c.if-fresh.true)

pub returns-then-fresh-clause-noted : goal.returns-then-fresh-clause-noted
returns-then-fresh-clause-noted c = rw c.as_slice-in-Some-2.ensures at c.in_ok-fresh-in-Some-2.ensures.noted

pub returns-else-fresh-clause-read : goal.returns-else-fresh-clause-read
returns-else-fresh-clause-read c =
    let read = rw (c.as_slice.ensures, c.in-Some-2.is) at c.in_ok-values_of_kinds-in-Some.ensures in
    seen-params c.args.times c.args.form.now c.args.low c.requires.times c.args.body.now (seen_after [] c.args.seen.now) c.in-Some.born c.in-Some.words.now c.in-Some.ensures c.in-Some-2.params read.0 read.1
    (sym (rw c.as_slice-in-Some-2.ensures at c.in_ok-fresh-in-Some-2.ensures.answer) ∙ c.if-fresh.false)
