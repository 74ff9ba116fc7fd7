use Rattle.std.proofs.Common.{arith, ◌∙◌, sym}
use Rattle.lola_rows.proofs.BlankFacts.{kept-all, kept-before, kept-none, kept-whole}
use Rattle.lola_rows.proofs.blanks.kept.Goals as goal

pub loop-end-init : goal.loop-end-init
loop-end-init c = record { within = omega arith; reads = kept-whole c.args.field.now }

pub returns-then-not-is_blank-clause-value : goal.returns-then-not-is_blank-clause-value
returns-then-not-is_blank-clause-value c =
    sym (c.loop-end.invariant.reads ∙ kept-all c.args.field.now c.loop-end.end c.loop-end-test.true c.loop-end.invariant.within (sym c.if-not-is_blank.ensures))

pub loop-end-preserved : goal.loop-end-preserved
loop-end-preserved c = record {
  within = omega arith;
  reads = c.loop-end.invariant.reads ∙ kept-before c.args.field.now c.loop-end.end c.loop-end-test.true c.loop-end.invariant.within (sym c.if-not-is_blank.ensures);
}

pub returns-clause-value : goal.returns-clause-value
returns-clause-value c = sym (c.loop-end.invariant.reads ∙ kept-none c.args.field.now c.loop-end.end (omega arith))
