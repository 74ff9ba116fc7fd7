-- A row, read through the texts that are left.
use Rattle.std.proofs.Common.{List, ap, length, subst, arith}
use Rattle.lola_value.specs.declared.text.Field.{Field}
use Rattle.lola_engine.specs.Sweeps.{AddsTexts}
use Rattle.lola_engine.proofs.Sweeping.{has_more_texts, keeps_held}
use Rattle.lola_engine.proofs.engine.read_row.Goals as goal

pub returns-clause-literals : goal.returns-clause-literals
returns-clause-literals g c =
    has_more_texts c.let_go.new.texts.held c.read_fields.new.texts.held c.args.plan.now.spec.texts c.in_ok-read_fields.ensures.held (c.in_ok-let_go.ensures.literals c.requires.literals)

pub returns-clause-given : goal.returns-clause-given
returns-clause-given g c = omega (arith, c.in_ok-let_go.ensures.given, c.in_ok-read_fields.ensures.given, ap length c.as_slice.ensures)

pub returns-clause-takes : goal.returns-clause-takes
returns-clause-takes g c = record {
  between = c.let_go.new.texts;
  goes = c.in_ok-let_go.ensures.goes;
  adds = subst (λ (fs : List Field). AddsTexts fs c.let_go.new.texts.held c.read_fields.new.texts.held) c.as_slice.ensures c.in_ok-read_fields.ensures.adds;
}

pub returns-clause-stands : goal.returns-clause-stands
returns-clause-stands g c content stands =
    let between = c.let_go.new.texts in
    let keeps = keeps_held g.S.StreamStore.BOUNDED (g.S.TextStore.holds c.args.store.now) c.args.plan.now.spec.texts c.args.texts.now c.args.left.now between c.let_go.new.left c.in_ok-let_go.ensures.goes in
    let kept = c.kept_stands.ensures c.args.texts.now.held between.held content keeps stands in
    (kept.0, c.renamed_stands.ensures between.held c.read_fields.new.texts.held kept.0 c.in_ok-read_fields.ensures.held kept.1, kept.2)
