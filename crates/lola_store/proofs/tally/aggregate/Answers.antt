use Rattle.std.proofs.Common.{◌∙◌, ◌<◌, ◌^◌, length, ap, sym, subst, arith, IsTrue}
use Rattle.lola_model.specs.Store.{gives_kind, is_outcome_of}
use Rattle.lola_model.specs.Windows.{aggregated}
use Rattle.lola_value.specs.Naming.{read_outcome}
use Rattle.lola_value.specs.declared.value.Outcome.{Outcome}
use Rattle.lola_store.specs.Tallies.{inside, answer}
use Rattle.lola_store.proofs.Ranges.{all_small, inside_within, inside_length}
use Rattle.lola_store.proofs.Tallying.{answer_reads, answer_kind, window_reads}
use Rattle.lola_store.proofs.tally.aggregate.Goals as goal

pub tally_of-tally-requires : goal.tally_of-tally-requires
tally_of-tally-requires c = all_small c.args.kind c.args.values.now c.requires.kinds

pub returns-clause-value : goal.returns-clause-value
returns-clause-value c = λ names.
    let vs = inside c.args.over c.args.time c.args.values.now in
    ap (read_outcome names) (c.answer.ensures ∙ ap (answer c.args.how c.args.kind) c.tally_of-tally.ensures)
    ∙ (answer_reads names c.args.how c.args.kind vs
    ∙ ap (aggregated c.args.how c.args.kind) (sym (window_reads names c.args.over c.args.time c.args.values.now)))

pub returns-clause-kind : goal.returns-clause-kind
returns-clause-kind c =
    let vs = inside c.args.over c.args.time c.args.values.now in
    let n : length c.args.values.now < 2 ^ 63 = omega arith in
    let l : length vs < 2 ^ 63 = omega (arith, n, inside_length c.args.over c.args.time c.args.values.now) in
    let e = c.answer.ensures ∙ ap (answer c.args.how c.args.kind) c.tally_of-tally.ensures in
    subst (λ (o : Outcome). IsTrue (is_outcome_of (gives_kind c.args.how c.args.kind) o)) (sym e)
    (answer_kind c.args.how c.args.kind vs l c.requires.fit (inside_within c.args.kind c.args.over c.args.time c.args.values.now c.requires.kinds))
