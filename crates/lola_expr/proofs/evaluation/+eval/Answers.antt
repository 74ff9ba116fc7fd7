-- The outcome of each sort of expression, from those of its parts.
use Rattle.std.proofs.Common.{rules, ◌+◌, arith, ◌≡◌, ap, sym, ◌∙◌, subst, true, false, slice_get, Ok, map}
use Rattle.lola_value.specs.declared.value.Kind.{Kind}
use Rattle.lola_value.specs.declared.value.Kind.TheVariants as kind
use Rattle.lola_value.specs.declared.value.Outcome.{Outcome}
use Rattle.lola_value.specs.Answer.{Given}
use Rattle.lola_value.specs.Kinds.{is_outcome_of, is_of_kind, is_text}
use Rattle.lola_value.specs.Naming.{read_outcome, read_params, IsHeldIn, AreHeld, the_values, read}
use Rattle.lola_model.specs.Store.{window_kind}
use Rattle.lola_model.specs.Typing.{can_ask, noted, noted_all, prefix_row, binary_row}
use Rattle.lola_model.specs.Denotation.{den, den_all, with_arguments, with_argument, window_of, kind_of, chosen, operated, defaulted, and_then, joined}
use Rattle.lola_model.specs.Accesses.{answer_of}
use Rattle.lola_expr.specs.Evaluation.{part_is_named, literal_is_named, is_named, are_named}
use Rattle.lola_expr.specs.Operands.{operands_fit, operand_fits}
use Rattle.lola_expr.proofs.Sizes.{size_of}
use Rattle.lola_expr.proofs.OperandLemmas.{held_by_kind}
use Rattle.lola_expr.proofs.Parts.{defaults_facts, unary_facts, both_facts, choice_facts, read_facts, window_facts, each_read, each_window, each_defaults, each_both, each_choice, each_more}
use Rattle.lola_expr.proofs.Arms.{stays_of_kind, defaulted_first, defaulted_second, literal_read, literal_held, parameter_read, parameter_held, chosen_true, chosen_false, truth_of_kind, joined_stays, joined_both, window_read, prefix_fits, binary_fits}
use Rattle.lola_expr.proofs.evaluation.+eval.Goals as goal

pub access_of-returns-in-Ok-clause-value : goal.access_of-returns-in-Ok-clause-value
access_of-returns-in-Ok-clause-value g t c = λ plan names c' h n.
    let q = c.in-Ok.ensures.ok plan names c' h n in
    let w = c.read.ensures.value names c' h.naming q.1 h.stands in
    (w.0 ∙ ap (λ r. with_arguments r (λ q. answer_of c' c.args.how c.args.stream q)) (sym q.0), w.1)

pub window_access-returns-in-Ok-clause-value : goal.window_access-returns-in-Ok-clause-value
window_access-returns-in-Ok-clause-value g t c = λ plan names c' h n.
    let q = c.in-Ok.ensures.ok plan names c' h n in
    let w = c.window.ensures.value names c' h.naming q.1 h.stands in (
      window_read plan (g.S.StreamStore.seen c.args.store.now) c' (read_params names c.in-Ok.given) (read_outcome names c.window.result) c.args.number h.layout c.requires.stream w
          ∙ ap (λ r. with_arguments r (λ q. window_of plan.spec c' (slice_get plan.spec.windows c.args.number) q)) (sym q.0),
      held_by_kind (window_kind (g.S.StreamStore.seen c.args.store.now) c.args.number) c.requires.no_text c.window.result c.window.ensures.kind names,
    )

pub choice-returns-then-truth-clause-value : goal.choice-returns-then-truth-clause-value
choice-returns-then-truth-clause-value g t c = λ plan names c' h n0 n1 n2.
    let x = c.in-Value.ensures.value plan names c' h n0 in
    let y = c.evaluate.ensures.value plan names c' h n1 in
    let k : is_of_kind kind.Bool c.in-Value.v ≡ true = subst (λ (k : Kind). is_of_kind k c.in-Value.v ≡ true) c.requires.test_kind c.in-Value.ensures.kind in (
      chosen_true names c.in-Value.v (den plan.spec c' (read_params names c.args.params.now) c.args.test.now) (den plan.spec c' (read_params names c.args.params.now) c.args.a.now) (den plan.spec c' (read_params names c.args.params.now) c.args.b.now) (read_outcome names c.evaluate.result)
          (sym c.truth.ensures ∙ c.if-truth.true) (truth_of_kind c.in-Value.v k) x.0 y.0,
      y.1,
    )

pub choice-returns-else-truth-clause-value : goal.choice-returns-else-truth-clause-value
choice-returns-else-truth-clause-value g t c = λ plan names c' h n0 n1 n2.
    let x = c.in-Value.ensures.value plan names c' h n0 in
    let y = c.evaluate-else-truth.ensures.value plan names c' h n2 in
    let k : is_of_kind kind.Bool c.in-Value.v ≡ true = subst (λ (k : Kind). is_of_kind k c.in-Value.v ≡ true) c.requires.test_kind c.in-Value.ensures.kind in (
      chosen_false names c.in-Value.v (den plan.spec c' (read_params names c.args.params.now) c.args.test.now) (den plan.spec c' (read_params names c.args.params.now) c.args.a.now) (den plan.spec c' (read_params names c.args.params.now) c.args.b.now) (read_outcome names c.evaluate-else-truth.result)
          (sym c.truth.ensures ∙ c.if-truth.false) (truth_of_kind c.in-Value.v k) x.0 y.0,
      y.1,
    )

pub or_default-returns-in-Missing-clause-value : goal.or_default-returns-in-Missing-clause-value
or_default-returns-in-Missing-clause-value g t c = λ plan names c' h n0 n1.
    let a = c.in-Missing.ensures.value plan names c' h n0 in
    let b = c.evaluate.ensures.value plan names c' h n1 in
    (defaulted_second (read_outcome names c.evaluate.result) (den plan.spec c' (read_params names c.args.params.now) c.args.a.now) (den plan.spec c' (read_params names c.args.params.now) c.args.b.now) a.0 b.0, b.1)

pub or_default-returns-in_default : goal.or_default-returns-in_default
or_default-returns-in_default g t c =
    record {
      value = λ plan names c' h n0 n1.
          let a = c.evaluate-first.ensures.value plan names c' h n0 in
          (defaulted_first names c.evaluate-first.result (den plan.spec c' (read_params names c.args.params.now) c.args.a.now) (den plan.spec c' (read_params names c.args.params.now) c.args.b.now) c.in_default.not-Missing a.0, a.1);
      kind = λ k p q. subst (λ (k : Kind). is_outcome_of k c.evaluate-first.result ≡ true) p c.evaluate-first.ensures.kind;
    }

pub access-access_plain-requires-clause-none : goal.access-access_plain-requires-clause-none
access-access_plain-requires-clause-none g t c = sym c.requires.kinds ∙ ap noted_all c.in-End.is

pub access-access_plain-requires-clause-kept : goal.access-access_plain-requires-clause-kept
access-access_plain-requires-clause-kept g t c = c.requires.kept

pub access-returns-in-End-clause-value : goal.access-returns-in-End-clause-value
access-returns-in-End-clause-value g t c = λ plan names c' h n.
    let w = c.access_plain.ensures.value names c' h.naming h.stands in
    (w.0 ∙ ap (λ e. with_arguments (den_all plan.spec c' (read_params names c.args.params.now) e) (λ q. answer_of c' c.args.how c.args.stream q)) (sym c.in-End.is), w.1)

pub evaluate-access-requires : goal.evaluate-access-requires
evaluate-access-requires g t c κs within =
    let f = read_facts (g.S.StreamStore.seen c.args.store.now) c.args.params.now c.args.expr.now _ _ _ _ c.in-Read.is c.requires.asks in
    let d = c.decreases in
    let z = f.less in
    (omega (arith, d, z), (search rules, (c.requires.running, (c.requires.count, (f.reference.stream, (f.reference.kinds, (f.reference.few, (f.kept, f.arguments))))))))

pub evaluate-window_access-requires : goal.evaluate-window_access-requires
evaluate-window_access-requires g t c κs within =
    let f = window_facts (g.S.StreamStore.seen c.args.store.now) c.args.params.now c.args.expr.now _ _ _ c.in-Window.is c.requires.asks in
    let d = c.decreases in
    let z = f.less in
    (omega (arith, d, z), (search rules, (c.requires.running, (c.requires.count, (f.window, (f.reference.stream, (f.reference.kinds, (f.reference.few, (f.whole, (subst (λ (k : Kind). is_text k ≡ false) (sym f.kind) f.no_text, f.arguments))))))))))

pub evaluate-or_default-requires : goal.evaluate-or_default-requires
evaluate-or_default-requires g t c κs within =
    let f = defaults_facts (g.S.StreamStore.seen c.args.store.now) c.args.params.now c.args.expr.now _ _ _ _ _ c.in-Defaults.is c.requires.asks in
    let d = c.decreases in
    let z : size_of c.args.expr.now ≡ 1 + (size_of c.in-Defaults.a.value + size_of c.in-Defaults.b.value) = ap size_of c.in-Defaults.is in
    let s0 = ap size_of c.deref.ensures in
    let s1 = ap size_of c.deref-in-Defaults.ensures in
    (omega (arith, d, z, s0, s1), (search rules, (c.requires.running, (c.requires.count, (ap (can_ask (g.S.StreamStore.seen c.args.store.now) c.args.params.now) c.deref.ensures ∙ f.left, ap (can_ask (g.S.StreamStore.seen c.args.store.now) c.args.params.now) c.deref-in-Defaults.ensures ∙ f.right)))))

pub evaluate-with_prefix-requires : goal.evaluate-with_prefix-requires
evaluate-with_prefix-requires g t c κs within =
    let f = unary_facts (g.S.StreamStore.seen c.args.store.now) c.args.params.now c.args.expr.now _ _ _ _ c.in-Unary.is c.requires.asks in
    let d = c.decreases in
    let z : size_of c.args.expr.now ≡ 1 + size_of c.in-Unary.a.value = ap size_of c.in-Unary.is in
    let s0 = ap size_of c.deref-in-Unary.ensures in
    (omega (arith, d, z, s0), (search rules, (c.requires.running, (c.requires.count, (ap (can_ask (g.S.StreamStore.seen c.args.store.now) c.args.params.now) c.deref-in-Unary.ensures ∙ f.part, ap (λ e. prefix_row c.in-Unary.operator (kind_of c.in-Unary.place) (noted e)) c.deref-in-Unary.ensures ∙ f.row)))))

pub evaluate-with_operator-requires : goal.evaluate-with_operator-requires
evaluate-with_operator-requires g t c κs within =
    let f = both_facts (g.S.StreamStore.seen c.args.store.now) c.args.params.now c.args.expr.now _ _ _ _ _ _ c.in-Both.is c.requires.asks in
    let d = c.decreases in
    let z : size_of c.args.expr.now ≡ 1 + (size_of c.in-Both.a.value + size_of c.in-Both.b.value) = ap size_of c.in-Both.is in
    let s0 = ap size_of c.deref-in-Both.ensures in
    let s1 = ap size_of c.deref-in-Both-2.ensures in
    (omega (arith, d, z, s0, s1), (search rules, (c.requires.running, (c.requires.count, (ap (can_ask (g.S.StreamStore.seen c.args.store.now) c.args.params.now) c.deref-in-Both.ensures ∙ f.left, (ap (can_ask (g.S.StreamStore.seen c.args.store.now) c.args.params.now) c.deref-in-Both-2.ensures ∙ f.right, ap (λ e. binary_row c.in-Both.operator (kind_of c.in-Both.place) (noted e) (noted c.deref-in-Both-2.result.now)) c.deref-in-Both.ensures ∙ (ap (λ e. binary_row c.in-Both.operator (kind_of c.in-Both.place) (noted c.in-Both.a.value) (noted e)) c.deref-in-Both-2.ensures ∙ f.row)))))))

pub evaluate-choice-requires : goal.evaluate-choice-requires
evaluate-choice-requires g t c κs within =
    let f = choice_facts (g.S.StreamStore.seen c.args.store.now) c.args.params.now c.args.expr.now _ _ _ _ _ _ _ c.in-Choice.is c.requires.asks in
    let d = c.decreases in
    let z : size_of c.args.expr.now ≡ 1 + (size_of c.in-Choice.test.value + (size_of c.in-Choice.a.value + size_of c.in-Choice.b.value)) = ap size_of c.in-Choice.is in
    let s0 = ap size_of c.deref-in-Choice.ensures in
    let s1 = ap size_of c.deref-in-Choice-2.ensures in
    let s2 = ap size_of c.deref-in-Choice-3.ensures in
    (omega (arith, d, z, s0, s1, s2), (search rules, (c.requires.running, (c.requires.count, (ap (can_ask (g.S.StreamStore.seen c.args.store.now) c.args.params.now) c.deref-in-Choice.ensures ∙ f.test, (ap (can_ask (g.S.StreamStore.seen c.args.store.now) c.args.params.now) c.deref-in-Choice-2.ensures ∙ f.left, (ap (can_ask (g.S.StreamStore.seen c.args.store.now) c.args.params.now) c.deref-in-Choice-3.ensures ∙ f.right, ap noted c.deref-in-Choice.ensures ∙ f.test_kind)))))))

pub evaluate-returns-in-Literal-clause-value : goal.evaluate-returns-in-Literal-clause-value
evaluate-returns-in-Literal-clause-value g t c = λ plan names c' h n.
    let w : literal_is_named names plan.spec.texts c.in-Literal.v ≡ true = ap (is_named names plan.spec.texts) (sym c.in-Literal.is) ∙ n in
    (literal_read names plan.spec.texts c.in-Literal.v w ∙ ap (λ e. den plan.spec c' (read_params names c.args.params.now) e) (sym c.in-Literal.is), literal_held names plan.spec.texts c.in-Literal.v w)

pub evaluate-returns-in-Parameter-clause-value : goal.evaluate-returns-in-Parameter-clause-value
evaluate-returns-in-Parameter-clause-value g t c = λ plan names c' h n. (
  ap (read_outcome names) c.parameter.ensures ∙ (parameter_read names (the_values c.args.params.now) c.in-Parameter.number ∙ ap (λ e. den plan.spec c' (read_params names c.args.params.now) e) (sym c.in-Parameter.is)),
  subst (λ (o : Outcome). IsHeldIn names o) (sym c.parameter.ensures) (parameter_held names (the_values c.args.params.now) c.in-Parameter.number h.held),
)

pub evaluate-returns-in-Read-clause-value : goal.evaluate-returns-in-Read-clause-value
evaluate-returns-in-Read-clause-value g t c = λ plan names c' h n.
    let w = c.access.ensures.value plan names c' h (each_read (part_is_named names plan.spec.texts) c.args.expr.now _ _ _ _ c.in-Read.is n) in
    (w.0 ∙ ap (λ e. den plan.spec c' (read_params names c.args.params.now) e) (sym c.in-Read.is), w.1)

pub evaluate-returns-in-Read-clause-kind : goal.evaluate-returns-in-Read-clause-kind
evaluate-returns-in-Read-clause-kind g t c =
    let f = read_facts (g.S.StreamStore.seen c.args.store.now) c.args.params.now c.args.expr.now _ _ _ _ c.in-Read.is c.requires.asks in
    subst (λ (k : Kind). is_outcome_of k c.access.result ≡ true) (f.kind ∙ ap noted (sym c.in-Read.is)) c.access.ensures.kind

pub evaluate-returns-in-Window-clause-value : goal.evaluate-returns-in-Window-clause-value
evaluate-returns-in-Window-clause-value g t c = λ plan names c' h n.
    let w = c.window_access.ensures.value plan names c' h (each_window (part_is_named names plan.spec.texts) c.args.expr.now _ _ _ c.in-Window.is n) in
    (w.0 ∙ ap (λ e. den plan.spec c' (read_params names c.args.params.now) e) (sym c.in-Window.is), w.1)

pub evaluate-returns-in-Window-clause-kind : goal.evaluate-returns-in-Window-clause-kind
evaluate-returns-in-Window-clause-kind g t c =
    let f = window_facts (g.S.StreamStore.seen c.args.store.now) c.args.params.now c.args.expr.now _ _ _ c.in-Window.is c.requires.asks in
    subst (λ (k : Kind). is_outcome_of k c.window_access.result ≡ true) (f.kind ∙ ap noted (sym c.in-Window.is)) c.window_access.ensures.kind

pub evaluate-returns-in-Defaults-clause-value : goal.evaluate-returns-in-Defaults-clause-value
evaluate-returns-in-Defaults-clause-value g t c = λ plan names c' h n.
    let w = each_defaults (part_is_named names plan.spec.texts) c.args.expr.now _ _ _ _ _ c.in-Defaults.is n in
    let r = c.or_default.ensures.value plan names c' h (ap (is_named names plan.spec.texts) c.deref.ensures ∙ w.0) (ap (is_named names plan.spec.texts) c.deref-in-Defaults.ensures ∙ w.1) in
    (r.0 ∙ (ap (λ e. defaulted (den plan.spec c' (read_params names c.args.params.now) e) (den plan.spec c' (read_params names c.args.params.now) c.deref-in-Defaults.result.now)) c.deref.ensures ∙ (ap (λ e. defaulted (den plan.spec c' (read_params names c.args.params.now) c.in-Defaults.a.value) (den plan.spec c' (read_params names c.args.params.now) e)) c.deref-in-Defaults.ensures ∙ ap (λ e. den plan.spec c' (read_params names c.args.params.now) e) (sym c.in-Defaults.is))), r.1)

pub evaluate-returns-in-Defaults-clause-kind : goal.evaluate-returns-in-Defaults-clause-kind
evaluate-returns-in-Defaults-clause-kind g t c =
    let f = defaults_facts (g.S.StreamStore.seen c.args.store.now) c.args.params.now c.args.expr.now _ _ _ _ _ c.in-Defaults.is c.requires.asks in
    subst (λ (k : Kind). is_outcome_of k c.or_default.result ≡ true) (ap noted (sym c.in-Defaults.is)) (c.or_default.ensures.kind _ (ap noted c.deref.ensures ∙ f.left_kind) (ap noted c.deref-in-Defaults.ensures ∙ f.right_kind))

pub evaluate-returns-in-Both-clause-value : goal.evaluate-returns-in-Both-clause-value
evaluate-returns-in-Both-clause-value g t c = λ plan names c' h n.
    let w = each_both (part_is_named names plan.spec.texts) c.args.expr.now _ _ _ _ _ _ c.in-Both.is n in
    let r = c.with_operator.ensures.value plan names c' h (ap (is_named names plan.spec.texts) c.deref-in-Both.ensures ∙ w.0) (ap (is_named names plan.spec.texts) c.deref-in-Both-2.ensures ∙ w.1) in (
      r.0
          ∙ (ap (λ e. joined c.in-Both.operator (kind_of c.in-Both.place) (den plan.spec c' (read_params names c.args.params.now) e) (den plan.spec c' (read_params names c.args.params.now) c.deref-in-Both-2.result.now)) c.deref-in-Both.ensures
          ∙ (ap (λ e. joined c.in-Both.operator (kind_of c.in-Both.place) (den plan.spec c' (read_params names c.args.params.now) c.in-Both.a.value) (den plan.spec c' (read_params names c.args.params.now) e)) c.deref-in-Both-2.ensures
          ∙ ap (λ e. den plan.spec c' (read_params names c.args.params.now) e) (sym c.in-Both.is))),
      r.1,
    )

pub evaluate-returns-in-Choice-clause-value : goal.evaluate-returns-in-Choice-clause-value
evaluate-returns-in-Choice-clause-value g t c = λ plan names c' h n.
    let w = each_choice (part_is_named names plan.spec.texts) c.args.expr.now _ _ _ _ _ _ _ c.in-Choice.is n in
    let r = c.choice.ensures.value plan names c' h (ap (is_named names plan.spec.texts) c.deref-in-Choice.ensures ∙ w.0) (ap (is_named names plan.spec.texts) c.deref-in-Choice-2.ensures ∙ w.1) (ap (is_named names plan.spec.texts) c.deref-in-Choice-3.ensures ∙ w.2) in (
      r.0
          ∙ (ap (λ e. and_then (den plan.spec c' (read_params names c.args.params.now) e) (λ t. chosen t (den plan.spec c' (read_params names c.args.params.now) c.deref-in-Choice-2.result.now) (den plan.spec c' (read_params names c.args.params.now) c.deref-in-Choice-3.result.now))) c.deref-in-Choice.ensures
          ∙ (ap (λ e. and_then (den plan.spec c' (read_params names c.args.params.now) c.in-Choice.test.value) (λ t. chosen t (den plan.spec c' (read_params names c.args.params.now) e) (den plan.spec c' (read_params names c.args.params.now) c.deref-in-Choice-3.result.now))) c.deref-in-Choice-2.ensures
          ∙ (ap (λ e. and_then (den plan.spec c' (read_params names c.args.params.now) c.in-Choice.test.value) (λ t. chosen t (den plan.spec c' (read_params names c.args.params.now) c.in-Choice.a.value) (den plan.spec c' (read_params names c.args.params.now) e))) c.deref-in-Choice-3.ensures
          ∙ ap (λ e. den plan.spec c' (read_params names c.args.params.now) e) (sym c.in-Choice.is)))),
      r.1,
    )

pub evaluate-returns-in-Choice-clause-kind : goal.evaluate-returns-in-Choice-clause-kind
evaluate-returns-in-Choice-clause-kind g t c =
    let f = choice_facts (g.S.StreamStore.seen c.args.store.now) c.args.params.now c.args.expr.now _ _ _ _ _ _ _ c.in-Choice.is c.requires.asks in
    subst (λ (k : Kind). is_outcome_of k c.choice.result ≡ true) (ap noted (sym c.in-Choice.is)) (c.choice.ensures.kind _ (ap noted c.deref-in-Choice-2.ensures ∙ f.left_kind) (ap noted c.deref-in-Choice-3.ensures ∙ f.right_kind))

pub gather-returns-in-Ok-clause-ok : goal.gather-returns-in-Ok-clause-ok
gather-returns-in-Ok-clause-ok g t c = λ plan names c' h n.
    let w = each_more (part_is_named names plan.spec.texts) c.args.args.now _ _ _ _ c.in-More.is n in
    let a = c.in-Value.ensures.value plan names c' h (ap (is_named names plan.spec.texts) c.deref.ensures ∙ w.0) in
    let b = c.in-Ok.ensures.ok plan names c' h (ap (are_named names plan.spec.texts) c.deref-in-Value.ensures ∙ w.1) in (
      ap (λ e. den_all plan.spec c' (read_params names c.args.params.now) e) c.in-More.is
          ∙ (ap (λ x. with_argument x (den_all plan.spec c' (read_params names c.args.params.now) c.in-More.rest.value)) (sym (a.0 ∙ ap (λ e. den plan.spec c' (read_params names c.args.params.now) e) c.deref.ensures))
          ∙ (ap (λ y. with_argument (Given (read names c.in-Value.v)) y) (ap (λ e. den_all plan.spec c' (read_params names c.args.params.now) e) (sym c.deref-in-Value.ensures) ∙ b.0)
          ∙ ap (λ vs. Ok (map (read names) vs)) (sym c.led_by.ensures.values))),
      subst (λ vs. AreHeld names vs) (sym c.led_by.ensures.values) (a.1, b.1),
    )

pub gather-returns-in-Err-clause-err : goal.gather-returns-in-Err-clause-err
gather-returns-in-Err-clause-err g t c = λ plan names c' h n.
    let w = each_more (part_is_named names plan.spec.texts) c.args.args.now _ _ _ _ c.in-More.is n in
    let a = c.in-Value.ensures.value plan names c' h (ap (is_named names plan.spec.texts) c.deref.ensures ∙ w.0) in
    let b = c.in-Err.ensures.err plan names c' h (ap (are_named names plan.spec.texts) c.deref-in-Value.ensures ∙ w.1) in (
      ap (λ e. den_all plan.spec c' (read_params names c.args.params.now) e) c.in-More.is
          ∙ (ap (λ x. with_argument x (den_all plan.spec c' (read_params names c.args.params.now) c.in-More.rest.value)) (sym (a.0 ∙ ap (λ e. den plan.spec c' (read_params names c.args.params.now) e) c.deref.ensures))
          ∙ ap (λ y. with_argument (Given (read names c.in-Value.v)) y) (ap (λ e. den_all plan.spec c' (read_params names c.args.params.now) e) (sym c.deref-in-Value.ensures) ∙ b.0)),
      b.1,
    )

pub with_prefix-negate-requires : goal.with_prefix-negate-requires
with_prefix-negate-requires g t c =
    ap (λ k. operand_fits c.args.operator k c.in-Value.v) c.kind_at.ensures
    ∙ prefix_fits c.args.operator (kind_of c.args.place.now) (noted c.args.a.now) c.in-Value.v c.requires.row c.in-Value.ensures.kind

pub with_operator-operate-requires : goal.with_operator-operate-requires
with_operator-operate-requires g t c =
    ap (λ k. operands_fit c.args.operator k c.in-Value.x c.in-Value-right.y) c.kind_at.ensures
    ∙ binary_fits c.args.operator (kind_of c.args.place.now) (noted c.args.a.now) (noted c.args.b.now) c.in-Value.x c.in-Value-right.y c.requires.row c.in-Value.ensures.kind c.in-Value-right.ensures.kind

pub with_operator-returns-in-Value-right-clause-value : goal.with_operator-returns-in-Value-right-clause-value
with_operator-returns-in-Value-right-clause-value g t c = λ plan names c' h n0 n1.
    let a = c.in-Value.ensures.value plan names c' h n0 in
    let b = c.in-Value-right.ensures.value plan names c' h n1 in (
      joined_both c.args.operator (kind_of c.args.place.now) names c.in-Value.x c.in-Value-right.y (read_outcome names c.operate.result) (den plan.spec c' (read_params names c.args.params.now) c.args.a.now) (den plan.spec c' (read_params names c.args.params.now) c.args.b.now)
          (sym c.is_decided.ensures ∙ c.if-is_decided.false) a.0 b.0
          (c.operate.ensures.value names h.naming a.1 b.1 ∙ ap (λ k. operated c.args.operator k (read names c.in-Value.x) (read names c.in-Value-right.y)) c.kind_at.ensures),
      c.operate.ensures.held names b.1,
    )

pub with_operator-returns-in_default-right : goal.with_operator-returns-in_default-right
with_operator-returns-in_default-right g t c =
    record {
      value = λ plan names c' h n0 n1.
          let a = c.in-Value.ensures.value plan names c' h n0 in
          let b = c.evaluate-right.ensures.value plan names c' h n1 in (
            joined_stays c.args.operator (kind_of c.args.place.now) names c.in-Value.x c.evaluate-right.result (den plan.spec c' (read_params names c.args.params.now) c.args.a.now) (den plan.spec c' (read_params names c.args.params.now) c.args.b.now)
                (sym c.is_decided.ensures ∙ c.if-is_decided.false) c.in_default-right.not-Value a.0 b.0,
            b.1,
          );
      kind = stays_of_kind c.evaluate-right.result (kind_of c.args.place.now) c.in_default-right.not-Value;
    }
