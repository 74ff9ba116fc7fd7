use Rattle.std.proofs.Common.{◌∙◌, ap, sym, subst, false, refl, Bool}
use Rattle.lola_value.specs.Naming.{read_params}
use Rattle.lola_model.specs.Typing.{can_ask}
use Rattle.lola_model.specs.Denotation.{kind_of}
use Rattle.lola_model.specs.declared.expr.Binary.TheVariants.{And, Equal}
use Rattle.lola_expr.specs.Evaluation.{is_named, part_is_named}
use Rattle.lola_expr.specs.Keys.{Binds, Finds, is_keys, keys_of}
use Rattle.lola_expr.proofs.Parts.{both_facts, each_both}
use Rattle.lola_expr.proofs.Finding.{and_is, equal_is, finds_as, finds_both, finds_left, keys_and, keys_equal, stay_on}
use Rattle.lola_expr.proofs.Laws.{binds_both, binds_left, operator_is}
use Rattle.lola_expr.proofs.keys.+bind.Goals as goal

pub bind_equal-requires-clause-left : goal.bind_equal-requires-clause-left
bind_equal-requires-clause-left g t c =
    let s = g.S.StreamStore.seen c.args.store.now in
    let f = both_facts s c.args.params.now c.args.expr.now _ _ _ _ _ _ c.in-Both.is c.requires.asks in
    ap (can_ask s c.args.params.now) c.deref-then-is_equality.ensures ∙ f.left

pub bind_equal-requires-clause-right : goal.bind_equal-requires-clause-right
bind_equal-requires-clause-right g t c =
    let s = g.S.StreamStore.seen c.args.store.now in
    let f = both_facts s c.args.params.now c.args.expr.now _ _ _ _ _ _ c.in-Both.is c.requires.asks in
    ap (can_ask s c.args.params.now) c.deref-then-is_equality-2.ensures ∙ f.right

pub returns-then-bind-clause-bound : goal.returns-then-bind-clause-bound
returns-then-bind-clause-bound g t c = λ plan names c' sees named.
    let n = each_both (part_is_named names plan.spec.texts) c.args.expr.now _ _ _ _ _ _ c.in-Both.is named in
    let count = c.args.params.now.count in
    let a = c.deref.result.now in
    let b = c.deref-then-bind.result.now in
    let left = c.bind.ensures.bound plan names c' sees (ap (is_named names plan.spec.texts) c.deref.ensures ∙ n.0) in
    let right = c.bind-then-bind.ensures.bound plan names c' sees (ap (is_named names plan.spec.texts) c.deref-then-bind.ensures ∙ n.1) in
    let P : Bool → Type 0 = λ r. Binds plan.spec names c' count r a c.args.bound.now c.bind.new.bound in
    binds_both plan.spec names c' count a b c.args.expr.now
    (kind_of c.in-Both.field-0, operator_is plan.spec c' c.args.expr.now _ _ And _ _ _ _ a b c.in-Both.is (and_is c.in-Both.operator (sym c.is_conjunction.ensures ∙ c.if-is_conjunction.true)) c.deref.ensures c.deref-then-bind.ensures)
    c.bind-then-bind.result c.args.bound.now c.bind.new.bound c.bind-then-bind.new.bound (subst P c.if-bind.true left) right

pub returns-else-bind-clause-bound : goal.returns-else-bind-clause-bound
returns-else-bind-clause-bound g t c = λ plan names c' sees named.
    let n = each_both (part_is_named names plan.spec.texts) c.args.expr.now _ _ _ _ _ _ c.in-Both.is named in
    let count = c.args.params.now.count in
    let a = c.deref.result.now in
    let b = c.in-Both.b.value in
    let left = c.bind.ensures.bound plan names c' sees (ap (is_named names plan.spec.texts) c.deref.ensures ∙ n.0) in
    let P : Bool → Type 0 = λ r. Binds plan.spec names c' count r a c.args.bound.now c.bind.new.bound in
    let Q : Bool → Type 0 = λ r. Binds plan.spec names c' count r c.args.expr.now c.args.bound.now c.bind.new.bound in
    subst Q (sym c.if-bind.false)
    (binds_left plan.spec names c' count a b c.args.expr.now
    (kind_of c.in-Both.field-0, operator_is plan.spec c' c.args.expr.now _ _ And _ _ _ _ a b c.in-Both.is (and_is c.in-Both.operator (sym c.is_conjunction.ensures ∙ c.if-is_conjunction.true)) c.deref.ensures refl)
    c.args.bound.now c.bind.new.bound (subst P c.if-bind.false left))

pub returns-then-is_equality-clause-bound : goal.returns-then-is_equality-clause-bound
returns-then-is_equality-clause-bound g t c = λ plan names c' sees named.
    let n = each_both (part_is_named names plan.spec.texts) c.args.expr.now _ _ _ _ _ _ c.in-Both.is named in
    let a = c.deref-then-is_equality.result.now in
    let b = c.deref-then-is_equality-2.result.now in
    c.bind_equal.ensures.compared plan names c' sees (ap (is_named names plan.spec.texts) c.deref-then-is_equality.ensures ∙ n.0)
    (ap (is_named names plan.spec.texts) c.deref-then-is_equality-2.ensures ∙ n.1) c.args.expr.now
    (kind_of c.in-Both.field-0, operator_is plan.spec c' c.args.expr.now _ _ Equal _ _ _ _ a b c.in-Both.is (equal_is c.in-Both.operator (sym c.is_equality.ensures ∙ c.if-is_equality.true)) c.deref-then-is_equality.ensures c.deref-then-is_equality-2.ensures)

pub returns-then-bind-clause-finds : goal.returns-then-bind-clause-finds
returns-then-bind-clause-finds g t c = (
  stay_on c.args.bound.now c.bind.new.bound c.bind-then-bind.new.bound c.bind.ensures.finds.0 c.bind-then-bind.ensures.finds.0,
  λ plan names c' sees named.
      let n = each_both (part_is_named names plan.spec.texts) c.args.expr.now _ _ _ _ _ _ c.in-Both.is named.0 in
      let count = c.args.params.now.count in
      let q = read_params names c.args.params.now in
      let a = c.deref.result.now in
      let b = c.deref-then-bind.result.now in
      let left = c.bind.ensures.finds.1 plan names c' sees (ap (is_named names plan.spec.texts) c.deref.ensures ∙ n.0, tt) in
      let right = c.bind-then-bind.ensures.finds.1 plan names c' sees (ap (is_named names plan.spec.texts) c.deref-then-bind.ensures ∙ n.1, tt) in
      let whole = keys_and count c.args.expr.now _ _ _ _ _ _ a b c.in-Both.is c.deref.ensures c.deref-then-bind.ensures (and_is c.in-Both.operator (sym c.is_conjunction.ensures ∙ c.if-is_conjunction.true)) in
      let P : Bool → Type 0 = λ r. Finds plan.spec c' q (keys_of count a) (is_keys count a) r c.bind.new.bound in
      finds_as plan.spec c' q _ _ _ _ c.bind-then-bind.result c.bind-then-bind.new.bound whole.0 whole.1
      (finds_both plan.spec c' q (keys_of count a) (keys_of count b) (is_keys count a) (is_keys count b) c.bind-then-bind.result c.bind.new.bound c.bind-then-bind.new.bound
      c.bind-then-bind.ensures.finds.0 (subst P c.if-bind.true left) right),
)

pub returns-else-bind-clause-finds : goal.returns-else-bind-clause-finds
returns-else-bind-clause-finds g t c = (
  c.bind.ensures.finds.0,
  λ plan names c' sees named.
      let n = each_both (part_is_named names plan.spec.texts) c.args.expr.now _ _ _ _ _ _ c.in-Both.is named.0 in
      let count = c.args.params.now.count in
      let q = read_params names c.args.params.now in
      let a = c.deref.result.now in
      let b = c.in-Both.b.value in
      let left = c.bind.ensures.finds.1 plan names c' sees (ap (is_named names plan.spec.texts) c.deref.ensures ∙ n.0, tt) in
      let whole = keys_and count c.args.expr.now _ _ _ _ _ _ a b c.in-Both.is c.deref.ensures refl (and_is c.in-Both.operator (sym c.is_conjunction.ensures ∙ c.if-is_conjunction.true)) in
      let P : Bool → Type 0 = λ r. Finds plan.spec c' q (keys_of count a) (is_keys count a) r c.bind.new.bound in
      let Q : Bool → Type 0 = λ r. Finds plan.spec c' q (keys_of count c.args.expr.now) (is_keys count c.args.expr.now) r c.bind.new.bound in
      subst Q (sym c.if-bind.false)
      (finds_as plan.spec c' q _ _ _ _ false c.bind.new.bound whole.0 whole.1
      (finds_left plan.spec c' q (keys_of count a) (keys_of count b) (is_keys count a) (is_keys count b) c.bind.new.bound (subst P c.if-bind.false left))),
)

pub returns-then-is_equality-clause-finds : goal.returns-then-is_equality-clause-finds
returns-then-is_equality-clause-finds g t c = (
  c.bind_equal.ensures.finds.0,
  λ plan names c' sees named.
      let n = each_both (part_is_named names plan.spec.texts) c.args.expr.now _ _ _ _ _ _ c.in-Both.is named.0 in
      let count = c.args.params.now.count in
      let q = read_params names c.args.params.now in
      let a = c.deref-then-is_equality.result.now in
      let b = c.deref-then-is_equality-2.result.now in
      let whole = keys_equal count c.args.expr.now _ _ _ _ _ _ a b c.in-Both.is c.deref-then-is_equality.ensures c.deref-then-is_equality-2.ensures
      (equal_is c.in-Both.operator (sym c.is_equality.ensures ∙ c.if-is_equality.true)) in
      finds_as plan.spec c' q _ _ _ _ c.bind_equal.result c.bind_equal.new.bound whole.0 whole.1
      (c.bind_equal.ensures.finds.1 plan names c' sees (ap (is_named names plan.spec.texts) c.deref-then-is_equality.ensures ∙ n.0, (ap (is_named names plan.spec.texts) c.deref-then-is_equality-2.ensures ∙ n.1, tt))),
)
