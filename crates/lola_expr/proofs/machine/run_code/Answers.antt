use Rattle.std.proofs.Common.{◌∙◌, sym, subst, [], ◌∷◌}
use Rattle.lola_value.specs.declared.value.Outcome.{Outcome}
use Rattle.lola_value.specs.declared.value.Outcome.TheVariants as outcome
use Rattle.lola_value.specs.Shorts.{value_in, widened}
use Rattle.lola_expr.specs.Evaluation.{IsDenoted}
use Rattle.lola_expr.specs.Machine.{Leads}
use Rattle.lola_expr.specs.declared.instr.Instr.TheVariants as instr
use Rattle.lola_expr.proofs.Means.{Means}
use Rattle.lola_expr.proofs.Runs.{comes_to}
use Rattle.lola_expr.proofs.Shorts.{is_no_value, is_the_value, not_missing}
use Rattle.lola_expr.proofs.Steps.{back_taken, direct_taken, ended, false_none, false_off, given_taken, jumps, newest_taken, no_argument, none_kept, now_taken, right_fits, right_joined, test_none, test_off, there_already, true_off}
use Rattle.lola_expr.proofs.machine.run_code.Goals as goal

pub run-init : goal.run-init
run-init g c =
    let remembers = g.S.StreamStore.remembers c.args.store.now in
    let seen = g.S.StreamStore.seen c.args.store.now in
    let wanted : Outcome → Type 0 = λ r. Means remembers seen c.args.params.now c.args._expr.now r in
    let made = comes_to remembers seen c.args.params.now c.args._expr.now c.requires.asks in
    subst (λ st. Leads remembers seen c.args.params.now wanted c.args.code.now 0 outcome.Missing st) (sym c.create-stack.ensures)
    (subst (λ l. Leads remembers seen c.args.params.now wanted l 0 outcome.Missing []) (sym c.requires.code) made)

-- where no instruction is left, what is in hand is wanted
pub returns-clause-value : goal.returns-clause-value
returns-clause-value g c =
    let remembers = g.S.StreamStore.remembers c.args.store.now in
    let seen = g.S.StreamStore.seen c.args.store.now in
    let wanted : Outcome → Type 0 = λ r. Means remembers seen c.args.params.now c.args._expr.now r in
    let i = c.run.invariant in
    let made = ended remembers seen c.args.params.now wanted c.run.code.now (widened c.run.hand) c.run.stack c.in_default.ensures.cases i in
    subst (λ (o : Outcome). IsDenoted remembers seen c.args.params.now c.args._expr.now o) (sym c.create.ensures) made.value

pub run-preserved-else-is_value : goal.run-preserved-else-is_value
run-preserved-else-is_value g c =
    let remembers = g.S.StreamStore.remembers c.args.store.now in
    let seen = g.S.StreamStore.seen c.args.store.now in
    let wanted : Outcome → Type 0 = λ r. Means remembers seen c.args.params.now c.args._expr.now r in
    let i = c.run.invariant in
    jumps remembers seen c.args.params.now wanted c.run.code.now c.in-Some.rest.now c.past-code.result.now c.in-Some.instr.now c.in-Keep.n (widened c.run.hand) c.run.stack c.run.stack c.in-Some.ensures.cases.0 c.past-code.ensures.rest
    (none_kept remembers seen c.args.params.now wanted c.in-Some.rest.now c.in-Some.instr.now c.in-Keep.n (widened c.run.hand) c.run.stack c.in-Keep.is (is_no_value c.run.hand (sym c.is_value.ensures ∙ c.if-is_value.false))) i

pub run-preserved-else-is_value-2 : goal.run-preserved-else-is_value-2
run-preserved-else-is_value-2 g c =
    let remembers = g.S.StreamStore.remembers c.args.store.now in
    let seen = g.S.StreamStore.seen c.args.store.now in
    let wanted : Outcome → Type 0 = λ r. Means remembers seen c.args.params.now c.args._expr.now r in
    let i = c.run.invariant in
    jumps remembers seen c.args.params.now wanted c.run.code.now c.in-Some.rest.now c.past-code-else-is_value-2.result.now c.in-Some.instr.now c.in-KeepArgument.n (widened c.run.hand) c.run.stack c.let_go.new.stack c.in-Some.ensures.cases.0 c.past-code-else-is_value-2.ensures.rest
    (no_argument remembers seen c.args.params.now wanted c.in-Some.rest.now c.in-Some.instr.now c.in-KeepArgument.n c.in-KeepArgument.count (widened c.run.hand) c.run.stack c.let_go.new.stack c.in-KeepArgument.is c.let_go.ensures.rest (is_no_value c.run.hand (sym c.is_value-in-KeepArgument.ensures ∙ c.if-is_value-2.false))) i

-- the operands that an operator takes
pub joined_with-hand-requires : goal.joined_with-hand-requires
joined_with-hand-requires g c =
    let remembers = g.S.StreamStore.remembers c.args.store.now in
    let seen = g.S.StreamStore.seen c.args.store.now in
    let wanted : Outcome → Type 0 = λ r. Means remembers seen c.args.params.now c.args._expr.now r in
    let i = c.run.invariant in
    let h = subst (λ l. Leads remembers seen c.args.params.now wanted l 0 (widened c.run.hand) c.run.stack) c.in-Some.ensures.cases.0 i in
    let right = subst (λ l. Leads remembers seen c.args.params.now wanted (instr.Operator c.in-Operator.operator c.in-Operator.kind ∷ c.in-Some.rest.now) 0 (widened c.run.hand) l) c.in-Some-pop.ensures
    (subst (λ i. Leads remembers seen c.args.params.now wanted (i ∷ c.in-Some.rest.now) 0 (widened c.run.hand) c.run.stack) c.in-Operator.is h) in
    right_fits remembers seen c.args.params.now wanted c.in-Some.rest.now c.in-Operator.operator c.in-Operator.kind (value_in c.in-Some-pop.left) c.run.hand c.pop.new.self right

pub run-preserved-in-Some-pop : goal.run-preserved-in-Some-pop
run-preserved-in-Some-pop g c =
    let remembers = g.S.StreamStore.remembers c.args.store.now in
    let seen = g.S.StreamStore.seen c.args.store.now in
    let wanted : Outcome → Type 0 = λ r. Means remembers seen c.args.params.now c.args._expr.now r in
    let i = c.run.invariant in
    let h = subst (λ l. Leads remembers seen c.args.params.now wanted l 0 (widened c.run.hand) c.run.stack) c.in-Some.ensures.cases.0 i in
    let right = subst (λ l. Leads remembers seen c.args.params.now wanted (instr.Operator c.in-Operator.operator c.in-Operator.kind ∷ c.in-Some.rest.now) 0 (widened c.run.hand) l) c.in-Some-pop.ensures
    (subst (λ i. Leads remembers seen c.args.params.now wanted (i ∷ c.in-Some.rest.now) 0 (widened c.run.hand) c.run.stack) c.in-Operator.is h) in
    right_joined remembers seen c.args.params.now wanted c.in-Some.rest.now c.in-Operator.operator c.in-Operator.kind (value_in c.in-Some-pop.left) c.run.hand c.joined_with-hand.result c.pop.new.self right c.joined_with-hand.ensures.value c.joined_with-hand.ensures.none

pub joined-hand-requires : goal.joined-hand-requires
joined-hand-requires g c =
    let remembers = g.S.StreamStore.remembers c.args.store.now in
    let seen = g.S.StreamStore.seen c.args.store.now in
    let wanted : Outcome → Type 0 = λ r. Means remembers seen c.args.params.now c.args._expr.now r in
    let i = c.run.invariant in
    let h = subst (λ l. Leads remembers seen c.args.params.now wanted l 0 (widened c.run.hand) c.run.stack) c.in-Some.ensures.cases.0 i in
    (given_taken remembers seen c.args.params.now wanted c.in-Some.rest.now c.in-Some.instr.now c.in-OperatorGiven.operator c.in-OperatorGiven.kind c.in-OperatorGiven.v (value_in c.run.hand) (widened c.run.hand) c.run.stack c.in-OperatorGiven.is
    (is_the_value c.run.hand (sym c.is_value-in-OperatorGiven.ensures ∙ c.if-is_value-4.true)) h).0

-- and where the right one is what a stream answers, or a literal
pub joined_with-hand-requires-then-is_value-5 : goal.joined_with-hand-requires-then-is_value-5
joined_with-hand-requires-then-is_value-5 g c =
    let remembers = g.S.StreamStore.remembers c.args.store.now in
    let seen = g.S.StreamStore.seen c.args.store.now in
    let wanted : Outcome → Type 0 = λ r. Means remembers seen c.args.params.now c.args._expr.now r in
    let i = c.run.invariant in
    let h = subst (λ l. Leads remembers seen c.args.params.now wanted l 0 (widened c.run.hand) c.run.stack) c.in-Some.ensures.cases.0 i in
    let asked = now_taken remembers seen c.args.params.now wanted c.in-Some.rest.now c.in-Some.instr.now c.in-OperatorNowOr.operator c.in-OperatorNowOr.kind c.in-OperatorNowOr.stream c.in-OperatorNowOr.v (value_in c.run.hand) (widened c.run.hand) c.run.stack c.in-OperatorNowOr.is
    (is_the_value c.run.hand (sym c.is_value-in-OperatorNowOr.ensures ∙ c.if-is_value-5.true)) h in
    let right = subst (λ (o : Outcome). Leads remembers seen c.args.params.now wanted (instr.Operator c.in-OperatorNowOr.operator c.in-OperatorNowOr.kind ∷ c.in-Some.rest.now) 0 o (value_in c.run.hand ∷ c.run.stack)) (sym c.or_given-right.ensures)
    (asked.3 (widened c.read_now-then-is_value-5.result) c.read_now-then-is_value-5.ensures) in
    right_fits remembers seen c.args.params.now wanted c.in-Some.rest.now c.in-OperatorNowOr.operator c.in-OperatorNowOr.kind (value_in c.run.hand) c.or_given-right.result c.run.stack right

pub run-preserved-then-is_value-5 : goal.run-preserved-then-is_value-5
run-preserved-then-is_value-5 g c =
    let remembers = g.S.StreamStore.remembers c.args.store.now in
    let seen = g.S.StreamStore.seen c.args.store.now in
    let wanted : Outcome → Type 0 = λ r. Means remembers seen c.args.params.now c.args._expr.now r in
    let i = c.run.invariant in
    let h = subst (λ l. Leads remembers seen c.args.params.now wanted l 0 (widened c.run.hand) c.run.stack) c.in-Some.ensures.cases.0 i in
    let asked = now_taken remembers seen c.args.params.now wanted c.in-Some.rest.now c.in-Some.instr.now c.in-OperatorNowOr.operator c.in-OperatorNowOr.kind c.in-OperatorNowOr.stream c.in-OperatorNowOr.v (value_in c.run.hand) (widened c.run.hand) c.run.stack c.in-OperatorNowOr.is
    (is_the_value c.run.hand (sym c.is_value-in-OperatorNowOr.ensures ∙ c.if-is_value-5.true)) h in
    let right = subst (λ (o : Outcome). Leads remembers seen c.args.params.now wanted (instr.Operator c.in-OperatorNowOr.operator c.in-OperatorNowOr.kind ∷ c.in-Some.rest.now) 0 o (value_in c.run.hand ∷ c.run.stack)) (sym c.or_given-right.ensures)
    (asked.3 (widened c.read_now-then-is_value-5.result) c.read_now-then-is_value-5.ensures) in
    right_joined remembers seen c.args.params.now wanted c.in-Some.rest.now c.in-OperatorNowOr.operator c.in-OperatorNowOr.kind (value_in c.run.hand) c.or_given-right.result c.joined_with-hand-then-is_value-5.result c.run.stack right c.joined_with-hand-then-is_value-5.ensures.value c.joined_with-hand-then-is_value-5.ensures.none

pub joined_with-hand-requires-then-is_value-6 : goal.joined_with-hand-requires-then-is_value-6
joined_with-hand-requires-then-is_value-6 g c =
    let remembers = g.S.StreamStore.remembers c.args.store.now in
    let seen = g.S.StreamStore.seen c.args.store.now in
    let wanted : Outcome → Type 0 = λ r. Means remembers seen c.args.params.now c.args._expr.now r in
    let i = c.run.invariant in
    let h = subst (λ l. Leads remembers seen c.args.params.now wanted l 0 (widened c.run.hand) c.run.stack) c.in-Some.ensures.cases.0 i in
    let asked = newest_taken remembers seen c.args.params.now wanted c.in-Some.rest.now c.in-Some.instr.now c.in-OperatorNewestOr.operator c.in-OperatorNewestOr.kind c.in-OperatorNewestOr.stream c.in-OperatorNewestOr.v (value_in c.run.hand) (widened c.run.hand) c.run.stack c.in-OperatorNewestOr.is
    (is_the_value c.run.hand (sym c.is_value-in-OperatorNewestOr.ensures ∙ c.if-is_value-6.true)) h in
    let right = subst (λ (o : Outcome). Leads remembers seen c.args.params.now wanted (instr.Operator c.in-OperatorNewestOr.operator c.in-OperatorNewestOr.kind ∷ c.in-Some.rest.now) 0 o (value_in c.run.hand ∷ c.run.stack)) (sym c.or_given-right-then-is_value-6.ensures)
    (asked.3 (widened c.read_newest-then-is_value-6.result) c.read_newest-then-is_value-6.ensures) in
    right_fits remembers seen c.args.params.now wanted c.in-Some.rest.now c.in-OperatorNewestOr.operator c.in-OperatorNewestOr.kind (value_in c.run.hand) c.or_given-right-then-is_value-6.result c.run.stack right

pub run-preserved-then-is_value-6 : goal.run-preserved-then-is_value-6
run-preserved-then-is_value-6 g c =
    let remembers = g.S.StreamStore.remembers c.args.store.now in
    let seen = g.S.StreamStore.seen c.args.store.now in
    let wanted : Outcome → Type 0 = λ r. Means remembers seen c.args.params.now c.args._expr.now r in
    let i = c.run.invariant in
    let h = subst (λ l. Leads remembers seen c.args.params.now wanted l 0 (widened c.run.hand) c.run.stack) c.in-Some.ensures.cases.0 i in
    let asked = newest_taken remembers seen c.args.params.now wanted c.in-Some.rest.now c.in-Some.instr.now c.in-OperatorNewestOr.operator c.in-OperatorNewestOr.kind c.in-OperatorNewestOr.stream c.in-OperatorNewestOr.v (value_in c.run.hand) (widened c.run.hand) c.run.stack c.in-OperatorNewestOr.is
    (is_the_value c.run.hand (sym c.is_value-in-OperatorNewestOr.ensures ∙ c.if-is_value-6.true)) h in
    let right = subst (λ (o : Outcome). Leads remembers seen c.args.params.now wanted (instr.Operator c.in-OperatorNewestOr.operator c.in-OperatorNewestOr.kind ∷ c.in-Some.rest.now) 0 o (value_in c.run.hand ∷ c.run.stack)) (sym c.or_given-right-then-is_value-6.ensures)
    (asked.3 (widened c.read_newest-then-is_value-6.result) c.read_newest-then-is_value-6.ensures) in
    right_joined remembers seen c.args.params.now wanted c.in-Some.rest.now c.in-OperatorNewestOr.operator c.in-OperatorNewestOr.kind (value_in c.run.hand) c.or_given-right-then-is_value-6.result c.joined_with-hand-then-is_value-6.result c.run.stack right c.joined_with-hand-then-is_value-6.ensures.value c.joined_with-hand-then-is_value-6.ensures.none

pub joined_with-hand-requires-then-is_value-7 : goal.joined_with-hand-requires-then-is_value-7
joined_with-hand-requires-then-is_value-7 g c =
    let remembers = g.S.StreamStore.remembers c.args.store.now in
    let seen = g.S.StreamStore.seen c.args.store.now in
    let wanted : Outcome → Type 0 = λ r. Means remembers seen c.args.params.now c.args._expr.now r in
    let i = c.run.invariant in
    let h = subst (λ l. Leads remembers seen c.args.params.now wanted l 0 (widened c.run.hand) c.run.stack) c.in-Some.ensures.cases.0 i in
    let asked = back_taken remembers seen c.args.params.now wanted c.in-Some.rest.now c.in-Some.instr.now c.in-OperatorBackOr.operator c.in-OperatorBackOr.kind c.in-OperatorBackOr.stream c.in-OperatorBackOr.k c.in-OperatorBackOr.v (value_in c.run.hand) (widened c.run.hand) c.run.stack c.in-OperatorBackOr.is
    (is_the_value c.run.hand (sym c.is_value-in-OperatorBackOr.ensures ∙ c.if-is_value-7.true)) h in
    let right = subst (λ (o : Outcome). Leads remembers seen c.args.params.now wanted (instr.Operator c.in-OperatorBackOr.operator c.in-OperatorBackOr.kind ∷ c.in-Some.rest.now) 0 o (value_in c.run.hand ∷ c.run.stack)) (sym c.or_given-right-then-is_value-7.ensures)
    (asked.3 (widened c.read_back-then-is_value-7.result) c.read_back-then-is_value-7.ensures) in
    right_fits remembers seen c.args.params.now wanted c.in-Some.rest.now c.in-OperatorBackOr.operator c.in-OperatorBackOr.kind (value_in c.run.hand) c.or_given-right-then-is_value-7.result c.run.stack right

pub run-preserved-then-is_value-7 : goal.run-preserved-then-is_value-7
run-preserved-then-is_value-7 g c =
    let remembers = g.S.StreamStore.remembers c.args.store.now in
    let seen = g.S.StreamStore.seen c.args.store.now in
    let wanted : Outcome → Type 0 = λ r. Means remembers seen c.args.params.now c.args._expr.now r in
    let i = c.run.invariant in
    let h = subst (λ l. Leads remembers seen c.args.params.now wanted l 0 (widened c.run.hand) c.run.stack) c.in-Some.ensures.cases.0 i in
    let asked = back_taken remembers seen c.args.params.now wanted c.in-Some.rest.now c.in-Some.instr.now c.in-OperatorBackOr.operator c.in-OperatorBackOr.kind c.in-OperatorBackOr.stream c.in-OperatorBackOr.k c.in-OperatorBackOr.v (value_in c.run.hand) (widened c.run.hand) c.run.stack c.in-OperatorBackOr.is
    (is_the_value c.run.hand (sym c.is_value-in-OperatorBackOr.ensures ∙ c.if-is_value-7.true)) h in
    let right = subst (λ (o : Outcome). Leads remembers seen c.args.params.now wanted (instr.Operator c.in-OperatorBackOr.operator c.in-OperatorBackOr.kind ∷ c.in-Some.rest.now) 0 o (value_in c.run.hand ∷ c.run.stack)) (sym c.or_given-right-then-is_value-7.ensures)
    (asked.3 (widened c.read_back-then-is_value-7.result) c.read_back-then-is_value-7.ensures) in
    right_joined remembers seen c.args.params.now wanted c.in-Some.rest.now c.in-OperatorBackOr.operator c.in-OperatorBackOr.kind (value_in c.run.hand) c.or_given-right-then-is_value-7.result c.joined_with-hand-then-is_value-7.result c.run.stack right c.joined_with-hand-then-is_value-7.ensures.value c.joined_with-hand-then-is_value-7.ensures.none

pub joined_with-hand-requires-then-is_value-8 : goal.joined_with-hand-requires-then-is_value-8
joined_with-hand-requires-then-is_value-8 g c =
    let remembers = g.S.StreamStore.remembers c.args.store.now in
    let seen = g.S.StreamStore.seen c.args.store.now in
    let wanted : Outcome → Type 0 = λ r. Means remembers seen c.args.params.now c.args._expr.now r in
    let i = c.run.invariant in
    let h = subst (λ l. Leads remembers seen c.args.params.now wanted l 0 (widened c.run.hand) c.run.stack) c.in-Some.ensures.cases.0 i in
    let asked = direct_taken remembers seen c.args.params.now wanted c.in-Some.rest.now c.in-Some.instr.now c.in-OperatorNow.operator c.in-OperatorNow.kind c.in-OperatorNow.stream (value_in c.run.hand) (widened c.run.hand) c.run.stack c.in-OperatorNow.is
    (is_the_value c.run.hand (sym c.is_value-in-OperatorNow.ensures ∙ c.if-is_value-8.true)) h in
    let right = asked.3 (widened c.read_now-right.result) c.read_now-right.ensures in
    right_fits remembers seen c.args.params.now wanted c.in-Some.rest.now c.in-OperatorNow.operator c.in-OperatorNow.kind (value_in c.run.hand) c.read_now-right.result c.run.stack right

pub run-preserved-then-is_value-8 : goal.run-preserved-then-is_value-8
run-preserved-then-is_value-8 g c =
    let remembers = g.S.StreamStore.remembers c.args.store.now in
    let seen = g.S.StreamStore.seen c.args.store.now in
    let wanted : Outcome → Type 0 = λ r. Means remembers seen c.args.params.now c.args._expr.now r in
    let i = c.run.invariant in
    let h = subst (λ l. Leads remembers seen c.args.params.now wanted l 0 (widened c.run.hand) c.run.stack) c.in-Some.ensures.cases.0 i in
    let asked = direct_taken remembers seen c.args.params.now wanted c.in-Some.rest.now c.in-Some.instr.now c.in-OperatorNow.operator c.in-OperatorNow.kind c.in-OperatorNow.stream (value_in c.run.hand) (widened c.run.hand) c.run.stack c.in-OperatorNow.is
    (is_the_value c.run.hand (sym c.is_value-in-OperatorNow.ensures ∙ c.if-is_value-8.true)) h in
    let right = asked.3 (widened c.read_now-right.result) c.read_now-right.ensures in
    right_joined remembers seen c.args.params.now wanted c.in-Some.rest.now c.in-OperatorNow.operator c.in-OperatorNow.kind (value_in c.run.hand) c.read_now-right.result c.joined_with-hand-then-is_value-8.result c.run.stack right c.joined_with-hand-then-is_value-8.ensures.value c.joined_with-hand-then-is_value-8.ensures.none

pub run-preserved-in_default-hand : goal.run-preserved-in_default-hand
run-preserved-in_default-hand g c =
    let remembers = g.S.StreamStore.remembers c.args.store.now in
    let seen = g.S.StreamStore.seen c.args.store.now in
    let wanted : Outcome → Type 0 = λ r. Means remembers seen c.args.params.now c.args._expr.now r in
    let i = c.run.invariant in
    jumps remembers seen c.args.params.now wanted c.run.code.now c.in-Some.rest.now c.past-code-in_default-hand.result.now c.in-Some.instr.now c.in-Otherwise.n (widened c.run.hand) c.run.stack c.run.stack c.in-Some.ensures.cases.0 c.past-code-in_default-hand.ensures.rest
    (there_already remembers seen c.args.params.now wanted c.in-Some.rest.now c.in-Some.instr.now c.in-Otherwise.n (widened c.run.hand) c.run.stack c.in-Otherwise.is (not_missing c.run.hand c.in_default-hand.not-Missing)) i

pub run-preserved-then-not-is_true : goal.run-preserved-then-not-is_true
run-preserved-then-not-is_true g c =
    let remembers = g.S.StreamStore.remembers c.args.store.now in
    let seen = g.S.StreamStore.seen c.args.store.now in
    let wanted : Outcome → Type 0 = λ r. Means remembers seen c.args.params.now c.args._expr.now r in
    let i = c.run.invariant in
    jumps remembers seen c.args.params.now wanted c.run.code.now c.in-Some.rest.now c.past-code-then-not-is_true.result.now c.in-Some.instr.now c.in-WhereTrue.n (widened c.run.hand) c.run.stack c.run.stack c.in-Some.ensures.cases.0 c.past-code-then-not-is_true.ensures.rest
    (true_off remembers seen c.args.params.now wanted c.in-Some.rest.now c.in-Some.instr.now c.in-WhereTrue.n c.run.hand c.run.stack c.in-WhereTrue.is (sym c.is_true.ensures ∙ c.if-not-is_true.true)) i

pub run-preserved-then-is_true : goal.run-preserved-then-is_true
run-preserved-then-is_true g c =
    let remembers = g.S.StreamStore.remembers c.args.store.now in
    let seen = g.S.StreamStore.seen c.args.store.now in
    let wanted : Outcome → Type 0 = λ r. Means remembers seen c.args.params.now c.args._expr.now r in
    let i = c.run.invariant in
    jumps remembers seen c.args.params.now wanted c.run.code.now c.in-Some.rest.now c.past-code-then-is_true.result.now c.in-Some.instr.now c.in-WhereFalse.n (widened c.run.hand) c.run.stack c.run.stack c.in-Some.ensures.cases.0 c.past-code-then-is_true.ensures.rest
    (false_off remembers seen c.args.params.now wanted c.in-Some.rest.now c.in-Some.instr.now c.in-WhereFalse.n c.run.hand c.run.stack c.in-WhereFalse.is (sym c.is_true-then-is_value-9.ensures ∙ c.if-is_true.true)) i

pub run-preserved-else-is_value-9 : goal.run-preserved-else-is_value-9
run-preserved-else-is_value-9 g c =
    let remembers = g.S.StreamStore.remembers c.args.store.now in
    let seen = g.S.StreamStore.seen c.args.store.now in
    let wanted : Outcome → Type 0 = λ r. Means remembers seen c.args.params.now c.args._expr.now r in
    let i = c.run.invariant in
    jumps remembers seen c.args.params.now wanted c.run.code.now c.in-Some.rest.now c.past-code-else-is_value-9.result.now c.in-Some.instr.now c.in-WhereFalse.n (widened c.run.hand) c.run.stack c.run.stack c.in-Some.ensures.cases.0 c.past-code-else-is_value-9.ensures.rest
    (false_none remembers seen c.args.params.now wanted c.in-Some.rest.now c.in-Some.instr.now c.in-WhereFalse.n c.run.hand c.run.stack c.in-WhereFalse.is (sym c.is_value-in-WhereFalse.ensures ∙ c.if-is_value-9.false)) i

pub run-preserved-then-not-is_true-2 : goal.run-preserved-then-not-is_true-2
run-preserved-then-not-is_true-2 g c =
    let remembers = g.S.StreamStore.remembers c.args.store.now in
    let seen = g.S.StreamStore.seen c.args.store.now in
    let wanted : Outcome → Type 0 = λ r. Means remembers seen c.args.params.now c.args._expr.now r in
    let i = c.run.invariant in
    jumps remembers seen c.args.params.now wanted c.run.code.now c.in-Some.rest.now c.past-code-then-not-is_true-2.result.now c.in-Some.instr.now c.in-Test.n (widened c.run.hand) c.run.stack c.run.stack c.in-Some.ensures.cases.0 c.past-code-then-not-is_true-2.ensures.rest
    (test_off remembers seen c.args.params.now wanted c.in-Some.rest.now c.in-Some.instr.now c.in-Test.n c.in-Test.more c.run.hand c.run.stack c.in-Test.is (sym c.is_value-in-Test.ensures ∙ c.if-is_value-10.true) (sym c.is_true-then-is_value-10.ensures ∙ c.if-not-is_true-2.true)) i

pub run-preserved-else-is_value-10 : goal.run-preserved-else-is_value-10
run-preserved-else-is_value-10 g c =
    let remembers = g.S.StreamStore.remembers c.args.store.now in
    let seen = g.S.StreamStore.seen c.args.store.now in
    let wanted : Outcome → Type 0 = λ r. Means remembers seen c.args.params.now c.args._expr.now r in
    let i = c.run.invariant in
    jumps remembers seen c.args.params.now wanted c.run.code.now c.in-Some.rest.now c.past-code-else-is_value-10.result.now c.in-Some.instr.now c.in-Test.more (widened c.run.hand) c.run.stack c.run.stack c.in-Some.ensures.cases.0 c.past-code-else-is_value-10.ensures.rest
    (test_none remembers seen c.args.params.now wanted c.in-Some.rest.now c.in-Some.instr.now c.in-Test.n c.in-Test.more c.run.hand c.run.stack c.in-Test.is (sym c.is_value-in-Test.ensures ∙ c.if-is_value-10.false)) i

pub run-preserved : goal.run-preserved
run-preserved g c =
    let remembers = g.S.StreamStore.remembers c.args.store.now in
    let seen = g.S.StreamStore.seen c.args.store.now in
    let wanted : Outcome → Type 0 = λ r. Means remembers seen c.args.params.now c.args._expr.now r in
    let i = c.run.invariant in
    jumps remembers seen c.args.params.now wanted c.run.code.now c.in-Some.rest.now c.past-code-in-Jump.result.now c.in-Some.instr.now c.in-Jump.n (widened c.run.hand) c.run.stack c.run.stack c.in-Some.ensures.cases.0 c.past-code-in-Jump.ensures.rest
    (λ h. subst (λ i. Leads remembers seen c.args.params.now wanted (i ∷ c.in-Some.rest.now) 0 (widened c.run.hand) c.run.stack) c.in-Jump.is h) i
