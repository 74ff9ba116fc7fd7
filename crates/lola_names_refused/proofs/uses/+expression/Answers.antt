use Rattle.std.proofs.Common.{◌≡◌, ◌++◌, List, subst, sym, ap, ap₂, ◌∙◌}
use Rattle.lola_value.specs.declared.front.Refusal.{Refusal}
use Rattle.lola_names_refused.specs.Noted.{Finds}
use Rattle.lola_names_refused.specs.Refused.{uses, all_uses, reference_use}
use Rattle.lola_names_refused.proofs.Noting.{find_turn, find_end, finds_more}
use Rattle.lola_names_refused.proofs.Trees.{uses-Reference, uses-Prefix, uses-Defaults, uses-Binary, uses-If}
use Rattle.lola_names_refused.proofs.uses.+expression.Goals as goal

pub argument_uses-loop-x-preserved : goal.argument_uses-loop-x-preserved
argument_uses-loop-x-preserved t c =
    find_turn (uses c.args.parameters.now c.args.names.now) c.args.xs.now c.loop-x.x-index c.x-item.result _ _ _ c.loop-x-test.true c.x-item.is c.expr_uses.ensures c.loop-x.invariant

pub argument_uses-returns : goal.argument_uses-returns
argument_uses-returns t c =
    find_end (uses c.args.parameters.now c.args.names.now) c.args.xs.now c.loop-x.x-index _ _ c.loop-x-test.false c.loop-x.invariant

pub expr_uses-returns-in-Reference : goal.expr_uses-returns-in-Reference
expr_uses-returns-in-Reference t c =
    let b = c.in-Reference in
    let ps = c.args.parameters.now in
    let ns = c.args.names.now in
    let xs = c.as_slice.result.now in
    let same : reference_use ps ns b.name c.len.result b.how ++ all_uses ps ns xs ≡ uses ps ns c.args.x.now =
    ap₂ (λ k l. reference_use ps ns b.name k b.how ++ all_uses ps ns l) c.len.ensures c.as_slice.ensures
    ∙ sym (uses-Reference ps ns b.name b.field-1 b.arguments b.how) ∙ ap (uses ps ns) (sym b.is) in
    subst (λ (rs : List Refusal). Finds rs c.args.found.now c.argument_uses.new.found) same
    (finds_more _ _ _ (reference_use ps ns b.name c.len.result b.how) (all_uses ps ns xs) c.reference_use.ensures c.argument_uses.ensures)

pub expr_uses-returns-in-Prefix : goal.expr_uses-returns-in-Prefix
expr_uses-returns-in-Prefix t c =
    let b = c.in-Prefix in
    let ps = c.args.parameters.now in
    let ns = c.args.names.now in
    let same : uses ps ns c.get.result.now ≡ uses ps ns c.args.x.now =
    ap (uses ps ns) c.get.ensures ∙ sym (uses-Prefix ps ns b.field-0 b.field-1 b.x) ∙ ap (uses ps ns) (sym b.is) in
    subst (λ (rs : List Refusal). Finds rs c.args.found.now c.expr_uses.new.found) same c.expr_uses.ensures

pub expr_uses-returns-in-Defaults : goal.expr_uses-returns-in-Defaults
expr_uses-returns-in-Defaults t c =
    let b = c.in-Defaults in
    let ps = c.args.parameters.now in
    let ns = c.args.names.now in
    let x = c.get-in-Defaults.result.now in
    let y = c.get-in-Defaults-2.result.now in
    let same : uses ps ns x ++ uses ps ns y ≡ uses ps ns c.args.x.now =
    ap₂ (λ m n. uses ps ns m ++ uses ps ns n) c.get-in-Defaults.ensures c.get-in-Defaults-2.ensures ∙ sym (uses-Defaults ps ns b.field-0 b.x b.y) ∙ ap (uses ps ns) (sym b.is) in
    subst (λ (rs : List Refusal). Finds rs c.args.found.now c.expr_uses-in-Defaults-2.new.found) same
    (finds_more _ _ _ (uses ps ns x) (uses ps ns y) c.expr_uses-in-Defaults.ensures c.expr_uses-in-Defaults-2.ensures)

pub expr_uses-returns-in-Binary : goal.expr_uses-returns-in-Binary
expr_uses-returns-in-Binary t c =
    let b = c.in-Binary in
    let ps = c.args.parameters.now in
    let ns = c.args.names.now in
    let x = c.get-in-Binary.result.now in
    let y = c.get-in-Binary-2.result.now in
    let same : uses ps ns x ++ uses ps ns y ≡ uses ps ns c.args.x.now =
    ap₂ (λ m n. uses ps ns m ++ uses ps ns n) c.get-in-Binary.ensures c.get-in-Binary-2.ensures ∙ sym (uses-Binary ps ns b.field-0 b.field-1 b.x b.y) ∙ ap (uses ps ns) (sym b.is) in
    subst (λ (rs : List Refusal). Finds rs c.args.found.now c.expr_uses-in-Binary-2.new.found) same
    (finds_more _ _ _ (uses ps ns x) (uses ps ns y) c.expr_uses-in-Binary.ensures c.expr_uses-in-Binary-2.ensures)

pub expr_uses-returns-in-If : goal.expr_uses-returns-in-If
expr_uses-returns-in-If t c =
    let b = c.in-If in
    let ps = c.args.parameters.now in
    let ns = c.args.names.now in
    let x = c.get-in-If.result.now in
    let y = c.get-in-If-2.result.now in
    let z = c.get-in-If-3.result.now in
    let same : uses ps ns x ++ (uses ps ns y ++ uses ps ns z) ≡ uses ps ns c.args.x.now =
    ap₂ (λ m l. uses ps ns m ++ l) c.get-in-If.ensures (ap₂ (λ m n. uses ps ns m ++ uses ps ns n) c.get-in-If-2.ensures c.get-in-If-3.ensures)
    ∙ sym (uses-If ps ns b.field-0 b.x b.y b.z) ∙ ap (uses ps ns) (sym b.is) in
    subst (λ (rs : List Refusal). Finds rs c.args.found.now c.expr_uses-in-If-3.new.found) same
    (finds_more _ _ _ (uses ps ns x) (uses ps ns y ++ uses ps ns z) c.expr_uses-in-If.ensures
    (finds_more _ _ _ (uses ps ns y) (uses ps ns z) c.expr_uses-in-If-2.ensures c.expr_uses-in-If-3.ensures))
