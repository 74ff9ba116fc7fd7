use Rattle.std.proofs.Common.{◌≡◌, ◌++◌, List, subst, sym, ap, ◌∙◌}
use Rattle.lola_value.specs.declared.front.Refusal.{Refusal}
use Rattle.lola_names_refused.specs.Noted.{Finds}
use Rattle.lola_names_refused.specs.Refused as refused
use Rattle.lola_names_refused.proofs.Noting.{finds_more, ok_then}
use Rattle.lola_names_refused.proofs.uses.declaration_uses.Goals as goal

pub returns-in-Inputs : goal.returns-in-Inputs
returns-in-Inputs c =
    let ns = c.args.names.now in
    let same : refused.kind_uses c.as_slice.result.now ≡ refused.declaration_uses ns c.args.declaration.now =
    ap refused.kind_uses c.as_slice.ensures ∙ ap (refused.declaration_uses ns) (sym c.in-Inputs.is) in
    subst (λ (rs : List Refusal). Finds rs c.args.found.now c.kind_uses.new.found) same c.kind_uses.ensures

pub returns-in-Output : goal.returns-in-Output
returns-in-Output c =
    let ns = c.args.names.now in
    let same : refused.output_uses ns c.in-Output.x ≡ refused.declaration_uses ns c.args.declaration.now = ap (refused.declaration_uses ns) (sym c.in-Output.is) in
    ok_then c.output_uses.result _ _ (λ h. subst (λ (rs : List Refusal). Finds rs c.args.found.now c.output_uses.new.found) same h) c.output_uses.ensures

pub returns-in-Trigger : goal.returns-in-Trigger
returns-in-Trigger c =
    let ps = c.args.none.now in
    let ns = c.args.names.now in
    let x = c.in-Trigger.x in
    let same : refused.pacing_uses ns x.pacing ++ refused.uses ps ns x.when.expr ≡ refused.declaration_uses ns c.args.declaration.now =
    ap (λ n. refused.pacing_uses ns x.pacing ++ refused.uses n ns x.when.expr) c.requires ∙ ap (refused.declaration_uses ns) (sym c.in-Trigger.is) in
    subst (λ (rs : List Refusal). Finds rs c.args.found.now c.expr_uses.new.found) same
    (finds_more _ _ _ (refused.pacing_uses ns x.pacing) (refused.uses ps ns x.when.expr) c.pacing_uses.ensures c.expr_uses.ensures)
