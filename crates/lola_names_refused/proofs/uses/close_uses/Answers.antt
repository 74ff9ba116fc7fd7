use Rattle.std.proofs.Common.{◌≡◌, List, subst, sym, ap}
use Rattle.lola_value.specs.declared.front.Refusal.{Refusal}
use Rattle.lola_names_refused.specs.Noted.{Finds}
use Rattle.lola_names_refused.specs.Refused as refused
use Rattle.lola_names_refused.proofs.Noting.{finds_more}
use Rattle.lola_names_refused.proofs.uses.close_uses.Goals as goal

pub returns-in-Some : goal.returns-in-Some
returns-in-Some c =
    let ps = c.args.parameters.now in
    let ns = c.args.names.now in
    let x = c.in-Some.close in
    let same : refused.close_uses ps ns x ≡ refused.of_option (refused.close_uses ps ns) c.args.close.now =
    ap (refused.of_option (refused.close_uses ps ns)) (sym c.in-Some.is) in
    subst (λ (rs : List Refusal). Finds rs c.args.found.now c.expr_uses.new.found) same
    (finds_more _ _ _ (refused.pacing_uses ns x.pacing) (refused.uses ps ns x.when.expr) c.pacing_uses.ensures c.expr_uses.ensures)
