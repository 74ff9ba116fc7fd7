use Rattle.std.proofs.Common.{◌≡◌, ◌++◌, [], List, subst, ap, ◌∙◌}
use Rattle.lola_value.specs.declared.front.Refusal.{Refusal}
use Rattle.lola_names_refused.specs.Noted.{Finds}
use Rattle.lola_names_refused.specs.Known as known
use Rattle.lola_names_refused.specs.Refused as refused
use Rattle.lola_names_refused.proofs.Noting.{finds_more}
use Rattle.lola_names_refused.proofs.uses.output_uses.Goals as goal

pub returns : goal.returns
returns c =
    let ns = c.args.names.now in
    let x = c.args.output.now in
    let own = c.in_ok-own.own in
    let same : refused.head_uses x ++ refused.clause_uses own ns x ≡ refused.output_uses ns x =
    ap (λ n. refused.head_uses x ++ refused.clause_uses n ns x) (c.in_ok-own.ensures ∙ ap (λ l. known.with_names [] (known.parameters_of l)) c.as_slice.ensures) in
    subst (λ (rs : List Refusal). Finds rs c.args.found.now c.clause_uses.new.found) same
    (finds_more _ _ _ (refused.head_uses x) (refused.clause_uses own ns x) c.head_uses.ensures c.clause_uses.ensures)
