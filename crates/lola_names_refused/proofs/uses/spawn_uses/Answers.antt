use Rattle.std.proofs.Common.{◌≡◌, ◌++◌, List, subst, sym, ap, ap₂, ◌∙◌}
use Rattle.lola_value.specs.declared.front.Refusal.{Refusal}
use Rattle.lola_names_refused.specs.Noted.{Finds}
use Rattle.lola_names_refused.specs.Refused as refused
use Rattle.lola_names_refused.proofs.Noting.{finds_more}
use Rattle.lola_names_refused.proofs.uses.spawn_uses.Goals as goal

pub returns-in-Some : goal.returns-in-Some
returns-in-Some c =
    let ps = c.args.none.now in
    let ns = c.args.names.now in
    let x = c.in-Some.spawn in
    let with' = c.as_slice.result.now in
    let paced = refused.pacing_uses ns x.pacing in
    let same : paced ++ (refused.when_uses ps ns x.when ++ refused.with_uses ps ns with') ≡ refused.of_option (refused.spawn_uses ns) c.args.spawn.now =
    ap₂ (λ n l. paced ++ (refused.when_uses n ns x.when ++ refused.with_uses n ns l)) c.requires c.as_slice.ensures
    ∙ ap (refused.of_option (refused.spawn_uses ns)) (sym c.in-Some.is) in
    subst (λ (rs : List Refusal). Finds rs c.args.found.now c.with_uses.new.found) same
    (finds_more _ _ _ paced (refused.when_uses ps ns x.when ++ refused.with_uses ps ns with') c.pacing_uses.ensures
    (finds_more _ _ _ (refused.when_uses ps ns x.when) (refused.with_uses ps ns with') c.when_uses.ensures c.with_uses.ensures))
