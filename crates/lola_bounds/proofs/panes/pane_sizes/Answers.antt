use Rattle.std.proofs.Common.{◌∙◌, subst, ap, length, List, Some}
use Rattle.std.specs.List.{AllZip}
use Rattle.lola_model.specs.declared.pacing.ClausePacings.{ClausePacings}
use Rattle.lola_model.specs.declared.spec.WindowSpec.{WindowSpec}
use Rattle.lola_bounds.specs.Panes.{ArePanesOfWindow}
use Rattle.lola_bounds.proofs.PaneLemmas.{zip_at, zip_few, zip_length}
use Rattle.lola_bounds.proofs.panes.pane_sizes.Goals as goal

pub returns-clause-count : goal.returns-clause-count
returns-clause-count c =
    zip_length c.as_slice.result.now c.as_slice-2.result.now c.in_ok-sizes.sizes c.in_ok-sizes.ensures ∙ ap (λ (ws : List WindowSpec). length ws) c.as_slice-2.ensures

pub returns-clause-each : goal.returns-clause-each
returns-clause-each c =
    let zip : AllZip (λ w p. ArePanesOfWindow c.args.pacings.now w (Some p)) c.args.spec.now.windows c.in_ok-sizes.sizes =
    subst (λ (ps : List ClausePacings). AllZip (λ w p. ArePanesOfWindow ps w (Some p)) c.args.spec.now.windows c.in_ok-sizes.sizes) c.as_slice.ensures
    (subst (λ (ws : List WindowSpec). AllZip (λ w p. ArePanesOfWindow c.as_slice.result.now w (Some p)) ws c.in_ok-sizes.sizes) c.as_slice-2.ensures c.in_ok-sizes.ensures) in
    zip_at c.args.pacings.now c.args.spec.now.windows c.in_ok-sizes.sizes zip

pub returns-clause-few : goal.returns-clause-few
returns-clause-few c =
    let zip : AllZip (λ w p. ArePanesOfWindow c.args.pacings.now w (Some p)) c.args.spec.now.windows c.in_ok-sizes.sizes =
    subst (λ (ps : List ClausePacings). AllZip (λ w p. ArePanesOfWindow ps w (Some p)) c.args.spec.now.windows c.in_ok-sizes.sizes) c.as_slice.ensures
    (subst (λ (ws : List WindowSpec). AllZip (λ w p. ArePanesOfWindow c.as_slice.result.now w (Some p)) ws c.in_ok-sizes.sizes) c.as_slice-2.ensures c.in_ok-sizes.ensures) in
    zip_few c.args.pacings.now c.args.spec.now.windows c.in_ok-sizes.sizes c.requires zip
