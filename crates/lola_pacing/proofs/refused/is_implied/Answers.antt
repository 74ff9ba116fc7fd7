use Rattle.lola_model.specs.PacingRefused.{does_imply}
use Rattle.lola_pacing.proofs.LawLemmas.{told, same_test}
use Rattle.lola_pacing.proofs.refused.is_implied.Goals as goal

pub returns : goal.returns
returns c =
    let tell = told c.args.pacing.now c.args.other.now in
    same_test c.implies.result (does_imply c.args.pacing.now c.args.other.now) (λ h. tell.1 (c.implies.ensures.0 h)) (λ h. c.implies.ensures.1 (tell.0 h))
