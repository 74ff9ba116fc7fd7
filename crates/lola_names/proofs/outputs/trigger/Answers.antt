use Rattle.std.proofs.Common.{refl, ◌∙◌}
use Rattle.lola_names.proofs.outputs.trigger.Goals as goal

pub returns-clause-resolved : goal.returns-clause-resolved
returns-clause-resolved c =
    λ texts windows begins. record {
      name = c.in_ok-name.ensures;
      place = refl;
      sort = refl;
      message = c.in_ok-message.ensures ∙ c.as_bytes.ensures;
      kind = refl;
      parameters = c.create.ensures;
      spawn = refl;
      eval = c.in_ok-eval.ensures.resolved texts windows begins;
      close = refl;
    }
