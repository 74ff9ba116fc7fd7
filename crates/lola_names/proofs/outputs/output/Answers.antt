use Rattle.std.proofs.Common.{refl}
use Rattle.lola_names.proofs.outputs.output.Goals as goal

pub returns-clause-resolved : goal.returns-clause-resolved
returns-clause-resolved c =
    λ texts windows begins. record {
      name = c.in_ok-head.ensures.name;
      place = refl;
      sort = refl;
      message = c.in_ok-head.ensures.message;
      kind = c.kind_written.ensures;
      parameters = c.in_ok-head.ensures.parameters;
      spawn = c.in_ok-clauses.ensures.spawn texts windows begins;
      eval = c.in_ok-clauses.ensures.eval texts windows begins;
      close = c.in_ok-clauses.ensures.close texts windows begins;
    }
