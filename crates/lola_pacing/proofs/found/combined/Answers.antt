use Rattle.std.proofs.Common.{sym, ◌∙◌}
use Rattle.lola_pacing.proofs.JoinLemmas.{combined_rates}
use Rattle.lola_pacing.proofs.found.combined.Goals as goal

pub returns-then-are_periodic : goal.returns-then-are_periodic
returns-then-are_periodic c =
    combined_rates c.args.at c.args.findings.now c.args.leaves.now c.of_rates.result c.requires
    (sym c.are_events.ensures ∙ c.if-are_events.false) (sym c.are_periodic.ensures ∙ c.if-are_periodic.true) c.of_rates.ensures
