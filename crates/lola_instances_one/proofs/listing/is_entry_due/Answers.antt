use Rattle.std.proofs.Common.{eq-eqb, sym, ◌∙◌, arith}
use Rattle.lola_instances_one.proofs.DuePlaces.{own_due}
use Rattle.lola_instances_one.proofs.listing.is_entry_due.Goals as goal

pub returns-then-time-entry : goal.returns-then-time-entry
returns-then-time-entry c =
    sym (eq-eqb c.args.entry.due c.args.time (sym c.if-time-entry.true))
    ∙ own_due c.args.rates.now c.args.time c.args.passed c.args.entry c.requires.right c.requires.in_time c.if-passed-time.true (omega arith)
