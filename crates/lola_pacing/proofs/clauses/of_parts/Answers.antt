use Rattle.std.proofs.Common.{arith, ap, length}
use Rattle.lola_pacing.specs.Steps.{IsPartFound}
use Rattle.lola_pacing.proofs.OwnLemmas.{grown}
use Rattle.lola_pacing.proofs.clauses.of_parts.Goals as goal

pub returns : goal.returns
returns c =
    grown (IsPartFound c.args.spec.now.streams c.args.owns.now c.args.evals.now c.args.part) c.args.spec.now.streams c.args.spec.now.streams
    c.loop-stream.stream-index c.loop-stream.number c.loop-stream.found.items (omega (arith, ap length c.as_slice-stream-items.ensures)) c.loop-stream.invariant.grows
