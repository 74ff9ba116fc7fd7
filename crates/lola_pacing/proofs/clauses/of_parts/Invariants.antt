use Rattle.std.proofs.Common.{◌≡◌, length, drop}
use Rattle.lola_model.specs.Accepted.{AreClausesInRange}
use Rattle.lola_model.specs.Formulas.{AreOverInputs}
use Rattle.lola_pacing.specs.Steps.{Grows, IsPartFound}
use Rattle.lola_pacing.proofs.clauses.of_parts.Given as goal

abbrev pub invariant-loop-stream : goal.invariant-loop-stream
invariant-loop-stream l = record {
  counted : l.number ≡ l.stream-index;
  range : AreClausesInRange (length l.spec.streams) (length l.spec.windows) (drop l.stream-index l.spec.streams);
  formulas : AreOverInputs (drop l.stream-index l.spec.streams);
  grows : Grows (IsPartFound l.spec.streams l.owns l.evals l.part) l.spec.streams l.number (drop l.stream-index l.spec.streams) l.found.items;
}
