use Rattle.std.proofs.Common.{◌≡◌, ◌+◌, ◌≤◌, drop}
use Rattle.lola_parser.specs.Looking.{nestings_among}
use Rattle.lola_parser.proofs.looking_back.count_of_nestings.Given as goal

abbrev pub invariant-loop-at : goal.invariant-loop-at
invariant-loop-at l = record {
  counted : l.count + nestings_among (drop l.at l.tokens) ≡ nestings_among (drop l.fn.start l.tokens);
  few : l.count ≤ l.at;
}
