use Rattle.std.proofs.Common.{◌≡◌, ◌<◌, ◌^◌, drop}
use Rattle.lola_rows.proofs.NumeralFacts.{digits_on}
use Rattle.lola_rows.proofs.numbers.size_of.Given as goal

abbrev pub invariant-loop-digit : goal.invariant-loop-digit
invariant-loop-digit l = record {
  fits : l.size < 2 ^ 64;
  reads : digits_on 0 l.digits ≡ digits_on l.size (drop l.digit-index l.digits);
}
