use Rattle.std.proofs.Common.{◌≡◌, ◌≤◌, ◌*◌, arith}
use Rattle.lola_value.specs.Ratio.{Ratio}
use Rattle.lola_names_refused.specs.Quantities.{IsInRange}
use Rattle.lola_names_refused.proofs.Rating.{own_rate}
use Rattle.lola_names_refused.proofs.quantities.noted.Goals as goal

pub returns-in-Some : goal.returns-in-Some
returns-in-Some c =
    let r : Ratio = record { num = c.args.num; den = c.args.den } in
    let slow : c.args.num ≤ 1000000 * c.args.den = omega arith in
    let range : IsInRange r = record { num = omega arith; den = omega arith; period = omega arith } in
    let own = own_rate c.args.num c.args.den c.requires.num c.requires.den c.requires.lowest range slow in
    let is = c.in-Some.ensures.only r own in
    let same : c.in-Some.rate ≡ r = cc is in
    (same, range, slow)

pub returns-in-None : goal.returns-in-None
returns-in-None c range =
    let r : Ratio = record { num = c.args.num; den = c.args.den } in
    let slow : c.args.num ≤ 1000000 * c.args.den = omega arith in
    let own = own_rate c.args.num c.args.den c.requires.num c.requires.den c.requires.lowest range slow in
    let is = c.in-None.ensures.only r own in
    cc is
