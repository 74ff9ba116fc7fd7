use Rattle.std.proofs.Common.{◌≡◌, ◌^◌, arith}
use Rattle.lola_names_refused.proofs.Rating.{ten_powers, ten_positive}
use Rattle.lola_names_refused.proofs.quantities.power_of_ten.Goals as goal

pub returns-clause-positive : goal.returns-clause-positive
returns-clause-positive c =
    let least = ten_positive c.args.exponent in
    let is : c.pow.result ≡ 10 ^ c.args.exponent = c.pow.ensures in
    omega (arith, least, is)

pub returns-clause-small : goal.returns-clause-small
returns-clause-small c =
    let most = ten_powers c.args.exponent c.requires in
    let is : c.pow.result ≡ 10 ^ c.args.exponent = c.pow.ensures in
    omega (arith, most, is)
