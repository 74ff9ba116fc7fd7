use Rattle.std.proofs.Common.{◌≡◌, ◌≤◌, ◌/◌, arith}
use Rattle.lola_value.specs.Rate.{period_over}
use Rattle.lola_bounds.proofs.PaneLemmas.{panes_of, few_panes, value_of}
use Rattle.lola_bounds.proofs.size.size_of_panes.Goals as goal

pub overflow_cast-result : goal.overflow_cast-result
overflow_cast-result c =
    let period : c.unwrap-period.result ≡ period_over c.args.rate / c.args.rate.num = value_of c.whole_period.result _ _ c.unwrap-period.result c.unwrap-period.ensures c.whole_period.ensures in
    let few : c.args.over / c.gcd-pane.result ≤ 65536 = few_panes c.args.rate c.args.over c.unwrap-period.result c.gcd-pane.result c.requires period c.gcd-pane.ensures.divisor in
    omega arith

pub returns : goal.returns
returns c =
    let period : c.unwrap-period.result ≡ period_over c.args.rate / c.args.rate.num = value_of c.whole_period.result _ _ c.unwrap-period.result c.unwrap-period.ensures c.whole_period.ensures in
    panes_of c.args.rate c.args.over c.unwrap-period.result c.gcd-pane.result c.requires period c.gcd-pane.ensures.divisor
