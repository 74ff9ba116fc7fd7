use Rattle.std.proofs.Common.{◌∙◌, rules}
use Rattle.std.proofs.lemmas.Int.{to_z-of_z}
use mir.Syntax.{w128}
use mir.Val.{SFits}
use Rattle.lola_rows.proofs.ValueFacts.{number-is, number-none}
use Rattle.lola_rows.proofs.numbers.number.Goals as goal

pub returns-in_err-integer : goal.returns-in_err-integer
returns-in_err-integer c = c.from_residual.ensures ∙ number-none c.args.kind c.args.text.now c.integer.result c.integer.ensures c.in_err-integer.was

pub returns : goal.returns
returns c =
    let fits : SFits w128 c.in_ok-integer.field-0 = search rules in
    let ranged = simp to_z-of_z at c.in_kind.ensures in
    ranged ∙ number-is c.args.kind c.args.text.now c.integer.result c.in_ok-integer.field-0 c.integer.ensures c.in_ok-integer.was
