-- A number with the other sign is of the kind, or there is a fault.
use Rattle.std.proofs.Common.{rules, [], ◌≡◌, ◌∙◌, ap, sym, true, ◌&&◌, to_z, of_z, neg_ℤ}
use Rattle.std.specs.Int.{w128}
use Rattle.std.proofs.lemmas.Int.{to_z-of_z}
use Rattle.lola_value.specs.Arithmetic.{within}
use Rattle.lola_value.specs.Kinds.{is_signed, is_of_kind}
use Rattle.lola_expr.specs.Operands.{operand_fits, number_in}
use Rattle.lola_expr.proofs.OperandLemmas.{first, of_within, signed_integer}
use Rattle.lola_expr.proofs.operators.negate.Goals as goal

pub returns-in-Minus-clause-kind : goal.returns-in-Minus-clause-kind
returns-in-Minus-clause-kind c =
    let fit : (is_signed c.args.kind && is_of_kind c.args.kind c.args.a) ≡ true = ap (λ s. operand_fits s c.args.kind c.args.a) (sym c.in-Minus.is) ∙ c.requires in
    let x : to_z w128 (of_z w128 c.number.result) ≡ number_in c.args.a = to_z-of_z w128 c.number.result (search rules) ∙ c.number.ensures in
    of_within c.args.kind (signed_integer c.args.kind (first (is_signed c.args.kind) (is_of_kind c.args.kind c.args.a) fit)) (neg_ℤ (number_in c.args.a)) c.calculation.result
    (c.calculation.ensures.value [] ∙ (c.neg.ensures ∙ ap (λ x. within c.args.kind (neg_ℤ x)) x))
