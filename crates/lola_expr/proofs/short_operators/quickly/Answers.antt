-- Sums, differences and products are tested against the kind.
use Rattle.std.proofs.Common.{rules, ◌≡◌, ap, sym, ◌∙◌, true, ◌+ℤ◌, ◌-ℤ◌, ◌*ℤ◌, to_z, of_z, w64}
use Rattle.std.proofs.lemmas.Int.{to_z-of_z}
use Rattle.lola_value.specs.Arithmetic.{within}
use Rattle.lola_value.specs.declared.text.Field.TheVariants as field
use Rattle.lola_model.specs.Denotation.{operated}
use Rattle.lola_value.specs.Shorts.{value_in}
use Rattle.lola_expr.specs.Operands.{numbers_fit, operands_fit}
use Rattle.lola_expr.proofs.OperandLemmas.{numbers}
use Rattle.lola_expr.proofs.Shorts.{if_number}
use Rattle.lola_expr.proofs.short_operators.quickly.Goals as goal

pub returns-in-Add : goal.returns-in-Add
returns-in-Add c =
    let a = c.in-Int.a in
    let b = c.in-Int-y.b in
    let fit : numbers_fit c.args.kind (value_in c.args.x) (value_in c.args.y) ≡ true = ap (λ s. operands_fit s c.args.kind (value_in c.args.x) (value_in c.args.y)) (sym c.in-Add.is) ∙ c.requires in
    let reads : operated c.args.operator c.args.kind (field.Int a) (field.Int b) ≡ within c.args.kind (a +ℤ b) = ap (λ s. operated s c.args.kind (field.Int a) (field.Int b)) c.in-Add.is in
    if_number (λ x y. x +ℤ y) c.args.operator c.args.kind c.args.x c.args.y a b (to_z w64 (of_z w64 a)) (to_z w64 (of_z w64 b)) c.sum.result c.in-Int.is c.in-Int-y.is
    (to_z-of_z w64 a (search rules)) (to_z-of_z w64 b (search rules)) (numbers c.args.kind (value_in c.args.x) (value_in c.args.y) fit).integer reads c.sum.ensures

pub returns-in-Sub : goal.returns-in-Sub
returns-in-Sub c =
    let a = c.in-Int.a in
    let b = c.in-Int-y.b in
    let fit : numbers_fit c.args.kind (value_in c.args.x) (value_in c.args.y) ≡ true = ap (λ s. operands_fit s c.args.kind (value_in c.args.x) (value_in c.args.y)) (sym c.in-Sub.is) ∙ c.requires in
    let reads : operated c.args.operator c.args.kind (field.Int a) (field.Int b) ≡ within c.args.kind (a -ℤ b) = ap (λ s. operated s c.args.kind (field.Int a) (field.Int b)) c.in-Sub.is in
    if_number (λ x y. x -ℤ y) c.args.operator c.args.kind c.args.x c.args.y a b (to_z w64 (of_z w64 a)) (to_z w64 (of_z w64 b)) c.difference.result c.in-Int.is c.in-Int-y.is
    (to_z-of_z w64 a (search rules)) (to_z-of_z w64 b (search rules)) (numbers c.args.kind (value_in c.args.x) (value_in c.args.y) fit).integer reads c.difference.ensures

pub returns-in-Mul : goal.returns-in-Mul
returns-in-Mul c =
    let a = c.in-Int.a in
    let b = c.in-Int-y.b in
    let fit : numbers_fit c.args.kind (value_in c.args.x) (value_in c.args.y) ≡ true = ap (λ s. operands_fit s c.args.kind (value_in c.args.x) (value_in c.args.y)) (sym c.in-Mul.is) ∙ c.requires in
    let reads : operated c.args.operator c.args.kind (field.Int a) (field.Int b) ≡ within c.args.kind (a *ℤ b) = ap (λ s. operated s c.args.kind (field.Int a) (field.Int b)) c.in-Mul.is in
    if_number (λ x y. x *ℤ y) c.args.operator c.args.kind c.args.x c.args.y a b (to_z w64 (of_z w64 a)) (to_z w64 (of_z w64 b)) c.product.result c.in-Int.is c.in-Int-y.is
    (to_z-of_z w64 a (search rules)) (to_z-of_z w64 b (search rules)) (numbers c.args.kind (value_in c.args.x) (value_in c.args.y) fit).integer reads c.product.ensures
