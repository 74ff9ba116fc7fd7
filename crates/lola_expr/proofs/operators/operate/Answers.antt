-- Arithmetic is that of the kind, and values compare as they are read.
use Rattle.std.proofs.Common.{rules, not, [], ◌≡◌, ◌∙◌, ap, sym, true, to_z, of_z, ◌+ℤ◌, ◌-ℤ◌, ◌*ℤ◌, int_div, int_rem}
use Rattle.std.specs.Int.{w128}
use Rattle.std.proofs.lemmas.Int.{to_z-of_z}
use Rattle.lola_value.specs.Arithmetic.{within, divided}
use Rattle.lola_value.specs.Naming.{read, read_outcome}
use Rattle.lola_value.specs.Answer.{Given}
use Rattle.lola_value.specs.declared.text.Field.TheVariants as field
use Rattle.lola_model.proofs.Lookups.{values_same-read}
use Rattle.lola_model.specs.Denotation.{operated}
use Rattle.lola_expr.specs.Operands.{operands_fit, numbers_fit, number_in}
use Rattle.lola_expr.proofs.OperandLemmas.{numbers, of_within, of_divided, held_by_kind, integer_not_text, on_numbers_read}
use Rattle.lola_expr.proofs.operators.operate.Goals as goal

pub returns-in-Add : goal.returns-in-Add
returns-in-Add c =
    let fit : numbers_fit c.args.kind c.args.a c.args.b ≡ true = ap (λ s. operands_fit s c.args.kind c.args.a c.args.b) (sym c.in-Add.is) ∙ c.requires in
    let parts = numbers c.args.kind c.args.a c.args.b fit in
    let x : to_z w128 (of_z w128 c.number.result) ≡ number_in c.args.a = to_z-of_z w128 c.number.result (search rules) ∙ c.number.ensures in
    let y : to_z w128 (of_z w128 c.number-in-Add.result) ≡ number_in c.args.b = to_z-of_z w128 c.number-in-Add.result (search rules) ∙ c.number-in-Add.ensures in
    let done = c.add.ensures ∙ (ap (λ x. within c.args.kind (x +ℤ (to_z w128 (of_z w128 c.number-in-Add.result)))) x ∙ ap (λ y. within c.args.kind ((number_in c.args.a) +ℤ y)) y) in
    let kind = of_within c.args.kind parts.integer ((number_in c.args.a) +ℤ (number_in c.args.b)) c.calculation.result (c.calculation.ensures.value [] ∙ done) in
    record {
      value = λ names n p q.
          c.calculation.ensures.value names
          ∙ (done
          ∙ (on_numbers_read (λ x y. within c.args.kind (x +ℤ y)) names c.args.a c.args.b parts.left parts.right
          ∙ ap (λ s. operated s c.args.kind (read names c.args.a) (read names c.args.b)) (sym c.in-Add.is)));
      held = λ names q. held_by_kind c.args.kind (integer_not_text c.args.kind parts.integer) c.calculation.result kind names;
      kind = kind;
    }

pub returns-in-Sub : goal.returns-in-Sub
returns-in-Sub c =
    let fit : numbers_fit c.args.kind c.args.a c.args.b ≡ true = ap (λ s. operands_fit s c.args.kind c.args.a c.args.b) (sym c.in-Sub.is) ∙ c.requires in
    let parts = numbers c.args.kind c.args.a c.args.b fit in
    let x : to_z w128 (of_z w128 c.number-in-Sub.result) ≡ number_in c.args.a = to_z-of_z w128 c.number-in-Sub.result (search rules) ∙ c.number-in-Sub.ensures in
    let y : to_z w128 (of_z w128 c.number-in-Sub-2.result) ≡ number_in c.args.b = to_z-of_z w128 c.number-in-Sub-2.result (search rules) ∙ c.number-in-Sub-2.ensures in
    let done = c.sub.ensures ∙ (ap (λ x. within c.args.kind (x -ℤ (to_z w128 (of_z w128 c.number-in-Sub-2.result)))) x ∙ ap (λ y. within c.args.kind ((number_in c.args.a) -ℤ y)) y) in
    let kind = of_within c.args.kind parts.integer ((number_in c.args.a) -ℤ (number_in c.args.b)) c.calculation-in-Sub.result (c.calculation-in-Sub.ensures.value [] ∙ done) in
    record {
      value = λ names n p q.
          c.calculation-in-Sub.ensures.value names
          ∙ (done
          ∙ (on_numbers_read (λ x y. within c.args.kind (x -ℤ y)) names c.args.a c.args.b parts.left parts.right
          ∙ ap (λ s. operated s c.args.kind (read names c.args.a) (read names c.args.b)) (sym c.in-Sub.is)));
      held = λ names q. held_by_kind c.args.kind (integer_not_text c.args.kind parts.integer) c.calculation-in-Sub.result kind names;
      kind = kind;
    }

pub returns-in-Mul : goal.returns-in-Mul
returns-in-Mul c =
    let fit : numbers_fit c.args.kind c.args.a c.args.b ≡ true = ap (λ s. operands_fit s c.args.kind c.args.a c.args.b) (sym c.in-Mul.is) ∙ c.requires in
    let parts = numbers c.args.kind c.args.a c.args.b fit in
    let x : to_z w128 (of_z w128 c.number-in-Mul.result) ≡ number_in c.args.a = to_z-of_z w128 c.number-in-Mul.result (search rules) ∙ c.number-in-Mul.ensures in
    let y : to_z w128 (of_z w128 c.number-in-Mul-2.result) ≡ number_in c.args.b = to_z-of_z w128 c.number-in-Mul-2.result (search rules) ∙ c.number-in-Mul-2.ensures in
    let done = c.mul.ensures ∙ (ap (λ x. within c.args.kind (x *ℤ (to_z w128 (of_z w128 c.number-in-Mul-2.result)))) x ∙ ap (λ y. within c.args.kind ((number_in c.args.a) *ℤ y)) y) in
    let kind = of_within c.args.kind parts.integer ((number_in c.args.a) *ℤ (number_in c.args.b)) c.calculation-in-Mul.result (c.calculation-in-Mul.ensures.value [] ∙ done) in
    record {
      value = λ names n p q.
          c.calculation-in-Mul.ensures.value names
          ∙ (done
          ∙ (on_numbers_read (λ x y. within c.args.kind (x *ℤ y)) names c.args.a c.args.b parts.left parts.right
          ∙ ap (λ s. operated s c.args.kind (read names c.args.a) (read names c.args.b)) (sym c.in-Mul.is)));
      held = λ names q. held_by_kind c.args.kind (integer_not_text c.args.kind parts.integer) c.calculation-in-Mul.result kind names;
      kind = kind;
    }

pub returns-in-Div : goal.returns-in-Div
returns-in-Div c =
    let fit : numbers_fit c.args.kind c.args.a c.args.b ≡ true = ap (λ s. operands_fit s c.args.kind c.args.a c.args.b) (sym c.in-Div.is) ∙ c.requires in
    let parts = numbers c.args.kind c.args.a c.args.b fit in
    let x : to_z w128 (of_z w128 c.number-in-Div.result) ≡ number_in c.args.a = to_z-of_z w128 c.number-in-Div.result (search rules) ∙ c.number-in-Div.ensures in
    let y : to_z w128 (of_z w128 c.number-in-Div-2.result) ≡ number_in c.args.b = to_z-of_z w128 c.number-in-Div-2.result (search rules) ∙ c.number-in-Div-2.ensures in
    let done = c.div.ensures ∙ (ap (λ x. divided c.args.kind (int_div x (to_z w128 (of_z w128 c.number-in-Div-2.result))) (to_z w128 (of_z w128 c.number-in-Div-2.result))) x ∙ ap (λ y. divided c.args.kind (int_div (number_in c.args.a) y) y) y) in
    let kind = of_divided c.args.kind parts.integer (int_div (number_in c.args.a) (number_in c.args.b)) (number_in c.args.b) c.calculation-in-Div.result (c.calculation-in-Div.ensures.value [] ∙ done) in
    record {
      value = λ names n p q.
          c.calculation-in-Div.ensures.value names
          ∙ (done
          ∙ (on_numbers_read (λ x y. divided c.args.kind (int_div x y) y) names c.args.a c.args.b parts.left parts.right
          ∙ ap (λ s. operated s c.args.kind (read names c.args.a) (read names c.args.b)) (sym c.in-Div.is)));
      held = λ names q. held_by_kind c.args.kind (integer_not_text c.args.kind parts.integer) c.calculation-in-Div.result kind names;
      kind = kind;
    }

pub returns-in-Rem : goal.returns-in-Rem
returns-in-Rem c =
    let fit : numbers_fit c.args.kind c.args.a c.args.b ≡ true = ap (λ s. operands_fit s c.args.kind c.args.a c.args.b) (sym c.in-Rem.is) ∙ c.requires in
    let parts = numbers c.args.kind c.args.a c.args.b fit in
    let x : to_z w128 (of_z w128 c.number-in-Rem.result) ≡ number_in c.args.a = to_z-of_z w128 c.number-in-Rem.result (search rules) ∙ c.number-in-Rem.ensures in
    let y : to_z w128 (of_z w128 c.number-in-Rem-2.result) ≡ number_in c.args.b = to_z-of_z w128 c.number-in-Rem-2.result (search rules) ∙ c.number-in-Rem-2.ensures in
    let done = c.rem.ensures ∙ (ap (λ x. divided c.args.kind (int_rem x (to_z w128 (of_z w128 c.number-in-Rem-2.result))) (to_z w128 (of_z w128 c.number-in-Rem-2.result))) x ∙ ap (λ y. divided c.args.kind (int_rem (number_in c.args.a) y) y) y) in
    let kind = of_divided c.args.kind parts.integer (int_rem (number_in c.args.a) (number_in c.args.b)) (number_in c.args.b) c.calculation-in-Rem.result (c.calculation-in-Rem.ensures.value [] ∙ done) in
    record {
      value = λ names n p q.
          c.calculation-in-Rem.ensures.value names
          ∙ (done
          ∙ (on_numbers_read (λ x y. divided c.args.kind (int_rem x y) y) names c.args.a c.args.b parts.left parts.right
          ∙ ap (λ s. operated s c.args.kind (read names c.args.a) (read names c.args.b)) (sym c.in-Rem.is)));
      held = λ names q. held_by_kind c.args.kind (integer_not_text c.args.kind parts.integer) c.calculation-in-Rem.result kind names;
      kind = kind;
    }

pub returns-in-Equal-clause-value : goal.returns-in-Equal-clause-value
returns-in-Equal-clause-value c = λ names n p q.
    ap (read_outcome names) c.truth_of-in-Equal.ensures
    ∙ (ap (λ b. Given (field.Bool b)) (c.equal.ensures ∙ values_same-read names n c.args.a c.args.b p q)
    ∙ ap (λ s. operated s c.args.kind (read names c.args.a) (read names c.args.b)) (sym c.in-Equal.is))

pub returns-in-Different-clause-value : goal.returns-in-Different-clause-value
returns-in-Different-clause-value c = λ names n p q.
    ap (read_outcome names) c.truth_of-in-Different.ensures
    ∙ (ap (λ b. Given (field.Bool (not b))) (c.equal-in-Different.ensures ∙ values_same-read names n c.args.a c.args.b p q)
    ∙ ap (λ s. operated s c.args.kind (read names c.args.a) (read names c.args.b)) (sym c.in-Different.is))
