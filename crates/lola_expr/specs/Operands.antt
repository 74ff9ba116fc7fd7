-- Operands that an operator takes, as values.
use Rattle.std.specs.Prelude.{ℤ, pos, Bool, true, false, not, ◌&&◌}
use Rattle.lola_value.specs.declared.value.Kind.{Kind}
use Rattle.lola_value.specs.declared.value.Value.{Value}
use Rattle.lola_value.specs.declared.value.Value.TheVariants as value
use Rattle.lola_value.specs.Kinds.{is_integer, is_signed, is_bool, is_of_kind}
use Rattle.lola_model.specs.declared.expr.Prefix.{Prefix}
use Rattle.lola_model.specs.declared.expr.Prefix.TheVariants as prefix
use Rattle.lola_model.specs.declared.expr.Binary.{Binary}
use Rattle.lola_model.specs.declared.expr.Binary.TheVariants as binary

-- the number that a value is, and 0 where it is none
abbrev pub number_in : Value → ℤ
number_in (value.Int z) = z
number_in _ = pos 0

-- the truth value that a value is, and false where it is none
abbrev pub truth_in : Value → Bool
truth_in (value.Bool b) = b
truth_in _ = false

-- a value that is a number
abbrev pub is_number : Value → Bool
is_number (value.Int z) = true
is_number _ = false

-- a value that is a truth value
abbrev pub is_truth : Value → Bool
is_truth (value.Bool b) = true
is_truth _ = false

-- operands of arithmetic in a kind: two numbers of the kind
abbrev pub numbers_fit : Kind → Value → Value → Bool
numbers_fit k a b = is_integer k && (is_of_kind k a && is_of_kind k b)

-- operands of an order: two numbers
abbrev pub orders_fit : Kind → Value → Value → Bool
orders_fit k a b = is_bool k && (is_number a && is_number b)

-- operands of `&&` and `||`: two truth values
abbrev pub truths_fit : Kind → Value → Value → Bool
truths_fit k a b = is_bool k && (is_truth a && is_truth b)

-- operands that an operator takes which gives values of a kind
abbrev pub operands_fit : Binary → Kind → Value → Value → Bool
operands_fit binary.Add k a b = numbers_fit k a b
operands_fit binary.Sub k a b = numbers_fit k a b
operands_fit binary.Mul k a b = numbers_fit k a b
operands_fit binary.Div k a b = numbers_fit k a b
operands_fit binary.Rem k a b = numbers_fit k a b
operands_fit binary.Less k a b = orders_fit k a b
operands_fit binary.LessEqual k a b = orders_fit k a b
operands_fit binary.Greater k a b = orders_fit k a b
operands_fit binary.GreaterEqual k a b = orders_fit k a b
operands_fit binary.Equal k a b = is_bool k
operands_fit binary.Different k a b = is_bool k
operands_fit binary.And k a b = truths_fit k a b
operands_fit binary.Or k a b = truths_fit k a b

-- the same of an operator before one operand
abbrev pub operand_fits : Prefix → Kind → Value → Bool
operand_fits prefix.Not k a = is_bool k && is_truth a
operand_fits prefix.Minus k a = is_signed k && is_of_kind k a

-- the left operand is the outcome, and the right one is not evaluated: false of `&&`, and true of `||`
abbrev pub decides : Binary → Value → Bool
decides binary.And v = is_truth v && not (truth_in v)
decides binary.Or v = truth_in v
decides binary.Add v = false
decides binary.Sub v = false
decides binary.Mul v = false
decides binary.Div v = false
decides binary.Rem v = false
decides binary.Less v = false
decides binary.LessEqual v = false
decides binary.Greater v = false
decides binary.GreaterEqual v = false
decides binary.Equal v = false
decides binary.Different v = false
