-- The instructions of an expression.
use Rattle.std.specs.Prelude.{ℕ, zero, suc, ◌+◌, List, [], ◌∷◌, ◌++◌, length, reverse, Option, Some, None}
use Rattle.lola_value.specs.declared.value.Kind.{Kind}
use Rattle.lola_model.specs.Denotation.{kind_of}
use Rattle.lola_model.specs.declared.expr.Access.{Access}
use Rattle.lola_model.specs.declared.expr.Access.TheVariants as access
use Rattle.lola_model.specs.declared.expr.Binary.{Binary}
use Rattle.lola_model.specs.declared.expr.Binary.TheVariants as binary
use Rattle.lola_model.specs.declared.expr.Expr.{Expr}
use Rattle.lola_model.specs.declared.expr.Expr.TheVariants.{Literal, Parameter, Read, Window, Defaults', Unary', Both', Choice'}
use Rattle.lola_model.specs.declared.expr.Arguments.{Arguments}
use Rattle.lola_model.specs.declared.expr.Arguments.TheVariants.{End, More'}
use Rattle.lola_value.specs.declared.short.Short.{Short}
use Rattle.lola_value.specs.Shorts.{short_of}
use Rattle.lola_expr.specs.declared.instr.Instr.{Instr}
use Rattle.lola_expr.specs.declared.instr.Instr.TheVariants as instr
use Rattle.lola_expr.specs.declared.compile.Target.{Target}
use Rattle.lola_expr.specs.declared.compile.Target.TheVariants as target
use Rattle.lola_expr.specs.declared.compile.Joining.{Joining}
use Rattle.lola_expr.specs.declared.compile.Joining.TheVariants as joins

-- of `&&` and `||` the right operand is evaluated where the left one does not decide, of the other operators both are
abbrev pub joining : Binary → Joining
joining binary.And = joins.WhereTrue
joining binary.Or = joins.WhereFalse
joining _ = joins.Both

-- the instruction that reads a stream without parameters
abbrev pub plainly : ℕ → Access → Instr
plainly n access.Direct = instr.ReadNow n
plainly n access.Get = instr.ReadNow n
plainly n access.Hold = instr.ReadNewest n
plainly n (access.Offset k) = instr.ReadBack n k

-- the one that gives a value where that is missing
abbrev pub plainly_or : ℕ → Access → Short → Instr
plainly_or n access.Direct v = instr.ReadNowOr n v
plainly_or n access.Get v = instr.ReadNowOr n v
plainly_or n access.Hold v = instr.ReadNewestOr n v
plainly_or n (access.Offset k) v = instr.ReadBackOr n k v

-- the one that takes what that gives for an operator's right operand
abbrev pub operator_plainly_or : Binary → Kind → ℕ → Access → Short → Instr
operator_plainly_or operator k n access.Direct v = instr.OperatorNowOr operator k n v
operator_plainly_or operator k n access.Get v = instr.OperatorNowOr operator k n v
operator_plainly_or operator k n access.Hold v = instr.OperatorNewestOr operator k n v
operator_plainly_or operator k n (access.Offset b) v = instr.OperatorBackOr operator k n b v

-- the instruction that asks a stream, of the instance that so many arguments name
abbrev pub reading : ℕ → Access → ℕ → Instr
reading n how zero = plainly n how
reading n how (suc k) = instr.ReadAt n how (suc k)

-- the same of a stream or of a window
abbrev pub asking : Target → ℕ → Instr
asking (target.Stream n how) k = reading n how k
asking (target.Window n) k = instr.Window n k

-- the value that an expression is, if it is a literal that can be short
abbrev pub literal_of : Expr → Option Short
literal_of (Literal place v) = short_of v
literal_of _ = None

-- a stream and an access of it, where there are no arguments
abbrev pub without_arguments : ℕ → Access → Arguments → Option (ℕ × Access)
without_arguments n how End = Some (n, how)
without_arguments n how (More' u a v rest) = None

-- the stream and the access, of an access without arguments
abbrev pub plain_of : Expr → Option (ℕ × Access)
plain_of (Read place n how args) = without_arguments n how args
plain_of _ = None

-- a stream that is read at this step, where there are no arguments
abbrev pub at_this_step : Arguments → Access → ℕ → Option ℕ
at_this_step End access.Direct n = Some n
at_this_step End access.Get n = None
at_this_step End access.Hold n = None
at_this_step End (access.Offset k) n = None
at_this_step (More' u a v rest) how n = None

-- the stream, of a direct access without arguments
abbrev pub direct_of : Expr → Option ℕ
direct_of (Read place n how args) = at_this_step args how n
direct_of _ = None

-- both, if both are there
abbrev pub together : Option (ℕ × Access) → Option Short → Option (ℕ × (Access × Short))
together (Some q) (Some v) = Some (q.0, (q.1, v))
together _ _ = None

-- the stream, the access and the default, of a plain access with a literal for a default
abbrev pub defaulted_of : Expr → Option (ℕ × (Access × Short))
defaulted_of (Defaults' place u a v b) = together (plain_of a) (literal_of b)
defaulted_of _ = None

-- from here on code goes from its last instruction to its first

-- a literal; what cannot be short is left to the evaluation
abbrev pub giving : Option Short → Instr
giving (Some v) = instr.Give v
giving None = instr.Leave

-- a default of parts with this code: of a plain access and a literal in one instruction
abbrev pub with_default : List Instr → List Instr → Option (ℕ × Access) → Option Short → List Instr
with_default ca cb (Some q) (Some v) = plainly_or q.0 q.1 v ∷ []
with_default ca cb _ _ = cb ++ (instr.Otherwise (length cb) ∷ ca)

-- an operator between operands that are both evaluated: of a literal on the right, of a plain access with a literal for a default, or of a
-- direct access, in one instruction
abbrev pub with_operands : Binary → Kind → List Instr → List Instr → Option Short → Option (ℕ × (Access × Short)) → Option ℕ → List Instr
with_operands operator k ca cb (Some v) d n = instr.OperatorGiven operator k v ∷ ca
with_operands operator k ca cb None (Some d) n = operator_plainly_or operator k d.0 d.1.0 d.1.1 ∷ ca
with_operands operator k ca cb None None (Some n) = instr.OperatorNow operator k n ∷ ca
with_operands operator k ca cb None None None = instr.Operator operator k ∷ (cb ++ (instr.Keep (length cb + 1) ∷ ca))

-- an operator between operands with this code
abbrev pub with_operator : Joining → Binary → Kind → List Instr → List Instr → Option Short → Option (ℕ × (Access × Short)) → Option ℕ → List Instr
with_operator joins.WhereTrue operator k ca cb v d n = cb ++ (instr.WhereTrue (length cb) ∷ ca)
with_operator joins.WhereFalse operator k ca cb v d n = cb ++ (instr.WhereFalse (length cb) ∷ ca)
with_operator joins.Both operator k ca cb v d n = with_operands operator k ca cb v d n

-- the branches of an `if`, and then its condition
abbrev pub with_branches : List Instr → List Instr → List Instr → List Instr
with_branches ct ca cb =
    cb ++ (instr.Jump (length cb) ∷ (ca ++ (instr.Test (length ca + 1) (length cb + 1 + length ca) ∷ ct)))

-- an argument with this code, behind so many others, of code that asks with all of them
abbrev pub with_argument : List Instr → ℕ → List Instr → List Instr
with_argument ca k code = code ++ (instr.KeepArgument (length code) k ∷ ca)

abbrev mutual
  -- the code of an expression, from its last instruction to its first
  pub back_code : Expr → List Instr
  back_code (Literal place v) = giving (short_of v) ∷ []
  back_code (Parameter place i) = instr.Parameter i ∷ []
  back_code (Read place n how args) = back_arguments (target.Stream n how) 0 args
  back_code (Window place n args) = back_arguments (target.Window n) 0 args
  back_code (Defaults' place u a v b) = with_default (back_code a) (back_code b) (plain_of a) (literal_of b)
  back_code (Unary' place operator u a) = instr.Prefix operator (kind_of place) ∷ back_code a
  back_code (Both' place operator u a v b) = with_operator (joining operator) operator (kind_of place) (back_code a) (back_code b) (literal_of b) (defaulted_of b) (direct_of b)
  back_code (Choice' place u a v b w d) = with_branches (back_code a) (back_code b) (back_code d)

  -- the code of arguments behind so many others, and of what is asked with all of them
  pub back_arguments : Target → ℕ → Arguments → List Instr
  back_arguments t k End = asking t k ∷ []
  back_arguments t k (More' u a v rest) = with_argument (back_code a) k (back_arguments t (k + 1) rest)

-- the code of an expression, from its first instruction to its last
abbrev pub code_of : Expr → List Instr
code_of e = reverse (back_code e)
