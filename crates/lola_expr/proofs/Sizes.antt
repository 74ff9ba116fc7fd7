-- How large expressions are: the measure of their evaluation.
use Rattle.std.proofs.Common.{ℕ, ◌+◌}
use Rattle.lola_model.specs.declared.expr.Expr.{Expr}
use Rattle.lola_model.specs.declared.expr.Expr.TheVariants.{Literal, Parameter, Read, Window, Defaults', Unary', Both', Choice'}
use Rattle.lola_model.specs.declared.expr.Arguments.{Arguments}
use Rattle.lola_model.specs.declared.expr.Arguments.TheVariants.{End, More'}

abbrev mutual
  -- how many parts an expression has
  pub size_of : Expr → ℕ
  size_of (Literal place v) = 1
  size_of (Parameter place i) = 1
  size_of (Read place n how args) = 1 + size_all args
  size_of (Window place w args) = 1 + size_all args
  size_of (Defaults' place u a v b) = 1 + (size_of a + size_of b)
  size_of (Unary' place operator u a) = 1 + size_of a
  size_of (Both' place operator u a v b) = 1 + (size_of a + size_of b)
  size_of (Choice' place u a v b w d) = 1 + (size_of a + (size_of b + size_of d))

  -- how many arguments have, each counted once more
  pub size_all : Arguments → ℕ
  size_all End = 0
  size_all (More' u a v rest) = 1 + (size_of a + size_all rest)
