-- The parts of a specification's expressions: every subexpression of every clause, arguments included.
use Rattle.std.specs.Prelude.{List, [], ◌∷◌, ◌++◌, Option, Some, None}
use Rattle.lola_model.specs.declared.expr.Expr.{Expr}
use Rattle.lola_model.specs.declared.expr.Expr.TheVariants.{Literal, Parameter, Read, Window, Defaults', Unary', Both', Choice'}
use Rattle.lola_model.specs.declared.expr.Arguments.{Arguments}
use Rattle.lola_model.specs.declared.expr.Arguments.TheVariants.{End, More'}
use Rattle.lola_model.specs.declared.spec.Clause.{Clause}
use Rattle.lola_model.specs.declared.spec.Stream.{Stream}
use Rattle.lola_model.specs.declared.spec.Spec.{Spec}

-- what f lists of each part of an expression: a whole before its parts, and these from the left
abbrev mutual
  pub listed : {A : Type 0} → (Expr → List A) → Expr → List A
  listed f (Literal place v) = f (Literal place v)
  listed f (Parameter place i) = f (Parameter place i)
  listed f (Read place n how args) = f (Read place n how args) ++ listed_all f args
  listed f (Window place w args) = f (Window place w args) ++ listed_all f args
  listed f (Defaults' place u a v b) = f (Defaults' place u a v b) ++ (listed f a ++ listed f b)
  listed f (Unary' place operator u a) = f (Unary' place operator u a) ++ listed f a
  listed f (Both' place operator u a v b) = f (Both' place operator u a v b) ++ (listed f a ++ listed f b)
  listed f (Choice' place u a v b w d) = f (Choice' place u a v b w d) ++ (listed f a ++ (listed f b ++ listed f d))

  -- the same of arguments
  pub listed_all : {A : Type 0} → (Expr → List A) → Arguments → List A
  listed_all f End = []
  listed_all f (More' u a v rest) = listed f a ++ listed_all f rest

-- the same of a condition, if there is one
abbrev pub listed_when : {A : Type 0} → (Expr → List A) → Option Expr → List A
listed_when f None = []
listed_when f (Some e) = listed f e

-- of the expressions of a clause behind `with`
abbrev pub listed_with : {A : Type 0} → (Expr → List A) → List Expr → List A
listed_with f [] = []
listed_with f (e ∷ es) = listed f e ++ listed_with f es

-- of a clause, if there is one
abbrev pub listed_clause : {A : Type 0} → (Expr → List A) → Option Clause → List A
listed_clause f None = []
listed_clause f (Some c) = listed_when f c.when ++ listed_with f c.with

-- of a stream's three clauses
abbrev pub listed_stream : {A : Type 0} → (Expr → List A) → Stream → List A
listed_stream f s = listed_clause f s.spawn ++ (listed_clause f s.eval ++ listed_clause f s.close)

-- of all streams
abbrev pub listed_streams : {A : Type 0} → (Expr → List A) → List Stream → List A
listed_streams f [] = []
listed_streams f (s ∷ ss) = listed_stream f s ++ listed_streams f ss

-- of a specification
abbrev pub listed_spec : {A : Type 0} → (Expr → List A) → Spec → List A
listed_spec f spec = listed_streams f spec.streams
