-- Plans that differ in addresses alone. The parts of an expression and of a formula stand in boxes, and where these lie differs from
-- one run of the compiler to the next. What is plain has all its boxes at one address; two things are alike whose plain forms are equal.
use Rattle.std.specs.Ptr.{null_ptr}
use Rattle.std.specs.Global.{Box}
use Rattle.std.specs.Prelude.{◌≡◌, map}
use Rattle.std.specs.Option.{option_map}
use Rattle.lola_model.specs.declared.expr.Expr.{Expr}
use Rattle.lola_model.specs.declared.expr.Expr.TheVariants.{Literal, Parameter, Read, Window, Defaults', Unary', Both', Choice'}
use Rattle.lola_model.specs.declared.expr.Arguments.{Arguments}
use Rattle.lola_model.specs.declared.expr.Arguments.TheVariants.{End, More'}
use Rattle.lola_model.specs.declared.spec.Formula.{Formula}
use Rattle.lola_model.specs.declared.spec.Formula.TheVariants.{Input, And', Or'}
use Rattle.lola_model.specs.declared.spec.Pace.{Pace}
use Rattle.lola_model.specs.declared.spec.Pace.TheVariants as pace
use Rattle.lola_model.specs.declared.spec.Clause.{Clause}
use Rattle.lola_model.specs.declared.spec.Stream.{Stream}
use Rattle.lola_model.specs.declared.spec.Spec.{Spec}
use Rattle.lola_model.specs.declared.plan.Plan.{Plan}

-- where a box lies, whatever is in it
abbrev pub Address : Type 0
Address = Box (Unit {0})

-- the address of no box, at which all boxes of what is plain lie
abbrev pub nowhere : Address
nowhere = record { ptr = null_ptr; alloc = record { memory = record { seal = tt } }; value = tt }

abbrev mutual
  -- an expression, its boxes at that one address
  pub plain : Expr → Expr
  plain (Literal place v) = Literal place v
  plain (Parameter place i) = Parameter place i
  plain (Read place n how args) = Read place n how (plain_all args)
  plain (Window place w args) = Window place w (plain_all args)
  plain (Defaults' place u a v b) = Defaults' place nowhere (plain a) nowhere (plain b)
  plain (Unary' place operator u a) = Unary' place operator nowhere (plain a)
  plain (Both' place operator u a v b) = Both' place operator nowhere (plain a) nowhere (plain b)
  plain (Choice' place u a v b w d) = Choice' place nowhere (plain a) nowhere (plain b) nowhere (plain d)

  -- arguments
  pub plain_all : Arguments → Arguments
  plain_all End = End
  plain_all (More' u a v rest) = More' nowhere (plain a) nowhere (plain_all rest)

-- a formula over inputs
abbrev pub plain_formula : Formula → Formula
plain_formula (Input i) = Input i
plain_formula (And' u a v b) = And' nowhere (plain_formula a) nowhere (plain_formula b)
plain_formula (Or' u a v b) = Or' nowhere (plain_formula a) nowhere (plain_formula b)

-- a pacing as written
abbrev pub plain_pace : Pace → Pace
plain_pace (pace.Event at f) = pace.Event at (plain_formula f)
plain_pace (pace.Rate at r) = pace.Rate at r
plain_pace (pace.Global at r) = pace.Global at r
plain_pace (pace.Local at r) = pace.Local at r

-- a clause
abbrev pub plain_clause : Clause → Clause
plain_clause c = record c { pace = option_map plain_pace c.pace; when = option_map plain c.when; with = map plain c.with }

-- a stream
abbrev pub plain_stream : Stream → Stream
plain_stream s = record s { spawn = option_map plain_clause s.spawn; eval = option_map plain_clause s.eval; close = option_map plain_clause s.close }

-- a specification
abbrev pub plain_spec : Spec → Spec
plain_spec spec = record spec { streams = map plain_stream spec.streams }

-- a plan
abbrev pub plain_plan : Plan → Plan
plain_plan p = record p { spec = plain_spec p.spec }

-- two expressions that differ in addresses alone
abbrev pub AreExprsAlike : Expr → Expr → Type 0
AreExprsAlike a b = plain a ≡ plain b

-- arguments
abbrev pub AreArgumentsAlike : Arguments → Arguments → Type 0
AreArgumentsAlike a b = plain_all a ≡ plain_all b

-- formulas
abbrev pub AreFormulasAlike : Formula → Formula → Type 0
AreFormulasAlike a b = plain_formula a ≡ plain_formula b

-- pacings as written
abbrev pub ArePacesAlike : Pace → Pace → Type 0
ArePacesAlike a b = plain_pace a ≡ plain_pace b

-- clauses
abbrev pub AreClausesAlike : Clause → Clause → Type 0
AreClausesAlike a b = plain_clause a ≡ plain_clause b

-- streams
abbrev pub AreStreamsAlike : Stream → Stream → Type 0
AreStreamsAlike a b = plain_stream a ≡ plain_stream b

-- specifications
abbrev pub AreSpecsAlike : Spec → Spec → Type 0
AreSpecsAlike a b = plain_spec a ≡ plain_spec b

-- plans
abbrev pub ArePlansAlike : Plan → Plan → Type 0
ArePlansAlike p q = plain_plan p ≡ plain_plan q
