-- The parts of an expression that read, and what it is to take them one after another.
use Rattle.std.specs.Prelude.{◌≡◌, List, [], ◌∷◌, Option, Some, None, Bool, true, ◌&&◌}
use Rattle.std.specs.List.{list_all}
use Rattle.lola_model.specs.declared.expr.Expr.{Expr}
use Rattle.lola_model.specs.declared.expr.Expr.TheVariants as expr
use Rattle.lola_model.specs.declared.expr.Arguments.{Arguments}
use Rattle.lola_model.specs.declared.expr.Arguments.TheVariants.{End, More'}
use Rattle.lola_model.specs.declared.spec.Clause.{Clause}
use Rattle.lola_model.specs.declared.spec.Stream.{Stream}
use Rattle.lola_model.specs.declared.part.ReadPart.{ReadPart}
use Rattle.lola_model.specs.declared.part.ReadPart.TheVariants.{Read, Window}

-- an expression as a part that reads, if it is itself an access or a window
abbrev pub parts_of : Expr → List ReadPart
parts_of (expr.Read place n how args) = Read place.at n how ∷ []
parts_of (expr.Window place w args) = Window place.at w ∷ []
parts_of _ = []

-- from old to new by one part after another
abbrev pub TakesAll : {T : Type 0} → (ReadPart → T → T → Type 0) → List ReadPart → T → T → Type 0
TakesAll takes [] old new = old ≡ new
TakesAll {T} takes (p ∷ ps) old new = (mid : T) × takes p old mid × TakesAll takes ps mid new

abbrev mutual
  -- each part of an expression that reads passes a test
  pub parts_pass : (ReadPart → Bool) → Expr → Bool
  parts_pass test (expr.Literal place v) = true
  parts_pass test (expr.Parameter place i) = true
  parts_pass test (expr.Read place n how args) = test (Read place.at n how) && arguments_pass test args
  parts_pass test (expr.Window place w args) = test (Window place.at w) && arguments_pass test args
  parts_pass test (expr.Defaults' place u a v b) = parts_pass test a && parts_pass test b
  parts_pass test (expr.Unary' place operator u a) = parts_pass test a
  parts_pass test (expr.Both' place operator u a v b) = parts_pass test a && parts_pass test b
  parts_pass test (expr.Choice' place u a v b w d) = parts_pass test a && (parts_pass test b && parts_pass test d)

  -- of arguments
  pub arguments_pass : (ReadPart → Bool) → Arguments → Bool
  arguments_pass test End = true
  arguments_pass test (More' u a v rest) = parts_pass test a && arguments_pass test rest

-- of a condition, if there is one
abbrev pub when_passes : (ReadPart → Bool) → Option Expr → Bool
when_passes test None = true
when_passes test (Some e) = parts_pass test e

-- of a clause, if there is one
abbrev pub clause_passes : (ReadPart → Bool) → Option Clause → Bool
clause_passes test None = true
clause_passes test (Some c) = when_passes test c.when && list_all (parts_pass test) c.with

-- of a stream's three clauses
abbrev pub stream_passes : (ReadPart → Bool) → Stream → Bool
stream_passes test s = clause_passes test s.spawn && (clause_passes test s.eval && clause_passes test s.close)
