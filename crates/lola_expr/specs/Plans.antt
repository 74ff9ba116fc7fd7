-- The code of the eval clauses of a specification.
use Rattle.std.specs.Prelude.{◌≡◌, List, [], ◌∷◌, Option, Some, None}
use Rattle.std.specs.List.{AllZip}
use Rattle.lola_model.specs.declared.expr.Expr.{Expr}
use Rattle.lola_model.specs.declared.spec.Clause.{Clause}
use Rattle.lola_model.specs.declared.spec.Stream.{Stream}
use Rattle.lola_expr.specs.Code.{code_of}
use Rattle.lola_expr.specs.declared.instr.Instr.{Instr}
use Rattle.lola_expr.specs.declared.plan.EvalCode.{EvalCode}

-- the code of an expression, or none
abbrev pub IsCodeOf : Option Expr → Option (List Instr) → Type 0
IsCodeOf None code = Unit {0}
IsCodeOf (Some e) None = Unit {0}
IsCodeOf (Some e) (Some code) = code ≡ code_of e

-- the first of these expressions, if there is one
abbrev pub first_of : List Expr → Option Expr
first_of [] = None
first_of (e ∷ es) = Some e

-- the code of a clause's condition, and that of its value
abbrev pub IsEvalCode : Option Clause → EvalCode → Type 0
IsEvalCode None code = Unit {0}
IsEvalCode (Some c) code = IsCodeOf c.when code.when × IsCodeOf (first_of c.with) code.with

-- of the eval clause of a stream
abbrev pub IsStreamCode : Stream → EvalCode → Type 0
IsStreamCode s code = IsEvalCode s.eval code

-- of each stream
abbrev pub AreCodes : List Stream → List EvalCode → Type 0
AreCodes streams codes = AllZip IsStreamCode streams codes

-- of a stream that is there
abbrev pub IsCodeIn : Option Stream → EvalCode → Type 0
IsCodeIn None code = Unit {0}
IsCodeIn (Some s) code = IsStreamCode s code
