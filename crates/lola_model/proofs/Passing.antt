-- A test that all parts pass.
use Rattle.std.proofs.Common.{◌≡◌, refl, List, [], ◌∷◌, Option, Some, None, Bool, true, ◌&&◌}
use Rattle.std.proofs.lemmas.Bool.{and_from}
use Rattle.std.specs.List.{list_all}
use Rattle.lola_model.specs.declared.expr.Expr.{Expr}
use Rattle.lola_model.specs.declared.expr.Expr.TheVariants.{Literal, Parameter, Read, Window, Defaults', Unary', Both', Choice'}
use Rattle.lola_model.specs.declared.expr.Arguments.{Arguments}
use Rattle.lola_model.specs.declared.expr.Arguments.TheVariants.{End, More'}
use Rattle.lola_model.specs.declared.spec.Clause.{Clause}
use Rattle.lola_model.specs.declared.spec.Stream.{Stream}
use Rattle.lola_model.specs.Visits.{parts_pass, arguments_pass, when_passes, clause_passes, stream_passes}
use Rattle.lola_model.specs.declared.part.ReadPart.{ReadPart}

abbrev any_part : ReadPart → Bool
any_part p = true

mutual
  any_pass : (e : Expr) → parts_pass any_part e ≡ true
  any_pass (Literal place v) = refl
  any_pass (Parameter place i) = refl
  any_pass (Read place n how args) = any_arguments args
  any_pass (Window place w args) = any_arguments args
  any_pass (Defaults' place u a v b) = and_from (parts_pass any_part a) (parts_pass any_part b) (any_pass a) (any_pass b)
  any_pass (Unary' place operator u a) = any_pass a
  any_pass (Both' place operator u a v b) = and_from (parts_pass any_part a) (parts_pass any_part b) (any_pass a) (any_pass b)
  any_pass (Choice' place u a v b w d) =
      and_from (parts_pass any_part a) (parts_pass any_part b && parts_pass any_part d) (any_pass a)
      (and_from (parts_pass any_part b) (parts_pass any_part d) (any_pass b) (any_pass d))

  any_arguments : (args : Arguments) → arguments_pass any_part args ≡ true
  any_arguments End = refl
  any_arguments (More' u a v rest) = and_from (parts_pass any_part a) (arguments_pass any_part rest) (any_pass a) (any_arguments rest)

any_when : (o : Option Expr) → when_passes any_part o ≡ true
any_when None = refl
any_when (Some e) = any_pass e

any_with : (es : List Expr) → list_all (parts_pass any_part) es ≡ true
any_with [] = refl
any_with (e ∷ es) = and_from (parts_pass any_part e) (list_all (parts_pass any_part) es) (any_pass e) (any_with es)

-- of a clause, if there is one
pub any_clause : (o : Option Clause) → clause_passes (λ p. true) o ≡ true
any_clause None = refl
any_clause (Some c) = and_from (when_passes any_part c.when) (list_all (parts_pass any_part) c.with) (any_when c.when) (any_with c.with)

-- of streams
pub any_streams : (ss : List Stream) → list_all (stream_passes (λ p. true)) ss ≡ true
any_streams [] = refl
any_streams (s ∷ ss) =
    and_from (stream_passes any_part s) (list_all (stream_passes any_part) ss)
    (and_from (clause_passes any_part s.spawn) (clause_passes any_part s.eval && clause_passes any_part s.close) (any_clause s.spawn)
    (and_from (clause_passes any_part s.eval) (clause_passes any_part s.close) (any_clause s.eval) (any_clause s.close)))
    (any_streams ss)
