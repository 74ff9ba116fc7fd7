-- What is listed of streams that are alike.
use Rattle.std.proofs.Common.{ℕ, List, [], ◌∷◌, ◌++◌, Option, Some, None}
use Rattle.lola_model.specs.Parts.{listed, listed_all, listed_when, listed_with, listed_clause, listed_streams}
use Rattle.lola_model.specs.declared.expr.Arguments.{Arguments}
use Rattle.lola_model.specs.declared.expr.Arguments.TheVariants.{End, More'}
use Rattle.lola_model.specs.declared.expr.Expr.{Expr}
use Rattle.lola_model.specs.declared.expr.Expr.TheVariants.{Literal, Parameter, Read, Window, Defaults', Unary', Both', Choice'}
use Rattle.lola_model.specs.declared.spec.Clause.{Clause}
use Rattle.lola_model.specs.declared.spec.Stream.{Stream}
use Rattle.lola_model.specs.declared.spec.WindowSpec.{WindowSpec}
use Rattle.lola_front_law.proofs.AlikeStreams.{AlikeWhenBy, AlikeWithBy, AlikeClausesBy, AlikeStreamsBy}
use Rattle.lola_front_law.proofs.AlikeTrees.{AlikeBy, AlikeAllBy}

-- a relation of lists that holds of what is listed of parts holds of what is listed of the whole
module _ (T : ℕ → ℕ → Type 0) (ws vs : List WindowSpec) (A : Type 0) (f : Expr → List A) (S : List A → List A → Type 0) (none : S [] []) (join : (xs us ys os : List A) → S xs ys → S us os → S (xs ++ us) (ys ++ os))
    (each : (e d : Expr) → AlikeBy T ws vs e d → S (f e) (f d)) where
  mutual
    listed_of_expr : (e d : Expr) → AlikeBy T ws vs e d → S (listed f e) (listed f d)
    listed_of_expr (Literal p v) (Literal q w) h = each (Literal p v) (Literal q w) h
    listed_of_expr (Parameter p i) (Parameter q j) h = each (Parameter p i) (Parameter q j) h
    listed_of_expr (Read p n how args) (Read q m why brgs) h = join _ _ _ _ (each (Read p n how args) (Read q m why brgs) h) (listed_of_arguments args brgs h.3)
    listed_of_expr (Window p n args) (Window q m brgs) h = join _ _ _ _ (each (Window p n args) (Window q m brgs) h) (listed_of_arguments args brgs h.2)
    listed_of_expr (Defaults' p u a v b) (Defaults' q x c y d) h =
        join _ _ _ _ (each (Defaults' p u a v b) (Defaults' q x c y d) h) (join _ _ _ _ (listed_of_expr a c h.1) (listed_of_expr b d h.2))
    listed_of_expr (Unary' p s u a) (Unary' q r x c) h = join _ _ _ _ (each (Unary' p s u a) (Unary' q r x c) h) (listed_of_expr a c h.2)
    listed_of_expr (Both' p s u a v b) (Both' q r x c y d) h =
        join _ _ _ _ (each (Both' p s u a v b) (Both' q r x c y d) h) (join _ _ _ _ (listed_of_expr a c h.2) (listed_of_expr b d h.3))
    listed_of_expr (Choice' p u a v b w e) (Choice' q x c y d z g) h =
        join _ _ _ _ (each (Choice' p u a v b w e) (Choice' q x c y d z g) h)
        (join _ _ _ _ (listed_of_expr a c h.1) (join _ _ _ _ (listed_of_expr b d h.2) (listed_of_expr e g h.3)))
    listed_of_expr _ _ h = absurd h

    listed_of_arguments : (args brgs : Arguments) → AlikeAllBy T ws vs args brgs → S (listed_all f args) (listed_all f brgs)
    listed_of_arguments End End h = none
    listed_of_arguments (More' u a v rest) (More' x c y more) h = join _ _ _ _ (listed_of_expr a c h.0) (listed_of_arguments rest more h.1)
    listed_of_arguments _ _ h = absurd h

  listed_of_when : (o u : Option Expr) → AlikeWhenBy T ws vs o u → S (listed_when f o) (listed_when f u)
  listed_of_when None None h = none
  listed_of_when (Some e) (Some d) h = listed_of_expr e d h
  listed_of_when None (Some d) h = absurd h
  listed_of_when (Some e) None h = absurd h

  listed_of_with : (es ds : List Expr) → AlikeWithBy T ws vs es ds → S (listed_with f es) (listed_with f ds)
  listed_of_with [] [] h = none
  listed_of_with (e ∷ es) (d ∷ ds) h = join _ _ _ _ (listed_of_expr e d h.0) (listed_of_with es ds h.1)
  listed_of_with [] (d ∷ ds) h = absurd h
  listed_of_with (e ∷ es) [] h = absurd h

  pub listed_of_clause : (c d : Option Clause) → AlikeClausesBy T ws vs c d → S (listed_clause f c) (listed_clause f d)
  listed_of_clause None None h = none
  listed_of_clause (Some c) (Some d) h = join _ _ _ _ (listed_of_when c.when d.when h.condition) (listed_of_with c.with d.with h.expressions)
  listed_of_clause None (Some d) h = absurd h
  listed_of_clause (Some c) None h = absurd h

  pub listed_of_streams : (as' bs : List Stream) → AlikeStreamsBy T ws vs as' bs → S (listed_streams f as') (listed_streams f bs)
  listed_of_streams [] [] h = none
  listed_of_streams (a ∷ as') (b ∷ bs) h =
      join _ _ _ _
      (join _ _ _ _ (listed_of_clause a.spawn b.spawn h.0.spawn) (join _ _ _ _ (listed_of_clause a.eval b.eval h.0.eval) (listed_of_clause a.close b.close h.0.close)))
      (listed_of_streams as' bs h.1)
  listed_of_streams [] (b ∷ bs) h = absurd h
  listed_of_streams (a ∷ as') [] h = absurd h
