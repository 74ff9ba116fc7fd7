-- What is put of the parts that read is what is listed of the expressions that have them.
use Rattle.std.proofs.Common.{◌≡◌, refl, append-nil}
use Rattle.std.specs.List.{flat_map}
use Rattle.lola_model.specs.Leaves.{followed_by, followed}
use Rattle.lola_model.specs.PacingRefused.{access_use, used}
use Rattle.lola_model.specs.declared.expr.Expr.{Expr}
use Rattle.lola_model.specs.declared.expr.Expr.TheVariants.{Literal, Parameter, Read, Window, Defaults', Unary', Both', Choice'}
use Rattle.lola_model.specs.Visits.{parts_of}
use Rattle.lola_pacing.specs.Reading.{followed_part, used_part}

pub followed_each : (e : Expr) → flat_map followed_part (parts_of e) ≡ followed e
followed_each (Literal place v) = refl
followed_each (Parameter place i) = refl
followed_each (Read place n how args) = append-nil (followed_by how n)
followed_each (Window place w args) = refl
followed_each (Defaults' place u a v b) = refl
followed_each (Unary' place operator u a) = refl
followed_each (Both' place operator u a v b) = refl
followed_each (Choice' place u a v b w d) = refl

pub used_each : (e : Expr) → flat_map used_part (parts_of e) ≡ used e
used_each (Literal place v) = refl
used_each (Parameter place i) = refl
used_each (Read place n how args) = append-nil (access_use place.at n how)
used_each (Window place w args) = refl
used_each (Defaults' place u a v b) = refl
used_each (Unary' place operator u a) = refl
used_each (Both' place operator u a v b) = refl
used_each (Choice' place u a v b w d) = refl
