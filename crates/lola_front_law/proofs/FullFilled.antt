-- Each specification has one with its kinds filled in.
use Rattle.std.proofs.Common.{refl, List, [], ◌∷◌, Option, Some, None, drop, slice_get, unwrap_or}
use Rattle.lola_value.specs.declared.value.Kind.{Kind}
use Rattle.lola_value.specs.declared.value.Kind.TheVariants as kind
use Rattle.lola_model.specs.declared.expr.Expr.{Expr}
use Rattle.lola_model.specs.declared.expr.Expr.TheVariants.{Literal, Parameter, Read, Window, Defaults', Unary', Both', Choice'}
use Rattle.lola_model.specs.declared.expr.Arguments.{Arguments}
use Rattle.lola_model.specs.declared.expr.Arguments.TheVariants.{End, More'}
use Rattle.lola_model.specs.declared.spec.Clause.{Clause}
use Rattle.lola_model.specs.declared.spec.Formula.{Formula}
use Rattle.lola_model.specs.declared.spec.Formula.TheVariants.{Input, And', Or'}
use Rattle.lola_model.specs.declared.spec.Pace.{Pace}
use Rattle.lola_model.specs.declared.spec.Pace.TheVariants as pace
use Rattle.lola_model.specs.declared.spec.Spec.{Spec}
use Rattle.lola_model.specs.declared.spec.Stream.{Stream}
use Rattle.lola_types.specs.Filled.{FilledClauses, FilledStream, FilledStreams, FilledWhen, FilledWith, IsFilled, SameArguments, SameFormula, SamePace, SameTree, filled_whole}
use Rattle.lola_types.specs.Found.{Setting}
use Rattle.lola_types.specs.LeftOut.{kinds_of, setting_of}
use Rattle.lola_types.specs.Refused.{with_parameters}

-- ---- what is the same as itself

mutual
  same_tree : (e : Expr) → SameTree e e
  same_tree (Literal p v) = (refl, refl)
  same_tree (Parameter p i) = (refl, refl)
  same_tree (Read p n how args) = (refl, refl, refl, same_arguments args)
  same_tree (Window p n args) = (refl, refl, same_arguments args)
  same_tree (Defaults' p u a v b) = (refl, same_tree a, same_tree b)
  same_tree (Unary' p s u a) = (refl, refl, same_tree a)
  same_tree (Both' p s u a v b) = (refl, refl, same_tree a, same_tree b)
  same_tree (Choice' p u a v b w e) = (refl, same_tree a, same_tree b, same_tree e)

  same_arguments : (args : Arguments) → SameArguments args args
  same_arguments End = tt
  same_arguments (More' u a v rest) = (same_tree a, same_arguments rest)

same_formula : (x : Formula) → SameFormula x x
same_formula (Input i) = refl
same_formula (And' u a v b) = (same_formula a, same_formula b)
same_formula (Or' u a v b) = (same_formula a, same_formula b)

same_pace : (p : Option Pace) → SamePace p p
same_pace None = tt
same_pace (Some (pace.Event p f)) = (refl, same_formula f)
same_pace (Some (pace.Rate p r)) = (refl, refl)
same_pace (Some (pace.Global p r)) = (refl, refl)
same_pace (Some (pace.Local p r)) = (refl, refl)

-- ---- what is filled in

when_filled : (s : Setting) (e : Option Expr) → (f : Option Expr) × FilledWhen s e f
when_filled s None = (None, tt)
when_filled s (Some e) = (Some (filled_whole s kind.Bool e), same_tree (filled_whole s kind.Bool e))

with_filled : (s : Setting) (wants : List Kind) (es : List Expr) → (fs : List Expr) × FilledWith s wants es fs
with_filled s wants [] = ([], tt)
with_filled s wants (e ∷ es) =
    let rest = with_filled s (drop 1 wants) es in
    let f : Expr = filled_whole s (unwrap_or (slice_get wants 0) kind.Int64) e in
    (f ∷ rest.0, (same_tree f, rest.1))

clause_filled : (s : Setting) (wants : List Kind) (c : Option Clause) → (d : Option Clause) × FilledClauses s wants c d
clause_filled s wants None = (None, tt)
clause_filled s wants (Some c) =
    let condition = when_filled s c.when in
    let expressions = with_filled s wants c.with in (
      Some (record c { when = condition.0; with = expressions.0 }),
      record { place = refl; pacing = same_pace c.pace; condition = condition.1; condition_place = refl; expressions = expressions.1; places = refl },
    )

stream_filled : (s : Setting) (k : Kind) (a : Stream) → (b : Stream) × FilledStream s k a b
stream_filled s k a =
    let spawn = clause_filled (with_parameters s []) a.parameters a.spawn in
    let eval = clause_filled (with_parameters s a.parameters) (k ∷ []) a.eval in
    let close = clause_filled (with_parameters s a.parameters) [] a.close in (
      record a { kind = Some k; spawn = spawn.0; eval = eval.0; close = close.0 },
      record { name = refl; place = refl; sort = refl; message = refl; kind = refl; parameters = refl; spawn = spawn.1; eval = eval.1; close = close.1 },
    )

streams_filled : (s : Setting) (kinds : List (Option Kind)) (as' : List Stream) → (bs : List Stream) × FilledStreams s kinds as' bs
streams_filled s kinds [] = ([], tt)
streams_filled s kinds (a ∷ as') =
    let first = stream_filled s (unwrap_or (unwrap_or (slice_get kinds 0) None) kind.Int64) a in
    let rest = streams_filled s (drop 1 kinds) as' in
    (first.0 ∷ rest.0, (first.1, rest.1))

-- kinds that are declared or found can be filled in of any specification
pub filled_of : (spec : Spec) → (full : Spec) × IsFilled spec full
filled_of spec =
    let streams = streams_filled (setting_of spec (kinds_of spec) []) (kinds_of spec) spec.streams in
    (record spec { streams = streams.0 }, record { streams = streams.1; constants = refl; windows = refl; texts = refl; refused = refl })
