-- Trees that differ in the addresses of their boxes alone.
use Rattle.std.proofs.Common.{◌≡◌, refl, ap, Option, Some, None}
use Rattle.lola_value.specs.declared.value.Kind.{Kind}
use Rattle.lola_model.specs.declared.expr.Place.{Place}
use Rattle.lola_model.specs.declared.expr.Expr.{Expr}
use Rattle.lola_model.specs.declared.expr.Expr.TheVariants.{Literal, Parameter, Read, Window, Defaults', Unary', Both', Choice'}
use Rattle.lola_types.specs.Filled.{note, given_kind, filled_if_free, SameTree, SameArguments}
use Rattle.lola_types.specs.declared.found.Found.{Found}
use Rattle.lola_types.specs.declared.found.Found.TheVariants.{Of, Free, Unknown, Broken}

same_note : (k : Kind) (p q : Place) → p ≡ q → note p k ≡ note q k
same_note k p q e = ap (λ z. note z k) e

pub same_given_kind : (k : Kind) (e f : Expr) → SameTree e f → SameTree (given_kind k e) (given_kind k f)
same_given_kind k (Literal p v) (Literal q w) h = (same_note k p q h.0, h.1)
same_given_kind k (Parameter p i) (Parameter q j) h = h
same_given_kind k (Read p n how args) (Read q m why brgs) h = h
same_given_kind k (Window p n args) (Window q m brgs) h = h
same_given_kind k (Defaults' p u a v b) (Defaults' q x c y d) h = (same_note k p q h.0, same_given_kind k a c h.1, same_given_kind k b d h.2)
same_given_kind k (Unary' p s u a) (Unary' q r x c) h = (same_note k p q h.0, h.1, same_given_kind k a c h.2)
same_given_kind k (Both' p s u a v b) (Both' q r x c y d) h = (same_note k p q h.0, h.1, same_given_kind k a c h.2, same_given_kind k b d h.3)
same_given_kind k (Choice' p u a v b w e) (Choice' q x c y d z f) h = (same_note k p q h.0, h.1, same_given_kind k b d h.2, same_given_kind k e f h.3)
same_given_kind k _ _ h = absurd h

pub same_filled_if_free : (o : Option Kind) (p : Found) (e f : Expr) → SameTree e f → SameTree (filled_if_free o p e) (filled_if_free o p f)
same_filled_if_free None p e f h = h
same_filled_if_free (Some k) (Of l c) e f h = h
same_filled_if_free (Some k) Free e f h = same_given_kind k e f h
same_filled_if_free (Some k) Unknown e f h = h
same_filled_if_free (Some k) Broken e f h = h
