-- What is known of a specification whose kinds are all filled in.
use Rattle.std.specs.Prelude.{◌≡◌, List, [], ◌∷◌, Bool, true, ◌&&◌, IsTrue}
use Rattle.lola_value.specs.Kinds.{is_of_kind}
use Rattle.lola_value.specs.declared.value.Kind.{Kind}
use Rattle.lola_model.specs.Named.{IsRanged, all_streams, has_kind}
use Rattle.lola_model.specs.Store.{layouts_from}
use Rattle.lola_model.specs.Typing.{Scope, is_kind_at, is_whole}
use Rattle.lola_model.specs.Wholes.{Whole, wholes_of, all_wholes}
use Rattle.lola_model.specs.declared.spec.Constant.{Constant}
use Rattle.lola_model.specs.declared.spec.Spec.{Spec}

-- where an expression stands that has parameters of these kinds
abbrev pub scope_in : Spec → List Kind → Scope
scope_in spec ks = record { streams = layouts_from spec.streams [] []; windows = spec.windows; has_parameter = is_kind_at ks }

-- a whole expression has the kind that is asked of it, and all its parts have theirs by the table of kinds
abbrev pub whole_is_typed : Spec → Whole → Bool
whole_is_typed spec w = is_whole (scope_in spec w.parameters) w.want w.expr

abbrev pub constant_is_typed : Constant → Bool
constant_is_typed c = is_of_kind c.kind c.literal

abbrev pub all_constants : (Constant → Bool) → List Constant → Bool
all_constants f [] = true
all_constants f (c ∷ cs) = f c && all_constants f cs

-- each kind is found, each expression is of the kind that it has to be of, and each number is in its range
pub record IsTyped (spec : Spec) : Type 0 where
  pub kinds : IsTrue (all_streams (λ s. has_kind s.kind) spec.streams)
  pub typed : IsTrue (all_wholes (whole_is_typed spec) (wholes_of spec))
  pub constants : IsTrue (all_constants constant_is_typed spec.constants)
  pub ranges : spec.refused ≡ []
  pub ranged : IsRanged spec
