-- Literals that stand for constants.
use Rattle.std.specs.Prelude.{List, [], ◌∷◌, Option, Some, None, Bool, true, false, ◌&&◌, ◌||◌, IsTrue}
use Rattle.lola_value.specs.declared.value.Kind.{Kind}
use Rattle.lola_value.specs.declared.value.Value.{Value}
use Rattle.lola_value.specs.Kinds.{values_same}
use Rattle.lola_model.specs.Typing.{same_kind, each_part}
use Rattle.lola_model.specs.Wholes.{Whole, wholes_of, all_wholes}
use Rattle.lola_model.specs.declared.expr.Expr.{Expr}
use Rattle.lola_model.specs.declared.expr.Expr.TheVariants.{Literal}
use Rattle.lola_model.specs.declared.spec.Constant.{Constant}
use Rattle.lola_model.specs.declared.spec.Spec.{Spec}

-- some constant has this kind and this literal
abbrev pub is_constant : List Constant → Kind → Value → Bool
is_constant [] k v = false
is_constant (c ∷ cs) k v = (same_kind c.kind k && values_same c.literal v) || is_constant cs k v

abbrev pub is_constant_if_noted : List Constant → Option Kind → Value → Bool
is_constant_if_noted cs None v = true
is_constant_if_noted cs (Some k) v = is_constant cs k v

-- a literal whose kind is noted is that of a constant
abbrev pub literal_is_known : List Constant → Expr → Bool
literal_is_known cs (Literal place v) = is_constant_if_noted cs place.kind v
literal_is_known cs _ = true

abbrev pub whole_is_known : Spec → Whole → Bool
whole_is_known spec w = each_part (literal_is_known spec.constants) w.expr

-- before kinds are found, literals have a kind noted only where they stand for constants
abbrev pub NotesConstants : Spec → Type 0
NotesConstants spec = IsTrue (all_wholes (whole_is_known spec) (wholes_of spec))
