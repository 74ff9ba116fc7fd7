-- What is refused of a specification for its kinds: E9 WrongType and E10 LiteralRange, each with its place.
use Rattle.std.specs.Prelude.{ℕ, List, [], ◌∷◌, ◌++◌, Option, Some, None, Bool, true, false, not, ◌&&◌, ◌||◌, if◌then◌else◌, flat_map, drop, slice_get}
use Rattle.lola_value.specs.declared.front.Code.TheVariants as code
use Rattle.lola_value.specs.declared.front.Refusal.{Refusal}
use Rattle.lola_value.specs.declared.value.Kind.{Kind}
use Rattle.lola_value.specs.declared.value.Kind.TheVariants as kind
use Rattle.lola_value.specs.declared.value.Value.{Value}
use Rattle.lola_value.specs.declared.value.Value.TheVariants as value
use Rattle.lola_value.specs.Arithmetic.{is_within}
use Rattle.lola_value.specs.Kinds.{is_integer, is_signed}
use Rattle.lola_model.specs.Refusals.{earlier, first_of}
use Rattle.lola_model.specs.Typing.{same_kind}
use Rattle.lola_model.specs.Wholes.{Whole, wholes_from}
use Rattle.lola_model.specs.declared.expr.Place.{Place}
use Rattle.lola_model.specs.declared.expr.Prefix.{Prefix}
use Rattle.lola_model.specs.declared.expr.Prefix.TheVariants as prefix
use Rattle.lola_model.specs.declared.expr.Binary.{Binary}
use Rattle.lola_model.specs.declared.expr.Binary.TheVariants as binary
use Rattle.lola_model.specs.declared.expr.Expr.{Expr}
use Rattle.lola_model.specs.declared.expr.Expr.TheVariants.{Literal, Parameter, Read, Window, Defaults', Unary', Both', Choice'}
use Rattle.lola_model.specs.declared.expr.Arguments.{Arguments}
use Rattle.lola_model.specs.declared.expr.Arguments.TheVariants.{End, More'}
use Rattle.lola_model.specs.declared.spec.Constant.{Constant}
use Rattle.lola_model.specs.declared.spec.Spec.{Spec}
use Rattle.lola_types.specs.Found.{Setting, found, found_all, joint, is_broken, some_broken, arguments_fit, literal_part, parameters_at, window_parameters}
use Rattle.lola_types.specs.LeftOut.{kinds_of, setting_of}
use Rattle.lola_types.specs.declared.found.Found.{Found}
use Rattle.lola_types.specs.declared.found.Found.TheVariants.{Of, Free, Unknown, Broken}

abbrev pub wrong_type : ℕ → List Refusal
wrong_type at = record { code = code.WrongType; at = at } ∷ []

abbrev pub out_of_range : ℕ → List Refusal
out_of_range at = record { code = code.LiteralRange; at = at } ∷ []

-- Where a free part gets its kind.

-- the kind that the free operands of a part take where operands and the part are of one kind
abbrev pub taken : Found → Option Kind
taken (Of k c) = Some k
taken Free = None
taken Unknown = None
taken Broken = None

-- .. where operands that go together like this are compared: two that are both free take Int64
abbrev pub compared : Found → Option Kind
compared (Of k c) = Some k
compared Free = Some kind.Int64
compared Unknown = None
compared Broken = None

-- nothing, where the row of the whole does not hold
abbrev pub where_it_holds : Found → Option Kind → Option Kind
where_it_holds (Of k c) o = o
where_it_holds Free o = o
where_it_holds Unknown o = o
where_it_holds Broken o = None

-- the kind that free operands of a binary operator take there
abbrev pub operand_kind : Binary → (whole operands : Found) → Option Kind
operand_kind binary.Add whole operands = taken whole
operand_kind binary.Sub whole operands = taken whole
operand_kind binary.Mul whole operands = taken whole
operand_kind binary.Div whole operands = taken whole
operand_kind binary.Rem whole operands = taken whole
operand_kind binary.Less whole operands = where_it_holds whole (compared operands)
operand_kind binary.LessEqual whole operands = where_it_holds whole (compared operands)
operand_kind binary.Greater whole operands = where_it_holds whole (compared operands)
operand_kind binary.GreaterEqual whole operands = where_it_holds whole (compared operands)
operand_kind binary.Equal whole operands = where_it_holds whole (compared operands)
operand_kind binary.Different whole operands = where_it_holds whole (compared operands)
operand_kind binary.And whole operands = None
operand_kind binary.Or whole operands = None

-- What is refused.

-- a literal that takes this kind: a number that the kind does not have
abbrev pub literal_refusals : ℕ → Value → Kind → List Refusal
literal_refusals at (value.Int z) k = if is_within k z then [] else out_of_range at
literal_refusals at (value.Bool b) k = []
literal_refusals at (value.Text id) k = []

-- a prefix operator in a free part that takes this kind: a minus where the kind has no negative numbers
abbrev pub operator_refusals : ℕ → Prefix → Kind → List Refusal
operator_refusals at prefix.Minus k = if is_signed k then [] else wrong_type at
operator_refusals at prefix.Not k = []

-- what a free part refuses of the kind that it takes, with all free parts in it
abbrev pub free_refusals : Kind → Expr → List Refusal
free_refusals k (Literal place v) = literal_refusals place.at v k
free_refusals k (Parameter place i) = []
free_refusals k (Read place n how args) = []
free_refusals k (Window place w args) = []
free_refusals k (Defaults' place u a v b) = free_refusals k a ++ free_refusals k b
free_refusals k (Unary' place operator u a) = operator_refusals place.at operator k ++ free_refusals k a
free_refusals k (Both' place operator u a v b) = free_refusals k a ++ free_refusals k b
free_refusals k (Choice' place u t v a w b) = free_refusals k a ++ free_refusals k b

-- an operand, which takes this kind if there is one and the operand is free
abbrev pub taking_refusals : Option Kind → Found → Expr → List Refusal
taking_refusals None p e = []
taking_refusals (Some k) (Of l c) e = []
taking_refusals (Some k) Free e = free_refusals k e
taking_refusals (Some k) Unknown e = []
taking_refusals (Some k) Broken e = []

-- a part breaks its own row: all its operands have a kind, and it has none
abbrev pub own_refusals : ℕ → Bool → Found → List Refusal
own_refusals at broken whole = if is_broken whole && not broken then wrong_type at else []

module _ (s : Setting) where
  -- arguments, which take the kinds of the parameters
  abbrev pub argument_refusals : List Kind → Arguments → List Refusal
  argument_refusals ks End = []
  argument_refusals ks (More' u a v rest) = taking_refusals (slice_get ks 0) (found s a) a ++ argument_refusals (drop 1 ks) rest

  -- .. where the row of the access holds
  abbrev pub fitting_refusals : Found → List Kind → Arguments → List Refusal
  fitting_refusals whole ks args = if is_broken whole then [] else argument_refusals ks args

  abbrev mutual
    -- each part of an expression by itself, and free operands where a part gives them their kind
    pub refusals_in : Expr → List Refusal
    refusals_in (Literal place v) = []
    refusals_in (Parameter place i) = []
    refusals_in (Read place n how args) =
        refusals_in_all args
        ++ (own_refusals place.at (some_broken (found_all s args)) (found s (Read place n how args))
        ++ fitting_refusals (found s (Read place n how args)) (parameters_at s n) args)
    refusals_in (Window place w args) =
        refusals_in_all args
        ++ (own_refusals place.at (some_broken (found_all s args)) (found s (Window place w args))
        ++ fitting_refusals (found s (Window place w args)) (window_parameters s (slice_get s.windows w)) args)
    refusals_in (Defaults' place u a v b) =
        refusals_in a ++ (refusals_in b
        ++ (own_refusals place.at (is_broken (found s a) || is_broken (found s b)) (found s (Defaults' place u a v b))
        ++ (taking_refusals (taken (found s (Defaults' place u a v b))) (found s a) a
        ++ taking_refusals (taken (found s (Defaults' place u a v b))) (found s b) b)))
    refusals_in (Unary' place operator u a) =
        refusals_in a
        ++ (own_refusals place.at (is_broken (found s a)) (found s (Unary' place operator u a))
        ++ taking_refusals (taken (found s (Unary' place operator u a))) (found s a) a)
    refusals_in (Both' place operator u a v b) =
        refusals_in a ++ (refusals_in b
        ++ (own_refusals place.at (is_broken (found s a) || is_broken (found s b)) (found s (Both' place operator u a v b))
        ++ (taking_refusals (operand_kind operator (found s (Both' place operator u a v b)) (joint (found s a) (found s b))) (found s a) a
        ++ taking_refusals (operand_kind operator (found s (Both' place operator u a v b)) (joint (found s a) (found s b))) (found s b) b)))
    refusals_in (Choice' place u t v a w b) =
        refusals_in t ++ (refusals_in a ++ (refusals_in b
        ++ (own_refusals place.at (is_broken (found s t) || (is_broken (found s a) || is_broken (found s b))) (found s (Choice' place u t v a w b))
        ++ (taking_refusals (taken (found s (Choice' place u t v a w b))) (found s a) a
        ++ taking_refusals (taken (found s (Choice' place u t v a w b))) (found s b) b))))

    pub refusals_in_all : Arguments → List Refusal
    refusals_in_all End = []
    refusals_in_all (More' u a v rest) = refusals_in a ++ refusals_in_all rest

-- a whole expression that has to be certain and of this kind; the place is that of the token before it
abbrev pub wanted_refusals : Kind → ℕ → Found → List Refusal
wanted_refusals want at (Of k c) = if same_kind k want && c then [] else wrong_type at
wanted_refusals want at Free = if is_integer want then [] else wrong_type at
wanted_refusals want at Unknown = []
wanted_refusals want at Broken = []

abbrev pub number_kind : Kind → Option Kind
number_kind k = if is_integer k then Some k else None

abbrev pub whole_refusals : Setting → Kind → ℕ → Expr → List Refusal
whole_refusals s want at e =
    refusals_in s e ++ (wanted_refusals want at (found s e) ++ taking_refusals (number_kind want) (found s e) e)

-- a literal, which takes this kind if there is one
abbrev pub taken_literal : ℕ → Value → Option Kind → List Refusal
taken_literal at v None = []
taken_literal at v (Some k) = literal_refusals at v k

-- a constant's literal
abbrev pub constant_refusals : Constant → List Refusal
constant_refusals c =
    wanted_refusals c.kind c.before (literal_part None c.literal)
    ++ taken_literal c.place c.literal (number_kind c.kind)

-- where parameters of these kinds are in scope
abbrev pub with_parameters : Setting → List Kind → Setting
with_parameters s ks = record { streams = s.streams; windows = s.windows; kinds = s.kinds; parameters = ks }

-- a whole expression of a clause, with what is asked of it there
abbrev pub refusals_of_whole : Setting → Whole → List Refusal
refusals_of_whole s w = whole_refusals (with_parameters s w.parameters) w.want w.before w.expr

-- quantities and offsets that are out of range
abbrev pub range_refusals : List ℕ → List Refusal
range_refusals [] = []
range_refusals (at ∷ ats) = record { code = code.LiteralRange; at = at } ∷ range_refusals ats

-- all that is refused of a specification for its kinds, where its streams are of these
abbrev pub refusals_by : Spec → List (Option Kind) → List Refusal
refusals_by spec kinds =
    flat_map constant_refusals spec.constants
    ++ (flat_map (refusals_of_whole (setting_of spec kinds [])) (wholes_from 0 spec.streams kinds)
    ++ range_refusals spec.refused)

-- .. by the kinds that are declared or found
abbrev pub kind_refusals : Spec → List Refusal
kind_refusals spec = refusals_by spec (kinds_of spec)

-- what is refused first, where more is found
unfoldable pub with_more : Option Refusal → List Refusal → Option Refusal
with_more so_far found = earlier so_far (first_of found)
