-- What a part of an expression is, where the kinds of some streams may not be found yet.
use Rattle.std.specs.Prelude.{ℕ, List, [], ◌∷◌, Option, Some, None, Bool, true, false, not, ◌&&◌, ◌||◌, if◌then◌else◌, slice_get, unwrap_or}
use Rattle.lola_value.specs.declared.value.Kind.{Kind}
use Rattle.lola_value.specs.declared.value.Kind.TheVariants as kind
use Rattle.lola_value.specs.declared.value.Value.{Value}
use Rattle.lola_value.specs.declared.value.Value.TheVariants as value
use Rattle.lola_value.specs.Kinds.{is_integer, is_signed}
use Rattle.lola_model.specs.Store.{gives_kind}
use Rattle.lola_model.specs.Typing.{same_kind, takes, is_total, is_direct}
use Rattle.lola_model.specs.declared.expr.Prefix.{Prefix}
use Rattle.lola_model.specs.declared.expr.Prefix.TheVariants as prefix
use Rattle.lola_model.specs.declared.expr.Binary.{Binary}
use Rattle.lola_model.specs.declared.expr.Binary.TheVariants as binary
use Rattle.lola_model.specs.declared.expr.Expr.{Expr}
use Rattle.lola_model.specs.declared.expr.Expr.TheVariants.{Literal, Parameter, Read, Window, Defaults', Unary', Both', Choice'}
use Rattle.lola_model.specs.declared.expr.Arguments.{Arguments}
use Rattle.lola_model.specs.declared.expr.Arguments.TheVariants.{End, More'}
use Rattle.lola_model.specs.declared.spec.Stream.{Stream}
use Rattle.lola_model.specs.declared.spec.WindowSpec.{WindowSpec}
use Rattle.lola_model.specs.declared.spec.Agg.{Agg}
use Rattle.lola_model.specs.declared.spec.Agg.TheVariants as agg
use Rattle.lola_types.specs.declared.found.Found.{Found}
use Rattle.lola_types.specs.declared.found.Found.TheVariants.{Of, Free, Unknown, Broken}

abbrev pub is_broken : Found → Bool
is_broken (Of k c) = false
is_broken Free = false
is_broken Unknown = false
is_broken Broken = true

abbrev pub is_unknown : Found → Bool
is_unknown (Of k c) = false
is_unknown Free = false
is_unknown Unknown = true
is_unknown Broken = false

-- operands of equal kinds: a free literal fits any kind of numbers and takes it; two make a free part; what is not
-- known takes the kind of the other
abbrev pub with_kind : Kind → Bool → Found → Found
with_kind k c (Of l d) = if same_kind k l then Of k (c && d) else Broken
with_kind k c Free = if is_integer k then Of k c else Broken
with_kind k c Unknown = Of k c
with_kind k c Broken = Broken

abbrev pub with_free : Found → Found
with_free (Of k c) = if is_integer k then Of k c else Broken
with_free Free = Free
with_free Unknown = Free
with_free Broken = Broken

abbrev pub joint : Found → Found → Found
joint (Of k c) b = with_kind k c b
joint Free b = with_free b
joint Unknown b = b
joint Broken b = Broken

-- what is left of a part that has to be certain
abbrev pub certain_part : Found → Found
certain_part (Of k c) = if c then Of k true else Broken
certain_part Free = Free
certain_part Unknown = Unknown
certain_part Broken = Broken

-- .. a number
abbrev pub integer_part : Found → Found
integer_part (Of k c) = if is_integer k && c then Of k true else Broken
integer_part Free = Free
integer_part Unknown = Unknown
integer_part Broken = Broken

-- .. a number of a kind that has negative ones
abbrev pub signed_part : Found → Found
signed_part (Of k c) = if is_signed k && c then Of k true else Broken
signed_part Free = Free
signed_part Unknown = Unknown
signed_part Broken = Broken

-- .. a truth value
abbrev pub truth_part : Found → Found
truth_part (Of k c) = if same_kind k kind.Bool && c then Of kind.Bool true else Broken
truth_part Free = Broken
truth_part Unknown = Unknown
truth_part Broken = Broken

-- another part, where this one is not broken
abbrev pub unless_broken : Found → Found → Found
unless_broken (Of k c) q = q
unless_broken Free q = q
unless_broken Unknown q = q
unless_broken Broken q = Broken

-- a certain part of the same kind
abbrev pub made_certain : Found → Found
made_certain (Of k c) = Of k true
made_certain Free = Free
made_certain Unknown = Unknown
made_certain Broken = Broken

-- what a row gives where all operands are known, and what is said before
abbrev pub by_row : (broken unknown : Bool) → (row early : Found) → Found
by_row broken unknown row early = if broken then Broken else if unknown then early else row

abbrev pub by_two : (a b row early : Found) → Found
by_two a b row early = by_row (is_broken a || is_broken b) (is_unknown a || is_unknown b) row early

abbrev pub a_truth : Found
a_truth = Of kind.Bool true

-- the rows of the table of kinds

abbrev pub arithmetic_part : Found → Found → Found
arithmetic_part a b = by_two a b (integer_part (joint a b)) (joint a b)

abbrev pub order_part : Found → Found → Found
order_part a b = by_two a b (unless_broken (integer_part (joint a b)) a_truth) a_truth

abbrev pub equality_part : Found → Found → Found
equality_part a b = by_two a b (unless_broken (certain_part (joint a b)) a_truth) a_truth

abbrev pub connected_part : Found → Found → Found
connected_part a b = by_two a b (unless_broken (truth_part a) (truth_part b)) a_truth

abbrev pub binary_part : Binary → Found → Found → Found
binary_part binary.Add a b = arithmetic_part a b
binary_part binary.Sub a b = arithmetic_part a b
binary_part binary.Mul a b = arithmetic_part a b
binary_part binary.Div a b = arithmetic_part a b
binary_part binary.Rem a b = arithmetic_part a b
binary_part binary.Less a b = order_part a b
binary_part binary.LessEqual a b = order_part a b
binary_part binary.Greater a b = order_part a b
binary_part binary.GreaterEqual a b = order_part a b
binary_part binary.Equal a b = equality_part a b
binary_part binary.Different a b = equality_part a b
binary_part binary.And a b = connected_part a b
binary_part binary.Or a b = connected_part a b

abbrev pub prefix_part : Prefix → Found → Found
prefix_part prefix.Not a = by_row (is_broken a) (is_unknown a) (truth_part a) a_truth
prefix_part prefix.Minus a = by_row (is_broken a) (is_unknown a) (signed_part a) Unknown

abbrev pub defaults_part : Found → Found → Found
defaults_part a b = by_two a b (unless_broken (certain_part b) (made_certain (joint a b))) (made_certain (joint a b))

abbrev pub choice_part : Found → Found → Found → Found
choice_part t a b =
    by_row (is_broken t || (is_broken a || is_broken b)) (is_unknown t || (is_unknown a || is_unknown b))
    (unless_broken (truth_part t) (certain_part (joint a b))) (made_certain (joint a b))

-- an argument fits a parameter's kind; it may be optional
abbrev pub argument_fits : Found → Kind → Bool
argument_fits (Of k c) want = same_kind k want
argument_fits Free want = is_integer want
argument_fits Unknown want = true
argument_fits Broken want = false

-- .. where there is a parameter for it
abbrev pub is_fitting : Found → Option Kind → Bool
is_fitting p None = false
is_fitting p (Some k) = argument_fits p k

-- as many arguments as parameters, and each fits its parameter's kind
abbrev pub arguments_fit : List Found → List Kind → Bool
arguments_fit [] [] = true
arguments_fit (p ∷ ps) (k ∷ ks) = argument_fits p k && arguments_fit ps ks
arguments_fit _ _ = false

abbrev pub some_broken : List Found → Bool
some_broken [] = false
some_broken (p ∷ ps) = is_broken p || some_broken ps

abbrev pub of_kind : Option Kind → Bool → Found
of_kind None c = Unknown
of_kind (Some k) c = Of k c

-- a reference, which is of this kind where its arguments fit
abbrev pub reference_part : (broken fits : Bool) → Found → Found
reference_part broken fits p = if broken then Broken else if fits then p else Broken

-- a window onto a target of this kind
abbrev pub known_window : WindowSpec → Kind → Found
known_window w k = if takes w.using k then Of (gives_kind w.using k) (is_total w.using && not w.exact) else Broken

-- a window onto a target whose kind is not found yet
abbrev pub early_window : Agg → Bool → Found
early_window agg.Count exact = Of kind.UInt64 (not exact)
early_window agg.Sum exact = Unknown
early_window agg.Min exact = Unknown
early_window agg.Max exact = Unknown
early_window agg.Avg exact = Unknown
early_window agg.Forall exact = Of kind.Bool (not exact)
early_window agg.Exists exact = Of kind.Bool (not exact)

abbrev pub window_part : WindowSpec → Option Kind → Found
window_part w None = early_window w.using w.exact
window_part w (Some k) = known_window w k

-- a literal; one of a constant has the constant's kind noted
abbrev pub literal_part : Option Kind → Value → Found
literal_part (Some k) v = Of k true
literal_part None (value.Bool b) = a_truth
literal_part None (value.Int z) = Free
literal_part None (value.Text id) = Of kind.Text true

abbrev pub parameter_part : Option Kind → Found
parameter_part None = Broken
parameter_part (Some k) = Of k true

-- what is known where an expression stands: the streams and windows, the kinds of the streams as far as they are
-- found, and the kinds of the parameters in scope
pub record Setting : Type 0 where
  pub streams : List Stream
  pub windows : List WindowSpec
  pub kinds : List (Option Kind)
  pub parameters : List Kind

-- the kind of a stream, as far as it is found; a stream that is not there, which no expression names, counts as one of
-- Int64
abbrev pub kind_found : Setting → ℕ → Option Kind
kind_found s n = unwrap_or (slice_get s.kinds n) (Some kind.Int64)

abbrev pub stream_parameters : Option Stream → List Kind
stream_parameters None = []
stream_parameters (Some s) = s.parameters

abbrev pub parameters_at : Setting → ℕ → List Kind
parameters_at s n = stream_parameters (slice_get s.streams n)

-- the kinds of the parameters of a window's target
abbrev pub window_parameters : Setting → Option WindowSpec → List Kind
window_parameters s None = []
window_parameters s (Some w) = parameters_at s w.target

abbrev pub window_at : Setting → Option WindowSpec → Found
window_at s None = Broken
window_at s (Some w) = window_part w (kind_found s w.target)

module _ (s : Setting) where
  abbrev mutual
    -- what an expression is
    pub found : Expr → Found
    found (Literal place v) = literal_part place.kind v
    found (Parameter place i) = parameter_part (slice_get s.parameters i)
    found (Read place n how args) =
        reference_part (some_broken (found_all args)) (arguments_fit (found_all args) (parameters_at s n)) (of_kind (kind_found s n) (is_direct how))
    found (Window place w args) =
        reference_part (some_broken (found_all args)) (arguments_fit (found_all args) (window_parameters s (slice_get s.windows w))) (window_at s (slice_get s.windows w))
    found (Defaults' place u a v b) = defaults_part (found a) (found b)
    found (Unary' place operator u a) = prefix_part operator (found a)
    found (Both' place operator u a v b) = binary_part operator (found a) (found b)
    found (Choice' place u t v a w b) = choice_part (found t) (found a) (found b)

    pub found_all : Arguments → List Found
    found_all End = []
    found_all (More' u a v rest) = found a ∷ found_all rest
