-- The typing of expressions: each part by its row of the table of kinds.
use Rattle.std.specs.Prelude.{ℕ, ◌+◌, ◌-◌, ◌%◌, zero, suc, List, [], ◌∷◌, Option, Some, None, Bool, true, false, not, ◌&&◌, nat_eq, nat_le, nat_lt, length, slice_get}
use Rattle.lola_value.specs.declared.value.Kind.{Kind}
use Rattle.lola_value.specs.declared.value.Kind.TheVariants as kind
use Rattle.lola_value.specs.declared.value.Value.{Value}
use Rattle.lola_value.specs.declared.value.Params.{Params}
use Rattle.lola_value.specs.Kinds.{is_integer, is_signed, kind_number}
use Rattle.lola_value.specs.Naming.{the_values}
use Rattle.lola_model.specs.Store.{Seen, StreamLayout, Layout, kind_in, kept_in, parameters_of, is_of_kind, start_seen, time_seen, pane_of, gives_kind}
use Rattle.lola_model.specs.Denotation.{kind_of}
use Rattle.lola_model.specs.declared.expr.Place.{Place}
use Rattle.lola_model.specs.declared.expr.Access.{Access}
use Rattle.lola_model.specs.declared.expr.Access.TheVariants as access
use Rattle.lola_model.specs.declared.expr.Prefix.{Prefix}
use Rattle.lola_model.specs.declared.expr.Prefix.TheVariants as prefix
use Rattle.lola_model.specs.declared.expr.Binary.{Binary}
use Rattle.lola_model.specs.declared.expr.Binary.TheVariants as binary
use Rattle.lola_model.specs.declared.expr.Expr.{Expr}
use Rattle.lola_model.specs.declared.expr.Expr.TheVariants.{Literal, Parameter, Read, Window, Defaults', Unary', Both', Choice'}
use Rattle.lola_model.specs.declared.expr.Arguments.{Arguments}
use Rattle.lola_model.specs.declared.expr.Arguments.TheVariants.{End, More'}
use Rattle.lola_model.specs.declared.spec.WindowSpec.{WindowSpec}
use Rattle.lola_model.specs.declared.spec.Agg.{Agg}
use Rattle.lola_model.specs.declared.spec.Agg.TheVariants as agg

abbrev pub same_kind : Kind → Kind → Bool
same_kind k l = nat_eq (kind_number k) (kind_number l)

abbrev pub same_kinds : List Kind → List Kind → Bool
same_kinds [] [] = true
same_kinds (k ∷ ks) (l ∷ ls) = same_kind k l && same_kinds ks ls
same_kinds _ _ = false

-- what a part notes of itself

abbrev pub place_in : Expr → Place
place_in (Literal place v) = place
place_in (Parameter place i) = place
place_in (Read place n how args) = place
place_in (Window place w args) = place
place_in (Defaults' place u a v b) = place
place_in (Unary' place operator u a) = place
place_in (Both' place operator u a v b) = place
place_in (Choice' place u a v b w d) = place

abbrev pub noted : Expr → Kind
noted e = kind_of (place_in e)

abbrev pub noted_all : Arguments → List Kind
noted_all End = []
noted_all (More' u a v rest) = noted a ∷ noted_all rest

-- what is known where an expression stands: the streams, the windows, and the parameters' kinds
pub record Scope : Type 0 where
  pub streams : List StreamLayout
  pub windows : List WindowSpec
  pub has_parameter : ℕ → Kind → Bool

-- windows

abbrev pub target_in : List StreamLayout → WindowSpec → Option StreamLayout
target_in streams w = slice_get streams w.target

-- which targets an aggregation takes
abbrev pub takes : Agg → Kind → Bool
takes agg.Count k = true
takes agg.Sum k = is_integer k
takes agg.Min k = is_integer k
takes agg.Max k = is_integer k
takes agg.Avg k = is_integer k
takes agg.Forall k = same_kind k kind.Bool
takes agg.Exists k = same_kind k kind.Bool

-- whether it gives a value of no values
abbrev pub is_total : Agg → Bool
is_total agg.Count = true
is_total agg.Sum = true
is_total agg.Min = false
is_total agg.Max = false
is_total agg.Avg = false
is_total agg.Forall = true
is_total agg.Exists = true

abbrev pub is_certain_window : Option WindowSpec → Bool
is_certain_window None = false
is_certain_window (Some w) = is_total w.using && not w.exact

-- certain, or optional

abbrev pub is_direct : Access → Bool
is_direct access.Direct = true
is_direct access.Get = false
is_direct access.Hold = false
is_direct (access.Offset k) = false

abbrev pub is_certain : List WindowSpec → Expr → Bool
is_certain windows (Literal place v) = true
is_certain windows (Parameter place i) = true
is_certain windows (Read place n how args) = is_direct how
is_certain windows (Window place w args) = is_certain_window (slice_get windows w)
is_certain windows (Defaults' place u a v b) = true
is_certain windows (Unary' place operator u a) = true
is_certain windows (Both' place operator u a v b) = true
is_certain windows (Choice' place u a v b w d) = true

-- the rows

-- a reference to a stream: its arguments have the kinds of its parameters; they may be optional
abbrev pub is_reference : List StreamLayout → ℕ → Arguments → Bool
is_reference streams n args = nat_lt n (length streams) && same_kinds (noted_all args) (parameters_of (slice_get streams n))

abbrev pub window_row : List StreamLayout → Option WindowSpec → Kind → Arguments → Bool
window_row streams None k args = false
window_row streams (Some w) k args =
    is_reference streams w.target args
    && (takes w.using (kind_in (target_in streams w)) && same_kind (gives_kind w.using (kind_in (target_in streams w))) k)

-- a prefix operator, its kind, and its operand's
abbrev pub prefix_row : Prefix → Kind → Kind → Bool
prefix_row prefix.Not k a = same_kind k kind.Bool && same_kind a kind.Bool
prefix_row prefix.Minus k a = is_signed k && same_kind a k

abbrev pub arithmetic_row : Kind → Kind → Kind → Bool
arithmetic_row k a b = is_integer k && (same_kind a k && same_kind b k)

abbrev pub order_row : Kind → Kind → Kind → Bool
order_row k a b = same_kind k kind.Bool && (is_integer a && same_kind b a)

abbrev pub equality_row : Kind → Kind → Kind → Bool
equality_row k a b = same_kind k kind.Bool && same_kind b a

abbrev pub truth_row : Kind → Kind → Kind → Bool
truth_row k a b = same_kind k kind.Bool && (same_kind a kind.Bool && same_kind b kind.Bool)

-- a binary operator, its kind, and its operands'
abbrev pub binary_row : Binary → Kind → Kind → Kind → Bool
binary_row binary.Add k a b = arithmetic_row k a b
binary_row binary.Sub k a b = arithmetic_row k a b
binary_row binary.Mul k a b = arithmetic_row k a b
binary_row binary.Div k a b = arithmetic_row k a b
binary_row binary.Rem k a b = arithmetic_row k a b
binary_row binary.Less k a b = order_row k a b
binary_row binary.LessEqual k a b = order_row k a b
binary_row binary.Greater k a b = order_row k a b
binary_row binary.GreaterEqual k a b = order_row k a b
binary_row binary.Equal k a b = equality_row k a b
binary_row binary.Different k a b = equality_row k a b
binary_row binary.And k a b = truth_row k a b
binary_row binary.Or k a b = truth_row k a b

-- the row of a part holds, by the kinds that it and its operands note
abbrev pub row_holds : Scope → Expr → Bool
row_holds s (Literal place v) = is_of_kind (kind_of place) v
row_holds s (Parameter place i) = s.has_parameter i (kind_of place)
row_holds s (Read place n how args) =
    is_reference s.streams n args && same_kind (kind_in (slice_get s.streams n)) (kind_of place)
row_holds s (Window place w args) = window_row s.streams (slice_get s.windows w) (kind_of place) args
row_holds s (Defaults' place u a v b) =
    same_kind (noted a) (kind_of place) && (same_kind (noted b) (kind_of place) && is_certain s.windows b)
row_holds s (Unary' place operator u a) = prefix_row operator (kind_of place) (noted a) && is_certain s.windows a
row_holds s (Both' place operator u a v b) =
    binary_row operator (kind_of place) (noted a) (noted b) && (is_certain s.windows a && is_certain s.windows b)
row_holds s (Choice' place u a v b w d) =
    same_kind (noted a) kind.Bool
    && ((same_kind (noted b) (kind_of place) && same_kind (noted d) (kind_of place))
    && (is_certain s.windows a && (is_certain s.windows b && is_certain s.windows d)))

-- all parts of an expression, itself included, pass a test
abbrev mutual
  pub each_part : (Expr → Bool) → Expr → Bool
  each_part f (Literal place v) = f (Literal place v)
  each_part f (Parameter place i) = f (Parameter place i)
  each_part f (Read place n how args) = f (Read place n how args) && each_argument f args
  each_part f (Window place w args) = f (Window place w args) && each_argument f args
  each_part f (Defaults' place u a v b) = f (Defaults' place u a v b) && (each_part f a && each_part f b)
  each_part f (Unary' place operator u a) = f (Unary' place operator u a) && each_part f a
  each_part f (Both' place operator u a v b) = f (Both' place operator u a v b) && (each_part f a && each_part f b)
  each_part f (Choice' place u a v b w d) =
      f (Choice' place u a v b w d) && (each_part f a && (each_part f b && each_part f d))

  pub each_argument : (Expr → Bool) → Arguments → Bool
  each_argument f End = true
  each_argument f (More' u a v rest) = each_part f a && each_argument f rest

-- every part of an expression has its kind noted, and its row holds
abbrev pub is_noted : Option Kind → Bool
is_noted None = false
is_noted (Some k) = true

abbrev pub part_is_typed : Scope → Expr → Bool
part_is_typed s e = is_noted (place_in e).kind && row_holds s e

abbrev pub is_typed : Scope → Expr → Bool
is_typed s e = each_part (part_is_typed s) e

-- a whole expression of this kind, certain
abbrev pub is_whole : Scope → Kind → Expr → Bool
is_whole s k e = is_typed s e && (same_kind (noted e) k && is_certain s.windows e)

-- what a store is asked in an evaluation

abbrev pub is_kind_at : List Kind → ℕ → Kind → Bool
is_kind_at [] i k = false
is_kind_at (l ∷ ls) i k = elim i [ zero ↦ same_kind l k | suc j ↦ is_kind_at ls j k ]

abbrev pub is_value_of : Kind → Option Value → Bool
is_value_of k None = false
is_value_of k (Some v) = is_of_kind k v

-- where an instance with these parameters asks a store
abbrev pub scope_seen : Seen → Params → Scope
scope_seen s p =
    record { streams = s.layout.streams; windows = s.layout.windows; has_parameter = λ i k. is_value_of k (slice_get (the_values p) i) }

-- where an expression stands that has these parameters
abbrev pub scope_with : Layout → List Kind → Scope
scope_with l kinds = record { streams = l.streams; windows = l.windows; has_parameter = is_kind_at kinds }

abbrev pub most_parameters : ℕ
most_parameters = 4

abbrev pub has_few : Option StreamLayout → Bool
has_few s = nat_le (length (parameters_of s)) most_parameters

-- an offset from 1 to the greatest onto the stream
abbrev pub is_kept : Option StreamLayout → Access → Bool
is_kept s access.Direct = true
is_kept s access.Get = true
is_kept s access.Hold = true
is_kept s (access.Offset k) = nat_le 1 k && nat_le k (kept_in s - 1)

-- a moment that is so many whole panes after the start
abbrev pub is_whole_pane : Seen → ℕ → Bool
is_whole_pane s pane = nat_le (start_seen s) (time_seen s) && nat_eq ((time_seen s - start_seen s) % pane) 0

abbrev pub target_few : List StreamLayout → Option WindowSpec → Bool
target_few streams None = false
target_few streams (Some w) = has_few (slice_get streams w.target)

-- the store can be asked in this step what this part reads
abbrev pub is_ready : Seen → Expr → Bool
is_ready s (Read place n how args) = has_few (slice_get s.layout.streams n) && is_kept (slice_get s.layout.streams n) how
is_ready s (Window place w args) = target_few s.layout.streams (slice_get s.layout.windows w) && is_whole_pane s (pane_of (slice_get s.layout.panes w))
is_ready s _ = true

abbrev pub part_can_ask : Seen → Params → Expr → Bool
part_can_ask s p e = row_holds (scope_seen s p) e && is_ready s e

-- an instance with these parameters can ask the store for all that an expression reads
abbrev pub can_ask : Seen → Params → Expr → Bool
can_ask s p e = each_part (part_can_ask s p) e

abbrev pub can_ask_all : Seen → Params → Arguments → Bool
can_ask_all s p args = each_argument (part_can_ask s p) args

-- how many arguments there are
abbrev pub count_of : Arguments → ℕ
count_of End = 0
count_of (More' u a v rest) = count_of rest + 1
