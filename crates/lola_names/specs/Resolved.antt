-- Expressions whose names are resolved.
use Rattle.std.specs.Prelude.{ℕ, ℤ, pos, neg_ℤ, ◌≡◌, List, Option, Some, None, Bool, true, false, if◌then◌else◌, min, slice_get, unwrap_or}
use Rattle.lola_value.specs.declared.value.Kind.{Kind}
use Rattle.lola_value.specs.declared.value.Kind.TheVariants as kind
use Rattle.lola_value.specs.declared.value.Value.{Value}
use Rattle.lola_value.specs.declared.value.Value.TheVariants as value
use Rattle.lola_parser_grammar.specs.declared.literals.Value.{Value as Written}
use Rattle.lola_parser_grammar.specs.declared.literals.Value.TheVariants as written
use Rattle.lola_parser_grammar.specs.declared.literals.Name.{Name}
use Rattle.lola_parser_grammar.specs.declared.declarations.Declaration.{Declaration}
use Rattle.lola_parser_grammar.specs.declared.declarations.Declaration.TheVariants as d
use Rattle.lola_parser_grammar.specs.declared.expressions.Access.{Access as TreeAccess}
use Rattle.lola_parser_grammar.specs.declared.expressions.Access.TheVariants as a
use Rattle.lola_parser_grammar.specs.declared.expressions.Prefix.{Prefix as TreePrefix}
use Rattle.lola_parser_grammar.specs.declared.expressions.Prefix.TheVariants as p
use Rattle.lola_parser_grammar.specs.declared.expressions.Binary.{Binary as TreeBinary}
use Rattle.lola_parser_grammar.specs.declared.expressions.Binary.TheVariants as b
use Rattle.lola_parser_grammar.specs.declared.expressions.Expr.{Expr as TreeExpr, Row_of-Expr, more_of-Expr, end_of-Expr}
use Rattle.lola_parser_grammar.specs.declared.expressions.Expr.TheVariants as e
use Rattle.lola_model.specs.declared.expr.Place.{Place}
use Rattle.lola_model.specs.declared.expr.Access.{Access}
use Rattle.lola_model.specs.declared.expr.Access.TheVariants as access
use Rattle.lola_model.specs.declared.expr.Prefix.{Prefix}
use Rattle.lola_model.specs.declared.expr.Prefix.TheVariants as prefix
use Rattle.lola_model.specs.declared.expr.Binary.{Binary}
use Rattle.lola_model.specs.declared.expr.Binary.TheVariants as binary
use Rattle.lola_model.specs.declared.expr.Expr.{Expr}
use Rattle.lola_model.specs.declared.expr.Expr.TheVariants.{Literal, Parameter, Read, Window, Defaults', Unary', Both', Choice'}
use Rattle.lola_model.specs.declared.expr.Arguments.{Arguments}
use Rattle.lola_model.specs.declared.expr.Arguments.TheVariants.{End, More'}
use Rattle.lola_model.specs.declared.spec.Part.{Part}
use Rattle.lola_model.specs.declared.spec.Agg.{Agg}
use Rattle.lola_model.specs.declared.spec.Agg.TheVariants as agg
use Rattle.lola_model.specs.declared.spec.WindowSpec.{WindowSpec}
use Rattle.lola_names_refused.specs.Words.{kind_named, aggregation_named}
use Rattle.lola_names_refused.specs.Quantities.{span_of}
use Rattle.lola_names.specs.Targets.{Targets, target_of}
use Rattle.lola_names.specs.declared.targets.Target.{Target}
use Rattle.lola_names.specs.declared.targets.Target.TheVariants as target

-- What is refused is resolved too, to something fixed: then a specification's meaning is one, whatever is refused of it.

-- the kind that a name spells; Int64 for one that spells none, which is refused
abbrev pub kind_spelled : Name → Kind
kind_spelled n = unwrap_or (kind_named n.text) kind.Int64

-- the aggregation; `count` for one that spells none, which is refused
abbrev pub aggregation_spelled : Name → Agg
aggregation_spelled n = unwrap_or (aggregation_named n.text) agg.Count

-- nothing is noted but the place
abbrev pub place_at : ℕ → Place
place_at at = record { at = at; kind = None }

-- an integer; one that no kind can have, and that is too great for 128 bits, is the greatest of its sign
abbrev pub integer_of : Bool → ℕ → ℤ
integer_of is_negative n =
    if is_negative then neg_ℤ (pos (min n 170141183460469231731687303715884105728)) else pos (min n 170141183460469231731687303715884105727)

-- a text is its number in the list
abbrev pub IsTextNumber : List (List ℕ) → List ℕ → Value → Type 0
IsTextNumber texts t (value.Text id) = slice_get texts id.0 ≡ Some t
IsTextNumber texts t _ = ⊥

-- what is written is this value
abbrev pub IsValue : List (List ℕ) → Written → Value → Type 0
IsValue texts (written.Integer is_negative n) v = v ≡ value.Int (integer_of is_negative n)
IsValue texts (written.Truth t) v = v ≡ value.Bool t
IsValue texts (written.Text t) v = IsTextNumber texts t v

-- a literal with this place noted
abbrev pub IsLiteral : List (List ℕ) → Place → Written → Expr → Type 0
IsLiteral texts place w (Literal noted v) = (noted ≡ place) × IsValue texts w v
IsLiteral texts place w _ = ⊥

abbrev pub prefix_of : TreePrefix → Prefix
prefix_of p.Not = prefix.Not
prefix_of p.Negate = prefix.Minus

abbrev pub binary_of : TreeBinary → Binary
binary_of b.Or = binary.Or
binary_of b.And = binary.And
binary_of b.Equal = binary.Equal
binary_of b.Unequal = binary.Different
binary_of b.Less = binary.Less
binary_of b.LessEqual = binary.LessEqual
binary_of b.Greater = binary.Greater
binary_of b.GreaterEqual = binary.GreaterEqual
binary_of b.Add = binary.Add
binary_of b.Subtract = binary.Sub
binary_of b.Multiply = binary.Mul
binary_of b.Divide = binary.Div
binary_of b.Remainder = binary.Rem

-- an access that is no window; an offset above 4,096, which is refused, is that by 4,096
abbrev pub access_of : TreeAccess → Access
access_of (a.Offset point k at) = access.Offset (min k 4096)
access_of (a.Hold point) = access.Hold
access_of (a.Get point) = access.Get
access_of _ = access.Direct

-- a constant's literal stands where its name does, with the constant's kind
abbrev pub IsConstantUse : List (List ℕ) → ℕ → Option Declaration → Expr → Type 0
IsConstantUse texts at (Some (d.Constant c)) r = IsLiteral texts (record { at = at; kind = Some (kind_spelled c.kind) }) c.literal.value r
IsConstantUse texts at _ r = ⊥

-- a name stands for a stream
abbrev pub is_stream : Option Target → Bool
is_stream (Some (target.Input s i)) = true
is_stream (Some (target.Output s)) = true
is_stream _ = false

-- a relation that is asked for where a test holds
abbrev pub Where : Bool → Type 0 → Type 0
Where true A = A
Where false A = Unit {0}

-- the arguments of an access
abbrev pub arguments_in : Expr → Arguments
arguments_in (Read place n how args) = args
arguments_in (Window place w args) = args
arguments_in _ = End

-- in this clause of this stream, where these parameters are in scope
pub record Standing : Type 0 where
  pub stream : ℕ
  pub clause : Part
  pub parameters : Targets

module _ (declarations : List Declaration) (targets : Targets) (texts : List (List ℕ)) (windows : List WindowSpec) (here : Standing) where
  -- an access of stream n at its name; a window is one of the list
  abbrev pub IsAccess : Name → ℕ → TreeAccess → Expr → Type 0
  IsAccess name n (a.Window point exactly over using) (Window place w args) =
      (place ≡ place_at name.at)
      × (slice_get windows w ≡ Some (record { stream = here.stream; part = here.clause; target = n; over = span_of over; exact = exactly; using = aggregation_spelled using }))
  IsAccess name n (a.Window point exactly over using) _ = ⊥
  IsAccess name n how (Read place m read args) = (place ≡ place_at name.at) × (m ≡ n) × (read ≡ access_of how)
  IsAccess name n how _ = ⊥

  -- what a name stands for; one that nothing declares, which is refused, for a truth value
  abbrev pub IsReference : Option Target → Name → TreeAccess → Expr → Type 0
  IsReference None name how r = r ≡ Literal (place_at name.at) (value.Bool false)
  IsReference (Some (target.Input s i)) name how r = IsAccess name s how r
  IsReference (Some (target.Output s)) name how r = IsAccess name s how r
  IsReference (Some (target.Constant c)) name how r = IsConstantUse texts name.at (slice_get declarations c) r
  IsReference (Some (target.Parameter i)) name how r = r ≡ Parameter (place_at name.at) i

  abbrev mutual
    -- an expression is resolved to that
    pub IsResolved : TreeExpr → Expr → Type 0
    IsResolved (e.Literal l) r = IsLiteral texts (place_at l.at) l.value r
    IsResolved (e.Reference' n bracket shape row how) r =
        IsReference (target_of here.parameters targets n.text) n how r
        × Where (is_stream (target_of here.parameters targets n.text)) (AreArguments row (arguments_in r))
    IsResolved (e.Defaults' at h (more_of-Expr x end_of-Expr) i (more_of-Expr y end_of-Expr)) (Defaults' place u s v t) =
        (place ≡ place_at at) × IsResolved x s × IsResolved y t
    IsResolved (e.Prefix' operator at h (more_of-Expr x end_of-Expr)) (Unary' place op u s) =
        (place ≡ place_at at) × (op ≡ prefix_of operator) × IsResolved x s
    IsResolved (e.Binary' operator at h (more_of-Expr x end_of-Expr) i (more_of-Expr y end_of-Expr)) (Both' place op u s v t) =
        (place ≡ place_at at) × (op ≡ binary_of operator) × IsResolved x s × IsResolved y t
    IsResolved (e.If' at h (more_of-Expr x end_of-Expr) i (more_of-Expr y end_of-Expr) j (more_of-Expr z end_of-Expr)) (Choice' place u s v t w q) =
        (place ≡ place_at at) × IsResolved x s × IsResolved y t × IsResolved z q
    IsResolved _ _ = ⊥

    pub AreArguments : {n : _} → Row_of-Expr n → Arguments → Type 0
    AreArguments end_of-Expr End = Unit {0}
    AreArguments (more_of-Expr x rest) (More' u s v others) = IsResolved x s × AreArguments rest others
    AreArguments _ _ = ⊥
