-- The keys of a condition: comparisons of parameters with what is the same for all instances.
use Rattle.std.specs.Prelude.{ℕ, ◌≡◌, ◌<◌, ◌⊎◌, ◌++◌, ◌&&◌, ◌||◌, if◌then◌else◌, nat_eq, nat_lt, List, [], ◌∷◌, Option, Some, None, Bool, true, false, IsTrue, length, slice_get}
use Rattle.lola_value.specs.declared.text.Field.{Field}
use Rattle.lola_value.specs.declared.value.Kind.{Kind}
use Rattle.lola_value.specs.declared.value.Params.{Params}
use Rattle.lola_value.specs.declared.value.Value.{Value}
use Rattle.lola_value.specs.Answer.{Given}
use Rattle.lola_value.specs.Arithmetic.{fields_equal}
use Rattle.lola_value.specs.Kinds.{same_params}
use Rattle.lola_value.specs.Naming.{Naming, AreHeld, IsHeld, read, read_params, the_values}
use Rattle.lola_model.specs.Content.{Content}
use Rattle.lola_model.specs.Denotation.{den, joined, truth}
use Rattle.lola_model.specs.Store.{Memories, Seen, SeenInstance}
use Rattle.lola_model.specs.Typing.{each_argument, each_part}
use Rattle.lola_model.specs.Whereabouts.{may_stand_at}
use Rattle.lola_model.specs.declared.expr.Arguments.{Arguments}
use Rattle.lola_model.specs.declared.expr.Binary.{Binary}
use Rattle.lola_model.specs.declared.expr.Binary.TheVariants.{And, Equal}
use Rattle.lola_model.specs.declared.expr.Expr.{Expr}
use Rattle.lola_model.specs.declared.expr.Expr.TheVariants.{Parameter, Both'}
use Rattle.lola_model.specs.declared.expr.Place.{Place}
use Rattle.lola_model.specs.declared.plan.Plan.{Plan}
use Rattle.lola_model.specs.declared.spec.Spec.{Spec}
use Rattle.lola_model.specs.declared.store.Whereabouts.{Whereabouts}
use Rattle.lola_expr.specs.Evaluation.{Sees, is_named}

-- no parameter
abbrev pub is_no_parameter : Expr → Bool
is_no_parameter (Parameter place i) = false
is_no_parameter _ = true

-- an expression in which no parameter stands
abbrev pub is_fixed : Expr → Bool
is_fixed e = each_part is_no_parameter e

-- arguments in which none stands
abbrev pub are_fixed : Arguments → Bool
are_fixed args = each_argument is_no_parameter args

-- the parameter of a number, or none
abbrev pub IsParameter : Option ℕ → Expr → Type 0
IsParameter None e = is_no_parameter e ≡ true
IsParameter (Some i) e = (place : Place) × (e ≡ Parameter place i)

-- a conjunction, and a comparison
abbrev pub is_and : Binary → Bool
is_and And = true
is_and _ = false

abbrev pub is_equal : Binary → Bool
is_equal Equal = true
is_equal _ = false

-- a key, or none
abbrev pub key_if : Bool → ℕ → Expr → List (ℕ × Expr)
key_if true i e = (i, e) ∷ []
key_if false i e = []

-- the key of the parameter of a number, if there are so many: what it is compared with, if no parameter stands in that
abbrev pub own_key : ℕ → ℕ → Expr → List (ℕ × Expr)
own_key count i e = key_if (nat_lt i count && is_fixed e) i e

-- the key of a comparison whose left side is no parameter
abbrev pub right_key : ℕ → Expr → Expr → List (ℕ × Expr)
right_key count (Parameter place i) a = own_key count i a
right_key count b a = []

-- the key of a comparison
abbrev pub key_between : ℕ → Expr → Expr → List (ℕ × Expr)
key_between count (Parameter place i) b = own_key count i b
key_between count a b = right_key count b a

abbrev pub is_some_key : List (ℕ × Expr) → Bool
is_some_key [] = false
is_some_key _ = true

-- a condition that is a conjunction of keys alone, for instances with so many parameters
abbrev pub is_keys : ℕ → Expr → Bool
is_keys count (Both' place And u a v b) = is_keys count a && is_keys count b
is_keys count (Both' place Equal u a v b) = is_some_key (key_between count a b)
is_keys count _ = false

-- the keys of a condition: those that it begins with
abbrev pub keys_of : ℕ → Expr → List (ℕ × Expr)
keys_of count (Both' place And u a v b) = keys_of count a ++ (if is_keys count a then keys_of count b else [])
keys_of count (Both' place Equal u a v b) = key_between count a b
keys_of count _ = []

-- for each of these keys a value is noted
abbrev pub AllBound : List (ℕ × Expr) → List (Option Value) → Type 0
AllBound [] new = Unit {0}
AllBound (k ∷ ks) new = ((v : Value) × (slice_get new k.0 ≡ Some (Some v))) × AllBound ks new

-- a value is noted for each of these parameters
abbrev pub all_noted : List (Option Value) → Bool
all_noted [] = true
all_noted (None ∷ vs) = false
all_noted (Some v ∷ vs) = all_noted vs

-- the parameter of a number has a key
abbrev pub has_key : List (ℕ × Expr) → ℕ → Bool
has_key [] i = false
has_key (k ∷ ks) i = nat_eq k.0 i || has_key ks i

-- each has a value for an instance with these parameters
abbrev pub AllGiven : Spec → Content → List Field → List (ℕ × Expr) → Type 0
AllGiven spec c q [] = Unit {0}
AllGiven spec c q (k ∷ ks) = ((f : Field) × (den spec c q k.1 ≡ Given f)) × AllGiven spec c q ks

-- the naming has the literals of these
abbrev pub AreNamed : Naming → List (List ℕ) → List Expr → Type 0
AreNamed names texts [] = Unit {0}
AreNamed names texts (e ∷ es) = IsTrue (is_named names texts e) × AreNamed names texts es

-- what was noted stays so
abbrev pub Stay : List (Option Value) → List (Option Value) → Type 0
Stay old new = (i : ℕ) (v : Value) → slice_get old i ≡ Some (Some v) → slice_get new i ≡ Some (Some v)

-- the values of these keys are noted, if each has one, and whether they are all that there is
abbrev pub Finds : Spec → Content → List Field → List (ℕ × Expr) → Bool → Bool → List (Option Value) → Type 0
Finds spec c q ks all r new = AllGiven spec c q ks → (r ≡ all) × AllBound ks new

-- what is noted was noted before, or is the value of this parameter
abbrev pub AddsAt : ℕ → Value → List (Option Value) → List (Option Value) → Type 0
AddsAt number value old new =
    (i : ℕ) (v : Value) → slice_get new i ≡ Some (Some v) → (slice_get old i ≡ Some (Some v)) ⊎ ((i ≡ number) × (v ≡ value))

-- the comparison of two expressions, whose outcome it is
abbrev pub IsComparison : Spec → Content → Expr → Expr → Expr → Type 0
IsComparison spec c a b e = (k : Kind) × ((q : List Field) → den spec c q e ≡ joined Equal k (den spec c q a) (den spec c q b))

module _ (spec : Spec) (names : Naming) (c : Content) (count : ℕ) where
  -- a condition that is true or false for all instances with so many parameters
  abbrev pub IsDecided : Expr → Type 0
  IsDecided e = (q : List Field) → length q ≡ count → (b : Bool) × (den spec c q e ≡ truth b)

  -- a condition that is false for each of them whose parameter i is not this value, whichever stands left
  pub record RulesOut (e : Expr) (i : ℕ) (v : Value) : Type 0 where
    pub held : IsHeld names v
    pub others : (q : List Field) (w : Field) → length q ≡ count → slice_get q i ≡ Some w → fields_equal w (read names v) ≡ false → fields_equal (read names v) w ≡ false
        → den spec c q e ≡ truth false

  -- what is noted was noted before, or the condition is false for those with another value
  abbrev pub AddsKeys : Expr → List (Option Value) → List (Option Value) → Type 0
  AddsKeys e old new = (i : ℕ) (v : Value) → slice_get new i ≡ Some (Some v) → (slice_get old i ≡ Some (Some v)) ⊎ RulesOut e i v

  -- what is known where the whole of it is keys, or not
  abbrev pub Binds : Bool → Expr → List (Option Value) → List (Option Value) → Type 0
  Binds true e old new = IsDecided e × AddsKeys e old new
  Binds false e old new = AddsKeys e old new

  -- a key that has this value for all instances
  pub record HasValue (e : Expr) (v : Value) : Type 0 where
    pub held : IsHeld names v
    pub same : (q : List Field) → den spec c q e ≡ Given (read names v)

  -- what is known where an expression is the key of a parameter, or not
  abbrev pub BindsKey : Bool → ℕ → Expr → List (Option Value) → List (Option Value) → Type 0
  BindsKey true number e old new = (v : Value) × (HasValue e v × (number < count) × AddsAt number v old new)
  BindsKey false number e old new = new ≡ old

module _ (remembers : Memories) (s : Seen) (p : Params) where
  -- the same, whatever the store stands for
  abbrev pub IsKey : ℕ → Expr → Bool → List (Option Value) → List (Option Value) → Type 0
  IsKey number e r old new =
      (plan : Plan) (names : Naming) (c : Content) → Sees plan names c remembers s p → IsTrue (is_named names plan.spec.texts e)
      → BindsKey plan.spec names c p.count r number e old new

  -- of the comparison of two expressions
  abbrev pub IsCompared : Expr → Expr → Bool → List (Option Value) → List (Option Value) → Type 0
  IsCompared a b r old new =
      (plan : Plan) (names : Naming) (c : Content) → Sees plan names c remembers s p → IsTrue (is_named names plan.spec.texts a) → IsTrue (is_named names plan.spec.texts b)
      → (e : Expr) → IsComparison plan.spec c a b e → Binds plan.spec names c p.count r e old new

  -- the keys of a condition are noted, whatever the store stands for, if each has a value
  abbrev pub FindsKeys : List (ℕ × Expr) → Bool → List Expr → Bool → List (Option Value) → List (Option Value) → Type 0
  FindsKeys ks all es r old new =
      Stay old new
      × ((plan : Plan) (names : Naming) (c : Content) → Sees plan names c remembers s p → AreNamed names plan.spec.texts es
      → Finds plan.spec c (read_params names p) ks all r new)

  -- of a condition
  abbrev pub IsBound : Expr → Bool → List (Option Value) → List (Option Value) → Type 0
  IsBound e r old new =
      (plan : Plan) (names : Naming) (c : Content) → Sees plan names c remembers s p → IsTrue (is_named names plan.spec.texts e)
      → Binds plan.spec names c p.count r e old new

  -- whatever the store stands for, the condition is false for each instance that has other parameters than these
  abbrev pub IsFalseForOthers : Expr → Params → Type 0
  IsFalseForOthers e w =
      (plan : Plan) (names : Naming) (c : Content) → Sees plan names c remembers s p → IsTrue (is_named names plan.spec.texts e)
      → (x : Params) → length (the_values x) ≡ p.count → AreHeld names (the_values x) → same_params w x ≡ false
      → den plan.spec c (read_params names x) e ≡ truth false

  -- each parameter has a key, and each key has a value
  abbrev pub IsKeyed : Expr → Type 0
  IsKeyed e =
      (plan : Plan) × (names : Naming) × (c : Content) × (Sees plan names c remembers s p × IsTrue (is_named names plan.spec.texts e)
      × AllGiven plan.spec c (read_params names p) (keys_of p.count e) × ((i : ℕ) → i < p.count → has_key (keys_of p.count e) i ≡ true))

  -- whatever the store stands for, the condition is false for each of these instances that does not stand at these whereabouts
  abbrev pub IsFalseElsewhere : Expr → List SeenInstance → Whereabouts → Type 0
  IsFalseElsewhere e xs w =
      (plan : Plan) (names : Naming) (c : Content) → Sees plan names c remembers s p → IsTrue (is_named names plan.spec.texts e)
      → (i : ℕ) (x : SeenInstance) → slice_get xs i ≡ Some x → AreHeld names (the_values x.params) → may_stand_at w i ≡ false
      → den plan.spec c (read_params names x.params) e ≡ truth false
