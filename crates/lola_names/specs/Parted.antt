-- The parts of resolving an expression.
use Rattle.std.specs.Prelude.{ℕ, ◌≡◌, List, [], ◌∷◌, Option, Some, false, slice_get}
use Rattle.lola_parser_grammar.specs.declared.literals.Name.{Name}
use Rattle.lola_parser_grammar.specs.declared.declarations.Declaration.{Declaration}
use Rattle.lola_parser_grammar.specs.declared.expressions.Access.{Access as TreeAccess}
use Rattle.lola_parser_grammar.specs.declared.expressions.Expr.{Expr as TreeExpr}
use Rattle.lola_model.specs.Parts.{listed, listed_with}
use Rattle.lola_model.specs.Named.{window_number, literal_text}
use Rattle.lola_model.specs.declared.expr.Expr.{Expr}
use Rattle.lola_model.specs.declared.expr.Expr.TheVariants.{Read, Window}
use Rattle.lola_model.specs.declared.expr.Arguments.{Arguments}
use Rattle.lola_model.specs.declared.expr.Arguments.TheVariants.{End, More'}
use Rattle.lola_model.specs.declared.spec.WindowSpec.{WindowSpec}
use Rattle.lola_names.specs.Targets.{Targets}
use Rattle.lola_names.specs.Resolved.{Standing, IsResolved, IsReference, IsAccess, IsConstantUse, is_stream, place_at}
use Rattle.lola_names.specs.Made.{FromNowOn, Grows, IsConstantDeclared, IsScope, standing_in}
use Rattle.lola_names.specs.declared.expressions.Named.{Named}
use Rattle.lola_names.specs.declared.expressions.Named.TheVariants as named
use Rattle.lola_names.specs.declared.made.Made.{Made}
use Rattle.lola_names.specs.declared.scope.Scope.{Scope}
use Rattle.lola_names.specs.declared.targets.Target.{Target}
use Rattle.lola_names.specs.declared.targets.Target.TheVariants as target

-- the arguments as a list
abbrev pub items_of : Arguments → List Expr
items_of End = []
items_of (More' u a v rest) = a ∷ items_of rest

-- expressions are resolved to those, one by one
module _ (declarations : List Declaration) (targets : Targets) (texts : List (List ℕ)) (windows : List WindowSpec) (here : Standing) where
  abbrev pub AreResolved : List TreeExpr → List Expr → Type 0
  AreResolved [] [] = Unit {0}
  AreResolved (x ∷ xs) (r ∷ rs) = IsResolved declarations targets texts windows here x r × AreResolved xs rs
  AreResolved _ _ = ⊥

abbrev pub AreResolvedTo : Scope → Made → List TreeExpr → List Expr → Type 0
AreResolvedTo scope made xs rs =
    (targets parameters : Targets) → IsScope scope targets parameters
    → FromNowOn made (λ texts windows. AreResolved scope.declarations.now targets texts windows (standing_in scope parameters) xs rs)

abbrev pub GrowsByAll : Made → Made → List Expr → Type 0
GrowsByAll old new rs = Grows old new (listed_with window_number rs) (listed_with literal_text rs)

-- the literal of a constant, where there is one
abbrev pub IsConstantTo : Option Declaration → Made → Name → Expr → Type 0
IsConstantTo declaration made name r =
    IsConstantDeclared declaration → FromNowOn made (λ texts windows. IsConstantUse texts name.at declaration r)

-- an access with its arguments
abbrev pub whole_of : ℕ → Named → Arguments → Expr
whole_of at (named.Whole r) args = r
whole_of at (named.Read n how) args = Read (place_at at) n how args
whole_of at (named.Window w) args = Window (place_at at) w args

-- the numbers of windows, and of texts, in what a name is resolved to, but for its arguments
abbrev pub windows_in : Named → List ℕ
windows_in (named.Whole r) = listed window_number r
windows_in (named.Read n how) = []
windows_in (named.Window w) = w ∷ []

abbrev pub texts_in : Named → List ℕ
texts_in (named.Whole r) = listed literal_text r
texts_in _ = []

abbrev pub GrowsByNamed : Made → Made → Named → Type 0
GrowsByNamed old new n = Grows old new (windows_in n) (texts_in n)

-- an access of a stream at any name, with any arguments
abbrev pub IsAccessTo : Scope → Made → ℕ → TreeAccess → Named → Type 0
IsAccessTo scope made stream how n =
    (name : Name) (args : Arguments) (targets parameters : Targets)
    → FromNowOn made (λ texts windows. IsAccess scope.declarations.now targets texts windows (standing_in scope parameters) name stream how (whole_of name.at n args))

-- an access lacks its arguments
abbrev pub IsOpen : Named → Type 0
IsOpen (named.Whole r) = ⊥
IsOpen _ = Unit {0}

-- a whole expression is no access
abbrev pub IsClosed : Option Target → Named → Type 0
IsClosed t (named.Whole r) = is_stream t ≡ false
IsClosed t _ = Unit {0}

-- a constant that a name stands for is declared
abbrev pub IsConstantIn : List Declaration → Option Target → Type 0
IsConstantIn declarations (Some (target.Constant c)) = IsConstantDeclared (slice_get declarations c)
IsConstantIn declarations _ = Unit {0}

-- what a name that stands for this is resolved to, with any arguments
abbrev pub IsNamedTo : Scope → Option Target → Made → Name → TreeAccess → Named → Type 0
IsNamedTo scope t made name how n =
    IsClosed t n
    × ((args : Arguments) (targets parameters : Targets) → IsConstantIn scope.declarations.now t
    → FromNowOn made (λ texts windows. IsReference scope.declarations.now targets texts windows (standing_in scope parameters) t name how (whole_of name.at n args)))
