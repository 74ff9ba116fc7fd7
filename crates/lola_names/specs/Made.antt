-- What is made while expressions are resolved: texts and windows, each with its number.
use Rattle.std.specs.Prelude.{ℕ, ◌≡◌, List, ◌++◌, Option, Some, length, slice_get}
use Rattle.lola_parser_grammar.specs.declared.declarations.Declaration.{Declaration}
use Rattle.lola_parser_grammar.specs.declared.declarations.Declaration.TheVariants as d
use Rattle.lola_parser_grammar.specs.declared.expressions.Expr.{Expr as TreeExpr}
use Rattle.lola_parser_grammar.specs.declared.pacing.Formula.{Formula as TreeFormula}
use Rattle.lola_parser_grammar.specs.declared.pacing.Rhythm.{Rhythm}
use Rattle.lola_parser_grammar.specs.declared.pacing.Pacing.{Pacing}
use Rattle.lola_model.specs.Parts.{listed}
use Rattle.lola_model.specs.Named.{counted, window_number, literal_text}
use Rattle.lola_model.specs.declared.expr.Expr.{Expr}
use Rattle.lola_model.specs.declared.spec.Formula.{Formula}
use Rattle.lola_model.specs.declared.spec.Pace.{Pace}
use Rattle.lola_model.specs.declared.spec.WindowSpec.{WindowSpec}
use Rattle.lola_names.specs.Targets.{Targets, target_of}
use Rattle.lola_names.specs.Tables.{Means}
use Rattle.lola_names.specs.Numbered.{IsInOrder}
use Rattle.lola_names.specs.Resolved.{Standing, IsResolved}
use Rattle.lola_names.specs.Clauses.{IsFormula, IsPace, IsPacing}
use Rattle.lola_names.specs.declared.targets.Target.TheVariants as target
use Rattle.lola_names.specs.declared.made.Made.{Made}
use Rattle.lola_names.specs.declared.scope.Scope.{Scope}

-- ---- growth

-- Texts and windows were made. The windows among what was resolved meanwhile have the numbers of the new windows, in order, and
-- the texts there have known numbers or the numbers of the new texts, in the order of their first uses.
pub record Grows (old new : Made) (window_numbers text_numbers : List ℕ) : Type 0 where
  pub more_texts : List (List ℕ)
  pub texts : new.texts ≡ old.texts ++ more_texts
  pub more_windows : List WindowSpec
  pub windows : new.windows ≡ old.windows ++ more_windows
  pub numbered : window_numbers ≡ counted (length old.windows) (length more_windows)
  pub in_order : IsInOrder (length old.texts) text_numbers (length new.texts)

-- texts and windows that begin with what is made so far
pub record BeginWith (made : Made) (texts : List (List ℕ)) (windows : List WindowSpec) : Type 0 where
  pub more_texts : List (List ℕ)
  pub texts_are : texts ≡ made.texts ++ more_texts
  pub more_windows : List WindowSpec
  pub windows_are : windows ≡ made.windows ++ more_windows

-- whatever is made later
abbrev pub FromNowOn : Made → (List (List ℕ) → List WindowSpec → Type 0) → Type 0
FromNowOn made P = (texts : List (List ℕ)) (windows : List WindowSpec) → BeginWith made texts windows → P texts windows

-- ---- tables

-- a declaration of a constant
abbrev pub IsConstantDeclared : Option Declaration → Type 0
IsConstantDeclared (Some (d.Constant c)) = Unit {0}
IsConstantDeclared _ = ⊥

-- names that stand for constants stand for declarations of constants
abbrev pub NamesConstants : List Declaration → Targets → Targets → Type 0
NamesConstants declarations parameters targets =
    (text : List ℕ) (c : ℕ) → target_of parameters targets text ≡ Some (target.Constant c) → IsConstantDeclared (slice_get declarations c)

-- the tables of a scope mean what these lists do
pub record IsScope (scope : Scope) (targets parameters : Targets) : Type 0 where
  pub all : Means scope.targets.now targets
  pub own : Means scope.parameters.now parameters
  pub constants : NamesConstants scope.declarations.now parameters targets

-- where an expression stands in a scope
abbrev pub standing_in : Scope → Targets → Standing
standing_in scope parameters = record { stream = scope.stream; clause = scope.clause; parameters = parameters }

-- ---- what is resolved

-- an expression is resolved to that, whatever is made later
abbrev pub ResolvesTo : Scope → Made → TreeExpr → Expr → Type 0
ResolvesTo scope made x r =
    (targets parameters : Targets) → IsScope scope targets parameters
    → FromNowOn made (λ texts windows. IsResolved scope.declarations.now targets texts windows (standing_in scope parameters) x r)

-- the texts and windows grew by what is in that expression
abbrev pub GrowsBy : Made → Made → Expr → Type 0
GrowsBy old new r = Grows old new (listed window_number r) (listed literal_text r)

-- a formula and a pacing, by whatever list the table stands for
abbrev pub IsFormulaBy : Targets → TreeFormula → Formula → Type 0
IsFormulaBy table x r = (targets : Targets) → Means table targets → IsFormula targets x r

abbrev pub IsPaceBy : Targets → ℕ → Rhythm → Pace → Type 0
IsPaceBy table at x r = (targets : Targets) → Means table targets → IsPace targets at x r

abbrev pub IsPacingBy : Targets → Option Pacing → Option Pace → Type 0
IsPacingBy table x r = (targets : Targets) → Means table targets → IsPacing targets x r
