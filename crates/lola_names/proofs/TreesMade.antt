-- Expressions and pacings resolved.
use Rattle.std.proofs.Common.{◌≡◌, ℕ, List, [], Option, Some, None, false, refl}
use Rattle.std.specs.Prelude.{slice_get}
use Rattle.lola_value.specs.declared.value.Value.{Value}
use Rattle.lola_value.specs.declared.value.Value.TheVariants as value
use Rattle.lola_parser_grammar.specs.declared.literals.Name.{Name}
use Rattle.lola_parser_grammar.specs.declared.literals.Value.{Value as Written}
use Rattle.lola_parser_grammar.specs.declared.literals.Value.TheVariants as written
use Rattle.lola_parser_grammar.specs.declared.declarations.Declaration.{Declaration}
use Rattle.lola_parser_grammar.specs.declared.declarations.Declaration.TheVariants as d
use Rattle.lola_parser_grammar.specs.declared.expressions.Access.{Access as TreeAccess}
use Rattle.lola_parser_grammar.specs.declared.expressions.Access.TheVariants as a
use Rattle.lola_parser_grammar.specs.declared.expressions.Expr.{Expr as TreeExpr, Row_of-Expr, more_of-Expr, end_of-Expr}
use Rattle.lola_parser_grammar.specs.declared.expressions.Expr.TheVariants as e
use Rattle.lola_parser_grammar.specs.declared.literals.Quantity.{Quantity}
use Rattle.lola_parser_grammar.specs.declared.pacing.Formula.{Formula as TreeFormula, more_of-Formula, end_of-Formula}
use Rattle.lola_parser_grammar.specs.declared.pacing.Formula.TheVariants as f
use Rattle.lola_parser_grammar.specs.declared.pacing.Rhythm.{Rhythm}
use Rattle.lola_parser_grammar.specs.declared.pacing.Rhythm.TheVariants as r
use Rattle.lola_parser_grammar.specs.declared.pacing.Pacing.{Pacing}
use Rattle.lola_model.specs.Parts.{listed, listed_all}
use Rattle.lola_model.specs.Named.{window_number, literal_text, text_number}
use Rattle.lola_model.specs.declared.expr.Place.{Place}
use Rattle.lola_model.specs.declared.expr.Expr.{Expr}
use Rattle.lola_model.specs.declared.expr.Expr.TheVariants.{Literal, Parameter, Read, Window, Defaults', Unary', Both', Choice'}
use Rattle.lola_model.specs.declared.expr.Arguments.{Arguments}
use Rattle.lola_model.specs.declared.expr.Arguments.TheVariants.{End, More'}
use Rattle.lola_model.specs.declared.spec.Formula.{Formula}
use Rattle.lola_model.specs.declared.spec.Formula.TheVariants.{Input, And', Or'}
use Rattle.lola_model.specs.declared.spec.Pace.{Pace}
use Rattle.lola_model.specs.declared.spec.Pace.TheVariants as pace
use Rattle.lola_model.specs.declared.spec.WrittenRate.{WrittenRate}
use Rattle.lola_names_refused.specs.Quantities.{fraction_of, span_of}
use Rattle.lola_names_refused.specs.Table.{meaning_in}
use Rattle.lola_names.specs.Targets.{Targets, target_of}
use Rattle.lola_names.specs.Resolved.{Standing, IsLiteral, IsValue, IsConstantUse, IsAccess, IsReference, IsResolved, AreArguments, Where, is_stream, arguments_in, access_of, aggregation_spelled, kind_spelled, integer_of, place_at, prefix_of, binary_of}
use Rattle.lola_names.specs.Clauses.{IsRateOf, IsFormula, IsPace, IsPacing, input_of}
use Rattle.lola_names.specs.Made.{IsConstantDeclared, NamesConstants}
use Rattle.lola_names.specs.Parted.{IsConstantIn}
use Rattle.lola_names.specs.declared.targets.Target.{Target}
use Rattle.lola_names.specs.declared.targets.Target.TheVariants as target
use Rattle.lola_names.proofs.RatesWritten.{written_as}
use Rattle.lola_names.proofs.Makers.{Maker, around, made_of, mapped, numbered_text, numbered_window, paired}

-- ---- pacings

rate_of : (q : Quantity) → (w : WrittenRate) × IsRateOf q w
rate_of q = written_as (fraction_of q).num (fraction_of q).den

formula_of : (targets : Targets) (x : TreeFormula) → (y : Formula) × IsFormula targets x y
formula_of targets (f.Input n) = (Input (input_of (meaning_in targets n.text)), refl)
formula_of targets (f.Both' at h (more_of-Formula x end_of-Formula) i (more_of-Formula y end_of-Formula)) =
    let s = formula_of targets x in
    let t = formula_of targets y in
    (And' around s.0 around t.0, (s.1, t.1))
formula_of targets (f.Either' at h (more_of-Formula x end_of-Formula) i (more_of-Formula y end_of-Formula)) =
    let s = formula_of targets x in
    let t = formula_of targets y in
    (Or' around s.0 around t.0, (s.1, t.1))

pace_of : (targets : Targets) (at : ℕ) (x : Rhythm) → (p : Pace) × IsPace targets at x p
pace_of targets at (r.Rate q) = let w = rate_of q in (pace.Rate at w.0, (refl, w.1))
pace_of targets at (r.Formula x) = let s = formula_of targets x in (pace.Event at s.0, (refl, s.1))
pace_of targets at (r.Global q) = let w = rate_of q in (pace.Global at w.0, (refl, w.1))
pace_of targets at (r.Local q) = let w = rate_of q in (pace.Local at w.0, (refl, w.1))

pub pacing_of : (targets : Targets) (x : Option Pacing) → (p : Option Pace) × IsPacing targets x p
pacing_of targets None = (None, tt)
pacing_of targets (Some x) = let p = pace_of targets x.at x.rhythm in (Some p.0, p.1)

-- ---- expressions

value_of : (w : Written) → Maker Value (λ v. []) text_number (λ texts windows v. IsValue texts w v)
value_of (written.Integer is_negative n) = made_of (value.Int (integer_of is_negative n)) refl refl (λ texts windows. refl)
value_of (written.Truth t) = made_of (value.Bool t) refl refl (λ texts windows. refl)
value_of (written.Text t) = mapped (λ i. value.Text (record { 0 = i })) (λ i. refl) (λ i. refl) (λ texts windows i at. at) (numbered_text t)

literal_of : (place : Place) (w : Written) → Maker Expr (listed window_number) (listed literal_text) (λ texts windows r. IsLiteral texts place w r)
literal_of place w = mapped (λ v. Literal place v) (λ v. refl) (λ v. refl) (λ texts windows v is. (refl, is)) (value_of w)

constant_of : (at : ℕ) (o : Option Declaration) → IsConstantDeclared o → Maker Expr (listed window_number) (listed literal_text) (λ texts windows r. IsConstantUse texts at o r)
constant_of at None h = absurd h
constant_of at (Some (d.Inputs x)) h = absurd h
constant_of at (Some (d.Constant x)) h = literal_of (record { at = at; kind = Some (kind_spelled x.kind) }) x.literal.value
constant_of at (Some (d.Output x)) h = absurd h
constant_of at (Some (d.Trigger x)) h = absurd h

-- a constant that a name stands for is declared
constant_in : (declarations : List Declaration) (parameters targets : Targets) → NamesConstants declarations parameters targets
    → (text : List ℕ) (t : Option Target) → target_of parameters targets text ≡ t → IsConstantIn declarations t
constant_in declarations parameters targets names text None is = tt
constant_in declarations parameters targets names text (Some (target.Input s i)) is = tt
constant_in declarations parameters targets names text (Some (target.Output s)) is = tt
constant_in declarations parameters targets names text (Some (target.Constant c)) is = names text c is
constant_in declarations parameters targets names text (Some (target.Parameter i)) is = tt

module _ (declarations : List Declaration) (targets : Targets) (here : Standing) where
  abbrev Arguing : {n : _} → Row_of-Expr n → Type 0
  Arguing row = Maker Arguments (listed_all window_number) (listed_all literal_text) (λ texts windows args. AreArguments declarations targets texts windows here row args)

  abbrev Accessing : {n : _} → Row_of-Expr n → Name → ℕ → TreeAccess → Type 0
  Accessing row name s how =
      Maker Expr (listed window_number) (listed literal_text)
      (λ texts windows r. IsAccess declarations targets texts windows here name s how r × AreArguments declarations targets texts windows here row (arguments_in r))

  -- an access of a stream; a window is numbered before those of its arguments
  access_to : {n : _} (row : Row_of-Expr n) (name : Name) (s : ℕ) (how : TreeAccess) → Arguing row → Accessing row name s how
  access_to row name s a.Direct m = mapped (λ args. Read (place_at name.at) s (access_of a.Direct) args) (λ args. refl) (λ args. refl) (λ texts windows args are. ((refl, refl, refl), are)) m
  access_to row name s (a.Offset point k at) m =
      mapped (λ args. Read (place_at name.at) s (access_of (a.Offset point k at)) args) (λ args. refl) (λ args. refl) (λ texts windows args are. ((refl, refl, refl), are)) m
  access_to row name s (a.Hold point) m = mapped (λ args. Read (place_at name.at) s (access_of (a.Hold point)) args) (λ args. refl) (λ args. refl) (λ texts windows args are. ((refl, refl, refl), are)) m
  access_to row name s (a.Get point) m = mapped (λ args. Read (place_at name.at) s (access_of (a.Get point)) args) (λ args. refl) (λ args. refl) (λ texts windows args are. ((refl, refl, refl), are)) m
  access_to row name s (a.Window point exactly over using) m =
      mapped (λ p. Window (place_at name.at) p.0 p.1) (λ p. refl) (λ p. refl) (λ texts windows p are. ((refl, are.0), are.1))
      (paired (numbered_window (record { stream = here.stream; part = here.clause; target = s; over = span_of over; exact = exactly; using = aggregation_spelled using })) m)

  abbrev Referring : {n : _} → Row_of-Expr n → Name → TreeAccess → Option Target → Type 0
  Referring row name how t =
      Maker Expr (listed window_number) (listed literal_text)
      (λ texts windows r. IsReference declarations targets texts windows here t name how r × Where (is_stream t) (AreArguments declarations targets texts windows here row (arguments_in r)))

  reference_to : {n : _} (row : Row_of-Expr n) (name : Name) (how : TreeAccess) (t : Option Target) → IsConstantIn declarations t → Arguing row → Referring row name how t
  reference_to row name how None h m = made_of (Literal (place_at name.at) (value.Bool false)) refl refl (λ texts windows. (refl, tt))
  reference_to row name how (Some (target.Input s i)) h m = access_to row name s how m
  reference_to row name how (Some (target.Output s)) h m = access_to row name s how m
  reference_to row name how (Some (target.Constant c)) h m =
      mapped (λ r. r) (λ r. refl) (λ r. refl) (λ texts windows r is. (is, tt)) (constant_of name.at (slice_get declarations c) h)
  reference_to row name how (Some (target.Parameter i)) h m = made_of (Parameter (place_at name.at) i) refl refl (λ texts windows. (refl, tt))

  abbrev Expressing : TreeExpr → Type 0
  Expressing x = Maker Expr (listed window_number) (listed literal_text) (λ texts windows r. IsResolved declarations targets texts windows here x r)

  module _ (names : NamesConstants declarations here.parameters targets) where
    mutual
      pub expression_of : (x : TreeExpr) → Expressing x
      expression_of (e.Literal l) = literal_of (place_at l.at) l.value
      expression_of (e.Reference' n bracket shape row how) =
          reference_to row n how (target_of here.parameters targets n.text) (constant_in declarations here.parameters targets names n.text (target_of here.parameters targets n.text) refl) (arguments_of row)
      expression_of (e.Defaults' at h (more_of-Expr x end_of-Expr) i (more_of-Expr y end_of-Expr)) =
          mapped (λ p. Defaults' (place_at at) around p.0 around p.1) (λ p. refl) (λ p. refl) (λ texts windows p are. (refl, are.0, are.1))
          (paired (expression_of x) (expression_of y))
      expression_of (e.Prefix' operator at h (more_of-Expr x end_of-Expr)) =
          mapped (λ s. Unary' (place_at at) (prefix_of operator) around s) (λ s. refl) (λ s. refl) (λ texts windows s is. (refl, refl, is)) (expression_of x)
      expression_of (e.Binary' operator at h (more_of-Expr x end_of-Expr) i (more_of-Expr y end_of-Expr)) =
          mapped (λ p. Both' (place_at at) (binary_of operator) around p.0 around p.1) (λ p. refl) (λ p. refl) (λ texts windows p are. (refl, refl, are.0, are.1))
          (paired (expression_of x) (expression_of y))
      expression_of (e.If' at h (more_of-Expr x end_of-Expr) i (more_of-Expr y end_of-Expr) j (more_of-Expr z end_of-Expr)) =
          mapped (λ p. Choice' (place_at at) around p.0 around p.1.0 around p.1.1) (λ p. refl) (λ p. refl) (λ texts windows p are. (refl, are.0, are.1.0, are.1.1))
          (paired (expression_of x) (paired (expression_of y) (expression_of z)))

      arguments_of : {n : _} (row : Row_of-Expr n) → Arguing row
      arguments_of end_of-Expr = made_of End refl refl (λ texts windows. tt)
      arguments_of (more_of-Expr x rest) = mapped (λ p. More' around p.0 around p.1) (λ p. refl) (λ p. refl) (λ texts windows p are. are) (paired (expression_of x) (arguments_of rest))
