-- Trees whose places are left aside: all are 0.
use Rattle.std.specs.Fmt.{decimal}
use Rattle.std.specs.Prelude.{◌≡◌, ℕ, ◌+◌, suc, List, [], ◌∷◌, map, Option, Some, None}
use Rattle.lola_parser_grammar.specs.declared.literals.Name.{Name}
use Rattle.lola_parser_grammar.specs.declared.literals.Typed.{Typed}
use Rattle.lola_parser_grammar.specs.declared.literals.Literal.{Literal}
use Rattle.lola_parser_grammar.specs.declared.literals.Quantity.{Quantity}
use Rattle.lola_parser_grammar.specs.declared.literals.Value.{Value}
use Rattle.lola_parser_grammar.specs.declared.literals.Value.TheVariants as value
use Rattle.lola_parser_grammar.specs.Literals.{number_of, text_of_literal}
use Rattle.lola_parser_grammar.specs.Grammar.{quantity_of}
use Rattle.lola_parser_print.specs.Print as out
use Rattle.lola_parser_grammar.specs.declared.expressions.Access.{Access}
use Rattle.lola_parser_grammar.specs.declared.expressions.Access.TheVariants as a
use Rattle.lola_parser_grammar.specs.declared.expressions.Expr.{Expr, Row_of-Expr, more_of-Expr, end_of-Expr}
use Rattle.lola_parser_grammar.specs.declared.expressions.Expr.TheVariants as e
use Rattle.lola_parser_grammar.specs.declared.pacing.Formula.{Formula, more_of-Formula, end_of-Formula}
use Rattle.lola_parser_grammar.specs.declared.pacing.Formula.TheVariants as f
use Rattle.lola_parser_grammar.specs.declared.pacing.Rhythm.{Rhythm}
use Rattle.lola_parser_grammar.specs.declared.pacing.Rhythm.TheVariants as r
use Rattle.lola_parser_grammar.specs.declared.pacing.Pacing.{Pacing}
use Rattle.lola_parser_grammar.specs.declared.clauses.Part.{Part}
use Rattle.lola_parser_grammar.specs.declared.clauses.Spawn.{Spawn}
use Rattle.lola_parser_grammar.specs.declared.clauses.Eval.{Eval}
use Rattle.lola_parser_grammar.specs.declared.clauses.Close.{Close}
use Rattle.lola_parser_grammar.specs.declared.declarations.Declaration.{Declaration}
use Rattle.lola_parser_grammar.specs.declared.declarations.Declaration.TheVariants as d

abbrev pub name : Name → Name
name n = record { text = n.text; at = 0 }

abbrev pub literal : Literal → Literal
literal l = record { value = l.value; at = 0 }

abbrev pub quantity : Quantity → Quantity
quantity q = record q { at = 0 }

abbrev pub access : Access → Access
access a.Direct = a.Direct
access (a.Offset dot k at) = a.Offset 0 k 0
access (a.Hold dot) = a.Hold 0
access (a.Get dot) = a.Get 0
access (a.Window dot exactly q n) = a.Window 0 exactly (quantity q) (name n)

-- a bracket stands where there are arguments
abbrev pub bracket : List Expr → Option ℕ
bracket [] = None
bracket (x ∷ xs) = Some 0

abbrev mutual
  pub expr : Expr → Expr
  expr (e.Literal l) = e.Literal (literal l)
  expr (e.Reference' n b shape row how) = e.Reference (name n) (bracket (exprs row)) (exprs row) (access how)
  expr (e.Defaults' at p (more_of-Expr x end_of-Expr) q (more_of-Expr y end_of-Expr)) = e.Defaults 0 (expr x) (expr y)
  expr (e.Prefix' op at p (more_of-Expr x end_of-Expr)) = e.Prefix op 0 (expr x)
  expr (e.Binary' op at p (more_of-Expr x end_of-Expr) q (more_of-Expr y end_of-Expr)) = e.Binary op 0 (expr x) (expr y)
  expr (e.If' at p (more_of-Expr x end_of-Expr) q (more_of-Expr y end_of-Expr) r (more_of-Expr z end_of-Expr)) = e.If 0 (expr x) (expr y) (expr z)

  pub exprs : {n : _} → Row_of-Expr n → List Expr
  exprs end_of-Expr = []
  exprs (more_of-Expr x rest) = expr x ∷ exprs rest

-- ---- what a reader of the tokens gets back

abbrev pub IntegerReads : ℕ → Type 0
IntegerReads n = number_of (decimal n) ≡ n

abbrev pub TextReads : List ℕ → Type 0
TextReads z = text_of_literal (out.text z).text ≡ z

abbrev pub QuantityReads : Quantity → Type 0
QuantityReads q = quantity_of (out.quantity q) ≡ quantity q

abbrev pub ValueReads : Value → Type 0
ValueReads (value.Integer is_negative n) = IntegerReads n
ValueReads (value.Truth b) = Unit {0}
ValueReads (value.Text z) = TextReads z

abbrev pub AccessReads : Access → Type 0
AccessReads (a.Offset dot k at) = IntegerReads k
AccessReads (a.Window dot exactly q n) = QuantityReads q
AccessReads _ = Unit {0}

abbrev mutual
  pub ExprReads : Expr → Type 0
  ExprReads (e.Literal l) = ValueReads l.value
  ExprReads (e.Reference' n b shape row how) = RowReads row × AccessReads how
  ExprReads (e.Defaults' at p (more_of-Expr x end_of-Expr) q (more_of-Expr y end_of-Expr)) = ExprReads x × ExprReads y
  ExprReads (e.Prefix' op at p (more_of-Expr x end_of-Expr)) = ExprReads x
  ExprReads (e.Binary' op at p (more_of-Expr x end_of-Expr) q (more_of-Expr y end_of-Expr)) = ExprReads x × ExprReads y
  ExprReads (e.If' at p (more_of-Expr x end_of-Expr) q (more_of-Expr y end_of-Expr) r (more_of-Expr z end_of-Expr)) = ExprReads x × ExprReads y × ExprReads z

  pub RowReads : {n : _} → Row_of-Expr n → Type 0
  RowReads end_of-Expr = Unit {0}
  RowReads (more_of-Expr x rest) = ExprReads x × RowReads rest

-- ---- pacings, clauses and declarations

abbrev pub formula : Formula → Formula
formula (f.Input n) = f.Input (name n)
formula (f.Both' at p (more_of-Formula x end_of-Formula) q (more_of-Formula y end_of-Formula)) = f.Both 0 (formula x) (formula y)
formula (f.Either' at p (more_of-Formula x end_of-Formula) q (more_of-Formula y end_of-Formula)) = f.Either 0 (formula x) (formula y)

-- enough levels for it
abbrev pub formula_need : Formula → ℕ
formula_need (f.Input n) = 0
formula_need (f.Both' at p (more_of-Formula x end_of-Formula) q (more_of-Formula y end_of-Formula)) = suc (formula_need x + formula_need y)
formula_need (f.Either' at p (more_of-Formula x end_of-Formula) q (more_of-Formula y end_of-Formula)) = suc (formula_need x + formula_need y)

abbrev pub rhythm : Rhythm → Rhythm
rhythm (r.Rate q) = r.Rate (quantity q)
rhythm (r.Formula x) = r.Formula (formula x)
rhythm (r.Global q) = r.Global (quantity q)
rhythm (r.Local q) = r.Local (quantity q)

abbrev pub pacing : Pacing → Pacing
pacing p = record { at = 0; rhythm = rhythm p.rhythm }

abbrev pub part : Part → Part
part p = record { at = 0; expr = expr p.expr }

abbrev pub perhaps : {A : Type 0} → (A → A) → Option A → Option A
perhaps f None = None
perhaps f (Some x) = Some (f x)

abbrev pub spawn : Spawn → Spawn
spawn s = record { at = 0; pacing = perhaps pacing s.pacing; when = perhaps part s.when; with = map part s.with }

abbrev pub eval : Eval → Eval
eval x = record { at = 0; pacing = perhaps pacing x.pacing; when = perhaps part x.when; with = part x.with }

abbrev pub close : Close → Close
close c = record { at = 0; pacing = perhaps pacing c.pacing; when = part c.when }

abbrev pub typed : Typed → Typed
typed t = record { name = name t.name; kind = name t.kind }

abbrev pub parameters_bracket : List Typed → Option ℕ
parameters_bracket [] = None
parameters_bracket (t ∷ ts) = Some 0

abbrev pub declaration : Declaration → Declaration
declaration (d.Inputs i) = d.Inputs (record { at = 0; inputs = map typed i.inputs })
declaration (d.Constant c) = d.Constant (record { at = 0; name = name c.name; kind = name c.kind; before = 0; literal = literal c.literal })
declaration (d.Output o) =
    d.Output (record {
      at = 0;
      name = name o.name;
      bracket = parameters_bracket o.parameters;
      parameters = map typed o.parameters;
      kind = perhaps name o.kind;
      spawn = perhaps spawn o.spawn;
      eval = eval o.eval;
      close = perhaps close o.close;
    })
declaration (d.Trigger t) = d.Trigger (record { pacing = perhaps pacing t.pacing; when = part t.when; message = t.message })
