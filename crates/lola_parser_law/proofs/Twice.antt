-- To leave places aside twice is to leave them aside once.
use Rattle.std.proofs.Common.{◌≡◌, ℕ, List, [], ◌∷◌, map, Option, Some, None, refl, ap, ap₂, ◌∙◌}
use Rattle.lola_parser_grammar.specs.declared.literals.Typed.{Typed}
use Rattle.lola_parser_grammar.specs.declared.expressions.Access.{Access}
use Rattle.lola_parser_grammar.specs.declared.expressions.Access.TheVariants as a
use Rattle.lola_parser_grammar.specs.declared.expressions.Expr.{Expr, Row_of-Expr, more_of-Expr, end_of-Expr}
use Rattle.lola_parser_grammar.specs.declared.expressions.Expr.TheVariants as e
use Rattle.lola_parser_grammar.specs.declared.pacing.Formula.{Formula, more_of-Formula, end_of-Formula}
use Rattle.lola_parser_grammar.specs.declared.pacing.Formula.TheVariants as f
use Rattle.lola_parser_grammar.specs.declared.pacing.Rhythm.{Rhythm}
use Rattle.lola_parser_grammar.specs.declared.pacing.Rhythm.TheVariants as r
use Rattle.lola_parser_grammar.specs.declared.pacing.Pacing.{Pacing}
use Rattle.lola_parser_grammar.specs.declared.clauses.Part.{Part}
use Rattle.lola_parser_grammar.specs.declared.clauses.Spawn.{Spawn}
use Rattle.lola_parser_grammar.specs.declared.clauses.Eval.{Eval}
use Rattle.lola_parser_grammar.specs.declared.clauses.Close.{Close}
use Rattle.lola_parser_grammar.specs.declared.declarations.Output.{Output}
use Rattle.lola_parser_grammar.specs.declared.declarations.Declaration.{Declaration}
use Rattle.lola_parser_grammar.specs.declared.declarations.Declaration.TheVariants as d
use Rattle.lola_parser_law.specs.Erased as erased
use Rattle.lola_parser_law.proofs.Forms.{erased-Binary, erased-Defaults, erased-Prefix, erased-If, erased-Reference}
use Rattle.lola_parser_law.proofs.Pacings.{erased-Both, erased-Either}

access_twice : (h : Access) → erased.access (erased.access h) ≡ erased.access h
access_twice a.Direct = refl
access_twice (a.Offset dot k at) = refl
access_twice (a.Hold dot) = refl
access_twice (a.Get dot) = refl
access_twice (a.Window dot b q n) = refl

mutual
  expr_twice : (x : Expr) → erased.expr (erased.expr x) ≡ erased.expr x
  expr_twice (e.Literal l) = refl
  expr_twice (e.Reference' n b shape row how) =
      erased-Reference (erased.name n) (erased.bracket (erased.exprs row)) (erased.exprs row) (erased.access how)
      ∙ ap₂ (λ (l : List Expr) (h : Access). e.Reference (erased.name n) (erased.bracket l) l h) (row_twice row) (access_twice how)
  expr_twice (e.Defaults' at p (more_of-Expr x end_of-Expr) q (more_of-Expr y end_of-Expr)) =
      erased-Defaults 0 (erased.expr x) (erased.expr y) ∙ ap₂ (λ u v. e.Defaults 0 u v) (expr_twice x) (expr_twice y)
  expr_twice (e.Prefix' op at p (more_of-Expr x end_of-Expr)) = erased-Prefix op 0 (erased.expr x) ∙ ap (λ u. e.Prefix op 0 u) (expr_twice x)
  expr_twice (e.Binary' op at p (more_of-Expr x end_of-Expr) q (more_of-Expr y end_of-Expr)) =
      erased-Binary op 0 (erased.expr x) (erased.expr y) ∙ ap₂ (λ u v. e.Binary op 0 u v) (expr_twice x) (expr_twice y)
  expr_twice (e.If' at p (more_of-Expr x end_of-Expr) q (more_of-Expr y end_of-Expr) s (more_of-Expr z end_of-Expr)) =
      erased-If 0 (erased.expr x) (erased.expr y) (erased.expr z) ∙ ap₂ (λ u v. e.If 0 u v (erased.expr (erased.expr z))) (expr_twice x) (expr_twice y)
      ∙ ap (λ u. e.If 0 (erased.expr x) (erased.expr y) u) (expr_twice z)

  row_twice : {m : _} (row : Row_of-Expr m) → map erased.expr (erased.exprs row) ≡ erased.exprs row
  row_twice end_of-Expr = refl
  row_twice (more_of-Expr x rest) = ap₂ (λ (u : Expr) (l : List Expr). u ∷ l) (expr_twice x) (row_twice rest)

formula_twice : (x : Formula) → erased.formula (erased.formula x) ≡ erased.formula x
formula_twice (f.Input n) = refl
formula_twice (f.Both' at p (more_of-Formula x end_of-Formula) q (more_of-Formula y end_of-Formula)) =
    erased-Both 0 (erased.formula x) (erased.formula y) ∙ ap₂ (λ u v. f.Both 0 u v) (formula_twice x) (formula_twice y)
formula_twice (f.Either' at p (more_of-Formula x end_of-Formula) q (more_of-Formula y end_of-Formula)) =
    erased-Either 0 (erased.formula x) (erased.formula y) ∙ ap₂ (λ u v. f.Either 0 u v) (formula_twice x) (formula_twice y)

rhythm_twice : (x : Rhythm) → erased.rhythm (erased.rhythm x) ≡ erased.rhythm x
rhythm_twice (r.Rate q) = refl
rhythm_twice (r.Formula x) = ap (λ (u : Formula). r.Formula u) (formula_twice x)
rhythm_twice (r.Global q) = refl
rhythm_twice (r.Local q) = refl

pacing_twice : (p : Pacing) → erased.pacing (erased.pacing p) ≡ erased.pacing p
pacing_twice p = ap (λ (u : Rhythm). record { at = 0; rhythm = u }) (rhythm_twice p.rhythm)

part_twice : (p : Part) → erased.part (erased.part p) ≡ erased.part p
part_twice p = ap (λ (u : Expr). record { at = 0; expr = u }) (expr_twice p.expr)

perhaps_twice : {A : Type 0} (E : A → A) → ((x : A) → E (E x) ≡ E x) → (o : Option A) → erased.perhaps E (erased.perhaps E o) ≡ erased.perhaps E o
perhaps_twice E twice None = refl
perhaps_twice E twice (Some x) = ap (λ u. Some u) (twice x)

each_twice : {A : Type 0} (E : A → A) → ((x : A) → E (E x) ≡ E x) → (xs : List A) → map E (map E xs) ≡ map E xs
each_twice E twice [] = refl
each_twice E twice (x ∷ xs) = ap₂ (λ u l. u ∷ l) (twice x) (each_twice E twice xs)

spawn_twice : (s : Spawn) → erased.spawn (erased.spawn s) ≡ erased.spawn s
spawn_twice s =
    ap₂ (λ (u : Option Pacing) (v : Option Part). record { at = 0; pacing = u; when = v; with = map erased.part (map erased.part s.with) })
    (perhaps_twice erased.pacing pacing_twice s.pacing) (perhaps_twice erased.part part_twice s.when)
    ∙ ap (λ (u : List Part). record { at = 0; pacing = erased.perhaps erased.pacing s.pacing; when = erased.perhaps erased.part s.when; with = u }) (each_twice erased.part part_twice s.with)

eval_twice : (x : Eval) → erased.eval (erased.eval x) ≡ erased.eval x
eval_twice x =
    ap₂ (λ (u : Option Pacing) (v : Option Part). record { at = 0; pacing = u; when = v; with = erased.part (erased.part x.with) })
    (perhaps_twice erased.pacing pacing_twice x.pacing) (perhaps_twice erased.part part_twice x.when)
    ∙ ap (λ (u : Part). record { at = 0; pacing = erased.perhaps erased.pacing x.pacing; when = erased.perhaps erased.part x.when; with = u }) (part_twice x.with)

close_twice : (c : Close) → erased.close (erased.close c) ≡ erased.close c
close_twice c =
    ap₂ (λ (u : Option Pacing) (v : Part). record { at = 0; pacing = u; when = v }) (perhaps_twice erased.pacing pacing_twice c.pacing) (part_twice c.when)

bracket_twice : (ts : List Typed) → erased.parameters_bracket (map erased.typed ts) ≡ erased.parameters_bracket ts
bracket_twice [] = refl
bracket_twice (t ∷ ts) = refl

output_twice : (o : Output) → erased.declaration (erased.declaration (d.Output o)) ≡ erased.declaration (d.Output o)
output_twice o =
    ap₂ (λ (b : Option ℕ) (ts : List Typed). d.Output (record { at = 0; name = erased.name o.name; bracket = b; parameters = ts; kind = erased.perhaps erased.name (erased.perhaps erased.name o.kind); spawn = erased.perhaps erased.spawn (erased.perhaps erased.spawn o.spawn); eval = erased.eval (erased.eval o.eval); close = erased.perhaps erased.close (erased.perhaps erased.close o.close) }))
    (bracket_twice o.parameters) (each_twice erased.typed (λ t. refl) o.parameters)
    ∙ ap₂ (λ k (s : Option Spawn). d.Output (record { at = 0; name = erased.name o.name; bracket = erased.parameters_bracket o.parameters; parameters = map erased.typed o.parameters; kind = k; spawn = s; eval = erased.eval (erased.eval o.eval); close = erased.perhaps erased.close (erased.perhaps erased.close o.close) }))
    (perhaps_twice erased.name (λ n. refl) o.kind) (perhaps_twice erased.spawn spawn_twice o.spawn)
    ∙ ap₂ (λ (v : Eval) (c : Option Close). d.Output (record { at = 0; name = erased.name o.name; bracket = erased.parameters_bracket o.parameters; parameters = map erased.typed o.parameters; kind = erased.perhaps erased.name o.kind; spawn = erased.perhaps erased.spawn o.spawn; eval = v; close = c }))
    (eval_twice o.eval) (perhaps_twice erased.close close_twice o.close)

declaration_twice : (x : Declaration) → erased.declaration (erased.declaration x) ≡ erased.declaration x
declaration_twice (d.Inputs i) = ap (λ (ts : List Typed). d.Inputs (record { at = 0; inputs = ts })) (each_twice erased.typed (λ t. refl) i.inputs)
declaration_twice (d.Constant c) = refl
declaration_twice (d.Output o) = output_twice o
declaration_twice (d.Trigger t) =
    ap₂ (λ (u : Option Pacing) (v : Part). d.Trigger (record { pacing = u; when = v; message = t.message })) (perhaps_twice erased.pacing pacing_twice t.pacing) (part_twice t.when)

pub erased_twice : (xs : List Declaration) → map erased.declaration (map erased.declaration xs) ≡ map erased.declaration xs
erased_twice xs = each_twice erased.declaration declaration_twice xs
