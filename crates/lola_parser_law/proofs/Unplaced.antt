-- What is printed does not depend on places.
use Rattle.std.specs.Bool.{if◌then◌else◌}
use Rattle.std.proofs.Common.{◌≡◌, ℕ, suc, not, ◌&&◌, ◌||◌, List, [], ◌∷◌, ◌++◌, map, Option, Some, None, is_some, refl, sym, ap, ap₂, ◌∙◌, inl, inr}
use Rattle.std.specs.Prelude.{nat_lt}
use Rattle.std.specs.List.{flat_map}
use Rattle.lola_lexer.specs.declared.shape.TokenShape.{TokenShape}
use Rattle.lola_lexer.specs.declared.shape.TokenShape.TheVariants as is
use Rattle.lola_parser_grammar.specs.declared.literals.Name.{Name}
use Rattle.lola_parser_grammar.specs.declared.literals.Typed.{Typed}
use Rattle.lola_parser_grammar.specs.declared.expressions.Prefix.{Prefix}
use Rattle.lola_parser_grammar.specs.declared.expressions.Prefix.TheVariants as pre
use Rattle.lola_parser_grammar.specs.declared.expressions.Access.{Access}
use Rattle.lola_parser_grammar.specs.declared.expressions.Access.TheVariants as a
use Rattle.lola_parser_grammar.specs.declared.expressions.Expr.{Expr, Row_of-Expr, more_of-Expr, end_of-Expr}
use Rattle.lola_parser_grammar.specs.declared.expressions.Expr.TheVariants as e
use Rattle.lola_parser_grammar.specs.declared.pacing.Formula.{Formula, more_of-Formula, end_of-Formula}
use Rattle.lola_parser_grammar.specs.declared.pacing.Formula.TheVariants as f
use Rattle.lola_parser_grammar.specs.declared.pacing.Formula.TheBlock as X
use Rattle.lola_parser_grammar.specs.declared.pacing.Rhythm.{Rhythm}
use Rattle.lola_parser_grammar.specs.declared.pacing.Rhythm.TheVariants as r
use Rattle.lola_parser_grammar.specs.declared.pacing.Pacing.{Pacing}
use Rattle.lola_parser_grammar.specs.declared.clauses.Part.{Part}
use Rattle.lola_parser_grammar.specs.declared.clauses.Spawn.{Spawn}
use Rattle.lola_parser_grammar.specs.declared.clauses.Eval.{Eval}
use Rattle.lola_parser_grammar.specs.declared.clauses.Close.{Close}
use Rattle.lola_parser_grammar.specs.declared.declarations.Output.{Output}
use Rattle.lola_parser_grammar.specs.declared.declarations.Declaration.{Declaration}
use Rattle.lola_parser_grammar.specs.declared.declarations.Declaration.TheVariants as d
use Rattle.lola_parser_grammar.specs.Syntax.{Lexeme}
use Rattle.lola_parser_print.specs.Print as out
use Rattle.lola_parser_print.specs.Print.{lex, bare, bare_formula, level, formula_level, heads, print, print_formula, fitted, bracketed_if, left_of, tightness, shape_of, second, signed, default_of, default_tail, argument_list, further_list}
use Rattle.lola_parser_print.proofs.Equations.{bare-Binary, bare-Prefix, bare-If, bare-Reference, bare-Defaults, heads-Defaults, level-Prefix, level-Binary, level-If, level-Defaults, default_of-Reference, default_of-other}
use Rattle.lola_parser_print.proofs.Formulas.{bare_formula-Both, bare_formula-Either}
use Rattle.lola_parser_law.specs.Erased as erased
use Rattle.lola_parser_law.specs.Round.{PlacesAreNotPrinted}

-- ---- accesses

access_unplaced : (h : Access) → out.access (erased.access h) ≡ out.access h
access_unplaced a.Direct = refl
access_unplaced (a.Offset dot k at) = refl
access_unplaced (a.Hold dot) = refl
access_unplaced (a.Get dot) = refl
access_unplaced (a.Window dot b q n) = refl

access_or_unplaced : (h : Access) (ts : List Lexeme) → out.access_or (erased.access h) ts ≡ out.access_or h ts
access_or_unplaced a.Direct ts = refl
access_or_unplaced (a.Offset dot k at) ts = refl
access_or_unplaced (a.Hold dot) ts = refl
access_or_unplaced (a.Get dot) ts = refl
access_or_unplaced (a.Window dot b q n) ts = refl

-- ---- expressions

record Unplaced (x : Expr) : Type 0 where
  pub bare : bare (erased.expr x) ≡ bare x
  pub level : level (erased.expr x) ≡ level x
  pub heads : heads (erased.expr x) ≡ heads x

print_unplaced : (x : Expr) (k : ℕ) → Unplaced x → print (erased.expr x) k ≡ print x k
print_unplaced x k h = ap₂ (λ l ts. fitted l k ts) h.level h.bare

signed_unplaced : (op : Prefix) (x : Expr) → Unplaced x → signed op (erased.expr x) ≡ signed op x
signed_unplaced pre.Not x h = ap (λ ts. lex is.Not ∷ ts) (print_unplaced x 6 h)
signed_unplaced pre.Negate x h =
    ap (λ b. lex is.Minus ∷ bracketed_if (b || nat_lt (level (erased.expr x)) 6) (bare (erased.expr x))) h.heads
    ∙ ap₂ (λ l ts. lex is.Minus ∷ bracketed_if (heads x || nat_lt l 6) ts) h.level h.bare

-- behind anything but a name
tail_unplaced : (x y : Expr) → Unplaced x → bare (erased.expr y) ≡ bare y → print (erased.expr x) 7 ++ default_tail (bare (erased.expr y)) ≡ print x 7 ++ default_tail (bare y)
tail_unplaced x y h k = ap₂ (λ u v. u ++ default_tail v) (print_unplaced x 7 h) k

raw-Prefix : (op : Prefix) (at : ℕ) (p : _) (x : Expr) → signed op x ≡ bare (e.Prefix' op at p (more_of-Expr x end_of-Expr))
raw-Prefix pre.Not at p x = refl
raw-Prefix pre.Negate at p x = refl

-- a value that stands in, behind such an expression
record Behind (x y : Expr) : Type 0 where
  pub bare : bare (e.Defaults 0 (erased.expr x) (erased.expr y)) ≡ print x 7 ++ default_tail (bare y)
  pub level : level (e.Defaults 0 (erased.expr x) (erased.expr y)) ≡ 8
  pub heads : heads (e.Defaults 0 (erased.expr x) (erased.expr y)) ≡ heads x

behind : (x y : Expr) → Unplaced x → Unplaced y → default_of (erased.expr x) (erased.expr y) ≡ print (erased.expr x) 7 ++ default_tail (bare (erased.expr y)) → Behind x y
behind x y h k l =
    record {
      bare = bare-Defaults 0 (erased.expr x) (erased.expr y) ∙ l ∙ tail_unplaced x y h k.bare;
      level = level-Defaults 0 (erased.expr x) (erased.expr y);
      heads = heads-Defaults 0 (erased.expr x) (erased.expr y) ∙ h.heads;
    }

mutual
  unplaced : (x : Expr) → Unplaced x
  unplaced (e.Literal l) = record { bare = refl; level = refl; heads = refl }
  unplaced (e.Reference' n b shape row how) =
      record {
        bare = bare-Reference (erased.name n) (erased.bracket (erased.exprs row)) (erased.exprs row) (erased.access how)
            ∙ ap₂ (λ us vs. out.name n ∷ (us ++ vs)) (arguments_unplaced row) (access_unplaced how);
        level = refl;
        heads = refl;
      }
  unplaced (e.Defaults' at p (more_of-Expr (e.Reference' n b shape row how) end_of-Expr) q (more_of-Expr y end_of-Expr)) =
      record {
        bare = bare-Defaults 0 (erased.expr (e.Reference' n b shape row how)) (erased.expr y)
            ∙ default_of-Reference (erased.name n) (erased.bracket (erased.exprs row)) (erased.exprs row) (erased.access how) (erased.expr y)
            ∙ ap₂ (λ us vs. out.name n ∷ (us ++ vs)) (arguments_unplaced row) (access_or_unplaced how (bare (erased.expr y)) ∙ ap (out.access_or how) (unplaced y).bare);
        level = level-Defaults 0 (erased.expr (e.Reference' n b shape row how)) (erased.expr y);
        heads = heads-Defaults 0 (erased.expr (e.Reference' n b shape row how)) (erased.expr y);
      }
  unplaced (e.Defaults' at p (more_of-Expr (e.Literal l) end_of-Expr) q (more_of-Expr y end_of-Expr)) =
      let b = behind (e.Literal l) y (unplaced (e.Literal l)) (unplaced y) (default_of-other (erased.expr (e.Literal l)) (erased.expr y) (inl (erased.literal l, refl))) in
      record { bare = b.bare; level = b.level; heads = b.heads }
  unplaced (e.Defaults' at p (more_of-Expr (e.Defaults' i j (more_of-Expr u end_of-Expr) k (more_of-Expr v end_of-Expr)) end_of-Expr) q (more_of-Expr y end_of-Expr)) =
      let b = behind (e.Defaults' i j (more_of-Expr u end_of-Expr) k (more_of-Expr v end_of-Expr)) y (unplaced (e.Defaults' i j (more_of-Expr u end_of-Expr) k (more_of-Expr v end_of-Expr))) (unplaced y)
      (default_of-other (erased.expr (e.Defaults' i j (more_of-Expr u end_of-Expr) k (more_of-Expr v end_of-Expr))) (erased.expr y) (inr (inl (0, erased.expr u, erased.expr v, refl)))) in
      record { bare = b.bare; level = b.level; heads = b.heads }
  unplaced (e.Defaults' at p (more_of-Expr (e.Prefix' op i j (more_of-Expr u end_of-Expr)) end_of-Expr) q (more_of-Expr y end_of-Expr)) =
      let b = behind (e.Prefix' op i j (more_of-Expr u end_of-Expr)) y (unplaced (e.Prefix' op i j (more_of-Expr u end_of-Expr))) (unplaced y)
      (default_of-other (erased.expr (e.Prefix' op i j (more_of-Expr u end_of-Expr))) (erased.expr y) (inr (inr (inl (op, 0, erased.expr u, refl))))) in
      record { bare = b.bare; level = b.level; heads = b.heads }
  unplaced (e.Defaults' at p (more_of-Expr (e.Binary' op i j (more_of-Expr u end_of-Expr) k (more_of-Expr v end_of-Expr)) end_of-Expr) q (more_of-Expr y end_of-Expr)) =
      let b = behind (e.Binary' op i j (more_of-Expr u end_of-Expr) k (more_of-Expr v end_of-Expr)) y (unplaced (e.Binary' op i j (more_of-Expr u end_of-Expr) k (more_of-Expr v end_of-Expr))) (unplaced y)
      (default_of-other (erased.expr (e.Binary' op i j (more_of-Expr u end_of-Expr) k (more_of-Expr v end_of-Expr))) (erased.expr y) (inr (inr (inr (inl (op, 0, erased.expr u, erased.expr v, refl)))))) in
      record { bare = b.bare; level = b.level; heads = b.heads }
  unplaced (e.Defaults' at p (more_of-Expr (e.If' i j (more_of-Expr u end_of-Expr) k (more_of-Expr v end_of-Expr) l (more_of-Expr w end_of-Expr)) end_of-Expr) q (more_of-Expr y end_of-Expr)) =
      let b = behind (e.If' i j (more_of-Expr u end_of-Expr) k (more_of-Expr v end_of-Expr) l (more_of-Expr w end_of-Expr)) y
      (unplaced (e.If' i j (more_of-Expr u end_of-Expr) k (more_of-Expr v end_of-Expr) l (more_of-Expr w end_of-Expr))) (unplaced y)
      (default_of-other (erased.expr (e.If' i j (more_of-Expr u end_of-Expr) k (more_of-Expr v end_of-Expr) l (more_of-Expr w end_of-Expr))) (erased.expr y)
      (inr (inr (inr (inr (0, erased.expr u, erased.expr v, erased.expr w, refl)))))) in
      record { bare = b.bare; level = b.level; heads = b.heads }
  unplaced (e.Prefix' op at p (more_of-Expr x end_of-Expr)) =
      record {
        bare = bare-Prefix op 0 (erased.expr x) ∙ signed_unplaced op x (unplaced x) ∙ raw-Prefix op at p x;
        level = level-Prefix op 0 (erased.expr x);
        heads = refl;
      }
  unplaced (e.Binary' op at p (more_of-Expr x end_of-Expr) q (more_of-Expr y end_of-Expr)) =
      record {
        bare = bare-Binary op 0 (erased.expr x) (erased.expr y)
            ∙ ap₂ (λ us vs. us ++ (lex (shape_of op) ∷ vs)) (print_unplaced x (left_of op) (unplaced x)) (print_unplaced y (suc (tightness op)) (unplaced y));
        level = level-Binary op 0 (erased.expr x) (erased.expr y);
        heads = refl;
      }
  unplaced (e.If' at p (more_of-Expr x end_of-Expr) q (more_of-Expr y end_of-Expr) s (more_of-Expr z end_of-Expr)) =
      record {
        bare = bare-If 0 (erased.expr x) (erased.expr y) (erased.expr z)
            ∙ ap₂ (λ us vs. lex is.If ∷ (us ++ (lex is.Then ∷ (vs ++ (lex is.Else ∷ bare (erased.expr z)))))) (unplaced x).bare (unplaced y).bare
            ∙ ap (λ us. lex is.If ∷ (bare x ++ (lex is.Then ∷ (bare y ++ (lex is.Else ∷ us))))) (unplaced z).bare;
        level = level-If 0 (erased.expr x) (erased.expr y) (erased.expr z);
        heads = refl;
      }

  arguments_unplaced : {m : _} (row : Row_of-Expr m) → argument_list (erased.exprs row) ≡ out.arguments row
  arguments_unplaced end_of-Expr = refl
  arguments_unplaced (more_of-Expr x rest) = ap₂ (λ us vs. lex is.Open ∷ (us ++ (vs ++ lex is.Shut ∷ []))) (unplaced x).bare (further_unplaced rest)

  further_unplaced : {m : _} (row : Row_of-Expr m) → further_list (erased.exprs row) ≡ out.further row
  further_unplaced end_of-Expr = refl
  further_unplaced (more_of-Expr x rest) = ap₂ (λ us vs. lex is.Comma ∷ (us ++ vs)) (unplaced x).bare (further_unplaced rest)

-- ---- formulas

formula_print : (x : Formula) (k : ℕ) → bare_formula (erased.formula x) ≡ bare_formula x → formula_level (erased.formula x) ≡ formula_level x
    → print_formula (erased.formula x) k ≡ print_formula x k
formula_print x k h l = ap₂ (λ n ts. fitted n k ts) l h

formula_level_unplaced : (x : Formula) → formula_level (erased.formula x) ≡ formula_level x
unfolding X.shape-the_row-Formula-0 X.hidden-the_row-Formula-0 denote.Hole.Carrier.hidden denote.Hole.Carrier.shown denote.Hole.Carrier.roll denote.Hole.Carrier.out
formula_level_unplaced (f.Input n) = refl
formula_level_unplaced (f.Both' at p (more_of-Formula x end_of-Formula) q (more_of-Formula y end_of-Formula)) = refl
formula_level_unplaced (f.Either' at p (more_of-Formula x end_of-Formula) q (more_of-Formula y end_of-Formula)) = refl

formula_unplaced : (x : Formula) → bare_formula (erased.formula x) ≡ bare_formula x
formula_unplaced (f.Input n) = refl
formula_unplaced (f.Both' at p (more_of-Formula x end_of-Formula) q (more_of-Formula y end_of-Formula)) =
    bare_formula-Both 0 (erased.formula x) (erased.formula y)
    ∙ ap₂ (λ us vs. us ++ (lex is.And ∷ vs)) (formula_print x 1 (formula_unplaced x) (formula_level_unplaced x)) (formula_print y 2 (formula_unplaced y) (formula_level_unplaced y))
formula_unplaced (f.Either' at p (more_of-Formula x end_of-Formula) q (more_of-Formula y end_of-Formula)) =
    bare_formula-Either 0 (erased.formula x) (erased.formula y)
    ∙ ap₂ (λ us vs. us ++ (lex is.Or ∷ vs)) (formula_print x 0 (formula_unplaced x) (formula_level_unplaced x)) (formula_print y 1 (formula_unplaced y) (formula_level_unplaced y))

event-Both : (at : ℕ) (x y : Formula) → out.event (f.Both at x y) ≡ out.bracketed (bare_formula (f.Both at x y))
event-Both at x y = refl

event-Either : (at : ℕ) (x y : Formula) → out.event (f.Either at x y) ≡ out.bracketed (bare_formula (f.Either at x y))
event-Either at x y = refl

event_unplaced : (x : Formula) → out.event (erased.formula x) ≡ out.event x
event_unplaced (f.Input n) = refl
event_unplaced (f.Both' at p (more_of-Formula x end_of-Formula) q (more_of-Formula y end_of-Formula)) =
    event-Both 0 (erased.formula x) (erased.formula y) ∙ ap out.bracketed (formula_unplaced (f.Both' at p (more_of-Formula x end_of-Formula) q (more_of-Formula y end_of-Formula)))
event_unplaced (f.Either' at p (more_of-Formula x end_of-Formula) q (more_of-Formula y end_of-Formula)) =
    event-Either 0 (erased.formula x) (erased.formula y) ∙ ap out.bracketed (formula_unplaced (f.Either' at p (more_of-Formula x end_of-Formula) q (more_of-Formula y end_of-Formula)))

-- ---- pacings and clauses

rhythm_unplaced : (x : Rhythm) → out.rhythm (erased.rhythm x) ≡ out.rhythm x
rhythm_unplaced (r.Rate q) = refl
rhythm_unplaced (r.Formula x) = event_unplaced x
rhythm_unplaced (r.Global q) = refl
rhythm_unplaced (r.Local q) = refl

pacing_unplaced : (p : Pacing) → out.pacing (erased.pacing p) ≡ out.pacing p
pacing_unplaced p = ap (λ ts. lex is.At ∷ ts) (rhythm_unplaced p.rhythm)

part_unplaced : (s : TokenShape) (p : Part) → out.part s (erased.part p) ≡ out.part s p
part_unplaced s p = ap (λ ts. lex s ∷ ts) (unplaced p.expr).bare

maybe_unplaced : {A : Type 0} (E : A → A) (P : A → List Lexeme) → ((x : A) → P (E x) ≡ P x) → (o : Option A) → out.maybe P (erased.perhaps E o) ≡ out.maybe P o
maybe_unplaced E P same None = refl
maybe_unplaced E P same (Some x) = same x

each_unplaced : {A : Type 0} (E : A → A) (P : A → List Lexeme) → ((x : A) → P (E x) ≡ P x) → (xs : List A) → flat_map P (map E xs) ≡ flat_map P xs
each_unplaced E P same [] = refl
each_unplaced E P same (x ∷ xs) = ap₂ (λ us vs. us ++ vs) (same x) (each_unplaced E P same xs)

with_unplaced : (ps : List Part) → out.with_parts (map erased.part ps) ≡ out.with_parts ps
with_unplaced [] = refl
with_unplaced (p ∷ []) = part_unplaced is.With p
with_unplaced (p ∷ q ∷ ps) =
    ap₂ (λ us vs. lex is.With ∷ (us ++ (vs ++ lex is.Shut ∷ []))) (part_unplaced is.Open p) (each_unplaced erased.part (out.part is.Comma) (part_unplaced is.Comma) (q ∷ ps))

spawn_unplaced : (s : Spawn) → out.spawn (erased.spawn s) ≡ out.spawn s
spawn_unplaced s =
    ap₂ (λ us vs. lex is.Spawn ∷ (us ++ (vs ++ out.with_parts (map erased.part s.with))))
    (maybe_unplaced erased.pacing out.pacing pacing_unplaced s.pacing) (maybe_unplaced erased.part (out.part is.When) (part_unplaced is.When) s.when)
    ∙ ap (λ us. lex is.Spawn ∷ (out.maybe out.pacing s.pacing ++ (out.maybe (out.part is.When) s.when ++ us))) (with_unplaced s.with)

eval_unplaced : (x : Eval) → out.eval (erased.eval x) ≡ out.eval x
eval_unplaced x =
    ap₂ (λ us vs. lex is.Eval ∷ (us ++ (vs ++ out.part is.With (erased.part x.with))))
    (maybe_unplaced erased.pacing out.pacing pacing_unplaced x.pacing) (maybe_unplaced erased.part (out.part is.When) (part_unplaced is.When) x.when)
    ∙ ap (λ us. lex is.Eval ∷ (out.maybe out.pacing x.pacing ++ (out.maybe (out.part is.When) x.when ++ us))) (part_unplaced is.With x.with)

short_unplaced : (x : Eval) → out.short_eval (erased.eval x) ≡ out.short_eval x
short_unplaced x = ap₂ (λ us vs. us ++ vs) (maybe_unplaced erased.pacing out.pacing pacing_unplaced x.pacing) (part_unplaced is.Define x.with)

close_unplaced : (c : Close) → out.close (erased.close c) ≡ out.close c
close_unplaced c = ap₂ (λ us vs. lex is.Close ∷ (us ++ vs)) (maybe_unplaced erased.pacing out.pacing pacing_unplaced c.pacing) (part_unplaced is.When c.when)

-- ---- declarations

typed_listed : (ts : List Typed) → out.listed (map erased.typed ts) ≡ out.listed ts
typed_listed [] = refl
typed_listed (t ∷ ts) = ap (λ us. out.typed t ++ us) (each_unplaced erased.typed out.behind_comma (λ s. refl) ts)

parameters_unplaced : (ts : List Typed) → out.parameters (map erased.typed ts) ≡ out.parameters ts
parameters_unplaced [] = refl
parameters_unplaced (t ∷ ts) = ap out.bracketed (typed_listed (t ∷ ts))

kind_unplaced : (o : Option Name) → out.kind (erased.perhaps erased.name o) ≡ out.kind o
kind_unplaced None = refl
kind_unplaced (Some n) = refl

some_unplaced : {A : Type 0} (E : A → A) (o : Option A) → is_some (erased.perhaps E o) ≡ is_some o
some_unplaced E None = refl
some_unplaced E (Some x) = refl

body_unplaced : (s : Option Spawn) (x : Eval) (c : Option Close) → out.body (erased.perhaps erased.spawn s) (erased.eval x) (erased.perhaps erased.close c) ≡ out.body s x c
body_unplaced s x c =
    let long = ap₂ (λ us vs. us ++ (vs ++ out.maybe out.close (erased.perhaps erased.close c))) (maybe_unplaced erased.spawn out.spawn spawn_unplaced s) (eval_unplaced x)
    ∙ ap (λ us. out.maybe out.spawn s ++ (out.eval x ++ us)) (maybe_unplaced erased.close out.close close_unplaced c) in
    ap₂ (λ b d. if not b && (not d && not (is_some (erased.perhaps erased.close c))) then out.short_eval (erased.eval x)
    else (out.maybe out.spawn (erased.perhaps erased.spawn s) ++ (out.eval (erased.eval x) ++ out.maybe out.close (erased.perhaps erased.close c))))
    (some_unplaced erased.spawn s) (some_unplaced erased.part x.when)
    ∙ ap (λ b. if not (is_some s) && (not (is_some x.when) && not b) then out.short_eval (erased.eval x)
    else (out.maybe out.spawn (erased.perhaps erased.spawn s) ++ (out.eval (erased.eval x) ++ out.maybe out.close (erased.perhaps erased.close c))))
    (some_unplaced erased.close c)
    ∙ ap₂ (λ us vs. if out.is_short s x c then us else vs) (short_unplaced x) long

output_unplaced : (o : Output) → out.declaration (erased.declaration (d.Output o)) ≡ out.declaration (d.Output o)
output_unplaced o =
    ap₂ (λ us vs. (lex is.Output ∷ out.name o.name ∷ us) ++ (vs ++ out.body (erased.perhaps erased.spawn o.spawn) (erased.eval o.eval) (erased.perhaps erased.close o.close)))
    (parameters_unplaced o.parameters) (kind_unplaced o.kind)
    ∙ ap (λ us. (lex is.Output ∷ out.name o.name ∷ out.parameters o.parameters) ++ (out.kind o.kind ++ us)) (body_unplaced o.spawn o.eval o.close)

declaration_unplaced : (x : Declaration) → out.declaration (erased.declaration x) ≡ out.declaration x
declaration_unplaced (d.Inputs i) = ap (λ us. lex is.Input ∷ us) (typed_listed i.inputs)
declaration_unplaced (d.Constant c) = refl
declaration_unplaced (d.Output o) = output_unplaced o
declaration_unplaced (d.Trigger t) =
    ap₂ (λ us vs. lex is.Trigger ∷ (us ++ (vs ++ out.message t.message))) (maybe_unplaced erased.pacing out.pacing pacing_unplaced t.pacing) (unplaced t.when.expr).bare

specification_unplaced : (xs : List Declaration) → out.specification (map erased.declaration xs) ≡ out.specification xs
specification_unplaced xs = each_unplaced erased.declaration out.declaration declaration_unplaced xs

pub not_printed : PlacesAreNotPrinted
not_printed xs ys h = sym (specification_unplaced ys) ∙ ap out.specification h ∙ specification_unplaced xs
