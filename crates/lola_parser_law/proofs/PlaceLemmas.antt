-- What is printed of a tree does not depend on its places.
use Rattle.std.proofs.Common.{◌≡◌, ℕ, suc, ◌≤◌, Bool, false, ◌||◌, List, [], ◌∷◌, ◌++◌, refl, sym, ap, subst, ◌∙◌}
use Rattle.std.specs.Prelude.{nat_lt}
use Rattle.lola_lexer.specs.declared.shape.TokenShape.TheVariants as is
use Rattle.lola_parser_grammar.specs.declared.expressions.Access.{Access}
use Rattle.lola_parser_grammar.specs.declared.expressions.Access.TheVariants as a
use Rattle.lola_parser_grammar.specs.declared.expressions.Prefix.TheVariants as pre
use Rattle.lola_parser_grammar.specs.declared.expressions.Expr.{Expr, Row_of-Expr, more_of-Expr, end_of-Expr}
use Rattle.lola_parser_grammar.specs.declared.expressions.Expr.TheVariants as e
use Rattle.lola_parser_grammar.specs.declared.expressions.Expr.TheBlock as X
use Rattle.lola_parser_grammar.specs.declared.pacing.Formula.{Formula, more_of-Formula, end_of-Formula}
use Rattle.lola_parser_grammar.specs.declared.pacing.Formula.TheVariants as f
use Rattle.lola_parser_grammar.specs.declared.pacing.Formula.TheBlock as F
use Rattle.lola_parser_grammar.specs.Syntax.{Lexeme, Spells}
use Rattle.lola_parser_grammar.specs.Nestings.{nestings_in}
use Rattle.lola_parser_grammar.specs.Grammar as g
use Rattle.lola_parser_grammar.specs.Grammar.{all_nestings}
use Rattle.lola_parser_print.specs.Print as out
use Rattle.lola_parser_print.specs.Print.{lex, bare, print, level, heads, tightness, left_of, shape_of, bracketed_if, default_tail, bare_formula, print_formula, formula_level}
use Rattle.lola_parser_print.proofs.Equations.{bare-Reference, bare-Defaults, default_of-Reference}
use Rattle.lola_parser_law.specs.Erased as erased
use Rattle.lola_parser_law.proofs.PrintedExpressions.{is_reference}
use Rattle.lola_parser_law.proofs.PrintedClauses.{whole_spelled}
use Rattle.lola_parser_law.proofs.PrintedFormulas.{formula_printed, formula_whole}
use Rattle.lola_parser_law.specs.Fewest.{PrintedIsFewest, PrintedFormulaIsFewest}
use Rattle.lola_parser_law.proofs.FewestExpressions.{fewest}
use Rattle.lola_parser_law.proofs.Formulas.{fewest_of_formula}

access_same : (how : Access) → out.access (erased.access how) ≡ out.access how
access_same a.Direct = refl
access_same (a.Offset dot k p) = refl
access_same (a.Hold dot) = refl
access_same (a.Get dot) = refl
access_same (a.Window dot exactly q n) = refl

access_or_same : (how : Access) (ts : List Lexeme) → out.access_or (erased.access how) ts ≡ out.access_or how ts
access_or_same a.Direct ts = refl
access_or_same (a.Offset dot k p) ts = refl
access_or_same (a.Hold dot) ts = refl
access_or_same (a.Get dot) ts = refl
access_or_same (a.Window dot exactly q n) ts = refl

level_same : (x : Expr) → level (erased.expr x) ≡ level x
unfolding X.shape-the_row-Expr-1 X.hidden-the_row-Expr-1 denote.Hole.Carrier.hidden denote.Hole.Carrier.shown denote.Hole.Carrier.roll denote.Hole.Carrier.out
level_same (e.Literal l) = refl
level_same (e.Reference' n b shape row how) = refl
level_same (e.Defaults' p q (more_of-Expr x end_of-Expr) r (more_of-Expr y end_of-Expr)) = refl
level_same (e.Prefix' op p q (more_of-Expr x end_of-Expr)) = refl
level_same (e.Binary' op p q (more_of-Expr x end_of-Expr) r (more_of-Expr y end_of-Expr)) = refl
level_same (e.If' p q (more_of-Expr x end_of-Expr) r (more_of-Expr y end_of-Expr) s (more_of-Expr z end_of-Expr)) = refl

heads_same : (x : Expr) → heads (erased.expr x) ≡ heads x
unfolding X.shape-the_row-Expr-1 X.hidden-the_row-Expr-1 denote.Hole.Carrier.hidden denote.Hole.Carrier.shown denote.Hole.Carrier.roll denote.Hole.Carrier.out
heads_same (e.Literal l) = refl
heads_same (e.Reference' n b shape row how) = refl
heads_same (e.Defaults' p q (more_of-Expr x end_of-Expr) r (more_of-Expr y end_of-Expr)) = heads_same x
heads_same (e.Prefix' op p q (more_of-Expr x end_of-Expr)) = refl
heads_same (e.Binary' op p q (more_of-Expr x end_of-Expr) r (more_of-Expr y end_of-Expr)) = refl
heads_same (e.If' p q (more_of-Expr x end_of-Expr) r (more_of-Expr y end_of-Expr) s (more_of-Expr z end_of-Expr)) = refl

reference_same : (x : Expr) → is_reference (erased.expr x) ≡ is_reference x
unfolding X.shape-the_row-Expr-1 X.hidden-the_row-Expr-1 denote.Hole.Carrier.hidden denote.Hole.Carrier.shown denote.Hole.Carrier.roll denote.Hole.Carrier.out
reference_same (e.Literal l) = refl
reference_same (e.Reference' n b shape row how) = refl
reference_same (e.Defaults' p q (more_of-Expr x end_of-Expr) r (more_of-Expr y end_of-Expr)) = refl
reference_same (e.Prefix' op p q (more_of-Expr x end_of-Expr)) = refl
reference_same (e.Binary' op p q (more_of-Expr x end_of-Expr) r (more_of-Expr y end_of-Expr)) = refl
reference_same (e.If' p q (more_of-Expr x end_of-Expr) r (more_of-Expr y end_of-Expr) s (more_of-Expr z end_of-Expr)) = refl

-- at a tightness, where it is the same without brackets
print_same : (x : Expr) (k : ℕ) → bare (erased.expr x) ≡ bare x → print (erased.expr x) k ≡ print x k
print_same x k h = ap (λ (l : ℕ). bracketed_if (nat_lt l k) (bare (erased.expr x))) (level_same x) ∙ ap (λ (ts : List Lexeme). bracketed_if (nat_lt (level x) k) ts) h

guarded_same : (x : Expr) → bare (erased.expr x) ≡ bare x → out.guarded (erased.expr x) ≡ out.guarded x
guarded_same x h =
    ap (λ (l : ℕ). bracketed_if (heads (erased.expr x) || nat_lt l 6) (bare (erased.expr x))) (level_same x)
    ∙ ap (λ (b : Bool). bracketed_if (b || nat_lt (level x) 6) (bare (erased.expr x))) (heads_same x) ∙ ap (λ (ts : List Lexeme). bracketed_if (heads x || nat_lt (level x) 6) ts) h

-- a default behind what is no name
plain_same : (x y : Expr) → bare (erased.expr x) ≡ bare x → bare (erased.expr y) ≡ bare y → print (erased.expr x) 7 ++ default_tail (bare (erased.expr y)) ≡ print x 7 ++ default_tail (bare y)
plain_same x y h k = ap (λ (ts : List Lexeme). ts ++ default_tail (bare (erased.expr y))) (print_same x 7 h) ∙ ap (λ (ts : List Lexeme). print x 7 ++ default_tail ts) k

plain_default : (x y : Expr) → is_reference x ≡ false → out.default_of x y ≡ print x 7 ++ default_tail (bare y)
plain_default (e.Literal l) y h = refl
plain_default (e.Reference' n b shape row how) y h = absurd cc
plain_default (e.Defaults' p q r s t) y h = refl
plain_default (e.Prefix' op p q r) y h = refl
plain_default (e.Binary' op p q r s t) y h = refl
plain_default (e.If' p q r s t u v) y h = refl

mutual
  unfolding X.shape-the_row-Expr-1 X.hidden-the_row-Expr-1 denote.Hole.Carrier.hidden denote.Hole.Carrier.shown denote.Hole.Carrier.roll denote.Hole.Carrier.out

  pub bare_same : (x : Expr) → bare (erased.expr x) ≡ bare x
  bare_same (e.Literal l) = refl
  bare_same (e.Reference' n b shape row how) =
      bare-Reference (erased.name n) (erased.bracket (erased.exprs row)) (erased.exprs row) (erased.access how)
      ∙ ap (λ (ts : List Lexeme). out.name n ∷ (ts ++ out.access (erased.access how))) (arguments_same row) ∙ ap (λ (ts : List Lexeme). out.name n ∷ (out.arguments row ++ ts)) (access_same how)
  bare_same (e.Defaults' p q (more_of-Expr (e.Reference' n b shape row how) end_of-Expr) r (more_of-Expr y end_of-Expr)) =
      let xs = erased.exprs row in
      let named = e.Reference (erased.name n) (erased.bracket xs) xs (erased.access how) in
      bare-Defaults 0 named (erased.expr y) ∙ default_of-Reference (erased.name n) (erased.bracket xs) xs (erased.access how) (erased.expr y)
      ∙ ap (λ (ts : List Lexeme). out.name n ∷ (ts ++ out.access_or (erased.access how) (bare (erased.expr y)))) (arguments_same row)
      ∙ ap (λ (ts : List Lexeme). out.name n ∷ (out.arguments row ++ ts)) (access_or_same how (bare (erased.expr y)) ∙ ap (out.access_or how) (bare_same y))
  bare_same (e.Defaults' p q (more_of-Expr x end_of-Expr) r (more_of-Expr y end_of-Expr)) =
      bare-Defaults 0 (erased.expr x) (erased.expr y) ∙ plain_default (erased.expr x) (erased.expr y) (reference_same x) ∙ plain_same x y (bare_same x) (bare_same y)
  bare_same (e.Prefix' pre.Not p q (more_of-Expr x end_of-Expr)) = ap (λ (ts : List Lexeme). lex is.Not ∷ ts) (print_same x 6 (bare_same x))
  bare_same (e.Prefix' pre.Negate p q (more_of-Expr x end_of-Expr)) = ap (λ (ts : List Lexeme). lex is.Minus ∷ ts) (guarded_same x (bare_same x))
  bare_same (e.Binary' op p q (more_of-Expr x end_of-Expr) r (more_of-Expr y end_of-Expr)) =
      ap (λ (ts : List Lexeme). ts ++ (lex (shape_of op) ∷ print (erased.expr y) (suc (tightness op)))) (print_same x (left_of op) (bare_same x))
      ∙ ap (λ (ts : List Lexeme). print x (left_of op) ++ (lex (shape_of op) ∷ ts)) (print_same y (suc (tightness op)) (bare_same y))
  bare_same (e.If' p q (more_of-Expr x end_of-Expr) r (more_of-Expr y end_of-Expr) s (more_of-Expr z end_of-Expr)) =
      ap (λ (ts : List Lexeme). lex is.If ∷ (ts ++ (lex is.Then ∷ (bare (erased.expr y) ++ (lex is.Else ∷ bare (erased.expr z)))))) (bare_same x)
      ∙ ap (λ (ts : List Lexeme). lex is.If ∷ (bare x ++ (lex is.Then ∷ (ts ++ (lex is.Else ∷ bare (erased.expr z)))))) (bare_same y)
      ∙ ap (λ (ts : List Lexeme). lex is.If ∷ (bare x ++ (lex is.Then ∷ (bare y ++ (lex is.Else ∷ ts))))) (bare_same z)

  arguments_same : {n : _} (row : Row_of-Expr n) → out.argument_list (erased.exprs row) ≡ out.arguments row
  arguments_same end_of-Expr = refl
  arguments_same (more_of-Expr x rest) =
      ap (λ (ts : List Lexeme). lex is.Open ∷ (ts ++ (out.further_list (erased.exprs rest) ++ lex is.Shut ∷ []))) (bare_same x)
      ∙ ap (λ (ts : List Lexeme). lex is.Open ∷ (bare x ++ (ts ++ lex is.Shut ∷ []))) (further_same rest)

  further_same : {n : _} (row : Row_of-Expr n) → out.further_list (erased.exprs row) ≡ out.further row
  further_same end_of-Expr = refl
  further_same (more_of-Expr x rest) =
      ap (λ (ts : List Lexeme). lex is.Comma ∷ (ts ++ out.further_list (erased.exprs rest))) (bare_same x) ∙ ap (λ (ts : List Lexeme). lex is.Comma ∷ (bare x ++ ts)) (further_same rest)

-- the printed tokens spell the tree, and nothing that spells it has fewer nestings, places left aside
pub printed_fewest : PrintedIsFewest
unfolding Spells g.whole
printed_fewest m x fit = (whole_spelled m x fit, anywhere)
  where
    anywhere : (n : ℕ) (ts : List Lexeme) (y : Expr) → Spells (g.expr_in n) ts y → erased.expr y ≡ erased.expr x → nestings_in all_nestings (bare x) ≤ nestings_in all_nestings ts
    anywhere n ts y h same =
        let printed : bare y ≡ bare x = sym (bare_same y) ∙ ap bare same ∙ bare_same x in
        subst (λ (us : List Lexeme). nestings_in all_nestings us ≤ nestings_in all_nestings ts) printed (fewest n ts y h)

-- ---- formulas

formula_level_same : (x : Formula) → formula_level (erased.formula x) ≡ formula_level x
unfolding F.shape-the_row-Formula-0 F.hidden-the_row-Formula-0 denote.Hole.Carrier.hidden denote.Hole.Carrier.shown denote.Hole.Carrier.roll denote.Hole.Carrier.out
formula_level_same (f.Input n) = refl
formula_level_same (f.Both' p q (more_of-Formula x end_of-Formula) r (more_of-Formula y end_of-Formula)) = refl
formula_level_same (f.Either' p q (more_of-Formula x end_of-Formula) r (more_of-Formula y end_of-Formula)) = refl

print_formula_same : (x : Formula) (k : ℕ) → bare_formula (erased.formula x) ≡ bare_formula x → print_formula (erased.formula x) k ≡ print_formula x k
print_formula_same x k h =
    ap (λ (l : ℕ). bracketed_if (nat_lt l k) (bare_formula (erased.formula x))) (formula_level_same x) ∙ ap (λ (ts : List Lexeme). bracketed_if (nat_lt (formula_level x) k) ts) h

formula_same : (x : Formula) → bare_formula (erased.formula x) ≡ bare_formula x
unfolding F.shape-the_row-Formula-0 F.hidden-the_row-Formula-0 denote.Hole.Carrier.hidden denote.Hole.Carrier.shown denote.Hole.Carrier.roll denote.Hole.Carrier.out
formula_same (f.Input n) = refl
formula_same (f.Both' p q (more_of-Formula x end_of-Formula) r (more_of-Formula y end_of-Formula)) =
    ap (λ (ts : List Lexeme). ts ++ (lex is.And ∷ print_formula (erased.formula y) 2)) (print_formula_same x 1 (formula_same x))
    ∙ ap (λ (ts : List Lexeme). print_formula x 1 ++ (lex is.And ∷ ts)) (print_formula_same y 2 (formula_same y))
formula_same (f.Either' p q (more_of-Formula x end_of-Formula) r (more_of-Formula y end_of-Formula)) =
    ap (λ (ts : List Lexeme). ts ++ (lex is.Or ∷ print_formula (erased.formula y) 1)) (print_formula_same x 0 (formula_same x))
    ∙ ap (λ (ts : List Lexeme). print_formula x 0 ++ (lex is.Or ∷ ts)) (print_formula_same y 1 (formula_same y))

pub printed_formula_fewest : PrintedFormulaIsFewest
printed_formula_fewest m x fit = (formula_whole x m (formula_printed x m fit), anywhere)
  where
    anywhere : (n : ℕ) (ts : List Lexeme) (y : Formula) → Spells (g.formula_in n) ts y → erased.formula y ≡ erased.formula x → nestings_in all_nestings (bare_formula x) ≤ nestings_in all_nestings ts
    anywhere n ts y h same =
        let printed : bare_formula y ≡ bare_formula x = sym (formula_same y) ∙ ap bare_formula same ∙ formula_same x in
        subst (λ (us : List Lexeme). nestings_in all_nestings us ≤ nestings_in all_nestings ts) printed (fewest_of_formula n ts y h)
