-- No spelling has fewer nestings than the printed one.
use Rattle.std.specs.Prelude.{◌≡◌, ℕ, suc, ◌≤◌, List, map}
use Rattle.lola_parser_grammar.specs.declared.expressions.Expr.{Expr}
use Rattle.lola_parser_grammar.specs.declared.pacing.Formula.{Formula}
use Rattle.lola_parser_grammar.specs.declared.declarations.Declaration.{Declaration}
use Rattle.lola_parser_grammar.specs.Syntax.{Lexeme, Spells}
use Rattle.lola_parser_grammar.specs.Nestings.{nestings_in, Fits}
use Rattle.lola_parser_grammar.specs.Grammar as g
use Rattle.lola_parser_grammar.specs.Grammar.{all_nestings}
use Rattle.lola_parser_print.specs.Print as out
use Rattle.lola_parser_law.specs.Erased as erased
use Rattle.lola_parser_law.specs.Erased.{formula_need}
use Rattle.lola_parser_law.specs.Fitting as fitting
use Rattle.lola_parser_law.specs.Fitting.{AllDeclarationsFit}

-- whatever tokens spell an expression, at whatever depth of nesting, the printed ones have no more nestings
abbrev pub FewestNestings : Type 0
FewestNestings = (n : ℕ) (ts : List Lexeme) (x : Expr) → Spells (g.expr_in n) ts x → nestings_in all_nestings (out.bare x) ≤ nestings_in all_nestings ts

-- the same of a formula of a pacing
abbrev pub FewestNestingsOfFormula : Type 0
FewestNestingsOfFormula = (n : ℕ) (ts : List Lexeme) (x : Formula) → Spells (g.formula_in n) ts x → nestings_in all_nestings (out.bare_formula x) ≤ nestings_in all_nestings ts

-- what is printed of an expression spells it, places left aside, and nothing that spells it has fewer nestings
abbrev pub PrintedIsFewest : Type 0
PrintedIsFewest =
    (m : ℕ) (x : Expr) → fitting.Fits m x
    → Spells (g.expr_in (suc m)) (out.bare x) (erased.expr x)
    × ((n : ℕ) (ts : List Lexeme) (y : Expr) → Spells (g.expr_in n) ts y → erased.expr y ≡ erased.expr x → nestings_in all_nestings (out.bare x) ≤ nestings_in all_nestings ts)

-- the same of a formula
abbrev pub PrintedFormulaIsFewest : Type 0
PrintedFormulaIsFewest =
    (m : ℕ) (x : Formula) → formula_need x ≤ m
    → Spells (g.formula_in (suc m)) (out.bare_formula x) (erased.formula x)
    × ((n : ℕ) (ts : List Lexeme) (y : Formula) → Spells (g.formula_in n) ts y → erased.formula y ≡ erased.formula x → nestings_in all_nestings (out.bare_formula x) ≤ nestings_in all_nestings ts)

-- where some spelling of a specification keeps the limit of nestings in each whole expression and formula, the printed one does
abbrev pub PrintedWithin : Type 0
PrintedWithin =
    (n m : ℕ) (ts : List Lexeme) (xs : List Declaration) → Fits all_nestings (g.specification n) ts xs → AllDeclarationsFit m xs
    → Fits all_nestings (g.specification (suc m)) (out.specification xs) (map erased.declaration xs)
