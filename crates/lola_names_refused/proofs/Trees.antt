-- The names of each form of a tree.
use Rattle.std.proofs.Common.{◌≡◌, ℕ, suc, List, ◌++◌, Option, length, refl, ap, ap₂, ◌∙◌}
use Rattle.lola_parser_grammar.specs.declared.literals.Name.{Name}
use Rattle.lola_parser_grammar.specs.declared.expressions.Prefix.{Prefix}
use Rattle.lola_parser_grammar.specs.declared.expressions.Binary.{Binary}
use Rattle.lola_parser_grammar.specs.declared.expressions.Access.{Access}
use Rattle.lola_parser_grammar.specs.declared.expressions.Expr.{Expr, Row_of-Expr, more_of-Expr, end_of-Expr, items-the_row-Expr, items_hidden-the_row-Expr-0}
use Rattle.lola_parser_grammar.specs.declared.expressions.Expr.TheVariants as e
use Rattle.lola_parser_grammar.specs.declared.expressions.Expr.TheBlock as X
use Rattle.lola_parser_grammar.specs.declared.pacing.Formula.{Formula}
use Rattle.lola_parser_grammar.specs.declared.pacing.Formula.TheVariants as f
use Rattle.lola_parser_grammar.specs.declared.pacing.Formula.TheBlock as F
use mathlib.Core.Former.{Count}
use Rattle.lola_names_refused.specs.Known.{Known}
use Rattle.lola_names_refused.specs.Refused.{uses, argument_uses, all_uses, how_many, reference_use, formula_uses}

pub uses-Prefix : (ps ns : Known) (op : Prefix) (at : ℕ) (x : Expr) → uses ps ns (e.Prefix op at x) ≡ uses ps ns x
unfolding X.shape-the_row-Expr-1 X.hidden-the_row-Expr-1 denote.Hole.Carrier.hidden denote.Hole.Carrier.shown denote.Hole.Carrier.roll denote.Hole.Carrier.out
uses-Prefix ps ns op at x = refl

pub uses-Defaults : (ps ns : Known) (at : ℕ) (x y : Expr) → uses ps ns (e.Defaults at x y) ≡ uses ps ns x ++ uses ps ns y
unfolding X.shape-the_row-Expr-1 X.hidden-the_row-Expr-1 denote.Hole.Carrier.hidden denote.Hole.Carrier.shown denote.Hole.Carrier.roll denote.Hole.Carrier.out
uses-Defaults ps ns at x y = refl

pub uses-Binary : (ps ns : Known) (op : Binary) (at : ℕ) (x y : Expr) → uses ps ns (e.Binary op at x y) ≡ uses ps ns x ++ uses ps ns y
unfolding X.shape-the_row-Expr-1 X.hidden-the_row-Expr-1 denote.Hole.Carrier.hidden denote.Hole.Carrier.shown denote.Hole.Carrier.roll denote.Hole.Carrier.out
uses-Binary ps ns op at x y = refl

pub uses-If : (ps ns : Known) (at : ℕ) (x y z : Expr) → uses ps ns (e.If at x y z) ≡ uses ps ns x ++ (uses ps ns y ++ uses ps ns z)
unfolding X.shape-the_row-Expr-1 X.hidden-the_row-Expr-1 denote.Hole.Carrier.hidden denote.Hole.Carrier.shown denote.Hole.Carrier.roll denote.Hole.Carrier.out
uses-If ps ns at x y z = refl

uses_row : (ps ns : Known) (n : _) (row : Row_of-Expr n) → argument_uses ps ns row ≡ all_uses ps ns (items-the_row-Expr n row)
uses_row ps ns n end_of-Expr = refl
uses_row ps ns n (more_of-Expr x rest) = ap (λ l. uses ps ns x ++ l) (uses_row ps ns _ rest)

count_row : (n : _) (row : Row_of-Expr n) → how_many row ≡ length (items-the_row-Expr n row)
count_row n end_of-Expr = refl
count_row n (more_of-Expr x rest) = ap suc (count_row _ rest)

abbrev row_of : Expr → (n : Count) × Row_of-Expr n
row_of (e.Reference' n bracket shape row how) = (_, row)
row_of _ = (_, end_of-Expr)

pub uses-Reference : (ps ns : Known) (n : Name) (b : Option ℕ) (xs : List Expr) (how : Access)
    → uses ps ns (e.Reference n b xs how) ≡ reference_use ps ns n (length xs) how ++ all_uses ps ns xs
uses-Reference ps ns n b xs how =
    let row = row_of (e.Reference n b xs how) in
    ap₂ (λ k l. reference_use ps ns n k how ++ l)
    (count_row row.0 row.1 ∙ ap length (items_hidden-the_row-Expr-0 xs))
    (uses_row ps ns row.0 row.1 ∙ ap (all_uses ps ns) (items_hidden-the_row-Expr-0 xs))

pub formula-Both : (ns : Known) (at : ℕ) (x y : Formula) → formula_uses ns (f.Both at x y) ≡ formula_uses ns x ++ formula_uses ns y
unfolding F.shape-the_row-Formula-0 F.hidden-the_row-Formula-0 denote.Hole.Carrier.hidden denote.Hole.Carrier.shown denote.Hole.Carrier.roll denote.Hole.Carrier.out
formula-Both ns at x y = refl

pub formula-Either : (ns : Known) (at : ℕ) (x y : Formula) → formula_uses ns (f.Either at x y) ≡ formula_uses ns x ++ formula_uses ns y
unfolding F.shape-the_row-Formula-0 F.hidden-the_row-Formula-0 denote.Hole.Carrier.hidden denote.Hole.Carrier.shown denote.Hole.Carrier.roll denote.Hole.Carrier.out
formula-Either ns at x y = refl
