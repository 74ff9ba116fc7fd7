-- How each form of a tree is printed.
use Rattle.std.proofs.Common.{◌≡◌, ℕ, List, [], ◌∷◌, ◌++◌, Option, ◌⊎◌, inl, inr, refl, sym, ap, subst, ◌∙◌}
use Rattle.lola_lexer.specs.declared.shape.TokenShape.TheVariants as is
use Rattle.lola_parser_grammar.specs.declared.literals.Name.{Name}
use Rattle.lola_parser_grammar.specs.declared.literals.Literal.{Literal}
use Rattle.lola_parser_grammar.specs.declared.expressions.Prefix.{Prefix}
use Rattle.lola_parser_grammar.specs.declared.expressions.Prefix.TheVariants as pre
use Rattle.lola_parser_grammar.specs.declared.expressions.Binary.{Binary}
use Rattle.lola_parser_grammar.specs.declared.expressions.Access.{Access}
use Rattle.lola_parser_grammar.specs.declared.expressions.Expr.{Expr, Row_of-Expr, more_of-Expr, end_of-Expr, items-the_row-Expr, items_hidden-the_row-Expr-0}
use Rattle.lola_parser_grammar.specs.declared.expressions.Expr.TheVariants as e
use Rattle.lola_parser_grammar.specs.declared.expressions.Expr.TheBlock as X
use mathlib.Core.Former.{Count}
use Rattle.lola_parser_print.specs.Print.{lex, name, default_tail, access, access_or, tightness, left_of, heads, print, bare, level, signed, second, default_of, arguments, further, argument_list, further_list}

pub bare-Binary : (op : Binary) (at : ℕ) (x y : Expr) → bare (e.Binary op at x y) ≡ print x (left_of op) ++ second op y
unfolding X.shape-the_row-Expr-1 X.hidden-the_row-Expr-1 denote.Hole.Carrier.hidden denote.Hole.Carrier.shown denote.Hole.Carrier.roll denote.Hole.Carrier.out
bare-Binary op at x y = refl

pub bare-Prefix : (op : Prefix) (at : ℕ) (x : Expr) → bare (e.Prefix op at x) ≡ signed op x
unfolding X.shape-the_row-Expr-1 X.hidden-the_row-Expr-1 denote.Hole.Carrier.hidden denote.Hole.Carrier.shown denote.Hole.Carrier.roll denote.Hole.Carrier.out
bare-Prefix pre.Not at x = refl
bare-Prefix pre.Negate at x = refl

pub bare-If : (at : ℕ) (x y z : Expr) → bare (e.If at x y z) ≡ lex is.If ∷ (bare x ++ (lex is.Then ∷ (bare y ++ (lex is.Else ∷ bare z))))
unfolding X.shape-the_row-Expr-1 X.hidden-the_row-Expr-1 denote.Hole.Carrier.hidden denote.Hole.Carrier.shown denote.Hole.Carrier.roll denote.Hole.Carrier.out
bare-If at x y z = refl

further_row : (n : _) (row : Row_of-Expr n) → further row ≡ further_list (items-the_row-Expr n row)
further_row n end_of-Expr = refl
further_row n (more_of-Expr x rest) = ap (λ l. lex is.Comma ∷ (bare x ++ l)) (further_row _ rest)

arguments_row : (n : _) (row : Row_of-Expr n) → arguments row ≡ argument_list (items-the_row-Expr n row)
arguments_row n end_of-Expr = refl
arguments_row n (more_of-Expr x rest) = ap (λ l. lex is.Open ∷ (bare x ++ (l ++ lex is.Shut ∷ []))) (further_row _ rest)

abbrev row_of : Expr → (n : Count) × Row_of-Expr n
row_of (e.Reference' n bracket shape row how) = (_, row)
row_of _ = (_, end_of-Expr)

pub bare-Reference : (n : Name) (b : Option ℕ) (xs : List Expr) (how : Access) → bare (e.Reference n b xs how) ≡ name n ∷ (argument_list xs ++ access how)
bare-Reference n b xs how =
    let row = row_of (e.Reference n b xs how) in
    ap (λ l. name n ∷ (l ++ access how)) (arguments_row row.0 row.1 ∙ ap argument_list (items_hidden-the_row-Expr-0 xs))

pub default_of-Reference : (n : Name) (b : Option ℕ) (xs : List Expr) (how : Access) (y : Expr)
    → default_of (e.Reference n b xs how) y ≡ name n ∷ (argument_list xs ++ access_or how (bare y))
default_of-Reference n b xs how y =
    let row = row_of (e.Reference n b xs how) in
    ap (λ l. name n ∷ (l ++ access_or how (bare y))) (arguments_row row.0 row.1 ∙ ap argument_list (items_hidden-the_row-Expr-0 xs))

pub bare-Defaults : (at : ℕ) (x y : Expr) → bare (e.Defaults at x y) ≡ default_of x y
unfolding X.shape-the_row-Expr-1 X.hidden-the_row-Expr-1 denote.Hole.Carrier.hidden denote.Hole.Carrier.shown denote.Hole.Carrier.roll denote.Hole.Carrier.out
bare-Defaults at (e.Literal l) y = refl
bare-Defaults at (e.Reference' n bracket shape row how) y = refl
bare-Defaults at (e.Defaults' p q r s t) y = refl
bare-Defaults at (e.Prefix' op p q r) y = refl
bare-Defaults at (e.Binary' op p q r s t) y = refl
bare-Defaults at (e.If' p q r s t u v) y = refl

pub heads-Defaults : (at : ℕ) (x y : Expr) → heads (e.Defaults at x y) ≡ heads x
unfolding X.shape-the_row-Expr-1 X.hidden-the_row-Expr-1 denote.Hole.Carrier.hidden denote.Hole.Carrier.shown denote.Hole.Carrier.roll denote.Hole.Carrier.out
heads-Defaults at x y = refl

pub level-Prefix : (op : Prefix) (at : ℕ) (x : Expr) → level (e.Prefix op at x) ≡ 6
unfolding X.shape-the_row-Expr-1 X.hidden-the_row-Expr-1 denote.Hole.Carrier.hidden denote.Hole.Carrier.shown denote.Hole.Carrier.roll denote.Hole.Carrier.out
level-Prefix op at x = refl

pub level-Binary : (op : Binary) (at : ℕ) (x y : Expr) → level (e.Binary op at x y) ≡ tightness op
unfolding X.shape-the_row-Expr-1 X.hidden-the_row-Expr-1 denote.Hole.Carrier.hidden denote.Hole.Carrier.shown denote.Hole.Carrier.roll denote.Hole.Carrier.out
level-Binary op at x y = refl

pub level-If : (at : ℕ) (x y z : Expr) → level (e.If at x y z) ≡ 0
unfolding X.shape-the_row-Expr-1 X.hidden-the_row-Expr-1 denote.Hole.Carrier.hidden denote.Hole.Carrier.shown denote.Hole.Carrier.roll denote.Hole.Carrier.out
level-If at x y z = refl

pub level-Reference : (n : Name) (b : Option ℕ) (xs : List Expr) (how : Access) → level (e.Reference n b xs how) ≡ 8
level-Reference n b xs how = refl

pub level-Defaults : (at : ℕ) (x y : Expr) → level (e.Defaults at x y) ≡ 8
unfolding X.shape-the_row-Expr-1 X.hidden-the_row-Expr-1 denote.Hole.Carrier.hidden denote.Hole.Carrier.shown denote.Hole.Carrier.roll denote.Hole.Carrier.out
level-Defaults at x y = refl

-- what is no reference
abbrev pub IsOther : Expr → Type 0
IsOther x =
    ((l : Literal) × (x ≡ e.Literal l)) ⊎ (((p : ℕ) × (a b : Expr) × (x ≡ e.Defaults p a b)) ⊎ (((op : Prefix) × (p : ℕ) × (a : Expr) × (x ≡ e.Prefix op p a))
    ⊎ (((op : Binary) × (p : ℕ) × (a b : Expr) × (x ≡ e.Binary op p a b)) ⊎ ((p : ℕ) × (a b c : Expr) × (x ≡ e.If p a b c)))))

pub default_of-other : (x y : Expr) → IsOther x → default_of x y ≡ print x 7 ++ default_tail (bare y)
default_of-other x y (inl (l, is)) = subst (λ z. default_of z y ≡ print z 7 ++ default_tail (bare y)) (sym is) refl
default_of-other x y (inr (inl (p, a, b, is))) = subst (λ z. default_of z y ≡ print z 7 ++ default_tail (bare y)) (sym is) refl
default_of-other x y (inr (inr (inl (op, p, a, is)))) = subst (λ z. default_of z y ≡ print z 7 ++ default_tail (bare y)) (sym is) refl
default_of-other x y (inr (inr (inr (inl (op, p, a, b, is))))) = subst (λ z. default_of z y ≡ print z 7 ++ default_tail (bare y)) (sym is) refl
default_of-other x y (inr (inr (inr (inr (p, a, b, c, is))))) = subst (λ z. default_of z y ≡ print z 7 ++ default_tail (bare y)) (sym is) refl
