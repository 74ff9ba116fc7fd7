-- Each form of an expression: with places left aside, and what is printed of it.
use Rattle.std.specs.Bool.{if◌then◌else◌}
use Rattle.std.proofs.Common.{◌≡◌, ℕ, suc, Bool, true, false, ◌||◌, ◌==◌, List, [], ◌∷◌, ◌++◌, map, Option, refl, sym, ap, subst, ◌∙◌}
use Rattle.std.specs.Prelude.{codes, nat_lt}
use Rattle.std.proofs.lemmas.List.Sums.{AllPass-from_list_all}
use Rattle.lola_lexer.specs.declared.shape.TokenShape.TheVariants as is
use Rattle.lola_lexer.specs.Spelling.{in_name}
use Rattle.lola_parser_grammar.specs.declared.literals.Name.{Name}
use Rattle.lola_parser_grammar.specs.declared.literals.Literal.{Literal}
use Rattle.lola_parser_grammar.specs.declared.literals.Quantity.{Quantity}
use Rattle.lola_parser_grammar.specs.declared.expressions.Prefix.{Prefix}
use Rattle.lola_parser_grammar.specs.declared.expressions.Prefix.TheVariants as pre
use Rattle.lola_parser_grammar.specs.declared.expressions.Binary.{Binary}
use Rattle.lola_parser_grammar.specs.declared.expressions.Binary.TheVariants as by
use Rattle.lola_parser_grammar.specs.declared.expressions.Access.{Access}
use Rattle.lola_parser_grammar.specs.declared.expressions.Access.TheVariants as a
use Rattle.lola_parser_grammar.specs.declared.expressions.Expr.{Expr, Row_of-Expr, more_of-Expr, end_of-Expr, items-the_row-Expr, items_hidden-the_row-Expr-0}
use Rattle.lola_parser_grammar.specs.declared.expressions.Expr.TheVariants as e
use Rattle.lola_parser_grammar.specs.declared.expressions.Expr.TheBlock as X
use mathlib.Core.Former.{Count}
use Rattle.lola_parser_grammar.specs.Syntax.{Lexeme}
use Rattle.lola_parser_print.specs.Print as out
use Rattle.lola_parser_print.specs.Print.{lex, bare, level, heads, print, tightness, left_of, shape_of, second, signed, default_of, argument_list, further_list}
use Rattle.lola_parser_print.proofs.Equations.{bare-Binary, bare-Prefix, bare-If, bare-Reference, bare-Defaults}
use Rattle.lola_parser_law.specs.Erased as erased
use Rattle.lola_parser_law.specs.Erased.{AccessReads, ExprReads, RowReads}
use Rattle.lola_parser_law.specs.Places.{IsLexed, AreLexed}
use Rattle.lola_parser_law.proofs.Carried.{Each}
use Rattle.lola_parser_law.proofs.Leaves.{lexed-append, lexed_front, lexed_back, word_lexed, lexed_bracketed, lexed_if, IntegerIs, QuantityIs, ValueIs, SameName, erased_name, SameLiteral, erased_literal}

-- ---- words that are printed

pub defaults_lexed : IsLexed (out.word (codes "defaults"))
defaults_lexed = word_lexed (codes "defaults") (refl, AllPass-from_list_all in_name (codes "defaults") refl) refl

pub to_lexed : IsLexed (out.word (codes "to"))
to_lexed = word_lexed (codes "to") (refl, AllPass-from_list_all in_name (codes "to") refl) refl

pub or_lexed : IsLexed (out.word (codes "or"))
or_lexed = word_lexed (codes "or") (refl, AllPass-from_list_all in_name (codes "or") refl) refl

pub last_lexed : IsLexed (out.word (codes "last"))
last_lexed = word_lexed (codes "last") (refl, AllPass-from_list_all in_name (codes "last") refl) refl

pub offset_lexed : IsLexed (out.word (codes "offset"))
offset_lexed = word_lexed (codes "offset") (refl, AllPass-from_list_all in_name (codes "offset") refl) refl

pub by_lexed : IsLexed (out.word (codes "by"))
by_lexed = word_lexed (codes "by") (refl, AllPass-from_list_all in_name (codes "by") refl) refl

pub hold_lexed : IsLexed (out.word (codes "hold"))
hold_lexed = word_lexed (codes "hold") (refl, AllPass-from_list_all in_name (codes "hold") refl) refl

pub get_lexed : IsLexed (out.word (codes "get"))
get_lexed = word_lexed (codes "get") (refl, AllPass-from_list_all in_name (codes "get") refl) refl

pub aggregate_lexed : IsLexed (out.word (codes "aggregate"))
aggregate_lexed = word_lexed (codes "aggregate") (refl, AllPass-from_list_all in_name (codes "aggregate") refl) refl

pub using_lexed : IsLexed (out.word (codes "using"))
using_lexed = word_lexed (codes "using") (refl, AllPass-from_list_all in_name (codes "using") refl) refl

pub over_lexed : (b : Bool) → IsLexed (out.word (out.over_word b))
over_lexed true = word_lexed (codes "over_exactly") (refl, AllPass-from_list_all in_name (codes "over_exactly") refl) refl
over_lexed false = word_lexed (codes "over") (refl, AllPass-from_list_all in_name (codes "over") refl) refl

pub global_lexed : IsLexed (out.word (codes "Global"))
global_lexed = word_lexed (codes "Global") (refl, AllPass-from_list_all in_name (codes "Global") refl) refl

pub local_lexed : IsLexed (out.word (codes "Local"))
local_lexed = word_lexed (codes "Local") (refl, AllPass-from_list_all in_name (codes "Local") refl) refl

-- ---- accesses

lexed_call : (w : List ℕ) (ts : List Lexeme) → IsLexed (out.word w) → AreLexed ts → AreLexed (out.call w ts)
lexed_call w ts h k = (refl, (h, lexed_bracketed ts k))

lexed_labelled : (w : List ℕ) (ts : List Lexeme) → IsLexed (out.word w) → AreLexed ts → AreLexed (out.labelled w ts)
lexed_labelled w ts h k = (h, (refl, k))

lexed_default : (ts : List Lexeme) → AreLexed ts → AreLexed (out.default_tail ts)
lexed_default ts h = lexed_call (codes "defaults") (out.labelled (codes "to") ts) defaults_lexed (lexed_labelled (codes "to") ts to_lexed h)

pub record AccessIs (how : Access) : Type 0 where
  pub reads : AccessReads how
  pub lexed : AreLexed (out.access how)

offset_by : (k : ℕ) (b : Bool) → IntegerIs k
    → AreLexed (if b then out.call (codes "last") [] else out.call (codes "offset") (out.labelled (codes "by") (lex is.Minus ∷ out.integer k ∷ [])))
offset_by k true h = lexed_call (codes "last") [] last_lexed tt
offset_by k false h =
    lexed_call (codes "offset") (out.labelled (codes "by") (lex is.Minus ∷ out.integer k ∷ [])) offset_lexed
    (lexed_labelled (codes "by") (lex is.Minus ∷ out.integer k ∷ []) by_lexed (refl, (h.1, tt)))

pub direct_is : AccessIs a.Direct
direct_is = record { reads = tt; lexed = tt }

pub offset_is : (dot k at : ℕ) → IntegerIs k → AccessIs (a.Offset dot k at)
offset_is dot k at h = record { reads = h.0; lexed = offset_by k (k == 1) h }

pub hold_is : (dot : ℕ) → AccessIs (a.Hold dot)
hold_is dot = record { reads = tt; lexed = lexed_call (codes "hold") [] hold_lexed tt }

pub get_is : (dot : ℕ) → AccessIs (a.Get dot)
get_is dot = record { reads = tt; lexed = lexed_call (codes "get") [] get_lexed tt }

pub window_is : (dot : ℕ) (exactly : Bool) (q : Quantity) (n : Name) → QuantityIs q → IsLexed (out.name n) → AccessIs (a.Window dot exactly q n)
window_is dot exactly q n h k =
    record {
      reads = h.0;
      lexed = lexed_call (codes "aggregate") (out.labelled (out.over_word exactly) (out.quantity q ∷ lex is.Comma ∷ out.labelled (codes "using") (out.name n ∷ []))) aggregate_lexed
          (lexed_labelled (out.over_word exactly) (out.quantity q ∷ lex is.Comma ∷ out.labelled (codes "using") (out.name n ∷ [])) (over_lexed exactly)
          (h.1, (refl, lexed_labelled (codes "using") (out.name n ∷ []) using_lexed (k, tt))));
    }

offset_or : (k : ℕ) (b : Bool) (ts : List Lexeme)
    → AreLexed (if b then out.call (codes "last") [] else out.call (codes "offset") (out.labelled (codes "by") (lex is.Minus ∷ out.integer k ∷ []))) → AreLexed ts
    → AreLexed (if b then out.call (codes "last") (out.labelled (codes "or") ts) else out.call (codes "offset") (out.labelled (codes "by") (lex is.Minus ∷ out.integer k ∷ [])) ++ out.default_tail ts)
offset_or k true ts h w = lexed_call (codes "last") (out.labelled (codes "or") ts) last_lexed (lexed_labelled (codes "or") ts or_lexed w)
offset_or k false ts h w = lexed-append (out.call (codes "offset") (out.labelled (codes "by") (lex is.Minus ∷ out.integer k ∷ []))) (out.default_tail ts) h (lexed_default ts w)

-- with a value that stands in
lexed_or : (how : Access) (ts : List Lexeme) → AreLexed (out.access how) → AreLexed ts → AreLexed (out.access_or how ts)
lexed_or a.Direct ts h k = lexed_default ts k
lexed_or (a.Offset dot n at) ts h k = offset_or n (n == 1) ts h k
lexed_or (a.Hold dot) ts h k = lexed_call (codes "hold") (out.labelled (codes "or") ts) hold_lexed (lexed_labelled (codes "or") ts or_lexed k)
lexed_or (a.Get dot) ts h k = lexed_call (codes "get") (out.labelled (codes "or") ts) get_lexed (lexed_labelled (codes "or") ts or_lexed k)
lexed_or (a.Window dot exactly q n) ts h k = lexed-append (out.access (a.Window dot exactly q n)) (out.default_tail ts) h (lexed_default ts k)

-- ---- expressions

pub record ExprIs (x : Expr) : Type 0 where
  pub reads : ExprReads x
  pub lexed : AreLexed (bare x)

lexed_print : (x : Expr) (k : ℕ) → AreLexed (bare x) → AreLexed (print x k)
lexed_print x k h = lexed_if (nat_lt (level x) k) (bare x) h

pub literal_is : (l : Literal) → ValueIs l.value → ExprIs (e.Literal l)
literal_is l h = record { reads = h.0; lexed = h.1 }

reads-Binary : (op : Binary) (at : ℕ) (x y : Expr) → ExprReads x → ExprReads y → ExprReads (e.Binary op at x y)
unfolding X.shape-the_row-Expr-1 X.hidden-the_row-Expr-1 denote.Hole.Carrier.hidden denote.Hole.Carrier.shown denote.Hole.Carrier.roll denote.Hole.Carrier.out
reads-Binary op at x y h k = (h, k)

reads-Defaults : (at : ℕ) (x y : Expr) → ExprReads x → ExprReads y → ExprReads (e.Defaults at x y)
unfolding X.shape-the_row-Expr-1 X.hidden-the_row-Expr-1 denote.Hole.Carrier.hidden denote.Hole.Carrier.shown denote.Hole.Carrier.roll denote.Hole.Carrier.out
reads-Defaults at x y h k = (h, k)

reads-Prefix : (op : Prefix) (at : ℕ) (x : Expr) → ExprReads x → ExprReads (e.Prefix op at x)
unfolding X.shape-the_row-Expr-1 X.hidden-the_row-Expr-1 denote.Hole.Carrier.hidden denote.Hole.Carrier.shown denote.Hole.Carrier.roll denote.Hole.Carrier.out
reads-Prefix op at x h = h

reads-If : (at : ℕ) (x y z : Expr) → ExprReads x → ExprReads y → ExprReads z → ExprReads (e.If at x y z)
unfolding X.shape-the_row-Expr-1 X.hidden-the_row-Expr-1 denote.Hole.Carrier.hidden denote.Hole.Carrier.shown denote.Hole.Carrier.roll denote.Hole.Carrier.out
reads-If at x y z h k l = (h, k, l)

pub erased-Binary : (op : Binary) (at : ℕ) (x y : Expr) → erased.expr (e.Binary op at x y) ≡ e.Binary op 0 (erased.expr x) (erased.expr y)
unfolding X.shape-the_row-Expr-1 X.hidden-the_row-Expr-1 denote.Hole.Carrier.hidden denote.Hole.Carrier.shown denote.Hole.Carrier.roll denote.Hole.Carrier.out
erased-Binary op at x y = refl

pub erased-Defaults : (at : ℕ) (x y : Expr) → erased.expr (e.Defaults at x y) ≡ e.Defaults 0 (erased.expr x) (erased.expr y)
unfolding X.shape-the_row-Expr-1 X.hidden-the_row-Expr-1 denote.Hole.Carrier.hidden denote.Hole.Carrier.shown denote.Hole.Carrier.roll denote.Hole.Carrier.out
erased-Defaults at x y = refl

pub erased-Prefix : (op : Prefix) (at : ℕ) (x : Expr) → erased.expr (e.Prefix op at x) ≡ e.Prefix op 0 (erased.expr x)
unfolding X.shape-the_row-Expr-1 X.hidden-the_row-Expr-1 denote.Hole.Carrier.hidden denote.Hole.Carrier.shown denote.Hole.Carrier.roll denote.Hole.Carrier.out
erased-Prefix op at x = refl

pub erased-If : (at : ℕ) (x y z : Expr) → erased.expr (e.If at x y z) ≡ e.If 0 (erased.expr x) (erased.expr y) (erased.expr z)
unfolding X.shape-the_row-Expr-1 X.hidden-the_row-Expr-1 denote.Hole.Carrier.hidden denote.Hole.Carrier.shown denote.Hole.Carrier.roll denote.Hole.Carrier.out
erased-If at x y z = refl

operator_lexed : (op : Binary) → IsLexed (lex (shape_of op))
operator_lexed by.Or = refl
operator_lexed by.And = refl
operator_lexed by.Equal = refl
operator_lexed by.Unequal = refl
operator_lexed by.Less = refl
operator_lexed by.LessEqual = refl
operator_lexed by.Greater = refl
operator_lexed by.GreaterEqual = refl
operator_lexed by.Add = refl
operator_lexed by.Subtract = refl
operator_lexed by.Multiply = refl
operator_lexed by.Divide = refl
operator_lexed by.Remainder = refl

binary_is : (op : Binary) (at : ℕ) (x y : Expr) → ExprIs x → ExprIs y → ExprIs (e.Binary op at x y)
binary_is op at x y h k =
    record {
      reads = reads-Binary op at x y h.reads k.reads;
      lexed = subst AreLexed (sym (bare-Binary op at x y))
          (lexed-append (print x (left_of op)) (second op y) (lexed_print x (left_of op) h.lexed) (operator_lexed op, lexed_print y (suc (tightness op)) k.lexed));
    }

signed_lexed : (op : Prefix) (x : Expr) → AreLexed (bare x) → AreLexed (signed op x)
signed_lexed pre.Not x h = (refl, lexed_print x 6 h)
signed_lexed pre.Negate x h = (refl, lexed_if (heads x || nat_lt (level x) 6) (bare x) h)

prefix_is : (op : Prefix) (at : ℕ) (x : Expr) → ExprIs x → ExprIs (e.Prefix op at x)
prefix_is op at x h =
    record { reads = reads-Prefix op at x h.reads; lexed = subst AreLexed (sym (bare-Prefix op at x)) (signed_lexed op x h.lexed) }

if_is : (at : ℕ) (x y z : Expr) → ExprIs x → ExprIs y → ExprIs z → ExprIs (e.If at x y z)
if_is at x y z h k l =
    record {
      reads = reads-If at x y z h.reads k.reads l.reads;
      lexed = subst AreLexed (sym (bare-If at x y z))
          (refl, lexed-append (bare x) (lex is.Then ∷ (bare y ++ (lex is.Else ∷ bare z))) h.lexed (refl, lexed-append (bare y) (lex is.Else ∷ bare z) k.lexed (refl, l.lexed)));
    }

-- a value that stands in, behind an expression
default_lexed : (x y : Expr) → AreLexed (bare x) → AreLexed (bare y) → AreLexed (default_of x y)
default_lexed (e.Reference' n b shape row how) y h k = (
  h.0,
  lexed-append (out.arguments row) (out.access_or how (bare y)) (lexed_front (out.arguments row) (out.access how) h.1)
      (lexed_or how (bare y) (lexed_back (out.arguments row) (out.access how) h.1) k),
)
default_lexed (e.Literal l) y h k = lexed-append (print (e.Literal l) 7) (out.default_tail (bare y)) (lexed_print (e.Literal l) 7 h) (lexed_default (bare y) k)
default_lexed (e.Defaults' p q r s t) y h k = lexed-append (print (e.Defaults' p q r s t) 7) (out.default_tail (bare y)) (lexed_print (e.Defaults' p q r s t) 7 h) (lexed_default (bare y) k)
default_lexed (e.Prefix' op p q r) y h k = lexed-append (print (e.Prefix' op p q r) 7) (out.default_tail (bare y)) (lexed_print (e.Prefix' op p q r) 7 h) (lexed_default (bare y) k)
default_lexed (e.Binary' op p q r s t) y h k = lexed-append (print (e.Binary' op p q r s t) 7) (out.default_tail (bare y)) (lexed_print (e.Binary' op p q r s t) 7 h) (lexed_default (bare y) k)
default_lexed (e.If' p q r s t u v) y h k = lexed-append (print (e.If' p q r s t u v) 7) (out.default_tail (bare y)) (lexed_print (e.If' p q r s t u v) 7 h) (lexed_default (bare y) k)

defaults_is : (at : ℕ) (x y : Expr) → ExprIs x → ExprIs y → ExprIs (e.Defaults at x y)
defaults_is at x y h k =
    record { reads = reads-Defaults at x y h.reads k.reads; lexed = subst AreLexed (sym (bare-Defaults at x y)) (default_lexed x y h.lexed k.lexed) }

-- ---- names with arguments

abbrev pub AllExprs : List Expr → Type 0
AllExprs [] = Unit {0}
AllExprs (x ∷ xs) = ExprIs x × AllExprs xs

further_lexed : (xs : List Expr) → AllExprs xs → AreLexed (further_list xs)
further_lexed [] h = tt
further_lexed (x ∷ xs) h = (refl, lexed-append (bare x) (further_list xs) h.0.lexed (further_lexed xs h.1))

arguments_lexed : (xs : List Expr) → AllExprs xs → AreLexed (argument_list xs)
arguments_lexed [] h = tt
arguments_lexed (x ∷ xs) h =
    (refl, lexed-append (bare x) (further_list xs ++ lex is.Shut ∷ []) h.0.lexed (lexed-append (further_list xs) (lex is.Shut ∷ []) (further_lexed xs h.1) (refl, tt)))

abbrev row_of : Expr → (n : Count) × Row_of-Expr n
row_of (e.Reference' n bracket shape row how) = (_, row)
row_of _ = (_, end_of-Expr)

exprs_row : (n : _) (row : Row_of-Expr n) → erased.exprs row ≡ map erased.expr (items-the_row-Expr n row)
exprs_row n end_of-Expr = refl
exprs_row n (more_of-Expr x rest) = ap (λ (l : List Expr). erased.expr x ∷ l) (exprs_row _ rest)

row_reads : (n : _) (row : Row_of-Expr n) → AllExprs (items-the_row-Expr n row) → RowReads row
row_reads n end_of-Expr h = tt
row_reads n (more_of-Expr x rest) h = (h.0.reads, row_reads _ rest h.1)

pub erased-Reference : (n : Name) (b : Option ℕ) (xs : List Expr) (how : Access)
    → erased.expr (e.Reference n b xs how) ≡ e.Reference (erased.name n) (erased.bracket (map erased.expr xs)) (map erased.expr xs) (erased.access how)
erased-Reference n b xs how =
    let row = row_of (e.Reference n b xs how) in
    ap (λ (l : List Expr). e.Reference (erased.name n) (erased.bracket l) l (erased.access how)) (exprs_row row.0 row.1 ∙ ap (map erased.expr) (items_hidden-the_row-Expr-0 xs))

reads-Reference : (n : Name) (b : Option ℕ) (xs : List Expr) (how : Access) → AllExprs xs → AccessReads how → ExprReads (e.Reference n b xs how)
reads-Reference n b xs how h k =
    let row = row_of (e.Reference n b xs how) in
    (row_reads row.0 row.1 (subst AllExprs (sym (items_hidden-the_row-Expr-0 xs)) h), k)

reference_is : (n : Name) (b : Option ℕ) (xs : List Expr) (how : Access) → IsLexed (out.name n) → AllExprs xs → AccessIs how → ExprIs (e.Reference n b xs how)
reference_is n b xs how h k l =
    record {
      reads = reads-Reference n b xs how k l.reads;
      lexed = subst AreLexed (sym (bare-Reference n b xs how)) (h, lexed-append (argument_list xs) (out.access how) (arguments_lexed xs k) l.lexed);
    }

-- ---- the same forms at other places

module _ (W : Type 0) where
  pub record SameAccess (h k : Access) : Type 0 where
    pub erased : erased.access h ≡ erased.access k
    pub known : W → AccessIs h

  pub record SameExpr (x y : Expr) : Type 0 where
    pub erased : erased.expr x ≡ erased.expr y
    pub known : W → ExprIs x

  pub same_literal : (l m : Literal) → SameLiteral W l m → SameExpr (e.Literal l) (e.Literal m)
  same_literal l m h = record { erased = ap (λ (k : Literal). e.Literal k) (erased_literal W l m h); known = λ w. literal_is l (h.known w) }

  pub same_binary : (op op' : Binary) (at at' : ℕ) (x x' y y' : Expr) → op ≡ op' → SameExpr x x' → SameExpr y y' → SameExpr (e.Binary op at x y) (e.Binary op' at' x' y')
  same_binary op op' at at' x x' y y' s h k =
      record {
        erased = erased-Binary op at x y ∙ ap (λ o. e.Binary o 0 (erased.expr x) (erased.expr y)) s ∙ ap (λ z. e.Binary op' 0 z (erased.expr y)) h.erased
            ∙ ap (λ z. e.Binary op' 0 (erased.expr x') z) k.erased ∙ sym (erased-Binary op' at' x' y');
        known = λ w. binary_is op at x y (h.known w) (k.known w);
      }

  pub same_defaults : (at at' : ℕ) (x x' y y' : Expr) → SameExpr x x' → SameExpr y y' → SameExpr (e.Defaults at x y) (e.Defaults at' x' y')
  same_defaults at at' x x' y y' h k =
      record {
        erased = erased-Defaults at x y ∙ ap (λ z. e.Defaults 0 z (erased.expr y)) h.erased ∙ ap (λ z. e.Defaults 0 (erased.expr x') z) k.erased ∙ sym (erased-Defaults at' x' y');
        known = λ w. defaults_is at x y (h.known w) (k.known w);
      }

  pub same_prefix : (op : Prefix) (at at' : ℕ) (x x' : Expr) → SameExpr x x' → SameExpr (e.Prefix op at x) (e.Prefix op at' x')
  same_prefix op at at' x x' h =
      record {
        erased = erased-Prefix op at x ∙ ap (λ z. e.Prefix op 0 z) h.erased ∙ sym (erased-Prefix op at' x');
        known = λ w. prefix_is op at x (h.known w);
      }

  pub same_if : (at at' : ℕ) (x x' y y' z z' : Expr) → SameExpr x x' → SameExpr y y' → SameExpr z z' → SameExpr (e.If at x y z) (e.If at' x' y' z')
  same_if at at' x x' y y' z z' h k l =
      record {
        erased = erased-If at x y z ∙ ap (λ u. e.If 0 u (erased.expr y) (erased.expr z)) h.erased ∙ ap (λ u. e.If 0 (erased.expr x') u (erased.expr z)) k.erased
            ∙ ap (λ u. e.If 0 (erased.expr x') (erased.expr y') u) l.erased ∙ sym (erased-If at' x' y' z');
        known = λ w. if_is at x y z (h.known w) (k.known w) (l.known w);
      }

  erased_each : (xs ys : List Expr) → Each SameExpr xs ys → map erased.expr xs ≡ map erased.expr ys
  erased_each [] [] h = refl
  erased_each [] (y ∷ ys) h = absurd h
  erased_each (x ∷ xs) [] h = absurd h
  erased_each (x ∷ xs) (y ∷ ys) h = ap (λ (z : Expr). z ∷ map erased.expr xs) h.0.erased ∙ ap (λ (l : List Expr). erased.expr y ∷ l) (erased_each xs ys h.1)

  known_each : (xs ys : List Expr) → Each SameExpr xs ys → W → AllExprs xs
  known_each [] ys h w = tt
  known_each (x ∷ xs) [] h w = absurd h
  known_each (x ∷ xs) (y ∷ ys) h w = (h.0.known w, known_each xs ys h.1 w)

  pub same_reference : (n m : Name) (b c : Option ℕ) (xs ys : List Expr) (how how' : Access) → SameName W n m → Each SameExpr xs ys → SameAccess how how'
      → SameExpr (e.Reference n b xs how) (e.Reference m c ys how')
  same_reference n m b c xs ys how how' h k l =
      record {
        erased = erased-Reference n b xs how ∙ ap (λ (z : Name). e.Reference z (erased.bracket (map erased.expr xs)) (map erased.expr xs) (erased.access how)) (erased_name W n m h)
            ∙ ap (λ (r : List Expr). e.Reference (erased.name m) (erased.bracket r) r (erased.access how)) (erased_each xs ys k)
            ∙ ap (λ (r : Access). e.Reference (erased.name m) (erased.bracket (map erased.expr ys)) (map erased.expr ys) r) l.erased ∙ sym (erased-Reference m c ys how');
        known = λ w. reference_is n b xs how (h.lexed w) (known_each xs ys k w) (l.known w);
      }
