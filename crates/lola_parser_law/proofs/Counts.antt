-- How many nestings are printed of each form of a tree.
use Rattle.std.proofs.Common.{◌≡◌, ℕ, suc, ◌+◌, ◌≤◌, ◌<◌, Bool, true, false, not, ◌||◌, List, [], ◌∷◌, ◌++◌, Option, refl, ap, ◌∙◌, ◌⊎◌, arith, inl, inr, lt-ltb, ltb-true}
use Rattle.std.specs.Bool.{if◌then◌else◌}
use Rattle.std.specs.Prelude.{nat_lt, codes, ◌==◌}
use Rattle.std.proofs.lemmas.Bool.{cases_lt, or_left}
use Rattle.lola_lexer.specs.declared.shape.TokenShape.{TokenShape}
use Rattle.lola_lexer.specs.declared.shape.TokenShape.TheVariants as is
use Rattle.lola_parser_grammar.specs.declared.literals.Name.{Name}
use Rattle.lola_parser_grammar.specs.declared.literals.Quantity.{Quantity}
use Rattle.lola_parser_grammar.specs.declared.literals.Value.TheVariants as value
use Rattle.lola_parser_grammar.specs.declared.expressions.Prefix.{Prefix}
use Rattle.lola_parser_grammar.specs.declared.expressions.Prefix.TheVariants as pre
use Rattle.lola_parser_grammar.specs.declared.expressions.Binary.{Binary}
use Rattle.lola_parser_grammar.specs.declared.expressions.Binary.TheVariants as by
use Rattle.lola_parser_grammar.specs.declared.expressions.Access.{Access}
use Rattle.lola_parser_grammar.specs.declared.expressions.Access.TheVariants as a
use Rattle.lola_parser_grammar.specs.declared.expressions.Expr.{Expr}
use Rattle.lola_parser_grammar.specs.declared.expressions.Expr.TheVariants as e
use Rattle.lola_parser_grammar.specs.declared.expressions.Expr.TheBlock as X
use Rattle.lola_parser_grammar.specs.Syntax.{Lexeme, Of, fits, clashes, listed, same_shape}
use Rattle.lola_parser_grammar.specs.Nestings.{nestings_in}
use Rattle.lola_parser_grammar.proofs.Tests.{shapes_same}
use Rattle.lola_parser_grammar.proofs.Within.{nestings-append, nesting_one, token_none}
use Rattle.lola_parser_grammar.specs.Grammar.{all_nestings}
use Rattle.lola_parser_print.specs.Print as out
use Rattle.lola_parser_print.specs.Print.{lex, lex_of, bare, print, level, heads, tightness, left_of, shape_of, bracketed, bracketed_if}
use Rattle.lola_parser_print.proofs.Equations.{bare-Binary, bare-Prefix, bare-If, bare-Reference, bare-Defaults, default_of-Reference, heads-Defaults, level-Prefix, level-Binary, level-Defaults}

-- how many nestings there are among the tokens
unfoldable pub count : List Lexeme → ℕ
count ts = nestings_in all_nestings ts

pub count_is : (ts : List Lexeme) → count ts ≡ nestings_in all_nestings ts
unfolding count
count_is ts = refl

pub count-nil : count [] ≡ 0
unfolding count
count-nil = refl

pub count-append : (u v : List Lexeme) → count (u ++ v) ≡ count u + count v
unfolding count
count-append u v = nestings-append all_nestings u v

pub count-cons : (t : Lexeme) (ts : List Lexeme) → count (t ∷ ts) ≡ count (t ∷ []) + count ts
count-cons t ts = count-append (t ∷ []) ts

shape_fits : (s : TokenShape) (w : List ℕ) → fits (Of s) (lex_of s w) ≡ true
unfolding fits
shape_fits s w = shapes_same s s refl

pub one_nesting : (s : TokenShape) (t : Lexeme) → listed (Of s) all_nestings ≡ true → fits (Of s) t ≡ true → count (t ∷ []) ≡ 1
unfolding count
one_nesting s t h f = nesting_one all_nestings (Of s) t h f

no_nesting : (s : TokenShape) (w : List ℕ) → not (clashes (Of s) all_nestings) ≡ true → count (lex_of s w ∷ []) ≡ 0
unfolding count
no_nesting s w h = token_none all_nestings (Of s) (lex_of s w) h (shape_fits s w)

pub with_nestings : (s : TokenShape) → listed (Of s) all_nestings ≡ true → (ts : List Lexeme) → count (lex s ∷ ts) ≡ suc (count ts)
with_nestings s h ts = omega (arith, count-cons (lex s) ts, one_nesting s (lex s) h (shape_fits s (lex s).text))

free : (s : TokenShape) (w : List ℕ) → not (clashes (Of s) all_nestings) ≡ true → (ts : List Lexeme) → count (lex_of s w ∷ ts) ≡ count ts
free s w h ts = omega (arith, count-cons (lex_of s w) ts, no_nesting s w h)

-- ---- which tokens are nestings

pub is-Open : listed (Of is.Open) all_nestings ≡ true
unfolding same_shape
is-Open = refl

pub is-Dot : listed (Of is.Dot) all_nestings ≡ true
unfolding same_shape
is-Dot = refl

pub is-If : listed (Of is.If) all_nestings ≡ true
unfolding same_shape
is-If = refl

pub is-Not : listed (Of is.Not) all_nestings ≡ true
unfolding same_shape
is-Not = refl

pub is-Minus : listed (Of is.Minus) all_nestings ≡ true
unfolding same_shape
is-Minus = refl

pub is-operator : (op : Binary) → listed (Of (shape_of op)) all_nestings ≡ true
unfolding same_shape
is-operator by.Or = refl
is-operator by.And = refl
is-operator by.Equal = refl
is-operator by.Unequal = refl
is-operator by.Less = refl
is-operator by.LessEqual = refl
is-operator by.Greater = refl
is-operator by.GreaterEqual = refl
is-operator by.Add = refl
is-operator by.Subtract = refl
is-operator by.Multiply = refl
is-operator by.Divide = refl
is-operator by.Remainder = refl

-- ---- and which are none

pub name_free : (w : List ℕ) (ts : List Lexeme) → count (out.word w ∷ ts) ≡ count ts
unfolding same_shape
name_free w ts = free is.Name w refl ts

pub integer_free : (n : ℕ) (ts : List Lexeme) → count (out.integer n ∷ ts) ≡ count ts
unfolding same_shape
integer_free n ts = free is.Integer (out.integer n).text refl ts

text_free : (z : List ℕ) (ts : List Lexeme) → count (out.text z ∷ ts) ≡ count ts
unfolding same_shape
text_free z ts = free is.Text (out.text z).text refl ts

quantity_free : (q : Quantity) (ts : List Lexeme) → count (out.quantity q ∷ ts) ≡ count ts
unfolding same_shape
quantity_free q ts = free is.Quantity (out.quantity q).text refl ts

true_free : (ts : List Lexeme) → count (lex is.True ∷ ts) ≡ count ts
unfolding same_shape
true_free ts = free is.True (lex is.True).text refl ts

false_free : (ts : List Lexeme) → count (lex is.False ∷ ts) ≡ count ts
unfolding same_shape
false_free ts = free is.False (lex is.False).text refl ts

shut_free : (ts : List Lexeme) → count (lex is.Shut ∷ ts) ≡ count ts
unfolding same_shape
shut_free ts = free is.Shut (lex is.Shut).text refl ts

comma_free : (ts : List Lexeme) → count (lex is.Comma ∷ ts) ≡ count ts
unfolding same_shape
comma_free ts = free is.Comma (lex is.Comma).text refl ts

colon_free : (ts : List Lexeme) → count (lex is.Colon ∷ ts) ≡ count ts
unfolding same_shape
colon_free ts = free is.Colon (lex is.Colon).text refl ts

then_free : (ts : List Lexeme) → count (lex is.Then ∷ ts) ≡ count ts
unfolding same_shape
then_free ts = free is.Then (lex is.Then).text refl ts

else_free : (ts : List Lexeme) → count (lex is.Else ∷ ts) ≡ count ts
unfolding same_shape
else_free ts = free is.Else (lex is.Else).text refl ts

-- ---- brackets

pub bracketed_count : (ts : List Lexeme) → count (bracketed ts) ≡ suc (count ts)
bracketed_count ts = omega (arith, with_nestings is.Open is-Open (ts ++ lex is.Shut ∷ []), count-append ts (lex is.Shut ∷ []), shut_free [], count-nil)

pub if_most : (b : Bool) (ts : List Lexeme) → count (bracketed_if b ts) ≤ suc (count ts)
if_most true ts = omega (arith, bracketed_count ts)
if_most false ts = omega arith

pub if_least : (b : Bool) (ts : List Lexeme) → count ts ≤ count (bracketed_if b ts)
if_least true ts = omega (arith, bracketed_count ts)
if_least false ts = omega arith

pub if_true : (b : Bool) (ts : List Lexeme) → b ≡ true → count (bracketed_if b ts) ≡ suc (count ts)
if_true true ts h = bracketed_count ts
if_true false ts h = absurd cc

pub if_false : (b : Bool) (ts : List Lexeme) → b ≡ false → count (bracketed_if b ts) ≡ count ts
if_false true ts h = absurd cc
if_false false ts h = refl

-- ---- at a tightness

-- the nestings of a tree without brackets, as an operand of a tightness, as one behind a `-`, and as one that takes defaults behind it
abbrev pub alone : Expr → ℕ
alone x = count (bare x)

abbrev pub at : ℕ → Expr → ℕ
at k x = count (print x k)

abbrev pub behind_minus : Expr → ℕ
behind_minus x = count (out.guarded x)

abbrev pub of_other : Expr → ℕ
of_other x = count (bracketed_if (heads x || nat_lt (level x) 7) (bare x))

pub at_least : (k : ℕ) (x : Expr) → alone x ≤ at k x
at_least k x = if_least (nat_lt (level x) k) (bare x)

pub at_most : (k : ℕ) (x : Expr) → at k x ≤ suc (alone x)
at_most k x = if_most (nat_lt (level x) k) (bare x)

pub not_below : (k l : ℕ) → k ≤ l → nat_lt l k ≡ false
not_below k l le = by (nat_lt l k) refl
  where
    by : (b : Bool) → nat_lt l k ≡ b → b ≡ false
    by true h = absurd (omega (arith, le, ltb-true l k h))
    by false h = refl

pub at_tight : (k : ℕ) (x : Expr) → k ≤ level x → at k x ≡ alone x
at_tight k x le = if_false (nat_lt (level x) k) (bare x) (not_below k (level x) le)

at_loose : (k : ℕ) (x : Expr) → level x < k → at k x ≡ suc (alone x)
at_loose k x lt = if_true (nat_lt (level x) k) (bare x) (lt-ltb (level x) k lt)

pub at_rises : (j k : ℕ) (x : Expr) → j ≤ k → at j x ≤ at k x
at_rises j k x le = elim (cases_lt (level x) j) [
  | inl lt ↦ omega (arith, at_loose j x lt, at_loose k x (omega (arith, lt, le)))
  | inr ge ↦ omega (arith, at_tight j x ge, at_least k x)
]

-- ---- each form

pub count-Binary : (op : Binary) (p : ℕ) (x y : Expr) → alone (e.Binary op p x y) ≡ at (left_of op) x + suc (at (suc (tightness op)) y)
count-Binary op p x y =
    ap count (bare-Binary op p x y) ∙ omega (arith, count-append (print x (left_of op)) (out.second op y), with_nestings (shape_of op) (is-operator op) (print y (suc (tightness op))))

pub at-Binary : (op : Binary) (p : ℕ) (x y : Expr) → at (tightness op) (e.Binary op p x y) ≡ at (left_of op) x + suc (at (suc (tightness op)) y)
at-Binary op p x y = at_tight (tightness op) (e.Binary op p x y) (omega (arith, level-Binary op p x y)) ∙ count-Binary op p x y

pub count-Not : (p : ℕ) (x : Expr) → alone (e.Prefix pre.Not p x) ≡ suc (at 6 x)
count-Not p x = ap count (bare-Prefix pre.Not p x) ∙ with_nestings is.Not is-Not (print x 6)

pub count-Negate : (p : ℕ) (x : Expr) → alone (e.Prefix pre.Negate p x) ≡ suc (behind_minus x)
count-Negate p x = ap count (bare-Prefix pre.Negate p x) ∙ with_nestings is.Minus is-Minus (out.guarded x)

pub count-If : (p : ℕ) (x y z : Expr) → alone (e.If p x y z) ≡ suc (alone x + (alone y + alone z))
count-If p x y z =
    ap count (bare-If p x y z)
    ∙ omega (
      arith,
      with_nestings is.If is-If (bare x ++ (lex is.Then ∷ (bare y ++ (lex is.Else ∷ bare z)))),
      count-append (bare x) (lex is.Then ∷ (bare y ++ (lex is.Else ∷ bare z))),
      then_free (bare y ++ (lex is.Else ∷ bare z)),
      count-append (bare y) (lex is.Else ∷ bare z),
      else_free (bare z),
    )

-- ---- calls and defaults

call_count : (w : List ℕ) (ts : List Lexeme) → count (out.call w ts) ≡ suc (suc (count ts))
call_count w ts = with_nestings is.Dot is-Dot (out.word w ∷ bracketed ts) ∙ ap suc (name_free w (bracketed ts) ∙ bracketed_count ts)

labelled_count : (w : List ℕ) (ts : List Lexeme) → count (out.labelled w ts) ≡ count ts
labelled_count w ts = name_free w (lex is.Colon ∷ ts) ∙ colon_free ts

default_count : (ts : List Lexeme) → count (out.default_tail ts) ≡ suc (suc (count ts))
default_count ts = call_count (codes "defaults") (out.labelled (codes "to") ts) ∙ ap (λ (n : ℕ). suc (suc n)) (labelled_count (codes "to") ts)

offset_count : (k : ℕ) → count (out.call (codes "offset") (out.labelled (codes "by") (lex is.Minus ∷ out.integer k ∷ []))) ≡ 3
offset_count k =
    omega (
      arith,
      call_count (codes "offset") (out.labelled (codes "by") (lex is.Minus ∷ out.integer k ∷ [])),
      labelled_count (codes "by") (lex is.Minus ∷ out.integer k ∷ []),
      with_nestings is.Minus is-Minus (out.integer k ∷ []),
      integer_free k [],
      count-nil,
    )

-- the nestings that an access takes by itself
pub last_count : (dot p : ℕ) → count (out.access (a.Offset dot 1 p)) ≡ 2
last_count dot p = omega (arith, call_count (codes "last") [], count-nil)

pub hold_count : (dot : ℕ) → count (out.access (a.Hold dot)) ≡ 2
hold_count dot = omega (arith, call_count (codes "hold") [], count-nil)

pub get_count : (dot : ℕ) → count (out.access (a.Get dot)) ≡ 2
get_count dot = omega (arith, call_count (codes "get") [], count-nil)

pub window_count : (dot : ℕ) (exactly : Bool) (q : Quantity) (n : Name) → count (out.access (a.Window dot exactly q n)) ≡ 2
window_count dot exactly q n =
    omega (
      arith,
      call_count (codes "aggregate") (out.labelled (out.over_word exactly) (out.quantity q ∷ lex is.Comma ∷ out.labelled (codes "using") (out.name n ∷ []))),
      labelled_count (out.over_word exactly) (out.quantity q ∷ lex is.Comma ∷ out.labelled (codes "using") (out.name n ∷ [])),
      quantity_free q (lex is.Comma ∷ out.labelled (codes "using") (out.name n ∷ [])),
      comma_free (out.labelled (codes "using") (out.name n ∷ [])),
      labelled_count (codes "using") (out.name n ∷ []),
      name_free n.text [],
      count-nil,
    )

pub access_most : (how : Access) → count (out.access how) ≤ 3
access_most a.Direct = omega (arith, count-nil)
access_most (a.Offset dot k p) = by (k == 1)
  where
    by : (b : Bool) → count (if b then out.call (codes "last") [] else out.call (codes "offset") (out.labelled (codes "by") (lex is.Minus ∷ out.integer k ∷ []))) ≤ 3
    by true = omega (arith, call_count (codes "last") [], count-nil)
    by false = omega (arith, offset_count k)
access_most (a.Hold dot) = omega (arith, hold_count dot)
access_most (a.Get dot) = omega (arith, get_count dot)
access_most (a.Window dot exactly q n) = omega (arith, window_count dot exactly q n)

or_call : (w : List ℕ) (ts : List Lexeme) → count (out.call w (out.labelled (codes "or") ts)) ≡ suc (suc (count ts))
or_call w ts = call_count w (out.labelled (codes "or") ts) ∙ ap (λ (n : ℕ). suc (suc n)) (labelled_count (codes "or") ts)

behind : (u ts : List Lexeme) → count (u ++ out.default_tail ts) ≡ count u + suc (suc (count ts))
behind u ts = omega (arith, count-append u (out.default_tail ts), default_count ts)

-- a default takes two nestings more at most
pub access_or_most : (how : Access) (ts : List Lexeme) → count (out.access_or how ts) ≤ count (out.access how) + suc (suc (count ts))
access_or_most a.Direct ts = omega (arith, behind (out.access a.Direct) ts)
access_or_most (a.Offset dot k p) ts = by (k == 1)
  where
    by : (b : Bool)
        → count (if b then out.call (codes "last") (out.labelled (codes "or") ts) else out.call (codes "offset") (out.labelled (codes "by") (lex is.Minus ∷ out.integer k ∷ [])) ++ out.default_tail ts)
        ≤ count (if b then out.call (codes "last") [] else out.call (codes "offset") (out.labelled (codes "by") (lex is.Minus ∷ out.integer k ∷ []))) + suc (suc (count ts))
    by true = omega (arith, or_call (codes "last") ts)
    by false = omega (arith, behind (out.call (codes "offset") (out.labelled (codes "by") (lex is.Minus ∷ out.integer k ∷ []))) ts)
access_or_most (a.Hold dot) ts = omega (arith, or_call (codes "hold") ts)
access_or_most (a.Get dot) ts = omega (arith, or_call (codes "get") ts)
access_or_most (a.Window dot exactly q n) ts = omega (arith, behind (out.access (a.Window dot exactly q n)) ts)

-- with what stands in behind the word itself, or behind the name itself
pub direct_or : (ts : List Lexeme) → count (out.access_or a.Direct ts) ≡ suc (suc (count ts))
direct_or ts = default_count ts

pub last_or : (dot p : ℕ) (ts : List Lexeme) → count (out.access_or (a.Offset dot 1 p) ts) ≡ suc (suc (count ts))
last_or dot p ts = or_call (codes "last") ts

pub hold_or : (dot : ℕ) (ts : List Lexeme) → count (out.access_or (a.Hold dot) ts) ≡ suc (suc (count ts))
hold_or dot ts = or_call (codes "hold") ts

pub get_or : (dot : ℕ) (ts : List Lexeme) → count (out.access_or (a.Get dot) ts) ≡ suc (suc (count ts))
get_or dot ts = or_call (codes "get") ts

-- ---- names, literals and defaults

pub count-Reference : (n : Name) (b : Option ℕ) (xs : List Expr) (how : Access) → alone (e.Reference n b xs how) ≡ count (out.argument_list xs) + count (out.access how)
count-Reference n b xs how = ap count (bare-Reference n b xs how) ∙ name_free n.text (out.argument_list xs ++ out.access how) ∙ count-append (out.argument_list xs) (out.access how)

pub count-Reference_or : (p : ℕ) (n : Name) (b : Option ℕ) (xs : List Expr) (how : Access) (y : Expr)
    → alone (e.Defaults p (e.Reference n b xs how) y) ≡ count (out.argument_list xs) + count (out.access_or how (bare y))
count-Reference_or p n b xs how y =
    ap count (bare-Defaults p (e.Reference n b xs how) y ∙ default_of-Reference n b xs how y) ∙ name_free n.text (out.argument_list xs ++ out.access_or how (bare y)) ∙ count-append (out.argument_list xs) (out.access_or how (bare y))

pub count-Defaults : (p : ℕ) (x y : Expr) → alone (e.Defaults p x y) ≤ at 7 x + suc (suc (alone y))
count-Defaults p x y = omega (arith, ap count (bare-Defaults p x y), by x)
  where
    plain : (x : Expr) → count (print x 7 ++ out.default_tail (bare y)) ≤ at 7 x + suc (suc (alone y))
    plain x = omega (arith, behind (print x 7) (bare y))

    by : (x : Expr) → count (out.default_of x y) ≤ at 7 x + suc (suc (alone y))
    by (e.Literal l) = plain (e.Literal l)
    by (e.Reference' n b shape row how) =
        omega (
          arith,
          name_free n.text (out.arguments row ++ out.access_or how (bare y)),
          count-append (out.arguments row) (out.access_or how (bare y)),
          access_or_most how (bare y),
          name_free n.text (out.arguments row ++ out.access how),
          count-append (out.arguments row) (out.access how),
          at_least 7 (e.Reference' n b shape row how),
        )
    by (e.Defaults' p q r s t) = plain (e.Defaults' p q r s t)
    by (e.Prefix' op p q r) = plain (e.Prefix' op p q r)
    by (e.Binary' op p q r s t) = plain (e.Binary' op p q r s t)
    by (e.If' p q r s t u v) = plain (e.If' p q r s t u v)

pub arguments_count : (x : Expr) (xs : List Expr) → count (out.argument_list (x ∷ xs)) ≡ suc (alone x + count (out.further_list xs))
arguments_count x xs =
    omega (arith, with_nestings is.Open is-Open (bare x ++ (out.further_list xs ++ lex is.Shut ∷ [])), count-append (bare x) (out.further_list xs ++ lex is.Shut ∷ []), count-append (out.further_list xs) (lex is.Shut ∷ []), shut_free [], count-nil)

pub further_count : (x : Expr) (xs : List Expr) → count (out.further_list (x ∷ xs)) ≡ alone x + count (out.further_list xs)
further_count x xs = comma_free (bare x ++ out.further_list xs) ∙ count-append (bare x) (out.further_list xs)

pub integer_count : (n p : ℕ) → alone (e.Literal (record { value = value.Integer false n; at = p })) ≡ 0
integer_count n p = integer_free n [] ∙ count-nil

pub negative_count : (n p : ℕ) → alone (e.Literal (record { value = value.Integer true n; at = p })) ≡ 1
negative_count n p = with_nestings is.Minus is-Minus (out.integer n ∷ []) ∙ ap suc (integer_free n [] ∙ count-nil)

pub truth_count : (b : Bool) (p : ℕ) → alone (e.Literal (record { value = value.Truth b; at = p })) ≡ 0
truth_count true p = true_free [] ∙ count-nil
truth_count false p = false_free [] ∙ count-nil

pub text_count : (z : List ℕ) (p : ℕ) → alone (e.Literal (record { value = value.Text z; at = p })) ≡ 0
text_count z p = text_free z [] ∙ count-nil

-- ---- behind a `-`, and with defaults behind it

or_second : (b c : Bool) → b ≡ false → (b || c) ≡ c
or_second b c h = ap (λ (d : Bool). d || c) h

-- what has an integer at its front binds more tightly than any operator
level_top : (x : Expr) → heads x ≡ true → level x ≡ 8
level_top (e.Literal l) h = refl
level_top (e.Reference' n b shape row how) h = refl
level_top (e.Defaults' p q r s t) h = refl
level_top (e.Prefix' op p q r) h = absurd cc
level_top (e.Binary' op p q r s t) h = absurd cc
level_top (e.If' p q r s t u v) h = absurd cc

heads_other : (x : Expr) → heads x ≡ true → of_other x ≡ suc (alone x)
heads_other x h = if_true (heads x || nat_lt (level x) 7) (bare x) (or_left (heads x) (nat_lt (level x) 7) h)

heads_minus : (x : Expr) → heads x ≡ true → behind_minus x ≡ suc (alone x)
heads_minus x h = if_true (heads x || nat_lt (level x) 6) (bare x) (or_left (heads x) (nat_lt (level x) 6) h)

pub no_heads_other : (x : Expr) → heads x ≡ false → of_other x ≡ at 7 x
no_heads_other x h = ap (λ (b : Bool). count (bracketed_if b (bare x))) (or_second (heads x) (nat_lt (level x) 7) h)

no_heads_minus : (x : Expr) → heads x ≡ false → behind_minus x ≡ at 6 x
no_heads_minus x h = ap (λ (b : Bool). count (bracketed_if b (bare x))) (or_second (heads x) (nat_lt (level x) 6) h)

abbrev pub either_way : (b : Bool) → (b ≡ true) ⊎ (b ≡ false)
either_way true = inl refl
either_way false = inr refl

pub minus_least : (x : Expr) → behind_minus x ≤ of_other x
minus_least x = elim (either_way (heads x)) [
  | inl h ↦ omega (arith, heads_other x h, heads_minus x h)
  | inr h ↦ omega (arith, no_heads_other x h, no_heads_minus x h, at_rises 6 7 x (omega arith))
]

pub operand_least : (x : Expr) → at 6 x ≤ behind_minus x
operand_least x = elim (either_way (heads x)) [
  | inl h ↦ omega (arith, heads_minus x h, at_most 6 x)
  | inr h ↦ omega (arith, no_heads_minus x h)
]

pub other_most : (x : Expr) → of_other x ≤ suc (alone x)
other_most x = if_most (heads x || nat_lt (level x) 7) (bare x)

pub minus_most : (x : Expr) → behind_minus x ≤ suc (alone x)
minus_most x = if_most (heads x || nat_lt (level x) 6) (bare x)

-- defaults behind what takes them
pub at_defaults : (p : ℕ) (x y : Expr) → at 7 (e.Defaults p x y) ≤ at 7 x + suc (suc (alone y))
at_defaults p x y = omega (arith, at_tight 7 (e.Defaults p x y) (omega (arith, level-Defaults p x y)), count-Defaults p x y)

pub other_defaults : (p : ℕ) (x y : Expr) → of_other (e.Defaults p x y) ≤ of_other x + suc (suc (alone y))
other_defaults p x y = elim (either_way (heads x)) [
  | inl h ↦ omega (arith, heads_other x h, other_most (e.Defaults p x y), count-Defaults p x y, at_tight 7 x (omega (arith, level_top x h)))
  | inr h ↦ omega (arith, no_heads_other x h, no_heads_other (e.Defaults p x y) (heads-Defaults p x y ∙ h), at_defaults p x y)
]

heads-Prefix : (op : Prefix) (p : ℕ) (x : Expr) → heads (e.Prefix op p x) ≡ false
unfolding X.shape-the_row-Expr-1 X.hidden-the_row-Expr-1 denote.Hole.Carrier.hidden denote.Hole.Carrier.shown denote.Hole.Carrier.roll denote.Hole.Carrier.out
heads-Prefix op p x = refl

pub minus_Prefix : (op : Prefix) (p : ℕ) (x : Expr) → behind_minus (e.Prefix op p x) ≡ alone (e.Prefix op p x)
minus_Prefix op p x = no_heads_minus (e.Prefix op p x) (heads-Prefix op p x) ∙ at_tight 6 (e.Prefix op p x) (omega (arith, level-Prefix op p x))
