-- The tokens that spell a tree, in short forms, with brackets only where they are needed. Their places are left out: all are 0.
use Rattle.std.specs.Prelude.{◌≡◌, ℕ, zero, suc, ◌-◌, Bool, true, false, not, ◌&&◌, ◌||◌, ◌==◌, List, [], ◌∷◌, ◌++◌, length, take, drop, replicate, Option, Some, None, is_some, nat_lt, if◌then◌else◌, codes}
use Rattle.std.specs.List.{flat_map}
use Rattle.std.specs.Fmt.{decimal}
use Rattle.std.specs.Str.{bytes_eq}
use Rattle.lola_lexer.specs.Spelling.{spelling}
use Rattle.lola_lexer.specs.declared.shape.TokenShape.{TokenShape}
use Rattle.lola_lexer.specs.declared.shape.TokenShape.TheVariants as is
use Rattle.lola_parser_grammar.specs.declared.literals.Name.{Name}
use Rattle.lola_parser_grammar.specs.declared.literals.Typed.{Typed}
use Rattle.lola_parser_grammar.specs.declared.literals.Value.{Value}
use Rattle.lola_parser_grammar.specs.declared.literals.Value.TheVariants as value
use Rattle.lola_parser_grammar.specs.declared.literals.Quantity.{Quantity}
use Rattle.lola_parser_grammar.specs.declared.literals.QuantityUnit.{QuantityUnit}
use Rattle.lola_parser_grammar.specs.declared.literals.QuantityUnit.TheVariants as unit
use Rattle.lola_parser_grammar.specs.declared.expressions.Prefix.{Prefix}
use Rattle.lola_parser_grammar.specs.declared.expressions.Prefix.TheVariants as pre
use Rattle.lola_parser_grammar.specs.declared.expressions.Binary.{Binary}
use Rattle.lola_parser_grammar.specs.declared.expressions.Binary.TheVariants as by
use Rattle.lola_parser_grammar.specs.declared.expressions.Access.{Access}
use Rattle.lola_parser_grammar.specs.declared.expressions.Access.TheVariants as a
use Rattle.lola_parser_grammar.specs.declared.expressions.Expr.{Expr, Row_of-Expr, more_of-Expr, end_of-Expr}
use Rattle.lola_parser_grammar.specs.declared.expressions.Expr.TheVariants as e
use Rattle.lola_parser_grammar.specs.declared.pacing.Formula.{Formula, more_of-Formula, end_of-Formula}
use Rattle.lola_parser_grammar.specs.declared.pacing.Formula.TheVariants as f
use Rattle.lola_parser_grammar.specs.declared.pacing.Rhythm.{Rhythm}
use Rattle.lola_parser_grammar.specs.declared.pacing.Rhythm.TheVariants as r
use Rattle.lola_parser_grammar.specs.declared.pacing.Pacing.{Pacing}
use Rattle.lola_parser_grammar.specs.declared.clauses.Part.{Part}
use Rattle.lola_parser_grammar.specs.declared.clauses.Spawn.{Spawn}
use Rattle.lola_parser_grammar.specs.declared.clauses.Eval.{Eval}
use Rattle.lola_parser_grammar.specs.declared.clauses.Close.{Close}
use Rattle.lola_parser_grammar.specs.declared.declarations.Constant.{Constant}
use Rattle.lola_parser_grammar.specs.declared.declarations.Output.{Output}
use Rattle.lola_parser_grammar.specs.declared.declarations.Trigger.{Trigger}
use Rattle.lola_parser_grammar.specs.declared.declarations.Declaration.{Declaration}
use Rattle.lola_parser_grammar.specs.declared.declarations.Declaration.TheVariants as d
use Rattle.lola_parser_grammar.specs.Syntax.{Lexeme}

-- ---- tokens

-- a reserved word or a sign
abbrev pub lex : TokenShape → Lexeme
lex s = record { shape = s; text = spelling s; from = 0; to = 0 }

abbrev pub lex_of : TokenShape → List ℕ → Lexeme
lex_of s w = record { shape = s; text = w; from = 0; to = 0 }

abbrev pub word : List ℕ → Lexeme
word w = lex_of is.Name w

abbrev pub name : Name → Lexeme
name n = word n.text

abbrev pub integer : ℕ → Lexeme
integer n = lex_of is.Integer (decimal n)

-- a byte as it is written in a text
abbrev pub escape : ℕ → List ℕ
escape b =
    if b == 34 then 92 ∷ 34 ∷ []
    else if b == 92 then 92 ∷ 92 ∷ []
    else if b == 10 then 92 ∷ 110 ∷ []
    else if b == 13 then 92 ∷ 114 ∷ []
    else if b == 9 then 92 ∷ 116 ∷ []
    else b ∷ []

abbrev pub text : List ℕ → Lexeme
text z = lex_of is.Text (34 ∷ (flat_map escape z ++ 34 ∷ []))

-- ---- quantities

abbrev pub unit_name : QuantityUnit → List ℕ
unit_name unit.Nanoseconds = codes "ns"
unit_name unit.Microseconds = codes "us"
unit_name unit.Milliseconds = codes "ms"
unit_name unit.Seconds = codes "s"
unit_name unit.Minutes = codes "min"
unit_name unit.Hours = codes "h"
unit_name unit.Days = codes "d"
unit_name unit.Millihertz = codes "mHz"
unit_name unit.Hertz = codes "Hz"
unit_name unit.Kilohertz = codes "kHz"
unit_name unit.Megahertz = codes "MHz"

abbrev pub zeros : ℕ → List ℕ
zeros n = replicate n 48

-- with so many digits, zeros in front
abbrev pub padded : ℕ → List ℕ → List ℕ
padded count ds = zeros (count - length ds) ++ ds

-- with so many of them behind a point
abbrev pub pointed : ℕ → List ℕ → List ℕ
pointed zero ds = ds
pointed (suc k) ds = take (length ds - suc k) ds ++ (46 ∷ drop (length ds - suc k) ds)

abbrev pub quantity : Quantity → Lexeme
quantity q = lex_of is.Quantity (pointed q.decimals (padded q.count (decimal q.digits)) ++ unit_name q.unit)

-- ---- parts

abbrev pub bracketed : List Lexeme → List Lexeme
bracketed ts = lex is.Open ∷ (ts ++ lex is.Shut ∷ [])

abbrev pub bracketed_if : Bool → List Lexeme → List Lexeme
bracketed_if true ts = bracketed ts
bracketed_if false ts = ts

abbrev pub literal : Value → List Lexeme
literal (value.Integer false n) = integer n ∷ []
literal (value.Integer true n) = lex is.Minus ∷ integer n ∷ []
literal (value.Truth true) = lex is.True ∷ []
literal (value.Truth false) = lex is.False ∷ []
literal (value.Text z) = text z ∷ []

-- ---- accesses

-- a word behind a point, and what stands in brackets behind it
abbrev pub call : List ℕ → List Lexeme → List Lexeme
call w ts = lex is.Dot ∷ word w ∷ bracketed ts

-- a word, a colon and what it names
abbrev pub labelled : List ℕ → List Lexeme → List Lexeme
labelled w ts = word w ∷ lex is.Colon ∷ ts

abbrev pub default_tail : List Lexeme → List Lexeme
default_tail ts = call (codes "defaults") (labelled (codes "to") ts)

abbrev pub over_word : Bool → List ℕ
over_word true = codes "over_exactly"
over_word false = codes "over"

abbrev pub access : Access → List Lexeme
access a.Direct = []
access (a.Offset dot k at) =
    if k == 1 then call (codes "last") []
    else call (codes "offset") (labelled (codes "by") (lex is.Minus ∷ integer k ∷ []))
access (a.Hold dot) = call (codes "hold") []
access (a.Get dot) = call (codes "get") []
access (a.Window dot exactly q n) =
    call (codes "aggregate") (labelled (over_word exactly) (quantity q ∷ lex is.Comma ∷ labelled (codes "using") (name n ∷ [])))

-- the same with a value that stands in; where the word takes none, behind it
abbrev pub access_or : Access → List Lexeme → List Lexeme
access_or (a.Offset dot k at) ts =
    if k == 1 then call (codes "last") (labelled (codes "or") ts)
    else call (codes "offset") (labelled (codes "by") (lex is.Minus ∷ integer k ∷ [])) ++ default_tail ts
access_or (a.Hold dot) ts = call (codes "hold") (labelled (codes "or") ts)
access_or (a.Get dot) ts = call (codes "get") (labelled (codes "or") ts)
access_or how ts = access how ++ default_tail ts

-- ---- operators

-- how tightly an operator binds, from 1 to 5
abbrev pub tightness : Binary → ℕ
tightness by.Or = 1
tightness by.And = 2
tightness by.Equal = 3
tightness by.Unequal = 3
tightness by.Less = 3
tightness by.LessEqual = 3
tightness by.Greater = 3
tightness by.GreaterEqual = 3
tightness by.Add = 4
tightness by.Subtract = 4
tightness by.Multiply = 5
tightness by.Divide = 5
tightness by.Remainder = 5

-- a comparison is not compared again
abbrev pub left_of : Binary → ℕ
left_of by.Equal = 4
left_of by.Unequal = 4
left_of by.Less = 4
left_of by.LessEqual = 4
left_of by.Greater = 4
left_of by.GreaterEqual = 4
left_of op = tightness op

abbrev pub shape_of : Binary → TokenShape
shape_of by.Or = is.Or
shape_of by.And = is.And
shape_of by.Equal = is.Equal
shape_of by.Unequal = is.Unequal
shape_of by.Less = is.Less
shape_of by.LessEqual = is.LessEqual
shape_of by.Greater = is.Greater
shape_of by.GreaterEqual = is.GreaterEqual
shape_of by.Add = is.Plus
shape_of by.Subtract = is.Minus
shape_of by.Multiply = is.Star
shape_of by.Divide = is.Slash
shape_of by.Remainder = is.Percent

-- ---- expressions

abbrev pub begins_with_integer : Value → Bool
begins_with_integer (value.Integer false n) = true
begins_with_integer _ = false

-- an integer stands at its front, so that a `-` before it would make one literal
abbrev pub heads : Expr → Bool
heads (e.Literal l) = begins_with_integer l.value
heads (e.Defaults' at p (more_of-Expr x end_of-Expr) q row) = heads x
heads _ = false

-- how tightly an expression binds: its operator, or more than any operator
abbrev pub level : Expr → ℕ
level (e.Prefix' op at p row) = 6
level (e.Binary' op at p row q row') = tightness op
level (e.If' at p row q row' r row'') = 0
level _ = 8

-- in brackets where more is asked for
abbrev pub fitted : ℕ → ℕ → List Lexeme → List Lexeme
fitted own k ts = bracketed_if (nat_lt own k) ts

abbrev mutual
  pub bare : Expr → List Lexeme
  bare (e.Literal l) = literal l.value
  bare (e.Reference' n bracket shape row how) = name n ∷ (arguments row ++ access how)
  bare (e.Defaults' at p (more_of-Expr (e.Reference' n bracket shape row how) end_of-Expr) q (more_of-Expr y end_of-Expr)) =
      name n ∷ (arguments row ++ access_or how (bare y))
  bare (e.Defaults' at p (more_of-Expr x end_of-Expr) q (more_of-Expr y end_of-Expr)) = fitted (level x) 7 (bare x) ++ default_tail (bare y)
  bare (e.Prefix' pre.Not at p (more_of-Expr x end_of-Expr)) = lex is.Not ∷ fitted (level x) 6 (bare x)
  bare (e.Prefix' pre.Negate at p (more_of-Expr x end_of-Expr)) = lex is.Minus ∷ bracketed_if (heads x || nat_lt (level x) 6) (bare x)
  bare (e.Binary' op at p (more_of-Expr x end_of-Expr) q (more_of-Expr y end_of-Expr)) =
      fitted (level x) (left_of op) (bare x) ++ (lex (shape_of op) ∷ fitted (level y) (suc (tightness op)) (bare y))
  bare (e.If' at p (more_of-Expr x end_of-Expr) q (more_of-Expr y end_of-Expr) r (more_of-Expr z end_of-Expr)) =
      lex is.If ∷ (bare x ++ (lex is.Then ∷ (bare y ++ (lex is.Else ∷ bare z))))

  pub arguments : {n : _} → Row_of-Expr n → List Lexeme
  arguments end_of-Expr = []
  arguments (more_of-Expr x rest) = lex is.Open ∷ (bare x ++ (further rest ++ lex is.Shut ∷ []))

  pub further : {n : _} → Row_of-Expr n → List Lexeme
  further end_of-Expr = []
  further (more_of-Expr x rest) = lex is.Comma ∷ (bare x ++ further rest)

-- An expression as an operand of a tightness: 0 an expression, 6 an operand with prefix operators, 7 one without.
abbrev pub print : Expr → ℕ → List Lexeme
print x k = fitted (level x) k (bare x)

-- ---- pacings

abbrev pub formula_level : Formula → ℕ
formula_level (f.Both' at p row q row') = 1
formula_level (f.Either' at p row q row') = 0
formula_level _ = 2

abbrev pub bare_formula : Formula → List Lexeme
bare_formula (f.Input n) = name n ∷ []
bare_formula (f.Both' at p (more_of-Formula x end_of-Formula) q (more_of-Formula y end_of-Formula)) =
    fitted (formula_level x) 1 (bare_formula x) ++ (lex is.And ∷ fitted (formula_level y) 2 (bare_formula y))
bare_formula (f.Either' at p (more_of-Formula x end_of-Formula) q (more_of-Formula y end_of-Formula)) =
    fitted (formula_level x) 0 (bare_formula x) ++ (lex is.Or ∷ fitted (formula_level y) 1 (bare_formula y))

-- A formula as an operand of a tightness: 0 a formula, 1 an operand of `||`, 2 one of `&&`.
abbrev pub print_formula : Formula → ℕ → List Lexeme
print_formula x k = fitted (formula_level x) k (bare_formula x)

-- the words that are always clocks behind an `@`
abbrev pub is_clock : List ℕ → Bool
is_clock w = bytes_eq w (codes "Global") || bytes_eq w (codes "Local")

-- an input alone needs no brackets, unless it is called as a clock
abbrev pub event : Formula → List Lexeme
event (f.Input n) = bracketed_if (is_clock n.text) (name n ∷ [])
event x = bracketed (bare_formula x)

abbrev pub rhythm : Rhythm → List Lexeme
rhythm (r.Rate q) = quantity q ∷ []
rhythm (r.Formula x) = event x
rhythm (r.Global q) = word (codes "Global") ∷ bracketed (quantity q ∷ [])
rhythm (r.Local q) = word (codes "Local") ∷ bracketed (quantity q ∷ [])

abbrev pub pacing : Pacing → List Lexeme
pacing p = lex is.At ∷ rhythm p.rhythm

-- ---- clauses

abbrev pub maybe : {A : Type 0} → (A → List Lexeme) → Option A → List Lexeme
maybe f None = []
maybe f (Some x) = f x

abbrev pub part : TokenShape → Part → List Lexeme
part s p = lex s ∷ bare p.expr

abbrev pub further_parts : List Part → List Lexeme
further_parts ps = flat_map (part is.Comma) ps

abbrev pub with_parts : List Part → List Lexeme
with_parts [] = []
with_parts (p ∷ []) = part is.With p
with_parts (p ∷ q ∷ ps) = lex is.With ∷ (part is.Open p ++ (further_parts (q ∷ ps) ++ lex is.Shut ∷ []))

abbrev pub spawn : Spawn → List Lexeme
spawn s = lex is.Spawn ∷ (maybe pacing s.pacing ++ (maybe (part is.When) s.when ++ with_parts s.with))

abbrev pub eval : Eval → List Lexeme
eval x = lex is.Eval ∷ (maybe pacing x.pacing ++ (maybe (part is.When) x.when ++ part is.With x.with))

abbrev pub short_eval : Eval → List Lexeme
short_eval x = maybe pacing x.pacing ++ part is.Define x.with

abbrev pub close : Close → List Lexeme
close c = lex is.Close ∷ (maybe pacing c.pacing ++ part is.When c.when)

-- ---- declarations

abbrev pub typed : Typed → List Lexeme
typed t = name t.name ∷ lex is.Colon ∷ name t.kind ∷ []

abbrev pub behind_comma : Typed → List Lexeme
behind_comma t = lex is.Comma ∷ typed t

abbrev pub further_typed : List Typed → List Lexeme
further_typed ts = flat_map behind_comma ts

abbrev pub listed : List Typed → List Lexeme
listed [] = []
listed (t ∷ ts) = typed t ++ further_typed ts

abbrev pub parameters : List Typed → List Lexeme
parameters [] = []
parameters (t ∷ ts) = bracketed (listed (t ∷ ts))

abbrev pub kind : Option Name → List Lexeme
kind None = []
kind (Some n) = lex is.Colon ∷ name n ∷ []

-- `@p := e`, where there is nothing but an expression
abbrev pub is_short : Option Spawn → Eval → Option Close → Bool
is_short s x c = not (is_some s) && (not (is_some x.when) && not (is_some c))

abbrev pub body : Option Spawn → Eval → Option Close → List Lexeme
body s x c = if is_short s x c then short_eval x else (maybe spawn s ++ (eval x ++ maybe close c))

abbrev pub message : List ℕ → List Lexeme
message [] = []
message (b ∷ z) = text (b ∷ z) ∷ []

abbrev pub constant : Constant → List Lexeme
constant c = name c.name ∷ lex is.Colon ∷ name c.kind ∷ lex is.Define ∷ literal c.literal.value

abbrev pub output : Output → List Lexeme
output o = (lex is.Output ∷ name o.name ∷ parameters o.parameters) ++ (kind o.kind ++ body o.spawn o.eval o.close)

abbrev pub trigger : Trigger → List Lexeme
trigger t = maybe pacing t.pacing ++ (bare t.when.expr ++ message t.message)

abbrev pub declaration : Declaration → List Lexeme
declaration (d.Inputs i) = lex is.Input ∷ listed i.inputs
declaration (d.Constant c) = lex is.Constant ∷ constant c
declaration (d.Output o) = output o
declaration (d.Trigger t) = lex is.Trigger ∷ trigger t

abbrev pub specification : List Declaration → List Lexeme
specification xs = flat_map declaration xs

-- ---- lists of expressions

abbrev pub further_list : List Expr → List Lexeme
further_list [] = []
further_list (x ∷ xs) = lex is.Comma ∷ (bare x ++ further_list xs)

abbrev pub argument_list : List Expr → List Lexeme
argument_list [] = []
argument_list (x ∷ xs) = lex is.Open ∷ (bare x ++ (further_list xs ++ lex is.Shut ∷ []))

-- ---- the text

-- each token with a blank behind it
abbrev pub spelled_out : List Lexeme → List ℕ
spelled_out [] = []
spelled_out (t ∷ ts) = t.text ++ (32 ∷ spelled_out ts)

-- the tokens were put behind what stood there
abbrev pub Adds : List Lexeme → List ℕ → List ℕ → Type 0
Adds ts old new = new ≡ old ++ spelled_out ts

abbrev pub opening : Bool → List Lexeme
opening true = lex is.Open ∷ []
opening false = []

abbrev pub shutting : Bool → List Lexeme
shutting true = lex is.Shut ∷ []
shutting false = []

-- ---- parts that the code puts in one go

abbrev pub over : Bool → List Lexeme
over exactly = lex is.Dot ∷ word (codes "aggregate") ∷ lex is.Open ∷ word (over_word exactly) ∷ lex is.Colon ∷ []

abbrev pub using : Name → List Lexeme
using n = lex is.Comma ∷ word (codes "using") ∷ lex is.Colon ∷ name n ∷ lex is.Shut ∷ []

abbrev pub signed : Prefix → Expr → List Lexeme
signed pre.Not x = lex is.Not ∷ print x 6
signed pre.Negate x = lex is.Minus ∷ bracketed_if (heads x || nat_lt (level x) 6) (bare x)

abbrev pub second : Binary → Expr → List Lexeme
second op y = lex (shape_of op) ∷ print y (suc (tightness op))

abbrev pub default_of : Expr → Expr → List Lexeme
default_of (e.Reference' n bracket shape row how) y = name n ∷ (arguments row ++ access_or how (bare y))
default_of x y = print x 7 ++ default_tail (bare y)

abbrev pub guarded : Expr → List Lexeme
guarded x = bracketed_if (heads x || nat_lt (level x) 6) (bare x)
