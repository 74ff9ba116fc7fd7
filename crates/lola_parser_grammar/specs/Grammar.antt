-- The grammar of specifications.
--
-- It is written so that the next token always tells how to go on: what may follow an operand is a part of its own, the point
-- behind a name is read before it shows what follows it, and a `-` before it shows whether an integer does.
use Rattle.std.specs.Prelude.{ℕ, zero, suc, Bool, true, false, List, [], ◌∷◌, ◌++◌, fold, Option, Some, None, codes}
use Rattle.lola_lexer.specs.declared.shape.TokenShape.{TokenShape}
use Rattle.lola_lexer.specs.declared.shape.TokenShape.TheVariants as is
use Rattle.lola_parser_grammar.specs.declared.literals.Name.{Name}
use Rattle.lola_parser_grammar.specs.declared.literals.Typed.{Typed}
use Rattle.lola_parser_grammar.specs.declared.literals.Literal.{Literal}
use Rattle.lola_parser_grammar.specs.declared.literals.Value.TheVariants as value
use Rattle.lola_parser_grammar.specs.declared.literals.Quantity.{Quantity}
use Rattle.lola_parser_grammar.specs.declared.expressions.Prefix.TheVariants as pre
use Rattle.lola_parser_grammar.specs.declared.expressions.Binary.{Binary}
use Rattle.lola_parser_grammar.specs.declared.expressions.Binary.TheVariants as by
use Rattle.lola_parser_grammar.specs.declared.expressions.Access.{Access}
use Rattle.lola_parser_grammar.specs.declared.expressions.Access.TheVariants as a
use Rattle.lola_parser_grammar.specs.declared.expressions.Expr.{Expr}
use Rattle.lola_parser_grammar.specs.declared.expressions.Expr.TheVariants as e
use Rattle.lola_parser_grammar.specs.declared.pacing.Formula.{Formula}
use Rattle.lola_parser_grammar.specs.declared.pacing.Formula.TheVariants as f
use Rattle.lola_parser_grammar.specs.declared.pacing.Rhythm.{Rhythm}
use Rattle.lola_parser_grammar.specs.declared.pacing.Rhythm.TheVariants as r
use Rattle.lola_parser_grammar.specs.declared.pacing.Pacing.{Pacing}
use Rattle.lola_parser_grammar.specs.declared.clauses.Part.{Part}
use Rattle.lola_parser_grammar.specs.declared.clauses.Spawn.{Spawn}
use Rattle.lola_parser_grammar.specs.declared.clauses.Eval.{Eval}
use Rattle.lola_parser_grammar.specs.declared.clauses.Close.{Close}
use Rattle.lola_parser_grammar.specs.declared.declarations.Declaration.{Declaration}
use Rattle.lola_parser_grammar.specs.declared.declarations.Declaration.TheVariants as d
use Rattle.lola_parser_grammar.specs.Syntax.{Lexeme, Terminal, Of, Word, Other, Syntax, Past, Token, Nesting, Whole, Known, Then, Map, Either, Maybe, Many, Fork}
use Rattle.lola_parser_grammar.specs.Literals.{number_of, digits_in, decimals_in, unit_of, text_of_literal}

-- ---- tokens

abbrev pub place : Lexeme → ℕ
place t = t.from

-- a token of a shape, and a word: by its place
unfoldable pub token : TokenShape → Syntax ℕ
token s = Map place (Token (Of s))

unfoldable pub nesting : TokenShape → Syntax ℕ
nesting s = Map place (Nesting (Of s))

unfoldable pub word : List ℕ → Syntax ℕ
word w = Map place (Token (Word w))

abbrev pub name_of : Lexeme → Name
name_of t = record { text = t.text; at = t.from }

unfoldable pub name : Syntax Name
name = Map name_of (Token (Of is.Name))

-- a name that is none of these words
unfoldable pub other_name : List (List ℕ) → Syntax Name
other_name ws = Map name_of (Token (Other ws))

abbrev pub number_with_place : Lexeme → ℕ × ℕ
number_with_place t = (number_of t.text, t.from)

unfoldable pub integer : Syntax (ℕ × ℕ)
integer = Map number_with_place (Token (Of is.Integer))

abbrev pub text_with_place : Lexeme → List ℕ × ℕ
text_with_place t = (text_of_literal t.text, t.from)

unfoldable pub text : Syntax (List ℕ × ℕ)
text = Map text_with_place (Token (Of is.Text))

abbrev pub quantity_of : Lexeme → Quantity
quantity_of t = record { digits = number_of t.text; count = digits_in t.text; decimals = decimals_in t.text; unit = unit_of t.text; at = t.from }

unfoldable pub quantity : Syntax Quantity
quantity = Map quantity_of (Token (Of is.Quantity))

-- ---- how parts are put together

-- both, of which the second has the value
infixr 12 ◌*>◌
abbrev pub ◌*>◌ : {A B : Type 0} → Syntax A → Syntax B → Syntax B
a *> b = Map (λ p. p.1) (Then a b)

-- both, of which the first has the value
infixl 13 ◌<*◌
abbrev pub ◌<*◌ : {A B : Type 0} → Syntax A → Syntax B → Syntax A
a <* b = Map (λ p. p.0) (Then a b)

-- in brackets that are no nestings
abbrev pub enclosed : {A : Type 0} → Syntax A → Syntax A
enclosed s = token is.Open *> s <* token is.Shut

-- one more behind a comma
abbrev pub further : {A : Type 0} → Syntax A → Syntax A
further s = token is.Comma *> s

-- one, and more of them behind commas
abbrev pub listed : {A : Type 0} → Syntax A → Syntax (List A)
listed s = Map (λ p. p.0 ∷ p.1) (Then s (Many (further s)))

-- a list, and as many more as there are
abbrev pub added : {A : Type 0} → List A → Syntax A → Syntax (List A)
added front s = Map (λ xs. front ++ xs) (Many s)

-- what follows something, of that
abbrev pub onto : {A : Type 0} → A → Syntax (A → A) → Syntax A
onto left tail = Map (λ g. g left) tail

-- something and what follows it
infixl 11 ◌|>◌
abbrev pub ◌|>◌ : {A : Type 0} → Syntax A → Syntax (A → A) → Syntax A
a |> tail = Map (λ p. p.1 p.0) (Then a tail)

-- what follows, and then what follows that
infixl 11 ◌>>◌
abbrev pub ◌>>◌ : {A : Type 0} → Syntax (A → A) → Syntax (A → A) → Syntax (A → A)
a >> b = Map (λ p left. p.1 (p.0 left)) (Then a b)

-- ---- operators between operands

abbrev pub Operator : Type 0
Operator = Binary × ℕ

abbrev pub Joined : Type 0
Joined = Operator × Expr

abbrev pub join : Expr → Joined → Expr
join left r = e.Binary r.0.0 r.0.1 left r.1

unfoldable pub operator : TokenShape → Binary → Syntax Operator
operator s op = Map (λ at. (op, at)) (nesting s)

unfoldable pub product_operators : Syntax Operator
product_operators = Either (operator is.Star by.Multiply) (Either (operator is.Slash by.Divide) (operator is.Percent by.Remainder))

unfoldable pub sum_operators : Syntax Operator
sum_operators = Either (operator is.Plus by.Add) (operator is.Minus by.Subtract)

unfoldable pub comparison_operators : Syntax Operator
comparison_operators =
    Either (operator is.Equal by.Equal) (Either (operator is.Unequal by.Unequal) (Either (operator is.Less by.Less)
    (Either (operator is.LessEqual by.LessEqual) (Either (operator is.Greater by.Greater) (operator is.GreaterEqual by.GreaterEqual)))))

unfoldable pub and_operators : Syntax Operator
and_operators = operator is.And by.And

unfoldable pub or_operators : Syntax Operator
or_operators = operator is.Or by.Or

-- parts that are joined from the left to what they follow
abbrev pub folded : {A B : Type 0} → (B → A → B) → Syntax A → Syntax (B → B)
folded f s = Map (λ rs left. fold f left rs) (Many s)

-- operators with operands
abbrev pub joined : Syntax Operator → Syntax Expr → Syntax (Expr → Expr)
joined operators operand = folded join (Then operators operand)

abbrev pub compared : Option Joined → Expr → Expr
compared None left = left
compared (Some r) left = join left r

-- an operator with an operand, or none
abbrev pub joined_once : Syntax Operator → Syntax Expr → Syntax (Expr → Expr)
joined_once operators operand = Map compared (Maybe (Then operators operand))

-- ---- literals

abbrev pub whole_number : Bool → ℕ → ℕ → Literal
whole_number is_negative n at = record { value = value.Integer is_negative n; at = at }

abbrev pub truth_at : Bool → ℕ → Literal
truth_at b at = record { value = value.Truth b; at = at }

abbrev pub text_at : List ℕ × ℕ → Literal
text_at p = record { value = value.Text p.0; at = p.1 }

unfoldable pub word_literal : Syntax Literal
word_literal = Either (Map (truth_at true) (token is.True)) (Either (Map (truth_at false) (token is.False)) (Map text_at text))

unfoldable pub literal : Syntax Literal
literal =
    Either (Map (λ p. whole_number false p.0 p.1) integer)
    (Either (Map (λ p. whole_number true p.1.0 p.0) (Then (token is.Minus) integer)) word_literal)

-- ---- accesses

-- how a name is read, and what stands in where there is no value; by the place of the point
abbrev pub Reading : Type 0
Reading = Access × Option Expr

abbrev pub or_else : ℕ → Expr → Option Expr → Expr
or_else dot left None = left
or_else dot left (Some b) = e.Defaults dot left b

abbrev pub with_default : Expr → ℕ × Expr → Expr
with_default left p = e.Defaults p.0 left p.1

unfoldable pub offset : Syntax (ℕ → Reading)
offset =
    Map (λ p dot. (a.Offset dot p.0 p.1, None))
    (word (codes "offset") *> nesting is.Open *> word (codes "by") *> token is.Colon *> nesting is.Minus *> integer <* token is.Shut)

-- whether a window counts only where it lies within the run
unfoldable pub over : Syntax Bool
over = Either (Map (λ at. false) (word (codes "over"))) (Map (λ at. true) (word (codes "over_exactly")))

unfoldable pub window : Syntax (ℕ → Reading)
window =
    Map (λ p dot. (a.Window dot p.0 p.1.0 p.1.1, None))
    (word (codes "aggregate") *> nesting is.Open
    *> Then over (Then (token is.Colon *> quantity) (token is.Comma *> word (codes "using") *> token is.Colon *> name)) <* token is.Shut)

-- such a reading behind a point there
abbrev pub at_dot : ℕ → Syntax (ℕ → Reading) → Syntax Reading
at_dot dot s = Map (λ g. g dot) s

-- what the arguments of a name are: their opening bracket, and they
abbrev pub Arguments : Type 0
Arguments = ℕ × List Expr

-- a name with its arguments, where it has any, read so
abbrev pub reference : Name → Option Arguments → Access → Expr
reference n None how = e.Reference n None [] how
reference n (Some p) how = e.Reference n (Some p.0) p.1 how

-- what an expression is by a name with its arguments
abbrev pub Suffix : Type 0
Suffix = (Access → Expr) → Expr

-- with what the point at `dot` brings
abbrev pub read_by : ℕ → Reading → Suffix
read_by dot how named = or_else dot (named how.0) how.1

-- without a point behind it, or with what the point brings
abbrev pub named_by : (Access → Expr) → Option Suffix → Expr
named_by named None = named a.Direct
named_by named (Some g) = g named

-- such a suffix of this name
abbrev pub of_name : Name → Option Arguments → Syntax Suffix → Syntax Expr
of_name n p s = Map (λ g. g (reference n p)) s

-- ---- expressions: `expr` is an expression, and `other` an operand that begins with no integer, one level further in

module _ (expr other : Syntax Expr) where
  unfoldable pub arguments : Syntax Arguments
  arguments = Then (nesting is.Open) (listed expr <* token is.Shut)

  -- in brackets, what stands in
  unfoldable pub stand_in : Syntax (Option Expr)
  stand_in = nesting is.Open *> Maybe (word (codes "or") *> token is.Colon *> expr) <* token is.Shut

  unfoldable pub hold : Syntax (ℕ → Reading)
  hold = Map (λ b dot. (a.Hold dot, b)) (word (codes "hold") *> stand_in)

  unfoldable pub get : Syntax (ℕ → Reading)
  get = Map (λ b dot. (a.Get dot, b)) (word (codes "get") *> stand_in)

  -- the offset by 1
  unfoldable pub last : Syntax (ℕ → Reading)
  last = Map (λ p dot. (a.Offset dot 1 p.0, p.1)) (Then (word (codes "last")) stand_in)

  unfoldable pub default : Syntax Expr
  default = word (codes "defaults") *> nesting is.Open *> word (codes "to") *> token is.Colon *> expr <* token is.Shut

  -- what may stand behind the point after a name
  unfoldable pub reading : Syntax (ℕ → Reading)
  reading = Either offset (Either hold (Either get (Either last (Either window (Map (λ b dot. (a.Direct, Some b)) default)))))

  unfoldable pub dotted_default : Syntax (ℕ × Expr)
  dotted_default = Then (nesting is.Dot) default

  unfoldable pub defaults : Syntax (Expr → Expr)
  defaults = folded with_default dotted_default

  unfoldable pub dotted : Syntax Suffix
  dotted = Map (λ p. read_by p.0 (p.1 p.0)) (Then (nesting is.Dot) reading)

  unfoldable pub suffix : Syntax Suffix
  suffix = Map (λ p named. p.1 (p.0 named)) (Then dotted defaults)

  unfoldable pub named : Syntax Expr
  named = Map (λ p. named_by (reference p.0 p.1.0) p.1.1) (Then name (Then (Maybe arguments) (Maybe suffix)))

  unfoldable pub number : Syntax Expr
  number = Map (λ p. e.Literal (whole_number false p.0 p.1)) integer |> defaults

  unfoldable pub worded : Syntax Expr
  worded = Map (λ l. e.Literal l) word_literal |> defaults

  unfoldable pub bracketed : Syntax Expr
  bracketed = nesting is.Open *> expr <* token is.Shut |> defaults

  -- an operand behind an operator
  unfoldable pub operand : Syntax Expr
  operand = Either number other

  unfoldable pub negation : Syntax Expr
  negation = Map (λ p. e.Prefix pre.Not p.0 p.1) (Then (nesting is.Not) operand)

  -- a `-` directly before an integer makes one literal
  unfoldable pub negative : Syntax (ℕ → Expr)
  negative = Map (λ p at. p.1 (e.Literal (whole_number true p.0.0 at))) (Then integer defaults)

  unfoldable pub minus : Syntax Expr
  minus = Map (λ p. p.1 p.0) (Then (nesting is.Minus) (Either negative (Map (λ x at. e.Prefix pre.Negate at x) other)))

  -- an operand that begins with no integer and no bracket
  unfoldable pub plain : Syntax Expr
  plain = Either negation (Either minus (Either named worded))

  unfoldable pub other_with : Syntax Expr
  other_with = Either bracketed plain

  unfoldable pub unary : Syntax Expr
  unary = Either number other_with

  unfoldable pub products : Syntax (Expr → Expr)
  products = joined product_operators unary

  unfoldable pub product : Syntax Expr
  product = unary |> products

  unfoldable pub sums : Syntax (Expr → Expr)
  sums = products >> joined sum_operators product

  unfoldable pub sum : Syntax Expr
  sum = unary |> sums

  unfoldable pub comparisons : Syntax (Expr → Expr)
  comparisons = sums >> joined_once comparison_operators sum

  unfoldable pub comparison : Syntax Expr
  comparison = unary |> comparisons

  unfoldable pub conjunctions : Syntax (Expr → Expr)
  conjunctions = comparisons >> joined and_operators comparison

  unfoldable pub conjunction : Syntax Expr
  conjunction = unary |> conjunctions

  -- all that may follow an operand
  unfoldable pub disjunctions : Syntax (Expr → Expr)
  disjunctions = conjunctions >> joined or_operators conjunction

  unfoldable pub conditional : Syntax Expr
  conditional = Map (λ p. e.If p.0 p.1.0 p.1.1.0 p.1.1.1) (Then (nesting is.If) (Then expr (Then (token is.Then *> expr) (token is.Else *> expr))))

  unfoldable pub expr_with : Syntax Expr
  expr_with = Either conditional (unary |> disjunctions)

  -- an expression that begins with no bracket
  unfoldable pub open_operand : Syntax Expr
  open_operand = Either number plain

  unfoldable pub open_expr : Syntax Expr
  open_expr = Either conditional (open_operand |> disjunctions)

  -- behind an opening bracket and an expression, the rest of an expression that begins so
  unfoldable pub closed : Syntax (Expr → Expr)
  closed = token is.Shut *> (defaults >> disjunctions)

abbrev pub other_begins : List Terminal
other_begins = Of is.Open ∷ Of is.Not ∷ Of is.Minus ∷ Of is.Name ∷ Of is.True ∷ Of is.False ∷ Of is.Text ∷ []

abbrev pub open_begins : List Terminal
open_begins = Of is.If ∷ Of is.Integer ∷ Of is.Not ∷ Of is.Minus ∷ Of is.Name ∷ Of is.True ∷ Of is.False ∷ Of is.Text ∷ []

abbrev pub expr_begins : List Terminal
expr_begins = Of is.Open ∷ open_begins

abbrev pub other_goes_on : List Terminal
other_goes_on = Of is.Dot ∷ Of is.Open ∷ []

abbrev pub expr_goes_on : List Terminal
expr_goes_on =
    Of is.Or ∷ Of is.And ∷ Of is.Equal ∷ Of is.Unequal ∷ Of is.Less ∷ Of is.LessEqual ∷ Of is.Greater ∷ Of is.GreaterEqual
    ∷ Of is.Plus ∷ Of is.Minus ∷ Of is.Star ∷ Of is.Slash ∷ Of is.Percent ∷ Of is.Dot ∷ Of is.Open ∷ []

-- an expression, or an operand that begins with no integer, in which at most so many levels are nested
unfoldable pub level : Bool → ℕ → Syntax Expr
level is_whole zero = Past (Map (λ at. e.Literal (truth_at true at)) (token is.True))
level true (suc n) = expr_with (Known expr_begins expr_goes_on (level true n)) (Known other_begins other_goes_on (level false n))
level false (suc n) = other_with (Known expr_begins expr_goes_on (level true n)) (Known other_begins other_goes_on (level false n))

abbrev pub expr_in : ℕ → Syntax Expr
expr_in n = Known expr_begins expr_goes_on (level true n)

abbrev pub other_in : ℕ → Syntax Expr
other_in n = Known other_begins other_goes_on (level false n)

abbrev pub nested : Bool → ℕ → Syntax Expr
nested true n = expr_in n
nested false n = other_in n

-- what counts as a nesting in an expression and in a formula
abbrev pub opening_nestings : List Terminal
opening_nestings = Of is.Open ∷ Of is.Dot ∷ Of is.If ∷ Of is.Not ∷ []

abbrev pub joining_nestings : List Terminal
joining_nestings = Of is.Minus ∷ Of is.Plus ∷ Of is.Star ∷ Of is.Slash ∷ Of is.Percent ∷ Of is.And ∷ Of is.Or ∷ []

abbrev pub comparing_nestings : List Terminal
comparing_nestings = Of is.Equal ∷ Of is.Unequal ∷ Of is.Less ∷ Of is.LessEqual ∷ Of is.Greater ∷ Of is.GreaterEqual ∷ []

abbrev pub operator_nestings : List Terminal
operator_nestings = joining_nestings ++ comparing_nestings

abbrev pub all_nestings : List Terminal
all_nestings = opening_nestings ++ operator_nestings

-- ---- pacings

abbrev pub both : Formula → ℕ × Formula → Formula
both left p = f.Both p.0 left p.1

abbrev pub either : Formula → ℕ × Formula → Formula
either left p = f.Either p.0 left p.1

module _ (formula : Syntax Formula) where
  unfoldable pub atom : Syntax Formula
  atom = Either (Map (λ n. f.Input n) name) (nesting is.Open *> formula <* token is.Shut)

  unfoldable pub conjunctions_of : Syntax (Formula → Formula)
  conjunctions_of = folded both (Then (nesting is.And) atom)

  unfoldable pub conjunct : Syntax Formula
  conjunct = atom |> conjunctions_of

  unfoldable pub alternatives_of : Syntax (Formula → Formula)
  alternatives_of = folded either (Then (nesting is.Or) conjunct)

  unfoldable pub formula_with : Syntax Formula
  formula_with = conjunct |> alternatives_of

abbrev pub formula_begins : List Terminal
formula_begins = Of is.Name ∷ Of is.Open ∷ []

abbrev pub formula_goes_on : List Terminal
formula_goes_on = Of is.And ∷ Of is.Or ∷ []

-- a formula in which at most so many levels are nested
unfoldable pub formula_level : ℕ → Syntax Formula
formula_level zero = Past (Map (λ n. f.Input n) name)
formula_level (suc n) = formula_with (Known formula_begins formula_goes_on (formula_level n))

abbrev pub formula_in : ℕ → Syntax Formula
formula_in n = Known formula_begins formula_goes_on (formula_level n)

abbrev pub clock_words : List (List ℕ)
clock_words = codes "Global" ∷ codes "Local" ∷ []

-- ---- clauses and declarations, in whose expressions and formulas at most n levels are nested

abbrev pub part : ℕ → Expr → Part
part at x = record { at = at; expr = x }

-- what a bracket behind `with` opened, by the expression behind it, its place and that of `with`
abbrev pub Parts : Type 0
Parts = Expr → ℕ → ℕ → List Part

unfoldable pub typed : Syntax Typed
typed = Map (λ p. record { name = p.0; kind = p.1 }) (Then name (token is.Colon *> name))

abbrev pub Bracketed : Type 0
Bracketed = ℕ × List Typed

unfoldable pub parameters : Syntax Bracketed
parameters = Then (token is.Open) (listed typed <* token is.Shut)

unfoldable pub clock : Syntax Rhythm
clock = Either (Map (λ q. r.Global q) (word (codes "Global") *> enclosed quantity)) (Map (λ q. r.Local q) (word (codes "Local") *> enclosed quantity))

unfoldable pub kind : Syntax Name
kind = token is.Colon *> name

unfoldable pub inputs : Syntax Declaration
inputs = Map (λ p. d.Inputs (record { at = p.0; inputs = p.1 })) (Then (token is.Input) (listed typed))

unfoldable pub constant : Syntax Declaration
constant =
    Map (λ p. d.Constant (record { at = p.0; name = p.1.0; kind = p.1.1.0; before = p.1.1.1.0; literal = p.1.1.1.1 }))
    (Then (token is.Constant) (Then name (Then (token is.Colon *> name) (Then (token is.Define) literal))))

-- the parts that a bracket at `bracket` opens behind a `with` at `at`
abbrev pub placed : ℕ → ℕ → Expr × Parts → List Part
placed bracket at p = p.1 p.0 bracket at

abbrev pub given : Expr → ℕ → ℕ → Parts → List Part
given x bracket at g = g x bracket at

abbrev pub behind_with : ℕ → (ℕ → List Part) → List Part
behind_with at g = g at

abbrev pub parts_or_none : Option (List Part) → List Part
parts_or_none None = []
parts_or_none (Some ps) = ps

abbrev pub Body : Type 0
Body = Option Spawn × Eval × Option Close

abbrev pub bracket_of : Option Bracketed → Option ℕ
bracket_of None = None
bracket_of (Some p) = Some p.0

abbrev pub parameters_of : Option Bracketed → List Typed
parameters_of None = []
parameters_of (Some p) = p.1

abbrev pub message_of : Option (List ℕ × ℕ) → List ℕ
message_of None = []
message_of (Some p) = p.0

-- a message that is left out is the empty text
unfoldable pub message : Syntax (List ℕ)
message = Map message_of (Maybe text)

module _ (n : ℕ) where
  unfoldable pub whole : Syntax Expr
  whole = Whole (expr_in n)

  unfoldable pub whole_formula : Syntax Formula
  whole_formula = Whole (formula_in n)

  unfoldable pub rhythm : Syntax Rhythm
  rhythm =
      Either (Map (λ q. r.Rate q) quantity) (Either (Map (λ m. r.Formula (f.Input m)) (other_name clock_words))
      (Either (Map (λ x. r.Formula x) (enclosed whole_formula)) clock))

  unfoldable pub pacing : Syntax Pacing
  pacing = Map (λ p. record { at = p.0; rhythm = p.1 }) (Then (token is.At) rhythm)

  unfoldable pub part_behind : TokenShape → Syntax Part
  part_behind s = Map (λ p. part p.0 p.1) (Then (token s) whole)

  -- the further expressions of a list, and its end
  unfoldable pub more_parts : Syntax Parts
  more_parts = Map (λ p x bracket at. part bracket x ∷ p.0 ∷ p.1) (Then (part_behind is.Comma) (Many (part_behind is.Comma)) <* token is.Shut)

  unfoldable pub one_part : Syntax Parts
  one_part = Known (Of is.Shut ∷ []) expr_goes_on (Map (λ g x bracket at. part at (g x) ∷ []) (closed (expr_in n) (other_in n)))

  -- an expression that begins with no bracket
  unfoldable pub unbracketed : Syntax Expr
  unbracketed = Known open_begins expr_goes_on (open_expr (expr_in n) (other_in n))

  unfoldable pub whole_unbracketed : Syntax Expr
  whole_unbracketed = Whole unbracketed

  -- behind a bracket, which is a nesting only where the first expression goes on behind its end
  unfoldable pub forked : Syntax (Expr × Parts)
  forked = Fork all_nestings (expr_in n) more_parts one_part

  -- an expression or a list of them, by the place of the `with`
  unfoldable pub parts : Syntax (ℕ → List Part)
  parts = Known expr_begins expr_goes_on
      (Either (Map (λ p at. placed p.0 at p.1) (Then (token is.Open) forked))
      (Map (λ x at. part at x ∷ []) whole_unbracketed))

  unfoldable pub with_parts : Syntax (List Part)
  with_parts = Map (λ p. p.1 p.0) (Then (token is.With) parts)

  unfoldable pub spawn : Syntax Spawn
  spawn =
      Map (λ p. record { at = p.0; pacing = p.1.0; when = p.1.1.0; with = parts_or_none p.1.1.1 })
      (Then (token is.Spawn) (Then (Maybe pacing) (Then (Maybe (part_behind is.When)) (Maybe with_parts))))

  unfoldable pub eval : Syntax Eval
  eval =
      Map (λ p. record { at = p.0; pacing = p.1.0; when = p.1.1.0; with = p.1.1.1 })
      (Then (token is.Eval) (Then (Maybe pacing) (Then (Maybe (part_behind is.When)) (part_behind is.With))))

  unfoldable pub close : Syntax Close
  close = Map (λ p. record { at = p.0; pacing = p.1.0; when = p.1.1 }) (Then (token is.Close) (Then (Maybe pacing) (part_behind is.When)))

  -- `@p := e` is `eval @p with e`
  unfoldable pub short_eval : Syntax Eval
  short_eval = Map (λ p. record { at = p.1.at; pacing = p.0; when = None; with = p.1 }) (Then (Maybe pacing) (part_behind is.Define))

  unfoldable pub body : Syntax Body
  body =
      Either (Map (λ x. (None, x, None)) short_eval) (Either (Map (λ x. (None, x, None)) eval)
      (Map (λ p. (Some p.0, p.1.0, p.1.1)) (Then spawn (Then eval (Maybe close)))))

  unfoldable pub output : Syntax Declaration
  output =
      Map (λ p. d.Output (record { at = p.0; name = p.1.0; bracket = bracket_of p.1.1.0; parameters = parameters_of p.1.1.0; kind = p.1.1.1.0; spawn = p.1.1.1.1.0; eval = p.1.1.1.1.1; close = p.1.1.1.1.2 }))
      (Then (token is.Output) (Then name (Then (Maybe parameters) (Then (Maybe kind) body))))

  unfoldable pub trigger : Syntax Declaration
  trigger =
      Map (λ p. d.Trigger (record { pacing = p.1.0; when = part p.0 p.1.1.0; message = p.1.1.1 }))
      (Then (token is.Trigger) (Then (Maybe pacing) (Then whole message)))

  unfoldable pub declaration : Syntax Declaration
  declaration = Either inputs (Either constant (Either output trigger))

  unfoldable pub specification : Syntax (List Declaration)
  specification = Many declaration
