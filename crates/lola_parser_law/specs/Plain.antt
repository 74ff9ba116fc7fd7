-- The grammar of specifications, production by production as the RTLola language reference has it. Nothing in it regards how
-- it is read: alternatives may begin alike, and each operand stands where it is written.
--
-- What a production spells is its part of the tree, which has the long forms alone and no brackets.
use Rattle.std.specs.Prelude.{ℕ, zero, suc, true, false, List, [], ◌∷◌, fold, Option, Some, None, codes}
use Rattle.lola_lexer.specs.declared.shape.TokenShape.{TokenShape}
use Rattle.lola_lexer.specs.declared.shape.TokenShape.TheVariants as is
use Rattle.lola_parser_grammar.specs.declared.literals.Name.{Name}
use Rattle.lola_parser_grammar.specs.declared.literals.Typed.{Typed}
use Rattle.lola_parser_grammar.specs.declared.literals.Literal.{Literal}
use Rattle.lola_parser_grammar.specs.declared.expressions.Prefix.TheVariants as pre
use Rattle.lola_parser_grammar.specs.declared.expressions.Binary.{Binary}
use Rattle.lola_parser_grammar.specs.declared.expressions.Binary.TheVariants as by
use Rattle.lola_parser_grammar.specs.declared.expressions.Access.TheVariants as a
use Rattle.lola_parser_grammar.specs.declared.expressions.Expr.{Expr}
use Rattle.lola_parser_grammar.specs.declared.expressions.Expr.TheVariants as e
use Rattle.lola_parser_grammar.specs.declared.pacing.Formula.{Formula}
use Rattle.lola_parser_grammar.specs.declared.pacing.Formula.TheVariants as f
use Rattle.lola_parser_grammar.specs.declared.pacing.Rhythm.TheVariants as r
use Rattle.lola_parser_grammar.specs.declared.pacing.Pacing.{Pacing}
use Rattle.lola_parser_grammar.specs.declared.clauses.Part.{Part}
use Rattle.lola_parser_grammar.specs.declared.clauses.Spawn.{Spawn}
use Rattle.lola_parser_grammar.specs.declared.clauses.Eval.{Eval}
use Rattle.lola_parser_grammar.specs.declared.clauses.Close.{Close}
use Rattle.lola_parser_grammar.specs.declared.declarations.Declaration.{Declaration}
use Rattle.lola_parser_grammar.specs.declared.declarations.Declaration.TheVariants as d
use Rattle.lola_parser_grammar.specs.Syntax.{Syntax, Whole, Then, Map, Either, Maybe, Many}
use Rattle.lola_parser_grammar.specs.Grammar.{token, word, name, other_name, integer, text, quantity, ◌*>◌, ◌<*◌, enclosed, listed, whole_number, truth_at, text_at, Operator, join, compared, Reading, or_else, with_default, Arguments, reference, both, either, clock_words, part, Body, bracket_of, parameters_of, parts_or_none, message_of}

-- one or the other
infixr 10 ◌∣◌
abbrev pub ◌∣◌ : {A : Type 0} → Syntax A → Syntax A → Syntax A
a ∣ b = Either a b

-- a { b }, of which each b is joined to what stands left of it
abbrev pub from_left : {A B : Type 0} → (B → A → B) → Syntax B → Syntax A → Syntax B
from_left f a b = Map (λ p. fold f p.0 p.1) (Then a (Many b))

-- Literal = integer | "-" integer | "true" | "false" | text
-- Of them the others than the first begin with no integer.
unfoldable pub other_literal : Syntax Literal
other_literal =
    Map (λ p. whole_number true p.1.0 p.0) (Then (token is.Minus) integer)
    ∣ Map (truth_at true) (token is.True) ∣ Map (truth_at false) (token is.False) ∣ Map text_at text

unfoldable pub literal : Syntax Literal
literal = Map (λ p. whole_number false p.0 p.1) integer ∣ other_literal

-- an operator between operands
abbrev pub operator : TokenShape → Binary → Syntax Operator
operator s op = Map (λ at. (op, at)) (token s)

-- a name with its arguments, and behind a point, with its place, how it is read
abbrev pub read_so : (Name × Option Arguments) × Option (ℕ × (ℕ → Reading)) → Expr
read_so (n, None) = reference n.0 n.1 a.Direct
read_so (n, Some (dot, how)) = or_else dot (reference n.0 n.1 (how dot).0) (how dot).1

-- `expr` is an expression, `unary` an operand, and `other` an operand that begins with no integer, one level further in
module _ (expr unary other : Syntax Expr) where
  -- "(" [ "or" ":" Expr ] ")"
  unfoldable pub stand_in : Syntax (Option Expr)
  stand_in = token is.Open *> Maybe (word (codes "or") *> token is.Colon *> expr) <* token is.Shut

  -- Access = "offset" "(" "by" ":" "-" integer ")" | ( "hold" | "get" | "last" ) "(" [ "or" ":" Expr ] ")"
  --        | "aggregate" "(" ( "over" | "over_exactly" ) ":" quantity "," "using" ":" name ")"
  -- By the place of the point, how the name is read, and what stands in where it has no value. `last()` is the offset by 1.
  unfoldable pub access : Syntax (ℕ → Reading)
  access =
      Map (λ p dot. (a.Offset dot p.0 p.1, None))
      (word (codes "offset") *> token is.Open *> word (codes "by") *> token is.Colon *> token is.Minus *> integer <* token is.Shut)
      ∣ Map (λ b dot. (a.Hold dot, b)) (word (codes "hold") *> stand_in)
      ∣ Map (λ b dot. (a.Get dot, b)) (word (codes "get") *> stand_in)
      ∣ Map (λ p dot. (a.Offset dot 1 p.0, p.1)) (Then (word (codes "last")) stand_in)
      ∣ Map (λ p dot. (a.Window dot p.0 p.1.0 p.1.1, None))
      (word (codes "aggregate") *> token is.Open
      *> Then (Map (λ at. false) (word (codes "over")) ∣ Map (λ at. true) (word (codes "over_exactly")))
      (Then (token is.Colon *> quantity) (token is.Comma *> word (codes "using") *> token is.Colon *> name))
      <* token is.Shut)

  -- Ref = name [ "(" Expr { "," Expr } ")" ]
  unfoldable pub ref : Syntax (Name × Option Arguments)
  ref = Then name (Maybe (Then (token is.Open) (listed expr <* token is.Shut)))

  -- Prim = Literal | "(" Expr ")" | Ref [ "." Access ], of such literals
  unfoldable pub prim : Syntax Literal → Syntax Expr
  prim literals =
      Map (λ l. e.Literal l) literals
      ∣ token is.Open *> expr <* token is.Shut
      ∣ Map read_so (Then ref (Maybe (Then (token is.Dot) access)))

  -- Post = Prim { "." "defaults" "(" "to" ":" Expr ")" }
  unfoldable pub default : Syntax (ℕ × Expr)
  default = Then (token is.Dot) (word (codes "defaults") *> token is.Open *> word (codes "to") *> token is.Colon *> expr <* token is.Shut)

  unfoldable pub post : Syntax Literal → Syntax Expr
  post literals = from_left with_default (prim literals) default

  -- Unary = "!" Unary | "-" Unary | Post
  -- A `-` directly before an integer makes one literal with it: what another `-` stands before begins with no integer.
  unfoldable pub not_unary : Syntax Expr
  not_unary = Map (λ p. e.Prefix pre.Not p.0 p.1) (Then (token is.Not) unary)

  unfoldable pub minus_unary : Syntax Expr
  minus_unary = Map (λ p. e.Prefix pre.Negate p.0 p.1) (Then (token is.Minus) other)

  unfoldable pub unary_with : Syntax Expr
  unary_with = not_unary ∣ minus_unary ∣ post literal

  unfoldable pub other_with : Syntax Expr
  other_with = not_unary ∣ minus_unary ∣ post other_literal

  -- Prod = Unary { ( "*" | "/" | "%" ) Unary }
  unfoldable pub prod : Syntax Expr
  prod = from_left join unary_with (Then (operator is.Star by.Multiply ∣ operator is.Slash by.Divide ∣ operator is.Percent by.Remainder) unary_with)

  -- Sum = Prod { ( "+" | "-" ) Prod }
  unfoldable pub sum : Syntax Expr
  sum = from_left join prod (Then (operator is.Plus by.Add ∣ operator is.Minus by.Subtract) prod)

  -- Cmp = Sum [ ( "==" | "!=" | "<" | "<=" | ">" | ">=" ) Sum ]
  unfoldable pub cmp : Syntax Expr
  cmp = Map (λ p. compared p.1 p.0) (Then sum (Maybe (Then (operator is.Equal by.Equal ∣ operator is.Unequal by.Unequal ∣ operator is.Less by.Less
      ∣ operator is.LessEqual by.LessEqual ∣ operator is.Greater by.Greater ∣ operator is.GreaterEqual by.GreaterEqual) sum)))

  -- And = Cmp { "&&" Cmp }
  unfoldable pub and : Syntax Expr
  and = from_left join cmp (Then (operator is.And by.And) cmp)

  -- Or = And { "||" And }
  unfoldable pub or : Syntax Expr
  or = from_left join and (Then (operator is.Or by.Or) and)

  -- Expr = "if" Expr "then" Expr "else" Expr | Or
  unfoldable pub expr_with : Syntax Expr
  expr_with = Map (λ p. e.If p.0 p.1.0 p.1.1.0 p.1.1.1) (Then (token is.If) (Then expr (Then (token is.Then *> expr) (token is.Else *> expr)))) ∣ or

-- Expressions and operands in which at most so many levels are nested. Where none may be, the literal `true` stands for them.
unfoldable pub innermost : Syntax Expr
innermost = Map (λ at. e.Literal (truth_at true at)) (token is.True)

unfoldable mutual
  pub expr_in : ℕ → Syntax Expr
  expr_in zero = innermost
  expr_in (suc n) = expr_with (expr_in n) (unary_in n) (other_in n)

  pub unary_in : ℕ → Syntax Expr
  unary_in zero = innermost
  unary_in (suc n) = unary_with (expr_in n) (unary_in n) (other_in n)

  pub other_in : ℕ → Syntax Expr
  other_in zero = innermost
  other_in (suc n) = other_with (expr_in n) (unary_in n) (other_in n)

module _ (form : Syntax Formula) where
  -- Atom = name | "(" Form ")"
  unfoldable pub atom : Syntax Formula
  atom = Map (λ n. f.Input n) name ∣ token is.Open *> form <* token is.Shut

  -- Conj = Atom { "&&" Atom }
  unfoldable pub conj : Syntax Formula
  conj = from_left both atom (Then (token is.And) atom)

  -- Form = Conj { "||" Conj }
  unfoldable pub form_with : Syntax Formula
  form_with = from_left either conj (Then (token is.Or) conj)

-- formulas in which at most so many levels are nested, and a name where none may be
unfoldable pub form_in : ℕ → Syntax Formula
form_in zero = Map (λ n. f.Input n) name
form_in (suc n) = form_with (form_in n)

-- Param = name ":" name
unfoldable pub param : Syntax Typed
param = Map (λ p. record { name = p.0; kind = p.1 }) (Then name (token is.Colon *> name))

-- Input = "input" name ":" name { "," name ":" name }
unfoldable pub input : Syntax Declaration
input = Map (λ p. d.Inputs (record { at = p.0; inputs = p.1 })) (Then (token is.Input) (listed param))

-- Constant = "constant" name ":" name ":=" Literal
unfoldable pub constant : Syntax Declaration
constant =
    Map (λ p. d.Constant (record { at = p.0; name = p.1.0; kind = p.1.1.0; before = p.1.1.1.0; literal = p.1.1.1.1 }))
    (Then (token is.Constant) (Then name (Then (token is.Colon *> name) (Then (token is.Define) literal))))

-- `expr` is an expression, and `form` a formula
module _ (expr : Syntax Expr) (form : Syntax Formula) where
  -- Pace = "@" ( quantity | name | "(" Form ")" | "Global" "(" quantity ")" | "Local" "(" quantity ")" )
  -- Directly behind the `@`, `Global` and `Local` are always these words.
  unfoldable pub pace : Syntax Pacing
  pace = Map (λ p. record { at = p.0; rhythm = p.1 }) (Then (token is.At)
      (Map (λ q. r.Rate q) quantity
      ∣ Map (λ m. r.Formula (f.Input m)) (other_name clock_words)
      ∣ Map (λ x. r.Formula x) (enclosed form)
      ∣ Map (λ q. r.Global q) (word (codes "Global") *> enclosed quantity)
      ∣ Map (λ q. r.Local q) (word (codes "Local") *> enclosed quantity)))

  -- an expression behind a token, with the place of that
  unfoldable pub behind : TokenShape → Syntax Part
  behind s = Map (λ p. part p.0 p.1) (Then (token s) expr)

  -- Exprs = Expr | "(" Expr "," Expr { "," Expr } ")"
  -- The place of one alone is that of the `with`, and in a list each one's that of the bracket or comma before it.
  unfoldable pub exprs : Syntax (ℕ → List Part)
  exprs =
      Map (λ x at. part at x ∷ []) expr
      ∣ Map (λ p at. p.0 ∷ p.1.0 ∷ p.1.1) (Then (behind is.Open) (Then (behind is.Comma) (Many (behind is.Comma))) <* token is.Shut)

  -- Spawn = "spawn" [ Pace ] [ "when" Expr ] [ "with" Exprs ]
  unfoldable pub spawn : Syntax Spawn
  spawn =
      Map (λ p. record { at = p.0; pacing = p.1.0; when = p.1.1.0; with = parts_or_none p.1.1.1 })
      (Then (token is.Spawn) (Then (Maybe pace) (Then (Maybe (behind is.When)) (Maybe (Map (λ p. p.1 p.0) (Then (token is.With) exprs))))))

  -- Eval = "eval" [ Pace ] [ "when" Expr ] "with" Expr
  unfoldable pub eval : Syntax Eval
  eval =
      Map (λ p. record { at = p.0; pacing = p.1.0; when = p.1.1.0; with = p.1.1.1 })
      (Then (token is.Eval) (Then (Maybe pace) (Then (Maybe (behind is.When)) (behind is.With))))

  -- Close = "close" [ Pace ] "when" Expr
  unfoldable pub close : Syntax Close
  close = Map (λ p. record { at = p.0; pacing = p.1.0; when = p.1.1 }) (Then (token is.Close) (Then (Maybe pace) (behind is.When)))

  -- Body = [ Pace ] ":=" Expr | Eval | Spawn Eval [ Close ]
  -- `@p := e` is `eval @p with e`.
  unfoldable pub body : Syntax Body
  body =
      Map (λ p. (None, record { at = p.1.at; pacing = p.0; when = None; with = p.1 }, None)) (Then (Maybe pace) (behind is.Define))
      ∣ Map (λ x. (None, x, None)) eval
      ∣ Map (λ p. (Some p.0, p.1.0, p.1.1)) (Then spawn (Then eval (Maybe close)))

  -- Output = "output" name [ "(" Param { "," Param } ")" ] [ ":" name ] Body
  unfoldable pub output : Syntax Declaration
  output =
      Map (λ p. d.Output (record { at = p.0; name = p.1.0; bracket = bracket_of p.1.1.0; parameters = parameters_of p.1.1.0; kind = p.1.1.1.0; spawn = p.1.1.1.1.0; eval = p.1.1.1.1.1; close = p.1.1.1.1.2 }))
      (Then (token is.Output) (Then name (Then (Maybe (Then (token is.Open) (listed param <* token is.Shut))) (Then (Maybe (token is.Colon *> name)) body))))

  -- Trigger = "trigger" [ Pace ] Expr [ text ]
  -- A message that is left out is the empty text.
  unfoldable pub trigger : Syntax Declaration
  trigger =
      Map (λ p. d.Trigger (record { pacing = p.1.0; when = part p.0 p.1.1.0; message = p.1.1.1 }))
      (Then (token is.Trigger) (Then (Maybe pace) (Then expr (Map message_of (Maybe text)))))

  -- Spec = { Input | Constant | Output | Trigger }
  unfoldable pub spec : Syntax (List Declaration)
  spec = Many (input ∣ constant ∣ output ∣ trigger)

-- A specification in whose expressions and formulas at most so many levels are nested. Each expression and formula that is
-- directly a part of a clause is a whole one, in which the nestings are counted.
abbrev pub specification : ℕ → Syntax (List Declaration)
specification n = spec (Whole (expr_in n)) (Whole (form_in n))
