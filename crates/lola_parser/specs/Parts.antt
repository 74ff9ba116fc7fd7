-- What the parts that are still to be read leave of a text, where no nesting is counted.
use Rattle.std.specs.Prelude.{◌≡◌, ◌<◌, ℕ, Bool, true, false, List, [], ◌∷◌, length, Some, None}
use Rattle.lola_lexer.specs.declared.shape.TokenShape.TheVariants as is
use Rattle.lola_parser_grammar.specs.Syntax.{Lexeme, Then, Maybe, Many}
use Rattle.lola_parser_grammar.specs.Grammar.{expr_in, other_in, token, unary, products, joined, joined_once, sum_operators, product, comparison_operators, sum, and_operators, comparison, or_operators, conjunction, defaults, arguments, further, suffix}
use Rattle.lola_parser.specs.declared.pending.Pending.{Pending}
use Rattle.lola_parser.specs.declared.pending.Pending.TheVariants as p
use Rattle.lola_parser.specs.Turns.{Left, ◌>->◌, Turn}
use Rattle.lola_parser.specs.Skims.{skim}

-- where at most n levels are nested in it
abbrev pub left_by : ℕ → Pending → List Lexeme → Left
left_by n p.Expr ts = skim (expr_in n) ts
left_by n p.Operand ts = skim (unary (expr_in n) (other_in n)) ts
left_by n p.Products ts = skim (products (expr_in n) (other_in n)) ts
left_by n p.Sums ts = skim (joined sum_operators (product (expr_in n) (other_in n))) ts
left_by n p.Comparison ts = skim (joined_once comparison_operators (sum (expr_in n) (other_in n))) ts
left_by n p.Conjunctions ts = skim (joined and_operators (comparison (expr_in n) (other_in n))) ts
left_by n p.Disjunctions ts = skim (joined or_operators (conjunction (expr_in n) (other_in n))) ts
left_by n p.Defaults ts = skim (defaults (expr_in n) (other_in n)) ts
left_by n p.Arguments ts = skim (Maybe (arguments (expr_in n) (other_in n))) ts
left_by n p.FurtherArguments ts = skim (Then (Many (further (expr_in n))) (token is.Shut)) ts
left_by n p.Access ts = skim (Maybe (suffix (expr_in n) (other_in n))) ts
left_by n p.Shut ts = skim (token is.Shut) ts
left_by n p.Then ts = skim (token is.Then) ts
left_by n p.Else ts = skim (token is.Else) ts

abbrev pub left_by_all : ℕ → List Pending → List Lexeme → Left
left_by_all n [] ts = Some ts
left_by_all n (q ∷ qs) ts = left_by n q ts >-> left_by_all n qs

abbrev pub after_turn : ℕ → Turn → Left
after_turn n None = None
after_turn n (Some (ps, ts)) = left_by_all n ps ts

-- a text begins with an expression, however deep it is nested, behind which this is left; or it begins with none
abbrev pub IsRecognized : List Lexeme → Bool → List Lexeme → Type 0
IsRecognized ts true rest = (n : ℕ) → length ts < n → left_by n p.Expr ts ≡ Some rest
IsRecognized ts false rest = (n : ℕ) → length ts < n → left_by n p.Expr ts ≡ None
