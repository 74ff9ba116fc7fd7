-- How an expression is recognized in rounds: each takes one part of what is still to be read, and what the next tokens show
-- of it. What it then means, is said by the grammar.
use Rattle.std.specs.Prelude.{◌≡◌, ℕ, if◌then◌else◌, List, [], ◌∷◌, drop, codes, Option, Some, None}
use Rattle.lola_lexer.specs.declared.shape.TokenShape.{TokenShape}
use Rattle.lola_lexer.specs.declared.shape.TokenShape.TheVariants as is
use Rattle.lola_parser_grammar.specs.Syntax.{Lexeme, Terminal, Of, Word, starts}
use Rattle.lola_parser.specs.declared.pending.Pending.{Pending}
use Rattle.lola_parser.specs.declared.pending.Pending.TheVariants as p

-- what is left behind something, or nothing where it does not stand there
abbrev pub Left : Type 0
Left = Option (List Lexeme)

infixl 10 ◌>->◌
abbrev pub ◌>->◌ : Left → (List Lexeme → Left) → Left
None >-> f = None
(Some ts) >-> f = f ts

-- behind a token that is one of these
abbrev pub behind : List Terminal → List Lexeme → Left
behind ks ts = if starts ks ts then Some (drop 1 ts) else None

abbrev pub shape : TokenShape → List Lexeme → Left
shape s = behind (Of s ∷ [])

abbrev pub word : List ℕ → List Lexeme → Left
word w = behind (Word w ∷ [])

-- a function went past what it should, or this does not stand there
abbrev pub Gives : {A : Type 0} → Left → Option A → List Lexeme → Type 0
Gives o None new = o ≡ None
Gives o (Some x) new = o ≡ Some new

-- ---- between the brackets of accesses

-- the brackets of an offset
abbrev pub distance : List Lexeme → Left
distance ts = shape is.Open ts >-> word (codes "by") >-> shape is.Colon >-> shape is.Minus >-> shape is.Integer >-> shape is.Shut

abbrev pub over_words : List Terminal
over_words = Word (codes "over") ∷ Word (codes "over_exactly") ∷ []

-- the brackets of a window
abbrev pub frame : List Lexeme → Left
frame ts =
    shape is.Open ts >-> behind over_words >-> shape is.Colon >-> shape is.Quantity >-> shape is.Comma
    >-> word (codes "using") >-> shape is.Colon >-> shape is.Name >-> shape is.Shut

-- behind `defaults`, what stands before its expression
abbrev pub to : List Lexeme → Left
to ts = shape is.Open ts >-> word (codes "to") >-> shape is.Colon

abbrev pub defaults_to : List Lexeme → Left
defaults_to ts = word (codes "defaults") ts >-> to

-- ---- what is to be read instead of a part, and what is left

abbrev pub Turn : Type 0
Turn = Option (List Pending × List Lexeme)

-- these parts behind what is left
abbrev pub and_parts : List Pending → Left → Turn
and_parts ps None = None
and_parts ps (Some ts) = Some (ps, ts)

-- these parts behind one of the tokens
abbrev pub if_next : List Terminal → List Pending → Turn → List Lexeme → Turn
if_next ks ps other ts = if starts ks ts then Some (ps, drop 1 ts) else other

-- or nothing where none of the tokens comes
abbrev pub or_nothing : List Terminal → List Pending → List Lexeme → Turn
or_nothing ks ps ts = if_next ks ps (Some ([], ts)) ts

abbrev pub inner : List Pending
inner = p.Expr ∷ p.Shut ∷ p.Defaults ∷ []

abbrev pub product : List Pending
product = p.Operand ∷ p.Products ∷ []

abbrev pub sum : List Pending
sum = p.Operand ∷ p.Products ∷ p.Sums ∷ []

abbrev pub comparison : List Pending
comparison = p.Operand ∷ p.Products ∷ p.Sums ∷ p.Comparison ∷ []

abbrev pub conjunction : List Pending
conjunction = p.Operand ∷ p.Products ∷ p.Sums ∷ p.Comparison ∷ p.Conjunctions ∷ []

abbrev pub disjunction : List Pending
disjunction = p.Operand ∷ p.Products ∷ p.Sums ∷ p.Comparison ∷ p.Conjunctions ∷ p.Disjunctions ∷ []

abbrev pub prefix_operators : List Terminal
prefix_operators = Of is.Not ∷ Of is.Minus ∷ []

abbrev pub literals : List Terminal
literals = Of is.Integer ∷ Of is.True ∷ Of is.False ∷ Of is.Text ∷ []

abbrev pub product_nestings : List Terminal
product_nestings = Of is.Star ∷ Of is.Slash ∷ Of is.Percent ∷ []

abbrev pub sum_nestings : List Terminal
sum_nestings = Of is.Plus ∷ Of is.Minus ∷ []

abbrev pub comparison_nestings : List Terminal
comparison_nestings = Of is.Equal ∷ Of is.Unequal ∷ Of is.Less ∷ Of is.LessEqual ∷ Of is.Greater ∷ Of is.GreaterEqual ∷ []

abbrev pub conditional : List Pending
conditional = p.Expr ∷ p.Then ∷ p.Expr ∷ p.Else ∷ p.Expr ∷ []

abbrev pub expression_turn : List Lexeme → Turn
expression_turn ts = if_next (Of is.If ∷ []) conditional (Some (disjunction, ts)) ts

abbrev pub operand_turn : List Lexeme → Turn
operand_turn ts =
    if_next prefix_operators (p.Operand ∷ []) (if_next (Of is.Open ∷ []) inner (if_next (Of is.Name ∷ []) (p.Arguments ∷ p.Access ∷ [])
    (if_next literals (p.Defaults ∷ []) None ts) ts) ts) ts

-- behind `hold`, `get` or `last` and an opening bracket
abbrev pub substitute : List Lexeme → Turn
substitute ts = if starts (Word (codes "or") ∷ []) ts then and_parts inner (shape is.Colon (drop 1 ts)) else Some (p.Shut ∷ p.Defaults ∷ [], ts)

abbrev pub and_turn : Left → (List Lexeme → Turn) → Turn
and_turn None f = None
and_turn (Some ts) f = f ts

abbrev pub held_words : List Terminal
held_words = Word (codes "hold") ∷ Word (codes "get") ∷ Word (codes "last") ∷ []

-- behind the point after a name
abbrev pub access : List Lexeme → Turn
access ts =
    if starts (Word (codes "offset") ∷ []) ts then and_parts (p.Defaults ∷ []) (distance (drop 1 ts)) else
    if starts held_words ts then and_turn (shape is.Open (drop 1 ts)) substitute else
    if starts (Word (codes "aggregate") ∷ []) ts then and_parts (p.Defaults ∷ []) (frame (drop 1 ts)) else
    and_parts inner (defaults_to ts)

abbrev pub defaults_turn : List Lexeme → Turn
defaults_turn ts = if starts (Of is.Dot ∷ []) ts then and_parts inner (defaults_to (drop 1 ts)) else Some ([], ts)

abbrev pub access_turn : List Lexeme → Turn
access_turn ts = if starts (Of is.Dot ∷ []) ts then access (drop 1 ts) else Some ([], ts)

abbrev pub arguments : List Pending
arguments = p.Expr ∷ p.FurtherArguments ∷ []

abbrev pub further_turn : List Lexeme → Turn
further_turn ts = if_next (Of is.Comma ∷ []) arguments (and_parts [] (shape is.Shut ts)) ts

-- operators with what they join, or nothing
abbrev pub operators_turn : Pending → List Lexeme → Turn
operators_turn p.Products ts = or_nothing product_nestings product ts
operators_turn p.Sums ts = or_nothing sum_nestings sum ts
operators_turn p.Comparison ts = or_nothing comparison_nestings sum ts
operators_turn p.Conjunctions ts = or_nothing (Of is.And ∷ []) conjunction ts
operators_turn p.Disjunctions ts = or_nothing (Of is.Or ∷ []) disjunction ts
operators_turn _ ts = None

abbrev pub token_turn : TokenShape → List Lexeme → Turn
token_turn s ts = and_parts [] (shape s ts)

abbrev pub turned : Pending → List Lexeme → Turn
turned p.Expr ts = expression_turn ts
turned p.Operand ts = operand_turn ts
turned p.Products ts = operators_turn p.Products ts
turned p.Sums ts = operators_turn p.Sums ts
turned p.Comparison ts = operators_turn p.Comparison ts
turned p.Conjunctions ts = operators_turn p.Conjunctions ts
turned p.Disjunctions ts = operators_turn p.Disjunctions ts
turned p.Defaults ts = defaults_turn ts
turned p.Arguments ts = or_nothing (Of is.Open ∷ []) arguments ts
turned p.FurtherArguments ts = further_turn ts
turned p.Access ts = access_turn ts
turned p.Shut ts = token_turn is.Shut ts
turned p.Then ts = token_turn is.Then ts
turned p.Else ts = token_turn is.Else ts
