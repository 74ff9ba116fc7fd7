-- Each turn leaves less to do.
use Rattle.std.proofs.Common.{◌≡◌, ℕ, ◌+◌, ◌*◌, ◌<◌, ◌≤◌, Bool, true, false, cond, List, [], ◌∷◌, ◌++◌, length, drop, Some, None, refl, arith, codes, subst}
use Rattle.lola_lexer.specs.declared.shape.TokenShape.{TokenShape}
use Rattle.lola_lexer.specs.declared.shape.TokenShape.TheVariants as is
use Rattle.lola_parser_grammar.specs.Syntax.{Lexeme, Terminal, Of, Word, any_fits, starts}
use Rattle.lola_parser.specs.declared.pending.Pending.{Pending}
use Rattle.lola_parser.specs.declared.pending.Pending.TheVariants as p
use Rattle.lola_parser.specs.Turns.{Left, ◌>->◌, behind, shape, word, Turn, and_parts, and_turn, if_next, distance, frame, to, defaults_to, inner, expression_turn, operand_turn, substitute, access, operators_turn, token_turn, turned, over_words, held_words, product_nestings, product, sum_nestings, sum, comparison_nestings, conjunction, disjunction, conditional, prefix_operators, literals, arguments}
use Rattle.lola_parser.proofs.Skims.{left_some, shortens_behind}

-- an expression is more than the parts that stand for it
abbrev pub weight : Pending → ℕ
weight p.Expr = 7
weight _ = 1

abbrev pub weights : List Pending → ℕ
weights [] = 0
weights (q ∷ qs) = weight q + weights qs

pub weights_append : (ps qs : List Pending) → weights (ps ++ qs) ≡ weights ps + weights qs
weights_append [] qs = omega arith
weights_append (q ∷ ps) qs = omega (arith, weights_append ps qs)

abbrev pub load : List Lexeme → List Pending → ℕ
load ts qs = 30 * length ts + weights qs

some_weight : (q : Pending) → 1 ≤ weight q
some_weight p.Expr = omega arith
some_weight _ = omega arith

abbrev pub Falls : Pending → List Lexeme → Turn → Type 0
Falls q ts None = Unit {0}
Falls q ts (Some (ps, rest)) = (30 * length rest + weights ps < 30 * length ts + weight q) × (length rest ≤ length ts)

abbrev Shorter : List Lexeme → Left → Type 0
Shorter ts o = (rest : List Lexeme) → o ≡ Some rest → length rest < length ts

shorter_then : (ts : List Lexeme) (o : Left) (f : List Lexeme → Left) → Shorter ts o → ((mid : List Lexeme) → Shorter mid (f mid)) → Shorter ts (o >-> f)
shorter_then ts o f h next rest e =
    let q = left_some o f rest e in
    omega (arith, h q.0 q.1, next q.0 rest q.2)

shorter_behind : (ks : List Terminal) (ts : List Lexeme) → Shorter ts (behind ks ts)
shorter_behind ks ts rest e = shortens_behind ks ts rest e

less_one : (ts : List Lexeme) → length (drop 1 ts) ≤ length ts
less_one [] = omega arith
less_one (t ∷ ts) = omega arith

shorter_one : (ts : List Lexeme) (o : Left) → Shorter (drop 1 ts) o → Shorter ts o
shorter_one ts o h rest e = omega (arith, h rest e, less_one ts)

module _ (q : Pending) (ts : List Lexeme) where
  falls_if : (b : Bool) (x y : Turn) → Falls q ts x → Falls q ts y → Falls q ts (cond b x y)
  falls_if true x y h i = h
  falls_if false x y h i = i

  falls_parts : (ps : List Pending) (o : Left) → weights ps ≤ 29 → Shorter ts o → Falls q ts (and_parts ps o)
  falls_parts ps None few h = tt
  falls_parts ps (Some rest) few h = let l = h rest refl in (omega (arith, few, l, some_weight q), omega (arith, l))

  falls_nothing : Falls q ts (Some ([], ts))
  falls_nothing = (omega (arith, some_weight q), omega arith)

falls_next : (q : Pending) (ts : List Lexeme) (ks : List Terminal) (ps : List Pending) (other : Turn) → weights ps ≤ 29 → Falls q ts other → Falls q ts (if_next ks ps other ts)
falls_next q [] ks ps other few h = h
falls_next q (t ∷ ts) ks ps other few h = falls_if q (t ∷ ts) (any_fits ks t) (Some (ps, ts)) other (omega (arith, few, some_weight q), omega arith) h

to_shorter : (ts : List Lexeme) → Shorter ts (to ts)
to_shorter ts = shorter_then ts _ (shape is.Colon) (shorter_then ts (shape is.Open ts) (word (codes "to")) (shorter_behind (Of is.Open ∷ []) ts) (λ m. shorter_behind (Word (codes "to") ∷ []) m)) (λ m. shorter_behind (Of is.Colon ∷ []) m)

defaults_shorter : (ts : List Lexeme) → Shorter ts (defaults_to ts)
defaults_shorter ts = shorter_then ts (word (codes "defaults") ts) to (shorter_behind (Word (codes "defaults") ∷ []) ts) to_shorter

distance_shorter : (ts : List Lexeme) → Shorter ts (distance ts)
distance_shorter ts = shorter_then ts _ (shape is.Shut) (shorter_then ts _ (shape is.Integer) (shorter_then ts _ (shape is.Minus) (shorter_then ts _ (shape is.Colon) (shorter_then ts (shape is.Open ts) (word (codes "by")) (shorter_behind (Of is.Open ∷ []) ts) (λ m. shorter_behind (Word (codes "by") ∷ []) m)) (λ m. shorter_behind (Of is.Colon ∷ []) m)) (λ m. shorter_behind (Of is.Minus ∷ []) m)) (λ m. shorter_behind (Of is.Integer ∷ []) m)) (λ m. shorter_behind (Of is.Shut ∷ []) m)

frame_shorter : (ts : List Lexeme) → Shorter ts (frame ts)
frame_shorter ts = shorter_then ts _ (shape is.Shut) (shorter_then ts _ (shape is.Name) (shorter_then ts _ (shape is.Colon) (shorter_then ts _ (word (codes "using")) (shorter_then ts _ (shape is.Comma) (shorter_then ts _ (shape is.Quantity) (shorter_then ts _ (shape is.Colon) (shorter_then ts (shape is.Open ts) (behind over_words) (shorter_behind (Of is.Open ∷ []) ts) (λ m. shorter_behind over_words m)) (λ m. shorter_behind (Of is.Colon ∷ []) m)) (λ m. shorter_behind (Of is.Quantity ∷ []) m)) (λ m. shorter_behind (Of is.Comma ∷ []) m)) (λ m. shorter_behind (Word (codes "using") ∷ []) m)) (λ m. shorter_behind (Of is.Colon ∷ []) m)) (λ m. shorter_behind (Of is.Name ∷ []) m)) (λ m. shorter_behind (Of is.Shut ∷ []) m)

-- behind `hold`, `get` or `last`
substitute_falls : (q : Pending) (ts mid : List Lexeme) → length mid < length ts → Falls q ts (substitute mid)
substitute_falls q ts mid less =
    let closed : Falls q ts (Some (p.Shut ∷ p.Defaults ∷ [], mid)) = (omega (arith, less, some_weight q), omega (arith, less)) in
    falls_if q ts (starts (Word (codes "or") ∷ []) mid) (and_parts inner (shape is.Colon (drop 1 mid))) (Some (p.Shut ∷ p.Defaults ∷ [], mid))
    (falls_parts q ts inner (shape is.Colon (drop 1 mid)) (omega arith) (λ rest e. omega (arith, less, less_one mid, shorter_behind (Of is.Colon ∷ []) (drop 1 mid) rest e))) closed

held_falls : (q : Pending) (ts : List Lexeme) (o : Left) → Shorter ts o → Falls q ts (and_turn o substitute)
held_falls q ts None h = tt
held_falls q ts (Some mid) h = substitute_falls q ts mid (h mid refl)

access_falls : (q : Pending) (ts : List Lexeme) (xs : List Lexeme) → length xs ≤ length ts → Falls q ts (access xs)
access_falls q ts xs le =
    let one = and_parts (p.Defaults ∷ []) (distance (drop 1 xs)) in
    let two = and_turn (shape is.Open (drop 1 xs)) substitute in
    let three = and_parts (p.Defaults ∷ []) (frame (drop 1 xs)) in
    let four = and_parts inner (defaults_to xs) in
    let windows = cond (starts (Word (codes "aggregate") ∷ []) xs) three four in
    let held = cond (starts held_words xs) two windows in
    falls_if q ts (starts (Word (codes "offset") ∷ []) xs) one held (falls_parts q ts (p.Defaults ∷ []) (distance (drop 1 xs)) (omega arith) (λ rest e. omega (arith, le, less_one xs, distance_shorter (drop 1 xs) rest e)))
    (falls_if q ts (starts held_words xs) two windows (held_falls q ts (shape is.Open (drop 1 xs)) (λ rest e. omega (arith, le, less_one xs, shorter_behind (Of is.Open ∷ []) (drop 1 xs) rest e)))
    (falls_if q ts (starts (Word (codes "aggregate") ∷ []) xs) three four (falls_parts q ts (p.Defaults ∷ []) (frame (drop 1 xs)) (omega arith) (λ rest e. omega (arith, le, less_one xs, frame_shorter (drop 1 xs) rest e)))
    (falls_parts q ts inner (defaults_to xs) (omega arith) (λ rest e. omega (arith, le, defaults_shorter xs rest e)))))

operators_falls : (q r : Pending) (ts : List Lexeme) → Falls q ts (operators_turn r ts)
operators_falls q p.Products ts = falls_next q ts product_nestings product (Some ([], ts)) (omega arith) (falls_nothing q ts)
operators_falls q p.Sums ts = falls_next q ts sum_nestings sum (Some ([], ts)) (omega arith) (falls_nothing q ts)
operators_falls q p.Comparison ts = falls_next q ts comparison_nestings sum (Some ([], ts)) (omega arith) (falls_nothing q ts)
operators_falls q p.Conjunctions ts = falls_next q ts (Of is.And ∷ []) conjunction (Some ([], ts)) (omega arith) (falls_nothing q ts)
operators_falls q p.Disjunctions ts = falls_next q ts (Of is.Or ∷ []) disjunction (Some ([], ts)) (omega arith) (falls_nothing q ts)
operators_falls q _ ts = tt

token_falls : (q : Pending) (s : TokenShape) (ts : List Lexeme) → Falls q ts (token_turn s ts)
token_falls q s ts = falls_parts q ts [] (shape s ts) (omega arith) (shorter_behind (Of s ∷ []) ts)

operand_falls : (q : Pending) (ts : List Lexeme) → Falls q ts (operand_turn ts)
operand_falls q ts =
    let four = if_next literals (p.Defaults ∷ []) None ts in
    let three = if_next (Of is.Name ∷ []) (p.Arguments ∷ p.Access ∷ []) four ts in
    let two = if_next (Of is.Open ∷ []) inner three ts in
    falls_next q ts prefix_operators (p.Operand ∷ []) two (omega arith) (falls_next q ts (Of is.Open ∷ []) inner three (omega arith)
    (falls_next q ts (Of is.Name ∷ []) (p.Arguments ∷ p.Access ∷ []) four (omega arith) (falls_next q ts literals (p.Defaults ∷ []) None (omega arith) tt)))

expression_falls : (ts : List Lexeme) → Falls p.Expr ts (expression_turn ts)
expression_falls ts =
    let whole : Falls p.Expr ts (Some (disjunction, ts)) = (omega arith, omega arith) in
    falls_next p.Expr ts (Of is.If ∷ []) conditional (Some (disjunction, ts)) (omega arith) whole

pub falls : (q : Pending) (ts : List Lexeme) → Falls q ts (turned q ts)
falls p.Expr ts = expression_falls ts
falls p.Operand ts = operand_falls p.Operand ts
falls p.Products ts = operators_falls p.Products p.Products ts
falls p.Sums ts = operators_falls p.Sums p.Sums ts
falls p.Comparison ts = operators_falls p.Comparison p.Comparison ts
falls p.Conjunctions ts = operators_falls p.Conjunctions p.Conjunctions ts
falls p.Disjunctions ts = operators_falls p.Disjunctions p.Disjunctions ts
falls p.Defaults ts = falls_if p.Defaults ts (starts (Of is.Dot ∷ []) ts) (and_parts inner (defaults_to (drop 1 ts))) (Some ([], ts)) (falls_parts p.Defaults ts inner (defaults_to (drop 1 ts)) (omega arith) (shorter_one ts (defaults_to (drop 1 ts)) (defaults_shorter (drop 1 ts)))) (falls_nothing p.Defaults ts)
falls p.Arguments ts = falls_next p.Arguments ts (Of is.Open ∷ []) arguments (Some ([], ts)) (omega arith) (falls_nothing p.Arguments ts)
falls p.FurtherArguments ts = falls_next p.FurtherArguments ts (Of is.Comma ∷ []) arguments (token_turn is.Shut ts) (omega arith) (token_falls p.FurtherArguments is.Shut ts)
falls p.Access ts = falls_if p.Access ts (starts (Of is.Dot ∷ []) ts) (access (drop 1 ts)) (Some ([], ts)) (access_falls p.Access ts (drop 1 ts) (less_one ts)) (falls_nothing p.Access ts)
falls p.Shut ts = token_falls p.Shut is.Shut ts
falls p.Then ts = token_falls p.Then is.Then ts
falls p.Else ts = token_falls p.Else is.Else ts

pub turn_falls : (q : Pending) (qs ps : List Pending) (ts new : List Lexeme) → turned q ts ≡ Some (ps, new) → (load new (ps ++ qs) < load ts (q ∷ qs)) × (length new ≤ length ts)
turn_falls q qs ps ts new e =
    let h : Falls q ts (Some (ps, new)) = subst (Falls q ts) e (falls q ts) in
    (omega (arith, h.0, weights_append ps qs), h.1)
