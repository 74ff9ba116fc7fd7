-- What expressions cost: no spelling has fewer nestings than the printed one.
use Rattle.std.proofs.Common.{◌≡◌, ℕ, zero, suc, ◌+◌, ◌≤◌, true, false, List, Option, Some, None, refl, ap, ◌∙◌, arith, inl, inr}
use Rattle.lola_lexer.specs.declared.shape.TokenShape.TheVariants as is
use Rattle.lola_parser_grammar.specs.declared.literals.Literal.{Literal}
use Rattle.lola_parser_grammar.specs.declared.expressions.Prefix.TheVariants as pre
use Rattle.lola_parser_grammar.specs.declared.expressions.Binary.{Binary}
use Rattle.lola_parser_grammar.specs.declared.expressions.Binary.TheVariants as by
use Rattle.lola_parser_grammar.specs.declared.expressions.Expr.{Expr}
use Rattle.lola_parser_grammar.specs.declared.expressions.Expr.TheVariants as e
use Rattle.lola_parser_grammar.specs.Syntax.{Lexeme, Syntax, Then, Map, Either, Perhaps, Spells}
use Rattle.lola_parser_grammar.specs.Nestings.{nestings_in}
use Rattle.lola_parser_grammar.specs.Grammar as g
use Rattle.lola_parser_grammar.specs.Grammar.{all_nestings, token, nesting, whole_number, truth_at, join, compared, folded, expr_in, other_in, expr_begins, expr_goes_on, other_begins, other_goes_on, ◌*>◌, ◌<*◌, ◌|>◌, ◌>>◌}
use Rattle.lola_parser_print.specs.Print.{bare, tightness, left_of, shape_of}
use Rattle.lola_parser_law.proofs.Counts.{count, count-append, alone, at, behind_minus, of_other, at_tight, at_least, at_most, at_rises, minus_least, operand_least, no_heads_other, at-Binary, count-Not, count-Negate, count-If, negative_count, truth_count, minus_Prefix, is-If, is-Not, is-Minus, is-operator}
use Rattle.lola_parser_law.proofs.Costs.{Costs, Adds, with_nestings, past, known, both, mapped, either, behind, weaker, followed, chained, from_more, joined}
use Rattle.lola_parser_law.proofs.FewestOperands.{number_costs, worded_costs, bracketed_costs, named_costs, defaults_add, defaults_other}

-- ---- operators between operands

-- an operator is a nesting, and asks its operands to bind so tightly
abbrev pub Operators : Syntax g.Operator → ℕ → ℕ → Type 0
Operators s l t = (ts : List Lexeme) (x : g.Operator) → Spells s ts x → (1 ≤ count ts) × (left_of x.0 ≡ l) × (tightness x.0 ≡ t)

one_operator : (op : Binary) → Operators (g.operator (shape_of op) op) (left_of op) (tightness op)
unfolding Spells g.operator
one_operator op ts x h = (with_nestings (shape_of op) (is-operator op) ts h.0 h.2, ap (λ (s : g.Operator). left_of s.0) h.1, ap (λ (s : g.Operator). tightness s.0) h.1)

either_operator : (a b : Syntax g.Operator) (l t : ℕ) → Operators a l t → Operators b l t → Operators (Either a b) l t
unfolding Spells
either_operator a b l t p q ts x (inl h) = p ts x h
either_operator a b l t p q ts x (inr h) = q ts x h

product_operators : Operators g.product_operators 5 5
unfolding g.product_operators
product_operators = either_operator _ _ 5 5 (one_operator by.Multiply) (either_operator _ _ 5 5 (one_operator by.Divide) (one_operator by.Remainder))

sum_operators : Operators g.sum_operators 4 4
unfolding g.sum_operators
sum_operators = either_operator _ _ 4 4 (one_operator by.Add) (one_operator by.Subtract)

comparison_operators : Operators g.comparison_operators 4 3
unfolding g.comparison_operators
comparison_operators =
    either_operator _ _ 4 3 (one_operator by.Equal)
    (either_operator _ _ 4 3 (one_operator by.Unequal)
    (either_operator _ _ 4 3 (one_operator by.Less)
    (either_operator _ _ 4 3 (one_operator by.LessEqual) (either_operator _ _ 4 3 (one_operator by.Greater) (one_operator by.GreaterEqual)))))

and_operators : Operators g.and_operators 2 2
unfolding g.and_operators
and_operators = one_operator by.And

or_operators : Operators g.or_operators 1 1
unfolding g.or_operators
or_operators = one_operator by.Or

-- an operator with its right operand, behind a left one
operator_costs : (operators : Syntax g.Operator) (operand : Syntax Expr) (l t : ℕ) → Operators operators l t → Costs operand (at (suc t))
    → (ts : List Lexeme) (r : g.Joined) → Spells (Then operators operand) ts r → (left : Expr) → at t (join left r) ≤ at l left + count ts
unfolding Spells
operator_costs operators operand l t p q ts r h left =
    let s = p h.0 r.0 h.3 in
    let left_same : at (left_of r.0.0) left ≡ at l left = ap (λ (k : ℕ). at k left) s.1 in
    let right_same : at (suc (tightness r.0.0)) r.1 ≡ at (suc t) r.1 = ap (λ (k : ℕ). at (suc k) r.1) s.2 in
    let whole_same : at (tightness r.0.0) (join left r) ≡ at t (join left r) = ap (λ (k : ℕ). at k (join left r)) s.2 in
    omega (arith, at-Binary r.0.0 r.0.1 left r.1, left_same, right_same, whole_same, s.0, q h.1 r.1 h.4, ap count h.2, count-append h.0 h.1)

operators_add : (operators : Syntax g.Operator) (operand : Syntax Expr) (t : ℕ) → Operators operators t t → Costs operand (at (suc t)) → Adds (g.joined operators operand) (at t) (at t)
operators_add operators operand t p q = joined join (Then operators operand) (at t) (operator_costs operators operand t t p q)

-- an operator with its right operand, or none
once_add : (operators : Syntax g.Operator) (operand : Syntax Expr) → Operators operators 4 3 → Costs operand (at 4) → Adds (g.joined_once operators operand) (at 4) (at 3)
unfolding Spells
once_add operators operand p q ts f h left = omega (arith, ap (λ (k : Expr → Expr). at 3 (k left)) h.1, by h.0 ts h.2)
  where
    by : (o : Option g.Joined) (u : List Lexeme) → Perhaps (Spells (Then operators operand)) u o → at 3 (compared o left) ≤ at 4 left + count u
    by None u k = omega (arith, at_rises 3 4 left (omega arith))
    by (Some r) u k = operator_costs operators operand 4 3 p q u r k left

module _ (E O : Syntax Expr) (inner : Costs E alone) (inner_other : Costs O behind_minus) where
  -- ---- operators before operands

  operand_costs : Costs (g.operand E O) (at 6)
  unfolding g.operand
  operand_costs =
      either (g.number E O) O (at 6) (weaker (g.number E O) (at 7) (at 6) (λ x. at_rises 6 7 x (omega arith)) (number_costs E O inner)) (weaker O behind_minus (at 6) operand_least inner_other)

  negation_costs : Costs (g.negation E O) behind_minus
  unfolding g.negation
  negation_costs =
      mapped (λ p. e.Prefix pre.Not p.0 p.1) (Then (nesting is.Not) (g.operand E O)) behind_minus
      (weaker (Then (nesting is.Not) (g.operand E O)) (λ p. 1 + at 6 p.1) (λ p. behind_minus (e.Prefix pre.Not p.0 p.1)) (λ p. omega (arith, minus_Prefix pre.Not p.0 p.1, count-Not p.0 p.1))
      (both (nesting is.Not) (g.operand E O) (λ _. 1) (at 6) (with_nestings is.Not is-Not) operand_costs))

  -- behind a `-`, by its place
  abbrev Negated : Syntax (ℕ → Expr) → Type 0
  Negated s = (ts : List Lexeme) (f : ℕ → Expr) → Spells s ts f → (p : ℕ) → behind_minus (f p) ≤ suc (count ts)

  literal_negated : Negated (g.negative E O)
  unfolding Spells g.negative
  literal_negated ts f h p =
      let l = h.2 in
      let z : Literal = whole_number true h.0.0.0 p in
      let x = h.0.1 (e.Literal z) in
      let one : of_other (e.Literal z) ≡ 1 = no_heads_other (e.Literal z) refl ∙ at_tight 7 (e.Literal z) (omega arith) ∙ negative_count h.0.0.0 p in
      omega (arith, ap (λ (k : ℕ → Expr). behind_minus (k p)) h.1, ap count l.2, count-append l.0 l.1, minus_least x, defaults_other E O inner l.1 h.0.1 l.4 (e.Literal z), one)

  other_negated : Negated (Map (λ x p. e.Prefix pre.Negate p x) O)
  unfolding Spells
  other_negated ts f h p = omega (arith, ap (λ (k : ℕ → Expr). behind_minus (k p)) h.1, minus_Prefix pre.Negate p h.0, count-Negate p h.0, inner_other ts h.0 h.2)

  minus_costs : Costs (g.minus E O) behind_minus
  unfolding Spells g.minus
  minus_costs ts x h =
      let l = h.2 in
      omega (arith, ap behind_minus h.1, ap count l.2, count-append l.0 l.1, with_nestings is.Minus is-Minus l.0 h.0.0 l.3, by h.0.1 h.0.0 l.1 l.4)
    where
      by : (f : ℕ → Expr) (p : ℕ) (u : List Lexeme) → Spells (Either (g.negative E O) (Map (λ x p. e.Prefix pre.Negate p x) O)) u f → behind_minus (f p) ≤ suc (count u)
      by f p u (inl k) = literal_negated u f k p
      by f p u (inr k) = other_negated u f k p

  plain_costs : Costs (g.plain E O) behind_minus
  unfolding g.plain
  plain_costs =
      either (g.negation E O) _ behind_minus negation_costs
      (either (g.minus E O) _ behind_minus minus_costs
      (either (g.named E O) (g.worded E O) behind_minus (weaker (g.named E O) of_other behind_minus minus_least (named_costs E O inner)) (weaker (g.worded E O) of_other behind_minus minus_least (worded_costs E O inner))))

  pub other_costs : Costs (g.other_with E O) behind_minus
  unfolding g.other_with
  other_costs = either (g.bracketed E O) (g.plain E O) behind_minus (weaker (g.bracketed E O) of_other behind_minus minus_least (bracketed_costs E O inner)) plain_costs

  integer_front : Costs (g.number E O) (at 6)
  integer_front = weaker (g.number E O) (at 7) (at 6) (λ x. at_rises 6 7 x (omega arith)) (number_costs E O inner)

  unary_costs : Costs (g.unary E O) (at 6)
  unfolding g.unary
  unary_costs = either (g.number E O) (g.other_with E O) (at 6) integer_front (weaker (g.other_with E O) behind_minus (at 6) operand_least other_costs)

  open_costs : Costs (g.open_operand E O) (at 6)
  unfolding g.open_operand
  open_costs = either (g.number E O) (g.plain E O) (at 6) integer_front (weaker (g.plain E O) behind_minus (at 6) operand_least plain_costs)

  -- ---- what may follow an operand

  abbrev from_unary : (tail : Syntax (Expr → Expr)) (t : ℕ) → Adds tail (at 5) (at t) → Costs (g.unary E O |> tail) (at t)
  from_unary tail t h = followed (g.unary E O) tail (at 6) (at t) unary_costs (from_more tail (at 6) (at 5) (at t) (λ x. at_rises 5 6 x (omega arith)) h)

  products_add : Adds (g.products E O) (at 5) (at 5)
  unfolding g.products
  products_add = operators_add g.product_operators (g.unary E O) 5 product_operators unary_costs

  product_costs : Costs (g.product E O) (at 5)
  unfolding g.product
  product_costs = from_unary (g.products E O) 5 products_add

  sums_add : Adds (g.sums E O) (at 5) (at 4)
  unfolding g.sums
  sums_add =
      chained (g.products E O) (g.joined g.sum_operators (g.product E O)) (at 5) (at 5) (at 4) products_add
      (from_more _ (at 5) (at 4) (at 4) (λ x. at_rises 4 5 x (omega arith)) (operators_add g.sum_operators (g.product E O) 4 sum_operators product_costs))

  sum_costs : Costs (g.sum E O) (at 4)
  unfolding g.sum
  sum_costs = from_unary (g.sums E O) 4 sums_add

  comparisons_add : Adds (g.comparisons E O) (at 5) (at 3)
  unfolding g.comparisons
  comparisons_add = chained (g.sums E O) (g.joined_once g.comparison_operators (g.sum E O)) (at 5) (at 4) (at 3) sums_add (once_add g.comparison_operators (g.sum E O) comparison_operators sum_costs)

  comparison_costs : Costs (g.comparison E O) (at 3)
  unfolding g.comparison
  comparison_costs = from_unary (g.comparisons E O) 3 comparisons_add

  conjunctions_add : Adds (g.conjunctions E O) (at 5) (at 2)
  unfolding g.conjunctions
  conjunctions_add =
      chained (g.comparisons E O) (g.joined g.and_operators (g.comparison E O)) (at 5) (at 3) (at 2) comparisons_add
      (from_more _ (at 3) (at 2) (at 2) (λ x. at_rises 2 3 x (omega arith)) (operators_add g.and_operators (g.comparison E O) 2 and_operators comparison_costs))

  conjunction_costs : Costs (g.conjunction E O) (at 2)
  unfolding g.conjunction
  conjunction_costs = from_unary (g.conjunctions E O) 2 conjunctions_add

  pub disjunctions_add : Adds (g.disjunctions E O) (at 5) (at 1)
  unfolding g.disjunctions
  disjunctions_add =
      chained (g.conjunctions E O) (g.joined g.or_operators (g.conjunction E O)) (at 5) (at 2) (at 1) conjunctions_add
      (from_more _ (at 2) (at 1) (at 1) (λ x. at_rises 1 2 x (omega arith)) (operators_add g.or_operators (g.conjunction E O) 1 or_operators conjunction_costs))

  -- ---- whole expressions

  conditional_costs : Costs (g.conditional E O) alone
  unfolding g.conditional
  conditional_costs =
      mapped (λ p. e.If p.0 p.1.0 p.1.1.0 p.1.1.1) (Then (nesting is.If) (Then E (Then (token is.Then *> E) (token is.Else *> E)))) alone
      (weaker (Then (nesting is.If) (Then E (Then (token is.Then *> E) (token is.Else *> E)))) (λ p. 1 + (alone p.1.0 + (alone p.1.1.0 + alone p.1.1.1))) (λ p. alone (e.If p.0 p.1.0 p.1.1.0 p.1.1.1))
      (λ p. omega (arith, count-If p.0 p.1.0 p.1.1.0 p.1.1.1))
      (both (nesting is.If) _ (λ _. 1) (λ p. alone p.0 + (alone p.1.0 + alone p.1.1)) (with_nestings is.If is-If)
      (both E _ alone (λ p. alone p.0 + alone p.1) inner
      (both (token is.Then *> E) (token is.Else *> E) alone alone (behind (token is.Then) E alone inner) (behind (token is.Else) E alone inner)))))

  pub expr_costs : Costs (g.expr_with E O) alone
  unfolding g.expr_with
  expr_costs = either (g.conditional E O) (g.unary E O |> g.disjunctions E O) alone conditional_costs (weaker (g.unary E O |> g.disjunctions E O) (at 1) alone (λ x. at_least 1 x) (from_unary (g.disjunctions E O) 1 disjunctions_add))

  pub open_expr_costs : Costs (g.open_expr E O) alone
  unfolding g.open_expr
  open_expr_costs =
      either (g.conditional E O) (g.open_operand E O |> g.disjunctions E O) alone conditional_costs
      (weaker (g.open_operand E O |> g.disjunctions E O) (at 1) alone (λ x. at_least 1 x)
      (followed (g.open_operand E O) (g.disjunctions E O) (at 6) (at 1) open_costs (from_more (g.disjunctions E O) (at 6) (at 5) (at 1) (λ x. at_rises 5 6 x (omega arith)) disjunctions_add)))

  -- behind a bracket and an expression: the bracket is a nesting
  pub closed_add : Adds (g.closed E O) (λ x. suc (alone x)) alone
  unfolding Spells g.closed
  closed_add ts f h left =
      let l = h.2 in
      let m = l.4 in
      let n = m.2 in
      let x = m.0.0 left in
      omega (
        arith,
        ap (λ (k : Expr → Expr). alone (k left)) (h.1 ∙ m.1),
        ap count l.2,
        count-append l.0 l.1,
        ap count n.2,
        count-append n.0 n.1,
        at_most 7 left,
        defaults_add E O inner n.0 m.0.0 n.3 left,
        at_rises 5 7 x (omega arith),
        disjunctions_add n.1 m.0.1 n.4 x,
        at_least 1 (m.0.1 x),
      )

-- ---- at whatever depth

mutual
  unfolding g.level

  pub expr_at : (n : ℕ) → Costs (g.level true n) alone
  expr_at zero = past (Map (λ p. e.Literal (truth_at true p)) (token is.True)) alone (mapped (λ p. e.Literal (truth_at true p)) (token is.True) alone (λ ts p h. omega (arith, truth_count true p)))
  expr_at (suc n) = expr_costs (expr_in n) (other_in n) (known expr_begins expr_goes_on (g.level true n) alone (expr_at n)) (known other_begins other_goes_on (g.level false n) behind_minus (other_at n))

  pub other_at : (n : ℕ) → Costs (g.level false n) behind_minus
  other_at zero =
      past (Map (λ p. e.Literal (truth_at true p)) (token is.True)) behind_minus
      (mapped (λ p. e.Literal (truth_at true p)) (token is.True) behind_minus
      (λ ts p h. let z = e.Literal (truth_at true p) in let free : of_other z ≡ 0 = no_heads_other z refl ∙ at_tight 7 z (omega arith) ∙ truth_count true p in omega (arith, minus_least z, free)))
  other_at (suc n) = other_costs (expr_in n) (other_in n) (known expr_begins expr_goes_on (g.level true n) alone (expr_at n)) (known other_begins other_goes_on (g.level false n) behind_minus (other_at n))

pub expr_in_costs : (n : ℕ) → Costs (expr_in n) alone
expr_in_costs n = known expr_begins expr_goes_on (g.level true n) alone (expr_at n)

pub other_in_costs : (n : ℕ) → Costs (other_in n) behind_minus
other_in_costs n = known other_begins other_goes_on (g.level false n) behind_minus (other_at n)

pub fewest : (n : ℕ) (ts : List Lexeme) (x : Expr) → Spells (expr_in n) ts x → nestings_in all_nestings (bare x) ≤ nestings_in all_nestings ts
unfolding count
fewest n ts x h = expr_in_costs n ts x h
