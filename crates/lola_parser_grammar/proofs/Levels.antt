-- How many levels may be nested makes no difference, once there are more than nestings.
use Rattle.std.proofs.Common.{◌≡◌, ℕ, zero, suc, ◌≤◌, ◌<◌, true, false, List, refl, ap, arith}
use Rattle.lola_lexer.specs.declared.shape.TokenShape.{TokenShape}
use Rattle.lola_lexer.specs.declared.shape.TokenShape.TheVariants as is
use Rattle.lola_parser_grammar.specs.declared.expressions.Expr.{Expr}
use Rattle.lola_parser_grammar.specs.declared.pacing.Formula.{Formula}
use Rattle.lola_parser_grammar.specs.declared.declarations.Declaration.{Declaration}
use Rattle.lola_parser_grammar.specs.Syntax.{Lexeme, Of, Syntax, Outcome, Then, Maybe, Many, same_shape, max_nestings, first, nullable, read, read_all, all_read}
use Rattle.lola_parser_grammar.specs.Nestings.{tallies}
use Rattle.lola_parser_grammar.specs.Grammar.{all_nestings, place, Operator, join, with_default, folded, joined, joined_once, listed, further, either, both, level, formula_level, expr_in, other_in, formula_in, ◌*>◌, ◌<*◌, ◌|>◌, ◌>>◌, token, nesting, word, name, integer, text, quantity, operator, product_operators, sum_operators, comparison_operators, and_operators, or_operators, word_literal, offset, over, window, arguments, stand_in, hold, get, last, default, reading, dotted_default, defaults, dotted, suffix, named, number, worded, bracketed, operand, negation, negative, minus, plain, other_with, unary, products, product, sums, sum, comparisons, comparison, conjunctions, conjunction, disjunctions, conditional, expr_with, atom, conjunctions_of, conjunct, alternatives_of, formula_with, parameters, kind, message, whole, whole_formula, whole_unbracketed, rhythm, pacing, part_behind, more_parts, one_part, forked, parts, with_parts, spawn, eval, close, short_eval, body, inputs, constant, output, trigger, declaration, specification, open_operand, open_expr, closed, unbracketed}
use Rattle.lola_parser_grammar.proofs.Same.{SameBelow, SameAlways, same_self, same_less, same_map, same_then, same_behind, same_either, same_maybe, same_known, same_many, tallied_spends, always_self, always_whole, always_known, always_map, always_then, always_either, always_maybe, always_many, always_fork}
use Rattle.lola_parser_grammar.proofs.Depth.{level_tallies, formula_tallies}

-- ---- what nests nothing

any_word : (w : List ℕ) (k : ℕ) → SameBelow k (word w) (word w)
unfolding tallies same_shape word
any_word w k = same_self all_nestings (word w) k refl

any_name : (k : ℕ) → SameBelow k name name
unfolding tallies same_shape name
any_name k = same_self all_nestings name k refl

any_integer : (k : ℕ) → SameBelow k integer integer
unfolding tallies same_shape integer
any_integer k = same_self all_nestings integer k refl

any_literal : (k : ℕ) → SameBelow k word_literal word_literal
unfolding tallies same_shape word_literal text token
any_literal k = same_self all_nestings word_literal k refl

any_offset : (k : ℕ) → SameBelow k offset offset
unfolding tallies same_shape offset token nesting word integer
any_offset k = same_self all_nestings offset k refl

any_window : (k : ℕ) → SameBelow k window window
unfolding tallies same_shape window over token nesting word quantity name
any_window k = same_self all_nestings window k refl

any_product : (k : ℕ) → SameBelow k product_operators product_operators
unfolding tallies same_shape product_operators operator nesting
any_product k = same_self all_nestings product_operators k refl

any_sum : (k : ℕ) → SameBelow k sum_operators sum_operators
unfolding tallies same_shape sum_operators operator nesting
any_sum k = same_self all_nestings sum_operators k refl

any_comparison : (k : ℕ) → SameBelow k comparison_operators comparison_operators
unfolding tallies same_shape comparison_operators operator nesting
any_comparison k = same_self all_nestings comparison_operators k refl

any_and : (k : ℕ) → SameBelow k and_operators and_operators
unfolding tallies same_shape and_operators operator nesting
any_and k = same_self all_nestings and_operators k refl

any_or : (k : ℕ) → SameBelow k or_operators or_operators
unfolding tallies same_shape or_operators operator nesting
any_or k = same_self all_nestings or_operators k refl

any_comma : (k : ℕ) → SameBelow k (token is.Comma) (token is.Comma)
unfolding tallies same_shape token
any_comma k = same_self all_nestings (token is.Comma) k refl

any_shut : (k : ℕ) → SameBelow k (token is.Shut) (token is.Shut)
unfolding tallies same_shape token
any_shut k = same_self all_nestings (token is.Shut) k refl

any_colon : (k : ℕ) → SameBelow k (token is.Colon) (token is.Colon)
unfolding tallies same_shape token
any_colon k = same_self all_nestings (token is.Colon) k refl

any_then : (k : ℕ) → SameBelow k (token is.Then) (token is.Then)
unfolding tallies same_shape token
any_then k = same_self all_nestings (token is.Then) k refl

any_else : (k : ℕ) → SameBelow k (token is.Else) (token is.Else)
unfolding tallies same_shape token
any_else k = same_self all_nestings (token is.Else) k refl

any_open_nesting : (k : ℕ) → SameBelow k (nesting is.Open) (nesting is.Open)
unfolding tallies same_shape nesting
any_open_nesting k = same_self all_nestings (nesting is.Open) k refl

any_and_nesting : (k : ℕ) → SameBelow k (nesting is.And) (nesting is.And)
unfolding tallies same_shape nesting
any_and_nesting k = same_self all_nestings (nesting is.And) k refl

any_or_nesting : (k : ℕ) → SameBelow k (nesting is.Or) (nesting is.Or)
unfolding tallies same_shape nesting
any_or_nesting k = same_self all_nestings (nesting is.Or) k refl

-- ---- how parts are put together

after : {A B : Type 0} (k : ℕ) (a a' : Syntax A) (b b' : Syntax B) → SameBelow k a a' → SameBelow k b b' → SameBelow k (a *> b) (a' *> b')
after k a a' b b' h i = same_map (λ p. p.1) k (Then a b) (Then a' b') (same_then k a a' b b' h i)

before : {A B : Type 0} (k : ℕ) (a a' : Syntax A) (b b' : Syntax B) → SameBelow k a a' → SameBelow k b b' → SameBelow k (a <* b) (a' <* b')
before k a a' b b' h i = same_map (λ p. p.0) k (Then a b) (Then a' b') (same_then k a a' b b' h i)

with_nestings : {B : Type 0} (s : TokenShape) (k : ℕ) (b b' : Syntax B) → SameBelow k b b' → SameBelow (suc k) (Then (nesting s) b) (Then (nesting s) b')
unfolding nesting
with_nestings s k b b' h = same_behind place (Of s) k b b' h

after_nesting : {B : Type 0} (s : TokenShape) (k : ℕ) (b b' : Syntax B) → SameBelow k b b' → SameBelow (suc k) (nesting s *> b) (nesting s *> b')
after_nesting s k b b' h = same_map (λ p. p.1) (suc k) (Then (nesting s) b) (Then (nesting s) b') (with_nestings s k b b' h)

led : {A : Type 0} (k : ℕ) (a a' : Syntax A) (b b' : Syntax (A → A)) → SameBelow k a a' → SameBelow k b b' → SameBelow k (a |> b) (a' |> b')
led k a a' b b' h i = same_map (λ p. p.1 p.0) k (Then a b) (Then a' b') (same_then k a a' b b' h i)

led_on : {A : Type 0} (k : ℕ) (a a' b b' : Syntax (A → A)) → SameBelow k a a' → SameBelow k b b' → SameBelow k (a >> b) (a' >> b')
led_on k a a' b b' h i = same_map (λ p left. p.1 (p.0 left)) k (Then a b) (Then a' b') (same_then k a a' b b' h i)

folds : {A B : Type 0} (f : B → A → B) (k : ℕ) (s s' : Syntax A) → SameBelow k s s' → SameBelow k (folded f s) (folded f s')
folds f k s s' h = same_map _ k (Many s) (Many s') (same_many k s s' h)

joins : (k : ℕ) (operators : Syntax Operator) (operand operand' : Syntax Expr) → SameBelow k operators operators → SameBelow k operand operand' → SameBelow k (joined operators operand) (joined operators operand')
joins k operators operand operand' h i = folds join k (Then operators operand) (Then operators operand') (same_then k operators operators operand operand' h i)

joins_once : (k : ℕ) (operators : Syntax Operator) (operand operand' : Syntax Expr) → SameBelow k operators operators → SameBelow k operand operand' → SameBelow k (joined_once operators operand) (joined_once operators operand')
joins_once k operators operand operand' h i = same_map _ k (Maybe (Then operators operand)) (Maybe (Then operators operand')) (same_maybe k (Then operators operand) (Then operators operand') (same_then k operators operators operand operand' h i))

lists : {A : Type 0} (k : ℕ) (s s' : Syntax A) → SameBelow k s s' → SameBelow k (listed s) (listed s')
lists k s s' h = same_map _ k (Then s (Many (further s))) (Then s' (Many (further s'))) (same_then k s s' (Many (further s)) (Many (further s')) h (same_many k (further s) (further s') (after k (token is.Comma) (token is.Comma) s s' (any_comma k) h)))

-- ---- expressions

module _ (E E' O O' : Syntax Expr) (n : ℕ) (in_E : SameBelow n E E') (in_O : SameBelow n O O') where
  arguments_same : SameBelow (suc n) (arguments E O) (arguments E' O')
  unfolding arguments
  arguments_same = with_nestings is.Open n _ _ (before n _ _ _ _ (lists n E E' in_E) (any_shut n))

  stand_in_same : SameBelow n (stand_in E O) (stand_in E' O')
  unfolding stand_in
  stand_in_same = after n _ _ _ _ (any_open_nesting n) (before n _ _ _ _ (same_maybe n _ _ (after n _ _ _ _ (any_word _ n) (after n _ _ _ _ (any_colon n) in_E))) (any_shut n))

  hold_same : SameBelow n (hold E O) (hold E' O')
  unfolding hold
  hold_same = same_map _ n _ _ (after n _ _ _ _ (any_word _ n) stand_in_same)

  get_same : SameBelow n (get E O) (get E' O')
  unfolding get
  get_same = same_map _ n _ _ (after n _ _ _ _ (any_word _ n) stand_in_same)

  last_same : SameBelow n (last E O) (last E' O')
  unfolding last
  last_same = same_map _ n _ _ (same_then n _ _ _ _ (any_word _ n) stand_in_same)

  default_same : SameBelow n (default E O) (default E' O')
  unfolding default
  default_same = after n _ _ _ _ (any_word _ n) (after n _ _ _ _ (any_open_nesting n) (after n _ _ _ _ (any_word _ n) (after n _ _ _ _ (any_colon n) (before n _ _ _ _ in_E (any_shut n)))))

  reading_same : SameBelow n (reading E O) (reading E' O')
  unfolding reading
  reading_same = same_either n _ _ _ _ (any_offset n) (same_either n _ _ _ _ hold_same (same_either n _ _ _ _ get_same (same_either n _ _ _ _ last_same (same_either n _ _ _ _ (any_window n) (same_map _ n _ _ default_same)))))

  dotted_default_same : SameBelow (suc n) (dotted_default E O) (dotted_default E' O')
  unfolding dotted_default
  dotted_default_same = with_nestings is.Dot n _ _ default_same

  defaults_same : SameBelow (suc n) (defaults E O) (defaults E' O')
  unfolding defaults
  defaults_same = folds with_default (suc n) _ _ dotted_default_same

  dotted_same : SameBelow (suc n) (dotted E O) (dotted E' O')
  unfolding dotted
  dotted_same = same_map _ (suc n) _ _ (with_nestings is.Dot n _ _ reading_same)

  suffix_same : SameBelow (suc n) (suffix E O) (suffix E' O')
  unfolding suffix
  suffix_same = same_map _ (suc n) _ _ (same_then (suc n) _ _ _ _ dotted_same defaults_same)

  named_same : SameBelow (suc n) (named E O) (named E' O')
  unfolding named
  named_same = same_map _ (suc n) _ _ (same_then (suc n) _ _ _ _ (any_name (suc n)) (same_then (suc n) _ _ _ _ (same_maybe (suc n) _ _ arguments_same) (same_maybe (suc n) _ _ suffix_same)))

  number_same : SameBelow (suc n) (number E O) (number E' O')
  unfolding number
  number_same = led (suc n) _ _ _ _ (same_map _ (suc n) _ _ (any_integer (suc n))) defaults_same

  worded_same : SameBelow (suc n) (worded E O) (worded E' O')
  unfolding worded
  worded_same = led (suc n) _ _ _ _ (same_map _ (suc n) _ _ (any_literal (suc n))) defaults_same

  bracketed_same : SameBelow (suc n) (bracketed E O) (bracketed E' O')
  unfolding bracketed
  bracketed_same = led (suc n) _ _ _ _ (after_nesting is.Open n _ _ (before n _ _ _ _ in_E (any_shut n))) defaults_same

  operand_same : SameBelow n (operand E O) (operand E' O')
  unfolding operand
  operand_same = same_either n _ _ _ _ (same_less (suc n) n _ _ (omega arith) number_same) in_O

  negation_same : SameBelow (suc n) (negation E O) (negation E' O')
  unfolding negation
  negation_same = same_map _ (suc n) _ _ (with_nestings is.Not n _ _ operand_same)

  negative_same : SameBelow n (negative E O) (negative E' O')
  unfolding negative
  negative_same = same_map _ n _ _ (same_then n _ _ _ _ (any_integer n) (same_less (suc n) n _ _ (omega arith) defaults_same))

  minus_same : SameBelow (suc n) (minus E O) (minus E' O')
  unfolding minus
  minus_same = same_map _ (suc n) _ _ (with_nestings is.Minus n _ _ (same_either n _ _ _ _ negative_same (same_map _ n _ _ in_O)))

  plain_same : SameBelow (suc n) (plain E O) (plain E' O')
  unfolding plain
  plain_same = same_either (suc n) _ _ _ _ negation_same (same_either (suc n) _ _ _ _ minus_same (same_either (suc n) _ _ _ _ named_same worded_same))

  other_same : SameBelow (suc n) (other_with E O) (other_with E' O')
  unfolding other_with
  other_same = same_either (suc n) _ _ _ _ bracketed_same plain_same

  unary_same : SameBelow (suc n) (unary E O) (unary E' O')
  unfolding unary
  unary_same = same_either (suc n) _ _ _ _ number_same other_same

  products_same : SameBelow (suc n) (products E O) (products E' O')
  unfolding products
  products_same = joins (suc n) product_operators _ _ (any_product (suc n)) unary_same

  product_same : SameBelow (suc n) (product E O) (product E' O')
  unfolding product
  product_same = led (suc n) _ _ _ _ unary_same products_same

  sums_same : SameBelow (suc n) (sums E O) (sums E' O')
  unfolding sums
  sums_same = led_on (suc n) _ _ _ _ products_same (joins (suc n) sum_operators _ _ (any_sum (suc n)) product_same)

  sum_same : SameBelow (suc n) (sum E O) (sum E' O')
  unfolding sum
  sum_same = led (suc n) _ _ _ _ unary_same sums_same

  comparisons_same : SameBelow (suc n) (comparisons E O) (comparisons E' O')
  unfolding comparisons
  comparisons_same = led_on (suc n) _ _ _ _ sums_same (joins_once (suc n) comparison_operators _ _ (any_comparison (suc n)) sum_same)

  comparison_same : SameBelow (suc n) (comparison E O) (comparison E' O')
  unfolding comparison
  comparison_same = led (suc n) _ _ _ _ unary_same comparisons_same

  conjunctions_same : SameBelow (suc n) (conjunctions E O) (conjunctions E' O')
  unfolding conjunctions
  conjunctions_same = led_on (suc n) _ _ _ _ comparisons_same (joins (suc n) and_operators _ _ (any_and (suc n)) comparison_same)

  conjunction_same : SameBelow (suc n) (conjunction E O) (conjunction E' O')
  unfolding conjunction
  conjunction_same = led (suc n) _ _ _ _ unary_same conjunctions_same

  disjunctions_same : SameBelow (suc n) (disjunctions E O) (disjunctions E' O')
  unfolding disjunctions
  disjunctions_same = led_on (suc n) _ _ _ _ conjunctions_same (joins (suc n) or_operators _ _ (any_or (suc n)) conjunction_same)

  conditional_same : SameBelow (suc n) (conditional E O) (conditional E' O')
  unfolding conditional
  conditional_same = same_map _ (suc n) _ _ (with_nestings is.If n _ _ (same_then n _ _ _ _ in_E (same_then n _ _ _ _ (after n _ _ _ _ (any_then n) in_E) (after n _ _ _ _ (any_else n) in_E))))

  expr_same : SameBelow (suc n) (expr_with E O) (expr_with E' O')
  unfolding expr_with
  expr_same = same_either (suc n) _ _ _ _ conditional_same (led (suc n) _ _ _ _ unary_same disjunctions_same)

  open_operand_same : SameBelow (suc n) (open_operand E O) (open_operand E' O')
  unfolding open_operand
  open_operand_same = same_either (suc n) _ _ _ _ number_same plain_same

  open_same : SameBelow (suc n) (open_expr E O) (open_expr E' O')
  unfolding open_expr
  open_same = same_either (suc n) _ _ _ _ conditional_same (led (suc n) _ _ _ _ open_operand_same disjunctions_same)

  closed_same : SameBelow (suc n) (closed E O) (closed E' O')
  unfolding closed
  closed_same = after (suc n) _ _ _ _ (any_shut (suc n)) (led_on (suc n) _ _ _ _ defaults_same disjunctions_same)

expr_known_tallies : (n : ℕ) → tallies all_nestings (expr_in n) ≡ true
unfolding tallies
expr_known_tallies n = level_tallies true n

expr_known : (k n n' : ℕ) → ((m : ℕ) (ts : List Lexeme) → m < k → read (level true n) m ts ≡ read (level true n') m ts) → SameBelow k (expr_in n) (expr_in n')
unfolding read first nullable
expr_known k n n' h = record { reads = h; firsts = refl; fulls = refl; spends = tallied_spends all_nestings (expr_in n) (expr_known_tallies n) }

other_known_tallies : (n : ℕ) → tallies all_nestings (other_in n) ≡ true
unfolding tallies
other_known_tallies n = level_tallies false n

other_known : (k n n' : ℕ) → ((m : ℕ) (ts : List Lexeme) → m < k → read (level false n) m ts ≡ read (level false n') m ts) → SameBelow k (other_in n) (other_in n')
unfolding read first nullable
other_known k n n' h = record { reads = h; firsts = refl; fulls = refl; spends = tallied_spends all_nestings (other_in n) (other_known_tallies n) }

formula_known_tallies : (n : ℕ) → tallies all_nestings (formula_in n) ≡ true
unfolding tallies
formula_known_tallies n = formula_tallies n

formula_known : (k n n' : ℕ) → ((m : ℕ) (ts : List Lexeme) → m < k → read (formula_level n) m ts ≡ read (formula_level n') m ts) → SameBelow k (formula_in n) (formula_in n')
unfolding read first nullable
formula_known k n n' h = record { reads = h; firsts = refl; fulls = refl; spends = tallied_spends all_nestings (formula_in n) (formula_known_tallies n) }

abbrev SameLevels : ℕ → Type 0
SameLevels k = (n n' : ℕ) → k ≤ n → k ≤ n' → SameBelow k (expr_in n) (expr_in n') × SameBelow k (other_in n) (other_in n')

next_level : (k : ℕ) → SameLevels k → (n n' : ℕ) → suc k ≤ n → suc k ≤ n' → SameBelow (suc k) (expr_in n) (expr_in n') × SameBelow (suc k) (other_in n) (other_in n')
unfolding level
next_level k h zero n' le le' = absurd (omega (arith, le))
next_level k h (suc n) zero le le' = absurd (omega (arith, le'))
next_level k h (suc n) (suc n') le le' =
    let p = h n n' (omega (arith, le)) (omega (arith, le')) in (
      expr_known (suc k) (suc n) (suc n') (expr_same (expr_in n) (expr_in n') (other_in n) (other_in n') k p.0 p.1).reads,
      other_known (suc k) (suc n) (suc n') (other_same (expr_in n) (expr_in n') (other_in n) (other_in n') k p.0 p.1).reads,
    )

pub levels_same : (k : ℕ) → SameLevels k
levels_same zero n n' le le' = (expr_known zero n n' (λ m ts low. absurd (omega (arith, low))), other_known zero n n' (λ m ts low. absurd (omega (arith, low))))
levels_same (suc k) n n' le le' = next_level k (levels_same k) n n' le le'

-- ---- formulas

module _ (F F' : Syntax Formula) (n : ℕ) (in_F : SameBelow n F F') where
  atom_same : SameBelow (suc n) (atom F) (atom F')
  unfolding atom
  atom_same = same_either (suc n) _ _ _ _ (same_map _ (suc n) _ _ (any_name (suc n))) (after_nesting is.Open n _ _ (before n _ _ _ _ in_F (any_shut n)))

  conjunct_same : SameBelow (suc n) (conjunct F) (conjunct F')
  unfolding conjunct conjunctions_of
  conjunct_same = led (suc n) _ _ _ _ atom_same (folds both (suc n) _ _ (same_then (suc n) _ _ _ _ (any_and_nesting (suc n)) atom_same))

  formula_same : SameBelow (suc n) (formula_with F) (formula_with F')
  unfolding formula_with alternatives_of
  formula_same = led (suc n) _ _ _ _ conjunct_same (folds either (suc n) _ _ (same_then (suc n) _ _ _ _ (any_or_nesting (suc n)) conjunct_same))

abbrev SameFormulas : ℕ → Type 0
SameFormulas k = (n n' : ℕ) → k ≤ n → k ≤ n' → SameBelow k (formula_in n) (formula_in n')

next_formula : (k : ℕ) → SameFormulas k → (n n' : ℕ) → suc k ≤ n → suc k ≤ n' → SameBelow (suc k) (formula_in n) (formula_in n')
unfolding formula_level
next_formula k h zero n' le le' = absurd (omega (arith, le))
next_formula k h (suc n) zero le le' = absurd (omega (arith, le'))
next_formula k h (suc n) (suc n') le le' = formula_known (suc k) (suc n) (suc n') (formula_same (formula_in n) (formula_in n') k (h n n' (omega (arith, le)) (omega (arith, le')))).reads

pub formulas_same : (k : ℕ) → SameFormulas k
formulas_same zero n n' le le' = formula_known zero n n' (λ m ts low. absurd (omega (arith, low)))
formulas_same (suc k) n n' le le' = next_formula k (formulas_same k) n n' le le'

-- ---- whole specifications

module _ (n n' : ℕ) (le : suc max_nestings ≤ n) (le' : suc max_nestings ≤ n') where
  inner : SameBelow (suc max_nestings) (expr_in n) (expr_in n') × SameBelow (suc max_nestings) (other_in n) (other_in n')
  inner = levels_same (suc max_nestings) n n' le le'

  whole_same : SameAlways (whole n) (whole n')
  unfolding whole
  whole_same = always_whole (expr_in n) (expr_in n') inner.0

  whole_formula_same : SameAlways (whole_formula n) (whole_formula n')
  unfolding whole_formula
  whole_formula_same = always_whole (formula_in n) (formula_in n') (formulas_same (suc max_nestings) n n' le le')

  abbrev behind : {A B : Type 0} (a : Syntax A) (b b' : Syntax B) → SameAlways b b' → SameAlways (a *> b) (a *> b')
  behind a b b' h = always_map (λ p. p.1) (Then a b) (Then a b') (always_then a a b b' (always_self a) h)

  abbrev ahead : {A B : Type 0} (a a' : Syntax A) (b : Syntax B) → SameAlways a a' → SameAlways (a <* b) (a' <* b)
  ahead a a' b h = always_map (λ p. p.0) (Then a b) (Then a' b) (always_then a a' b b h (always_self b))

  rhythm_same : SameAlways (rhythm n) (rhythm n')
  unfolding rhythm
  rhythm_same = always_either _ _ _ _ (always_self _) (always_either _ _ _ _ (always_self _) (always_either _ _ _ _ (always_map _ _ _ (behind (token is.Open) _ _ (ahead _ _ (token is.Shut) whole_formula_same))) (always_self _)))

  pacing_same : SameAlways (pacing n) (pacing n')
  unfolding pacing
  pacing_same = always_map _ _ _ (always_then _ _ _ _ (always_self (token is.At)) rhythm_same)

  part_behind_same : (s : TokenShape) → SameAlways (part_behind n s) (part_behind n' s)
  unfolding part_behind
  part_behind_same s = always_map _ _ _ (always_then _ _ _ _ (always_self (token s)) whole_same)

  more_parts_same : SameAlways (more_parts n) (more_parts n')
  unfolding more_parts
  more_parts_same = always_map _ _ _ (ahead _ _ (token is.Shut) (always_then _ _ _ _ (part_behind_same is.Comma) (always_many _ _ (part_behind_same is.Comma))))

  one_part_same : SameBelow (suc max_nestings) (one_part n) (one_part n')
  unfolding one_part
  one_part_same = same_known _ _ (suc max_nestings) _ _ (same_map _ (suc max_nestings) _ _ (same_less (suc (suc max_nestings)) (suc max_nestings) _ _ (omega arith) (closed_same (expr_in n) (expr_in n') (other_in n) (other_in n') (suc max_nestings) inner.0 inner.1)))

  unbracketed_same : SameBelow (suc max_nestings) (unbracketed n) (unbracketed n')
  unfolding unbracketed
  unbracketed_same = same_known _ _ (suc max_nestings) _ _ (same_less (suc (suc max_nestings)) (suc max_nestings) _ _ (omega arith) (open_same (expr_in n) (expr_in n') (other_in n) (other_in n') (suc max_nestings) inner.0 inner.1))

  whole_unbracketed_same : SameAlways (whole_unbracketed n) (whole_unbracketed n')
  unfolding whole_unbracketed
  whole_unbracketed_same = always_whole (unbracketed n) (unbracketed n') unbracketed_same

  forked_same : SameAlways (forked n) (forked n')
  unfolding forked
  forked_same = always_fork all_nestings _ _ _ _ _ _ inner.0 more_parts_same one_part_same

  parts_same : SameAlways (parts n) (parts n')
  unfolding parts
  parts_same = always_known _ _ _ _ (always_either _ _ _ _ (always_map _ _ _ (always_then _ _ _ _ (always_self (token is.Open)) forked_same)) (always_map _ _ _ whole_unbracketed_same))

  with_parts_same : SameAlways (with_parts n) (with_parts n')
  unfolding with_parts
  with_parts_same = always_map _ _ _ (always_then _ _ _ _ (always_self (token is.With)) parts_same)

  spawn_same : SameAlways (spawn n) (spawn n')
  unfolding spawn
  spawn_same = always_map _ _ _ (always_then _ _ _ _ (always_self (token is.Spawn)) (always_then _ _ _ _ (always_maybe _ _ pacing_same) (always_then _ _ _ _ (always_maybe _ _ (part_behind_same is.When)) (always_maybe _ _ with_parts_same))))

  eval_same : SameAlways (eval n) (eval n')
  unfolding eval
  eval_same = always_map _ _ _ (always_then _ _ _ _ (always_self (token is.Eval)) (always_then _ _ _ _ (always_maybe _ _ pacing_same) (always_then _ _ _ _ (always_maybe _ _ (part_behind_same is.When)) (part_behind_same is.With))))

  close_same : SameAlways (close n) (close n')
  unfolding close
  close_same = always_map _ _ _ (always_then _ _ _ _ (always_self (token is.Close)) (always_then _ _ _ _ (always_maybe _ _ pacing_same) (part_behind_same is.When)))

  short_eval_same : SameAlways (short_eval n) (short_eval n')
  unfolding short_eval
  short_eval_same = always_map _ _ _ (always_then _ _ _ _ (always_maybe _ _ pacing_same) (part_behind_same is.Define))

  body_same : SameAlways (body n) (body n')
  unfolding body
  body_same = always_either _ _ _ _ (always_map _ _ _ short_eval_same) (always_either _ _ _ _ (always_map _ _ _ eval_same) (always_map _ _ _ (always_then _ _ _ _ spawn_same (always_then _ _ _ _ eval_same (always_maybe _ _ close_same)))))

  output_same : SameAlways (output n) (output n')
  unfolding output
  output_same = always_map _ _ _ (always_then _ _ _ _ (always_self (token is.Output)) (always_then _ _ _ _ (always_self name) (always_then _ _ _ _ (always_self (Maybe parameters)) (always_then _ _ _ _ (always_self (Maybe kind)) body_same))))

  trigger_same : SameAlways (trigger n) (trigger n')
  unfolding trigger
  trigger_same = always_map _ _ _ (always_then _ _ _ _ (always_self (token is.Trigger)) (always_then _ _ _ _ (always_maybe _ _ pacing_same) (always_then _ _ _ _ whole_same (always_self message))))

  declaration_same : SameAlways (declaration n) (declaration n')
  unfolding declaration
  declaration_same = always_either _ _ _ _ (always_self inputs) (always_either _ _ _ _ (always_self constant) (always_either _ _ _ _ output_same trigger_same))

  specification_same : SameAlways (specification n) (specification n')
  unfolding specification
  specification_same = always_many _ _ declaration_same

  -- a whole text is read alike
  pub read_alike : (ts : List Lexeme) → read_all (specification n) ts ≡ read_all (specification n') ts
  unfolding read_all
  read_alike ts = ap (λ (o : Outcome (List Declaration)). all_read o) (specification_same.reads max_nestings ts)
