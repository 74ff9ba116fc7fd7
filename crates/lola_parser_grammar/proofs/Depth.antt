-- Each level that is nested takes a nesting, and each nesting is counted.
use Rattle.std.proofs.Common.{◌≡◌, ℕ, zero, suc, ◌≤◌, Bool, true, false, ◌&&◌, List, refl, arith}
use Rattle.lola_lexer.specs.declared.shape.TokenShape.{TokenShape}
use Rattle.lola_lexer.specs.declared.shape.TokenShape.TheVariants as is
use Rattle.lola_parser_grammar.specs.declared.expressions.Expr.{Expr}
use Rattle.lola_parser_grammar.specs.declared.pacing.Formula.{Formula}
use Rattle.lola_parser_grammar.specs.Syntax.{Syntax, Then, Maybe, Many, same_shape, within, max_nestings}
use Rattle.lola_parser_grammar.specs.Nestings.{least, guards, tallies, is_counted}
use Rattle.lola_parser_grammar.specs.Grammar.{all_nestings, Operator, join, with_default, folded, joined, joined_once, listed, further, either, both, level, formula_level, expr_in, other_in, formula_in, ◌*>◌, ◌<*◌, ◌|>◌, ◌>>◌, token, nesting, word, name, other_name, integer, text, quantity, operator, product_operators, sum_operators, comparison_operators, and_operators, or_operators, word_literal, offset, over, window, arguments, stand_in, hold, get, last, default, reading, dotted_default, defaults, dotted, suffix, named, number, worded, bracketed, operand, negation, negative, minus, plain, other_with, unary, products, product, sums, sum, comparisons, comparison, conjunctions, conjunction, disjunctions, conditional, expr_with, atom, conjunctions_of, conjunct, alternatives_of, formula_with, typed, parameters, kind, clock, message, whole, whole_formula, whole_unbracketed, rhythm, pacing, part_behind, more_parts, one_part, forked, parts, with_parts, spawn, eval, close, short_eval, body, literal, inputs, constant, output, trigger, declaration, specification, open_operand, open_expr, closed, unbracketed}
use Rattle.lola_parser_grammar.proofs.Deep.{IsDeep, deep_less, deep_map, deep_then, deep_behind, deep_either, deep_maybe, deep_many}

pub level_tallies : (b : Bool) (n : ℕ) → tallies all_nestings (level b n) ≡ true
unfolding level tallies same_shape token nesting word name other_name integer text quantity operator product_operators sum_operators comparison_operators and_operators or_operators word_literal offset over window arguments stand_in hold get last default reading dotted_default defaults dotted suffix named number worded bracketed operand negation negative minus plain other_with unary products product sums sum comparisons comparison conjunctions conjunction disjunctions conditional expr_with
level_tallies true zero = refl
level_tallies false zero = refl
level_tallies true (suc n) = rw (level_tallies true n, level_tallies false n) refl
level_tallies false (suc n) = rw (level_tallies true n, level_tallies false n) refl

pub formula_tallies : (n : ℕ) → tallies all_nestings (formula_level n) ≡ true
unfolding formula_level tallies same_shape token nesting word name other_name integer text quantity operator product_operators sum_operators comparison_operators and_operators or_operators word_literal offset over window atom conjunctions_of conjunct alternatives_of formula_with
formula_tallies zero = refl
formula_tallies (suc n) = rw (formula_tallies n) refl

-- ---- what nests nothing

any_token : (s : TokenShape) (n : ℕ) → IsDeep n (token s)
unfolding guards token
any_token s n k low = refl

any_nesting : (s : TokenShape) (n : ℕ) → IsDeep n (nesting s)
unfolding guards nesting
any_nesting s n k low = refl

any_word : (w : List ℕ) (n : ℕ) → IsDeep n (word w)
unfolding guards word
any_word w n k low = refl

any_name : (n : ℕ) → IsDeep n name
unfolding guards name
any_name n k low = refl

any_integer : (n : ℕ) → IsDeep n integer
unfolding guards integer
any_integer n k low = refl

any_literal : (n : ℕ) → IsDeep n word_literal
unfolding guards word_literal text token
any_literal n k low = refl

any_offset : (n : ℕ) → IsDeep n offset
unfolding guards offset token nesting word integer
any_offset n k low = refl

any_window : (n : ℕ) → IsDeep n window
unfolding guards window over token nesting word quantity name
any_window n k low = refl

any_product : (n : ℕ) → IsDeep n product_operators
unfolding guards product_operators operator nesting
any_product n k low = refl

any_sum : (n : ℕ) → IsDeep n sum_operators
unfolding guards sum_operators operator nesting
any_sum n k low = refl

any_comparison : (n : ℕ) → IsDeep n comparison_operators
unfolding guards comparison_operators operator nesting
any_comparison n k low = refl

any_and : (n : ℕ) → IsDeep n and_operators
unfolding guards and_operators operator nesting
any_and n k low = refl

any_or : (n : ℕ) → IsDeep n or_operators
unfolding guards or_operators operator nesting
any_or n k low = refl

one_nesting : (s : TokenShape) → least (nesting s) ≡ 1
unfolding least nesting
one_nesting s = refl

-- ---- how parts are put together

after : {A B : Type 0} (a : Syntax A) (b : Syntax B) (n : ℕ) → IsDeep n a → IsDeep n b → IsDeep n (a *> b)
after a b n h i = deep_map (λ p. p.1) (Then a b) n (deep_then a b n h i)

before : {A B : Type 0} (a : Syntax A) (b : Syntax B) (n : ℕ) → IsDeep n a → IsDeep n b → IsDeep n (a <* b)
before a b n h i = deep_map (λ p. p.0) (Then a b) n (deep_then a b n h i)

with_nestings : {B : Type 0} (s : TokenShape) (b : Syntax B) (n : ℕ) → IsDeep n b → IsDeep (suc n) (Then (nesting s) b)
with_nestings s b n h = deep_behind (nesting s) b n (one_nesting s) (any_nesting s (suc n)) h

after_nesting : {B : Type 0} (s : TokenShape) (b : Syntax B) (n : ℕ) → IsDeep n b → IsDeep (suc n) (nesting s *> b)
after_nesting s b n h = deep_map (λ p. p.1) (Then (nesting s) b) (suc n) (with_nestings s b n h)

led : {A : Type 0} (a : Syntax A) (b : Syntax (A → A)) (n : ℕ) → IsDeep n a → IsDeep n b → IsDeep n (a |> b)
led a b n h i = deep_map (λ p. p.1 p.0) (Then a b) n (deep_then a b n h i)

led_on : {A : Type 0} (a b : Syntax (A → A)) (n : ℕ) → IsDeep n a → IsDeep n b → IsDeep n (a >> b)
led_on a b n h i = deep_map (λ p left. p.1 (p.0 left)) (Then a b) n (deep_then a b n h i)

folds : {A B : Type 0} (f : B → A → B) (s : Syntax A) (n : ℕ) → IsDeep n s → IsDeep n (folded f s)
folds f s n h = deep_map _ (Many s) n (deep_many s n h)

joins : (operators : Syntax Operator) (operand : Syntax Expr) (n : ℕ) → IsDeep n operators → IsDeep n operand → IsDeep n (joined operators operand)
joins operators operand n h i = folds join (Then operators operand) n (deep_then operators operand n h i)

joins_once : (operators : Syntax Operator) (operand : Syntax Expr) (n : ℕ) → IsDeep n operators → IsDeep n operand → IsDeep n (joined_once operators operand)
joins_once operators operand n h i = deep_map _ (Maybe (Then operators operand)) n (deep_maybe (Then operators operand) n (deep_then operators operand n h i))

lists : {A : Type 0} (s : Syntax A) (n : ℕ) → IsDeep n s → IsDeep n (listed s)
lists s n h = deep_map _ (Then s (Many (further s))) n (deep_then s (Many (further s)) n h (deep_many (further s) n (after (token is.Comma) s n (any_token is.Comma n) h)))

-- ---- expressions

module _ (E O : Syntax Expr) (n : ℕ) (in_E : IsDeep n E) (in_O : IsDeep n O) where
  arguments_deep : IsDeep (suc n) (arguments E O)
  unfolding arguments
  arguments_deep = with_nestings is.Open (listed E <* token is.Shut) n (before (listed E) (token is.Shut) n (lists E n in_E) (any_token is.Shut n))

  stand_in_deep : IsDeep n (stand_in E O)
  unfolding stand_in
  stand_in_deep = after (nesting is.Open) _ n (any_nesting is.Open n) (before (Maybe (word _ *> token is.Colon *> E)) (token is.Shut) n (deep_maybe _ n (after (word _) _ n (any_word _ n) (after (token is.Colon) E n (any_token is.Colon n) in_E))) (any_token is.Shut n))

  hold_deep : IsDeep n (hold E O)
  unfolding hold
  hold_deep = deep_map _ _ n (after (word _) (stand_in E O) n (any_word _ n) stand_in_deep)

  get_deep : IsDeep n (get E O)
  unfolding get
  get_deep = deep_map _ _ n (after (word _) (stand_in E O) n (any_word _ n) stand_in_deep)

  last_deep : IsDeep n (last E O)
  unfolding last
  last_deep = deep_map _ _ n (deep_then (word _) (stand_in E O) n (any_word _ n) stand_in_deep)

  default_deep : IsDeep n (default E O)
  unfolding default
  default_deep = after (word _) _ n (any_word _ n) (after (nesting is.Open) _ n (any_nesting is.Open n) (after (word _) _ n (any_word _ n) (after (token is.Colon) _ n (any_token is.Colon n) (before E (token is.Shut) n in_E (any_token is.Shut n)))))

  reading_deep : IsDeep n (reading E O)
  unfolding reading
  reading_deep = deep_either _ _ n (any_offset n) (deep_either _ _ n hold_deep (deep_either _ _ n get_deep (deep_either _ _ n last_deep (deep_either _ _ n (any_window n) (deep_map _ (default E O) n default_deep)))))

  dotted_default_deep : IsDeep (suc n) (dotted_default E O)
  unfolding dotted_default
  dotted_default_deep = with_nestings is.Dot (default E O) n default_deep

  defaults_deep : IsDeep (suc n) (defaults E O)
  unfolding defaults
  defaults_deep = folds with_default (dotted_default E O) (suc n) dotted_default_deep

  dotted_deep : IsDeep (suc n) (dotted E O)
  unfolding dotted
  dotted_deep = deep_map _ _ (suc n) (with_nestings is.Dot (reading E O) n reading_deep)

  suffix_deep : IsDeep (suc n) (suffix E O)
  unfolding suffix
  suffix_deep = deep_map _ _ (suc n) (deep_then (dotted E O) (defaults E O) (suc n) dotted_deep defaults_deep)

  named_deep : IsDeep (suc n) (named E O)
  unfolding named
  named_deep = deep_map _ _ (suc n) (deep_then name _ (suc n) (any_name (suc n)) (deep_then (Maybe (arguments E O)) (Maybe (suffix E O)) (suc n) (deep_maybe (arguments E O) (suc n) arguments_deep) (deep_maybe (suffix E O) (suc n) suffix_deep)))

  number_deep : IsDeep (suc n) (number E O)
  unfolding number
  number_deep = led _ (defaults E O) (suc n) (deep_map _ integer (suc n) (any_integer (suc n))) defaults_deep

  worded_deep : IsDeep (suc n) (worded E O)
  unfolding worded
  worded_deep = led _ (defaults E O) (suc n) (deep_map _ word_literal (suc n) (any_literal (suc n))) defaults_deep

  bracketed_deep : IsDeep (suc n) (bracketed E O)
  unfolding bracketed
  bracketed_deep = led _ (defaults E O) (suc n) (after_nesting is.Open (E <* token is.Shut) n (before E (token is.Shut) n in_E (any_token is.Shut n))) defaults_deep

  operand_deep : IsDeep n (operand E O)
  unfolding operand
  operand_deep = deep_either (number E O) O n (deep_less (number E O) (suc n) n (omega arith) number_deep) in_O

  negation_deep : IsDeep (suc n) (negation E O)
  unfolding negation
  negation_deep = deep_map _ _ (suc n) (with_nestings is.Not (operand E O) n operand_deep)

  negative_deep : IsDeep n (negative E O)
  unfolding negative
  negative_deep = deep_map _ _ n (deep_then integer (defaults E O) n (any_integer n) (deep_less (defaults E O) (suc n) n (omega arith) defaults_deep))

  minus_deep : IsDeep (suc n) (minus E O)
  unfolding minus
  minus_deep = deep_map _ _ (suc n) (with_nestings is.Minus _ n (deep_either (negative E O) _ n negative_deep (deep_map _ O n in_O)))

  plain_deep : IsDeep (suc n) (plain E O)
  unfolding plain
  plain_deep = deep_either _ _ (suc n) negation_deep (deep_either _ _ (suc n) minus_deep (deep_either _ _ (suc n) named_deep worded_deep))

  other_deep : IsDeep (suc n) (other_with E O)
  unfolding other_with
  other_deep = deep_either _ _ (suc n) bracketed_deep plain_deep

  unary_deep : IsDeep (suc n) (unary E O)
  unfolding unary
  unary_deep = deep_either _ _ (suc n) number_deep other_deep

  products_deep : IsDeep (suc n) (products E O)
  unfolding products
  products_deep = joins product_operators (unary E O) (suc n) (any_product (suc n)) unary_deep

  product_deep : IsDeep (suc n) (product E O)
  unfolding product
  product_deep = led (unary E O) (products E O) (suc n) unary_deep products_deep

  sums_deep : IsDeep (suc n) (sums E O)
  unfolding sums
  sums_deep = led_on (products E O) _ (suc n) products_deep (joins sum_operators (product E O) (suc n) (any_sum (suc n)) product_deep)

  sum_deep : IsDeep (suc n) (sum E O)
  unfolding sum
  sum_deep = led (unary E O) (sums E O) (suc n) unary_deep sums_deep

  comparisons_deep : IsDeep (suc n) (comparisons E O)
  unfolding comparisons
  comparisons_deep = led_on (sums E O) _ (suc n) sums_deep (joins_once comparison_operators (sum E O) (suc n) (any_comparison (suc n)) sum_deep)

  comparison_deep : IsDeep (suc n) (comparison E O)
  unfolding comparison
  comparison_deep = led (unary E O) (comparisons E O) (suc n) unary_deep comparisons_deep

  conjunctions_deep : IsDeep (suc n) (conjunctions E O)
  unfolding conjunctions
  conjunctions_deep = led_on (comparisons E O) _ (suc n) comparisons_deep (joins and_operators (comparison E O) (suc n) (any_and (suc n)) comparison_deep)

  conjunction_deep : IsDeep (suc n) (conjunction E O)
  unfolding conjunction
  conjunction_deep = led (unary E O) (conjunctions E O) (suc n) unary_deep conjunctions_deep

  disjunctions_deep : IsDeep (suc n) (disjunctions E O)
  unfolding disjunctions
  disjunctions_deep = led_on (conjunctions E O) _ (suc n) conjunctions_deep (joins or_operators (conjunction E O) (suc n) (any_or (suc n)) conjunction_deep)

  conditional_deep : IsDeep (suc n) (conditional E O)
  unfolding conditional
  conditional_deep = deep_map _ _ (suc n) (with_nestings is.If _ n (deep_then E _ n in_E (deep_then _ _ n (after (token is.Then) E n (any_token is.Then n) in_E) (after (token is.Else) E n (any_token is.Else n) in_E))))

  expr_deep : IsDeep (suc n) (expr_with E O)
  unfolding expr_with
  expr_deep = deep_either _ _ (suc n) conditional_deep (led (unary E O) (disjunctions E O) (suc n) unary_deep disjunctions_deep)

  open_operand_deep : IsDeep (suc n) (open_operand E O)
  unfolding open_operand
  open_operand_deep = deep_either _ _ (suc n) number_deep plain_deep

  open_deep : IsDeep (suc n) (open_expr E O)
  unfolding open_expr
  open_deep = deep_either _ _ (suc n) conditional_deep (led (open_operand E O) (disjunctions E O) (suc n) open_operand_deep disjunctions_deep)

  closed_deep : IsDeep (suc n) (closed E O)
  unfolding closed
  closed_deep = after (token is.Shut) _ (suc n) (any_token is.Shut (suc n)) (led_on (defaults E O) (disjunctions E O) (suc n) defaults_deep disjunctions_deep)

known_deep : (n m : ℕ) → IsDeep n (level true m) → IsDeep n (expr_in m)
unfolding guards
known_deep n m h = h

known_other : (n m : ℕ) → IsDeep n (level false m) → IsDeep n (other_in m)
unfolding guards
known_other n m h = h

at_bottom : (b : Bool) (k : ℕ) → k ≤ 0 → guards k (level b zero) ≡ true
unfolding guards level
at_bottom true zero low = refl
at_bottom false zero low = refl
at_bottom true (suc k) low = absurd (omega (arith, low))
at_bottom false (suc k) low = absurd (omega (arith, low))

pub level_deep : (b : Bool) (n : ℕ) → IsDeep n (level b n)
unfolding level
level_deep b zero = at_bottom b
level_deep true (suc n) = expr_deep (expr_in n) (other_in n) n (known_deep n n (level_deep true n)) (known_other n n (level_deep false n))
level_deep false (suc n) = other_deep (expr_in n) (other_in n) n (known_deep n n (level_deep true n)) (known_other n n (level_deep false n))

-- ---- formulas

module _ (F : Syntax Formula) (n : ℕ) (in_F : IsDeep n F) where
  atom_deep : IsDeep (suc n) (atom F)
  unfolding atom
  atom_deep = deep_either _ _ (suc n) (deep_map _ name (suc n) (any_name (suc n))) (after_nesting is.Open (F <* token is.Shut) n (before F (token is.Shut) n in_F (any_token is.Shut n)))

  conjunct_deep : IsDeep (suc n) (conjunct F)
  unfolding conjunct conjunctions_of
  conjunct_deep = led (atom F) _ (suc n) atom_deep (folds both _ (suc n) (deep_then (nesting is.And) (atom F) (suc n) (any_nesting is.And (suc n)) atom_deep))

  formula_deep : IsDeep (suc n) (formula_with F)
  unfolding formula_with alternatives_of
  formula_deep = led (conjunct F) _ (suc n) conjunct_deep (folds either _ (suc n) (deep_then (nesting is.Or) (conjunct F) (suc n) (any_nesting is.Or (suc n)) conjunct_deep))

known_formula : (n m : ℕ) → IsDeep n (formula_level m) → IsDeep n (formula_in m)
unfolding guards
known_formula n m h = h

formula_bottom : (k : ℕ) → k ≤ 0 → guards k (formula_level zero) ≡ true
unfolding guards formula_level
formula_bottom zero low = refl
formula_bottom (suc k) low = absurd (omega (arith, low))

pub formula_level_deep : (n : ℕ) → IsDeep n (formula_level n)
unfolding formula_level
formula_level_deep zero = formula_bottom
formula_level_deep (suc n) = formula_deep (formula_in n) n (known_formula n n (formula_level_deep n))

-- ---- whole specifications, in which more levels are nested than nestings may come

whole_counted : (n : ℕ) → suc max_nestings ≤ n → is_counted all_nestings (whole n) ≡ true
unfolding is_counted tallies guards whole
whole_counted n deep = simp (level_tallies true n, level_deep true n (suc max_nestings) deep)

whole_formula_counted : (n : ℕ) → suc max_nestings ≤ n → is_counted all_nestings (whole_formula n) ≡ true
unfolding is_counted tallies guards whole_formula
whole_formula_counted n deep = simp (formula_tallies n, formula_level_deep n (suc max_nestings) deep)

rhythm_counted : (n : ℕ) → suc max_nestings ≤ n → is_counted all_nestings (rhythm n) ≡ true
unfolding is_counted rhythm clock quantity other_name word token
rhythm_counted n deep = simp (whole_formula_counted n deep)

pacing_counted : (n : ℕ) → suc max_nestings ≤ n → is_counted all_nestings (pacing n) ≡ true
unfolding is_counted pacing token
pacing_counted n deep = simp (rhythm_counted n deep)

part_behind_counted : (n : ℕ) (s : TokenShape) → suc max_nestings ≤ n → is_counted all_nestings (part_behind n s) ≡ true
unfolding is_counted part_behind token
part_behind_counted n s deep = simp (whole_counted n deep)

more_parts_counted : (n : ℕ) → suc max_nestings ≤ n → is_counted all_nestings (more_parts n) ≡ true
unfolding is_counted more_parts token
more_parts_counted n deep = simp (part_behind_counted n is.Comma deep)

more_deep : (n : ℕ) → suc max_nestings ≤ n → suc max_nestings ≤ suc n
more_deep n deep = omega (arith, deep)

one_part_tallies : (n : ℕ) → tallies all_nestings (one_part n) ≡ true
unfolding tallies same_shape one_part closed token nesting word name other_name integer text quantity operator product_operators sum_operators comparison_operators and_operators or_operators word_literal offset over window arguments stand_in hold get last default reading dotted_default defaults dotted suffix named number worded bracketed operand negation negative minus plain other_with unary products product sums sum comparisons comparison conjunctions conjunction disjunctions conditional expr_with
one_part_tallies n = rw (level_tallies true n, level_tallies false n) refl

one_part_deep : (n : ℕ) → suc max_nestings ≤ n → guards (suc max_nestings) (one_part n) ≡ true
unfolding guards one_part
one_part_deep n deep = closed_deep (expr_in n) (other_in n) n (known_deep n n (level_deep true n)) (known_other n n (level_deep false n)) (suc max_nestings) (more_deep n deep)

unbracketed_tallies : (n : ℕ) → tallies all_nestings (unbracketed n) ≡ true
unfolding tallies same_shape unbracketed open_operand open_expr token nesting word name other_name integer text quantity operator product_operators sum_operators comparison_operators and_operators or_operators word_literal offset over window arguments stand_in hold get last default reading dotted_default defaults dotted suffix named number worded bracketed operand negation negative minus plain other_with unary products product sums sum comparisons comparison conjunctions conjunction disjunctions conditional expr_with
unbracketed_tallies n = rw (level_tallies true n, level_tallies false n) refl

unbracketed_deep : (n : ℕ) → suc max_nestings ≤ n → guards (suc max_nestings) (unbracketed n) ≡ true
unfolding guards unbracketed
unbracketed_deep n deep = open_deep (expr_in n) (other_in n) n (known_deep n n (level_deep true n)) (known_other n n (level_deep false n)) (suc max_nestings) (more_deep n deep)

same_nestings : (within all_nestings all_nestings && within all_nestings all_nestings) ≡ true
unfolding same_shape
same_nestings = refl

forked_counted : (n : ℕ) → suc max_nestings ≤ n → is_counted all_nestings (forked n) ≡ true
unfolding is_counted tallies guards forked
forked_counted n deep = rw (level_tallies true n, level_deep true n (suc max_nestings) deep, more_parts_counted n deep, one_part_tallies n, one_part_deep n deep) same_nestings

whole_unbracketed_counted : (n : ℕ) → suc max_nestings ≤ n → is_counted all_nestings (whole_unbracketed n) ≡ true
unfolding is_counted whole_unbracketed
whole_unbracketed_counted n deep = rw (unbracketed_tallies n, unbracketed_deep n deep) refl

parts_counted : (n : ℕ) → suc max_nestings ≤ n → is_counted all_nestings (parts n) ≡ true
unfolding is_counted parts token
parts_counted n deep = simp (forked_counted n deep, whole_unbracketed_counted n deep)

with_parts_counted : (n : ℕ) → suc max_nestings ≤ n → is_counted all_nestings (with_parts n) ≡ true
unfolding is_counted with_parts token
with_parts_counted n deep = simp (parts_counted n deep)

spawn_counted : (n : ℕ) → suc max_nestings ≤ n → is_counted all_nestings (spawn n) ≡ true
unfolding is_counted spawn token
spawn_counted n deep = simp (pacing_counted n deep, part_behind_counted n is.When deep, with_parts_counted n deep)

eval_counted : (n : ℕ) → suc max_nestings ≤ n → is_counted all_nestings (eval n) ≡ true
unfolding is_counted eval token
eval_counted n deep = simp (pacing_counted n deep, part_behind_counted n is.When deep, part_behind_counted n is.With deep)

close_counted : (n : ℕ) → suc max_nestings ≤ n → is_counted all_nestings (close n) ≡ true
unfolding is_counted close token
close_counted n deep = simp (pacing_counted n deep, part_behind_counted n is.When deep)

short_eval_counted : (n : ℕ) → suc max_nestings ≤ n → is_counted all_nestings (short_eval n) ≡ true
unfolding is_counted short_eval
short_eval_counted n deep = simp (pacing_counted n deep, part_behind_counted n is.Define deep)

body_counted : (n : ℕ) → suc max_nestings ≤ n → is_counted all_nestings (body n) ≡ true
unfolding is_counted body
body_counted n deep = simp (short_eval_counted n deep, spawn_counted n deep, eval_counted n deep, close_counted n deep)

pub specification_counted : (n : ℕ) → suc max_nestings ≤ n → is_counted all_nestings (specification n) ≡ true
unfolding is_counted specification declaration inputs constant output trigger typed parameters kind message literal word_literal name integer text token
specification_counted n deep = simp (body_counted n deep, pacing_counted n deep, whole_counted n deep)
