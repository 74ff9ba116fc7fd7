-- Expressions at other places, by the grammar.
use Rattle.std.proofs.Common.{◌≡◌, ℕ, zero, suc, Bool, true, false, List, [], ◌∷◌, Option, Some, None, refl, ap, ◌∙◌, arith}
use Rattle.std.specs.Prelude.{codes}
use Rattle.lola_lexer.specs.declared.shape.TokenShape.{TokenShape}
use Rattle.lola_lexer.specs.declared.shape.TokenShape.TheVariants as is
use Rattle.lola_parser_grammar.specs.declared.literals.Name.{Name}
use Rattle.lola_parser_grammar.specs.declared.literals.Quantity.{Quantity}
use Rattle.lola_parser_grammar.specs.declared.expressions.Prefix.TheVariants as pre
use Rattle.lola_parser_grammar.specs.declared.expressions.Binary.{Binary}
use Rattle.lola_parser_grammar.specs.declared.expressions.Binary.TheVariants as by
use Rattle.lola_parser_grammar.specs.declared.expressions.Access.{Access}
use Rattle.lola_parser_grammar.specs.declared.expressions.Access.TheVariants as a
use Rattle.lola_parser_grammar.specs.declared.expressions.Expr.{Expr}
use Rattle.lola_parser_grammar.specs.declared.expressions.Expr.TheVariants as e
use Rattle.lola_parser_grammar.specs.Syntax.{Syntax, Then, Map, Either, Maybe}
use Rattle.lola_parser_grammar.specs.Grammar as g
use Rattle.lola_parser_grammar.specs.Grammar.{token, nesting, word, ◌*>◌, ◌<*◌, ◌|>◌, ◌>>◌, Operator, Joined}
use Rattle.lola_parser_law.specs.Erased as erased
use Rattle.lola_parser_law.proofs.Carried.{Carries, Any, Both, Opt, Each, Fun, Some_each, then_carried, map_carried, either_carried, maybe_carried, past_carried, known_carried, weaker, onto, behind, token_any, nesting_any, word_any, behind_token, behind_nesting, behind_word, before_token, listed_carried, folded_carried}
use Rattle.lola_parser_law.proofs.Leaves.{IntegerIs, integer_is, SameName, erased_name, name_carried, SameInteger, integer_carried, SameQuantity, quantity_carried, SameLiteral, same_number, same_truth, word_literal_carried}
use Rattle.lola_parser_law.proofs.Forms.{direct_is, offset_is, hold_is, get_is, window_is, SameAccess, SameExpr, same_literal, same_binary, same_defaults, same_prefix, same_if, same_reference}

one_is : IntegerIs 1
one_is = integer_is 1 (omega arith)

-- the same value
abbrev Same : {A : Type 0} → A → A → Type 0
Same x y = x ≡ y

module _ (W : Type 0) where
  abbrev RE : Expr → Expr → Type 0
  RE = SameExpr W

  abbrev SA : Access → Access → Type 0
  SA = SameAccess W

  -- an operator, whatever its place is
  abbrev SameOperator : Operator → Operator → Type 0
  SameOperator s t = s.0 ≡ t.0

  abbrev SameReading : g.Reading → g.Reading → Type 0
  SameReading = Both SA (Opt RE)

  -- readings by the place of the point
  abbrev SameDotted : (ℕ → g.Reading) → (ℕ → g.Reading) → Type 0
  SameDotted = Fun Any SameReading

  abbrev SameNamed : (Access → Expr) → (Access → Expr) → Type 0
  SameNamed = Fun SA RE

  abbrev SameSuffix : g.Suffix → g.Suffix → Type 0
  SameSuffix = Fun SameNamed RE

  abbrev SameArguments : g.Arguments → g.Arguments → Type 0
  SameArguments = Both Any (Each RE)

  -- ---- accesses

  same_direct : SA a.Direct a.Direct
  same_direct = record { erased = refl; known = λ w. direct_is }

  same_offset : (dot dot' k k' at at' : ℕ) → SameInteger W (k, at) (k', at') → SA (a.Offset dot k at) (a.Offset dot' k' at')
  same_offset dot dot' k k' at at' h = record { erased = ap (λ n. a.Offset 0 n 0) h.number; known = λ w. offset_is dot k at (h.known w) }

  same_window : (dot dot' : ℕ) (b b' : Bool) (q q' : Quantity) (n n' : Name) → b ≡ b' → SameQuantity W q q' → SameName W n n' → SA (a.Window dot b q n) (a.Window dot' b' q' n')
  same_window dot dot' b b' q q' n n' h k l =
      record {
        erased = ap (λ x. a.Window 0 x (erased.quantity q) (erased.name n)) h ∙ ap (λ x. a.Window 0 b' x (erased.name n)) k.erased
            ∙ ap (λ x. a.Window 0 b' (erased.quantity q') x) (erased_name W n n' l);
        known = λ w. window_is dot b q n (k.known w) (l.lexed w);
      }

  offset_carried : Carries W SameDotted g.offset
  unfolding g.offset
  offset_carried =
      map_carried W (SameInteger W) SameDotted (λ p dot. (a.Offset dot p.0 p.1, None)) _ (λ x y r m n t. (same_offset m n x.0 y.0 x.1 y.1 r, tt))
      (behind_word W (SameInteger W) (codes "offset") _ (behind_nesting W (SameInteger W) is.Open _ (behind_word W (SameInteger W) (codes "by") _
      (behind_token W (SameInteger W) is.Colon _ (behind_nesting W (SameInteger W) is.Minus _ (before_token W (SameInteger W) is.Shut g.integer (integer_carried W)))))))

  over_carried : Carries W Same g.over
  unfolding g.over
  over_carried =
      either_carried W Same (Map (λ at. false) (word (codes "over"))) (Map (λ at. true) (word (codes "over_exactly")))
      (map_carried W Any Same (λ at. false) (word (codes "over")) (λ x y r. refl) (word_any W (codes "over")))
      (map_carried W Any Same (λ at. true) (word (codes "over_exactly")) (λ x y r. refl) (word_any W (codes "over_exactly")))

  window_carried : Carries W SameDotted g.window
  unfolding g.window
  window_carried =
      let QN = Both (SameQuantity W) (SameName W) in
      let R = Both Same QN in
      map_carried W R SameDotted (λ p dot. (a.Window dot p.0 p.1.0 p.1.1, None)) _
      (λ x y r m n t. (same_window m n x.0 y.0 x.1.0 y.1.0 x.1.1 y.1.1 r.0 r.1.0 r.1.1, tt))
      (behind_word W R (codes "aggregate") _ (behind_nesting W R is.Open _ (before_token W R is.Shut _
      (then_carried W Same QN g.over _ over_carried
      (then_carried W (SameQuantity W) (SameName W) _ _ (behind_token W (SameQuantity W) is.Colon g.quantity (quantity_carried W))
      (behind_token W (SameName W) is.Comma _ (behind_word W (SameName W) (codes "using") _ (behind_token W (SameName W) is.Colon g.name (name_carried W)))))))))

  -- ---- how a name is read

  same_or_else : (m n : ℕ) (x y : Expr) (b c : Option Expr) → RE x y → Opt RE b c → RE (g.or_else m x b) (g.or_else n y c)
  same_or_else m n x y None None h k = h
  same_or_else m n x y None (Some c) h k = absurd k
  same_or_else m n x y (Some b) None h k = absurd k
  same_or_else m n x y (Some b) (Some c) h k = same_defaults W m n x y b c h k

  same_read_by : (m n : ℕ) (p q : g.Reading) → SameReading p q → SameSuffix (g.read_by m p) (g.read_by n q)
  same_read_by m n p q h f k r = same_or_else m n (f p.0) (k q.0) p.1 q.1 (r p.0 q.0 h.0) h.1

  same_named_by : (f k : Access → Expr) (s t : Option g.Suffix) → SameNamed f k → Opt SameSuffix s t → RE (g.named_by f s) (g.named_by k t)
  same_named_by f k None None r h = r a.Direct a.Direct same_direct
  same_named_by f k None (Some t) r h = absurd h
  same_named_by f k (Some s) None r h = absurd h
  same_named_by f k (Some s) (Some t) r h = h f k r

  same_arguments : (n m : Name) (p q : Option g.Arguments) → SameName W n m → Opt SameArguments p q → SameNamed (g.reference n p) (g.reference m q)
  same_arguments n m None None h k how how' l = same_reference W n m None None [] [] how how' h tt l
  same_arguments n m None (Some q) h k how how' l = absurd k
  same_arguments n m (Some p) None h k how how' l = absurd k
  same_arguments n m (Some p) (Some q) h k how how' l = same_reference W n m (Some p.0) (Some q.0) p.1 q.1 how how' h k.1 l

  some_each : (xs ys : List Expr) → Some_each W RE xs ys → Each RE xs ys
  some_each [] ys h = absurd h
  some_each (x ∷ xs) ys h = h

  -- ---- productions

  module _ (E O : Syntax Expr) (hE : Carries W RE E) (hO : Carries W RE O) where
    arguments_carried : Carries W SameArguments (g.arguments E O)
    unfolding g.arguments
    arguments_carried =
        then_carried W Any (Each RE) (nesting is.Open) (g.listed E <* token is.Shut) (nesting_any W is.Open)
        (before_token W (Each RE) is.Shut (g.listed E) (weaker W (Some_each W RE) (Each RE) (g.listed E) some_each (listed_carried W RE E hE)))

    stand_in_carried : Carries W (Opt RE) (g.stand_in E O)
    unfolding g.stand_in
    stand_in_carried =
        behind_nesting W (Opt RE) is.Open _ (before_token W (Opt RE) is.Shut _ (maybe_carried W RE _ (behind_word W RE (codes "or") _ (behind_token W RE is.Colon E hE))))

    hold_carried : Carries W SameDotted (g.hold E O)
    unfolding g.hold
    hold_carried =
        map_carried W (Opt RE) SameDotted (λ b dot. (a.Hold dot, b)) _ (λ x y r m n t. (record { erased = refl; known = λ w. hold_is m }, r))
        (behind_word W (Opt RE) (codes "hold") (g.stand_in E O) stand_in_carried)

    get_carried : Carries W SameDotted (g.get E O)
    unfolding g.get
    get_carried =
        map_carried W (Opt RE) SameDotted (λ b dot. (a.Get dot, b)) _ (λ x y r m n t. (record { erased = refl; known = λ w. get_is m }, r))
        (behind_word W (Opt RE) (codes "get") (g.stand_in E O) stand_in_carried)

    last_carried : Carries W SameDotted (g.last E O)
    unfolding g.last
    last_carried =
        map_carried W (Both Any (Opt RE)) SameDotted (λ p dot. (a.Offset dot 1 p.0, p.1)) (Then (word (codes "last")) (g.stand_in E O))
        (λ x y r m n t. (record { erased = refl; known = λ w. offset_is m 1 x.0 one_is }, r.1))
        (then_carried W Any (Opt RE) (word (codes "last")) (g.stand_in E O) (word_any W (codes "last")) stand_in_carried)

    default_carried : Carries W RE (g.default E O)
    unfolding g.default
    default_carried =
        behind_word W RE (codes "defaults") _ (behind_nesting W RE is.Open _ (behind_word W RE (codes "to") _ (behind_token W RE is.Colon _ (before_token W RE is.Shut E hE))))

    reading_carried : Carries W SameDotted (g.reading E O)
    unfolding g.reading
    reading_carried =
        either_carried W SameDotted g.offset _ offset_carried (either_carried W SameDotted (g.hold E O) _ hold_carried
        (either_carried W SameDotted (g.get E O) _ get_carried (either_carried W SameDotted (g.last E O) _ last_carried
        (either_carried W SameDotted g.window _ window_carried
        (map_carried W RE SameDotted (λ b dot. (a.Direct, Some b)) (g.default E O) (λ x y r m n t. (same_direct, r)) default_carried)))))

    dotted_default_carried : Carries W (Both Any RE) (g.dotted_default E O)
    unfolding g.dotted_default
    dotted_default_carried = then_carried W Any RE (nesting is.Dot) (g.default E O) (nesting_any W is.Dot) default_carried

    defaults_carried : Carries W (Fun RE RE) (g.defaults E O)
    unfolding g.defaults
    defaults_carried =
        folded_carried W RE (Both Any RE) g.with_default (g.dotted_default E O) (λ x y r b c q. same_defaults W b.0 c.0 x y b.1 c.1 r q.1) dotted_default_carried

    dotted_carried : Carries W SameSuffix (g.dotted E O)
    unfolding g.dotted
    dotted_carried =
        map_carried W (Both Any SameDotted) SameSuffix (λ p. g.read_by p.0 (p.1 p.0)) (Then (nesting is.Dot) (g.reading E O))
        (λ x y r. same_read_by x.0 y.0 (x.1 x.0) (y.1 y.0) (r.1 x.0 y.0 tt))
        (then_carried W Any SameDotted (nesting is.Dot) (g.reading E O) (nesting_any W is.Dot) reading_carried)

    suffix_carried : Carries W SameSuffix (g.suffix E O)
    unfolding g.suffix
    suffix_carried =
        map_carried W (Both SameSuffix (Fun RE RE)) SameSuffix (λ p named. p.1 (p.0 named)) (Then (g.dotted E O) (g.defaults E O))
        (λ x y r f k s. r.1 (x.0 f) (y.0 k) (r.0 f k s)) (then_carried W SameSuffix (Fun RE RE) (g.dotted E O) (g.defaults E O) dotted_carried defaults_carried)

    named_carried : Carries W RE (g.named E O)
    unfolding g.named
    named_carried =
        map_carried W (Both (SameName W) (Both (Opt SameArguments) (Opt SameSuffix))) RE (λ p. g.named_by (g.reference p.0 p.1.0) p.1.1) _
        (λ x y r. same_named_by (g.reference x.0 x.1.0) (g.reference y.0 y.1.0) x.1.1 y.1.1 (same_arguments x.0 y.0 x.1.0 y.1.0 r.0 r.1.0) r.1.1)
        (then_carried W (SameName W) (Both (Opt SameArguments) (Opt SameSuffix)) g.name _ (name_carried W)
        (then_carried W (Opt SameArguments) (Opt SameSuffix) (Maybe (g.arguments E O)) (Maybe (g.suffix E O))
        (maybe_carried W SameArguments (g.arguments E O) arguments_carried) (maybe_carried W SameSuffix (g.suffix E O) suffix_carried)))

    number_carried : Carries W RE (g.number E O)
    unfolding g.number
    number_carried =
        onto W RE (Map (λ p. e.Literal (g.whole_number false p.0 p.1)) g.integer) (g.defaults E O)
        (map_carried W (SameInteger W) RE (λ p. e.Literal (g.whole_number false p.0 p.1)) g.integer
        (λ x y r. same_literal W (g.whole_number false x.0 x.1) (g.whole_number false y.0 y.1) (same_number W false x y x.1 y.1 r)) (integer_carried W)) defaults_carried

    worded_carried : Carries W RE (g.worded E O)
    unfolding g.worded
    worded_carried =
        onto W RE (Map (λ l. e.Literal l) g.word_literal) (g.defaults E O)
        (map_carried W (SameLiteral W) RE (λ l. e.Literal l) g.word_literal (λ x y r. same_literal W x y r) (word_literal_carried W)) defaults_carried

    bracketed_carried : Carries W RE (g.bracketed E O)
    unfolding g.bracketed
    bracketed_carried = onto W RE (nesting is.Open *> E <* token is.Shut) (g.defaults E O) (behind_nesting W RE is.Open _ (before_token W RE is.Shut E hE)) defaults_carried

    operand_carried : Carries W RE (g.operand E O)
    unfolding g.operand
    operand_carried = either_carried W RE (g.number E O) O number_carried hO

    negation_carried : Carries W RE (g.negation E O)
    unfolding g.negation
    negation_carried =
        map_carried W (Both Any RE) RE (λ p. e.Prefix pre.Not p.0 p.1) (Then (nesting is.Not) (g.operand E O)) (λ x y r. same_prefix W pre.Not x.0 y.0 x.1 y.1 r.1)
        (then_carried W Any RE (nesting is.Not) (g.operand E O) (nesting_any W is.Not) operand_carried)

    negative_carried : Carries W (Fun Any RE) (g.negative E O)
    unfolding g.negative
    negative_carried =
        map_carried W (Both (SameInteger W) (Fun RE RE)) (Fun Any RE) (λ p at. p.1 (e.Literal (g.whole_number true p.0.0 at))) (Then g.integer (g.defaults E O))
        (λ x y r m n t. r.1 (e.Literal (g.whole_number true x.0.0 m)) (e.Literal (g.whole_number true y.0.0 n))
        (same_literal W (g.whole_number true x.0.0 m) (g.whole_number true y.0.0 n) (same_number W true x.0 y.0 m n r.0)))
        (then_carried W (SameInteger W) (Fun RE RE) g.integer (g.defaults E O) (integer_carried W) defaults_carried)

    minus_carried : Carries W RE (g.minus E O)
    unfolding g.minus
    minus_carried =
        let S = Either (g.negative E O) (Map (λ x at. e.Prefix pre.Negate at x) O) in
        map_carried W (Both Any (Fun Any RE)) RE (λ p. p.1 p.0) (Then (nesting is.Minus) S) (λ x y r. r.1 x.0 y.0 tt)
        (then_carried W Any (Fun Any RE) (nesting is.Minus) S (nesting_any W is.Minus)
        (either_carried W (Fun Any RE) (g.negative E O) (Map (λ x at. e.Prefix pre.Negate at x) O) negative_carried
        (map_carried W RE (Fun Any RE) (λ x at. e.Prefix pre.Negate at x) O (λ x y r m n t. same_prefix W pre.Negate m n x y r) hO)))

    plain_carried : Carries W RE (g.plain E O)
    unfolding g.plain
    plain_carried =
        either_carried W RE (g.negation E O) _ negation_carried (either_carried W RE (g.minus E O) _ minus_carried
        (either_carried W RE (g.named E O) (g.worded E O) named_carried worded_carried))

    other_with_carried : Carries W RE (g.other_with E O)
    unfolding g.other_with
    other_with_carried = either_carried W RE (g.bracketed E O) (g.plain E O) bracketed_carried plain_carried

    unary_carried : Carries W RE (g.unary E O)
    unfolding g.unary
    unary_carried = either_carried W RE (g.number E O) (g.other_with E O) number_carried other_with_carried

    -- ---- operators

    operator_carried : (s : TokenShape) (op : Binary) → Carries W SameOperator (g.operator s op)
    unfolding g.operator
    operator_carried s op = map_carried W Any SameOperator (λ at. (op, at)) (nesting s) (λ x y r. refl) (nesting_any W s)

    same_join : (x y : Expr) → RE x y → (r s : Joined) → Both SameOperator RE r s → RE (g.join x r) (g.join y s)
    same_join x y h r s k = same_binary W r.0.0 s.0.0 r.0.1 s.0.1 x y r.1 s.1 k.0 h k.1

    joined_carried : (operators : Syntax Operator) (operand : Syntax Expr) → Carries W SameOperator operators → Carries W RE operand → Carries W (Fun RE RE) (g.joined operators operand)
    joined_carried operators operand h k =
        folded_carried W RE (Both SameOperator RE) g.join (Then operators operand) (λ x y r b c q. same_join x y r b c q) (then_carried W SameOperator RE operators operand h k)

    same_compared : (r s : Option Joined) → Opt (Both SameOperator RE) r s → Fun RE RE (g.compared r) (g.compared s)
    same_compared None None k x y h = h
    same_compared None (Some s) k x y h = absurd k
    same_compared (Some r) None k x y h = absurd k
    same_compared (Some r) (Some s) k x y h = same_join x y h r s k

    joined_once_carried : (operators : Syntax Operator) (operand : Syntax Expr) → Carries W SameOperator operators → Carries W RE operand
        → Carries W (Fun RE RE) (g.joined_once operators operand)
    joined_once_carried operators operand h k =
        map_carried W (Opt (Both SameOperator RE)) (Fun RE RE) g.compared (Maybe (Then operators operand)) (λ x y r. same_compared x y r)
        (maybe_carried W (Both SameOperator RE) (Then operators operand) (then_carried W SameOperator RE operators operand h k))

    product_operators_carried : Carries W SameOperator g.product_operators
    unfolding g.product_operators
    product_operators_carried =
        either_carried W SameOperator (g.operator is.Star by.Multiply) _ (operator_carried is.Star by.Multiply)
        (either_carried W SameOperator (g.operator is.Slash by.Divide) (g.operator is.Percent by.Remainder) (operator_carried is.Slash by.Divide) (operator_carried is.Percent by.Remainder))

    sum_operators_carried : Carries W SameOperator g.sum_operators
    unfolding g.sum_operators
    sum_operators_carried =
        either_carried W SameOperator (g.operator is.Plus by.Add) (g.operator is.Minus by.Subtract) (operator_carried is.Plus by.Add) (operator_carried is.Minus by.Subtract)

    comparison_operators_carried : Carries W SameOperator g.comparison_operators
    unfolding g.comparison_operators
    comparison_operators_carried =
        either_carried W SameOperator (g.operator is.Equal by.Equal) _ (operator_carried is.Equal by.Equal)
        (either_carried W SameOperator (g.operator is.Unequal by.Unequal) _ (operator_carried is.Unequal by.Unequal)
        (either_carried W SameOperator (g.operator is.Less by.Less) _ (operator_carried is.Less by.Less)
        (either_carried W SameOperator (g.operator is.LessEqual by.LessEqual) _ (operator_carried is.LessEqual by.LessEqual)
        (either_carried W SameOperator (g.operator is.Greater by.Greater) (g.operator is.GreaterEqual by.GreaterEqual) (operator_carried is.Greater by.Greater)
        (operator_carried is.GreaterEqual by.GreaterEqual)))))

    and_operators_carried : Carries W SameOperator g.and_operators
    unfolding g.and_operators
    and_operators_carried = operator_carried is.And by.And

    or_operators_carried : Carries W SameOperator g.or_operators
    unfolding g.or_operators
    or_operators_carried = operator_carried is.Or by.Or

    -- ---- what follows an operand

    products_carried : Carries W (Fun RE RE) (g.products E O)
    unfolding g.products
    products_carried = joined_carried g.product_operators (g.unary E O) product_operators_carried unary_carried

    product_carried : Carries W RE (g.product E O)
    unfolding g.product
    product_carried = onto W RE (g.unary E O) (g.products E O) unary_carried products_carried

    sums_carried : Carries W (Fun RE RE) (g.sums E O)
    unfolding g.sums
    sums_carried = behind W RE (g.products E O) _ products_carried (joined_carried g.sum_operators (g.product E O) sum_operators_carried product_carried)

    sum_carried : Carries W RE (g.sum E O)
    unfolding g.sum
    sum_carried = onto W RE (g.unary E O) (g.sums E O) unary_carried sums_carried

    comparisons_carried : Carries W (Fun RE RE) (g.comparisons E O)
    unfolding g.comparisons
    comparisons_carried = behind W RE (g.sums E O) _ sums_carried (joined_once_carried g.comparison_operators (g.sum E O) comparison_operators_carried sum_carried)

    comparison_carried : Carries W RE (g.comparison E O)
    unfolding g.comparison
    comparison_carried = onto W RE (g.unary E O) (g.comparisons E O) unary_carried comparisons_carried

    conjunctions_carried : Carries W (Fun RE RE) (g.conjunctions E O)
    unfolding g.conjunctions
    conjunctions_carried = behind W RE (g.comparisons E O) _ comparisons_carried (joined_carried g.and_operators (g.comparison E O) and_operators_carried comparison_carried)

    conjunction_carried : Carries W RE (g.conjunction E O)
    unfolding g.conjunction
    conjunction_carried = onto W RE (g.unary E O) (g.conjunctions E O) unary_carried conjunctions_carried

    disjunctions_carried : Carries W (Fun RE RE) (g.disjunctions E O)
    unfolding g.disjunctions
    disjunctions_carried = behind W RE (g.conjunctions E O) _ conjunctions_carried (joined_carried g.or_operators (g.conjunction E O) or_operators_carried conjunction_carried)

    conditional_carried : Carries W RE (g.conditional E O)
    unfolding g.conditional
    conditional_carried =
        map_carried W (Both Any (Both RE (Both RE RE))) RE (λ p. e.If p.0 p.1.0 p.1.1.0 p.1.1.1) _
        (λ x y r. same_if W x.0 y.0 x.1.0 y.1.0 x.1.1.0 y.1.1.0 x.1.1.1 y.1.1.1 r.1.0 r.1.1.0 r.1.1.1)
        (then_carried W Any (Both RE (Both RE RE)) (nesting is.If) _ (nesting_any W is.If)
        (then_carried W RE (Both RE RE) E _ hE (then_carried W RE RE (token is.Then *> E) (token is.Else *> E) (behind_token W RE is.Then E hE) (behind_token W RE is.Else E hE))))

    expr_with_carried : Carries W RE (g.expr_with E O)
    unfolding g.expr_with
    expr_with_carried = either_carried W RE (g.conditional E O) _ conditional_carried (onto W RE (g.unary E O) (g.disjunctions E O) unary_carried disjunctions_carried)

    open_operand_carried : Carries W RE (g.open_operand E O)
    unfolding g.open_operand
    open_operand_carried = either_carried W RE (g.number E O) (g.plain E O) number_carried plain_carried

    pub open_expr_carried : Carries W RE (g.open_expr E O)
    unfolding g.open_expr
    open_expr_carried =
        either_carried W RE (g.conditional E O) _ conditional_carried (onto W RE (g.open_operand E O) (g.disjunctions E O) open_operand_carried disjunctions_carried)

    pub closed_carried : Carries W (Fun RE RE) (g.closed E O)
    unfolding g.closed
    closed_carried = behind_token W (Fun RE RE) is.Shut _ (behind W RE (g.defaults E O) (g.disjunctions E O) defaults_carried disjunctions_carried)

  -- ---- levels

  level_carried : (n : ℕ) → Carries W RE (g.level true n) × Carries W RE (g.level false n)
  unfolding g.level
  level_carried zero =
      let h = map_carried W Any RE (λ at. e.Literal (g.truth_at true at)) (token is.True) (λ x y r. same_literal W (g.truth_at true x) (g.truth_at true y) (same_truth W true x y)) (token_any W is.True) in
      let p = past_carried W RE (Map (λ at. e.Literal (g.truth_at true at)) (token is.True)) h in
      (p, p)
  level_carried (suc n) =
      let h = level_carried n in
      let hE = known_carried W RE g.expr_begins g.expr_goes_on (g.level true n) h.0 in
      let hO = known_carried W RE g.other_begins g.other_goes_on (g.level false n) h.1 in
      (expr_with_carried (g.expr_in n) (g.other_in n) hE hO, other_with_carried (g.expr_in n) (g.other_in n) hE hO)

  pub expr_in_carried : (n : ℕ) → Carries W RE (g.expr_in n)
  expr_in_carried n = known_carried W RE g.expr_begins g.expr_goes_on (g.level true n) (level_carried n).0

  pub other_in_carried : (n : ℕ) → Carries W RE (g.other_in n)
  other_in_carried n = known_carried W RE g.other_begins g.other_goes_on (g.level false n) (level_carried n).1
