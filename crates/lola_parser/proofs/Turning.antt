-- A turn leaves what the part leaves.
use Rattle.std.proofs.Common.{◌≡◌, ℕ, ◌<◌, Bool, true, false, cond, ◌||◌, List, [], ◌∷◌, ◌++◌, length, drop, Some, None, refl, sym, ap, ◌∙◌, arith, codes}
use Rattle.lola_lexer.specs.declared.shape.TokenShape.{TokenShape}
use Rattle.lola_lexer.specs.declared.shape.TokenShape.TheVariants as is
use Rattle.lola_parser_grammar.specs.declared.expressions.Expr.{Expr}
use Rattle.lola_parser_grammar.specs.Syntax.{Lexeme, Of, Word, fits, same_shape, Syntax, Then, Maybe, Many, starts, first, nullable, more, is_fine}
use Rattle.lola_parser_grammar.specs.Grammar as g
use Rattle.lola_parser_grammar.specs.Grammar.{expr_in, other_in, level, ◌*>◌, ◌<*◌}
use Rattle.lola_parser.specs.declared.pending.Pending.{Pending}
use Rattle.lola_parser.specs.declared.pending.Pending.TheVariants as p
use Rattle.lola_parser.specs.Turns.{Left, ◌>->◌, behind, shape, Turn, and_parts, and_turn, distance, frame, defaults_to, inner, expression_turn, operand_turn, substitute, access, defaults_turn, access_turn, further_turn, operators_turn, token_turn, turned, or_nothing, arguments, over_words}
use Rattle.lola_parser.specs.Skims.{skim}
use Rattle.lola_parser.specs.Parts.{left_by, left_by_all, after_turn}
use Rattle.lola_parser.proofs.Skims.{Shortens, same_next, one_turn, shortens, shortens_then, shortens_behind}
use Rattle.lola_parser_cursor.proofs.Joins.{product_full, sum_full, and_full, or_full}
use Rattle.lola_parser.proofs.Deeper.{expr_deeper, other_deeper}

-- ---- joins

next_next : (o : Left) (f h : List Lexeme → Left) → ((o >-> f) >-> h) ≡ (o >-> λ r. (f r >-> h))
next_next None f h = refl
next_next (Some ts) f h = refl

next_some : (o : Left) → (o >-> λ r. Some r) ≡ o
next_some None = refl
next_some (Some ts) = refl

after_parts : (n : ℕ) (ps : List Pending) (o : Left) → after_turn n (and_parts ps o) ≡ (o >-> left_by_all n ps)
after_parts n ps None = refl
after_parts n ps (Some ts) = refl

after_turns : (n : ℕ) (o : Left) (f : List Lexeme → Turn) → after_turn n (and_turn o f) ≡ (o >-> λ r. after_turn n (f r))
after_turns n None f = refl
after_turns n (Some ts) f = refl

abbrev lex : TokenShape → List ℕ → ℕ → ℕ → Lexeme
lex s w a b = record { shape = s; text = w; from = a; to = b }

-- ---- single tokens

token_right : (n : ℕ) (s : TokenShape) (ts : List Lexeme) → skim (g.token s) ts ≡ after_turn n (token_turn s ts)
unfolding skim g.token
token_right n s ts = sym (after_parts n [] (shape s ts) ∙ next_some (shape s ts))

-- ---- operators

product_fine : is_fine g.product_operators ≡ true
unfolding is_fine first more nullable same_shape g.product_operators g.operator g.nesting
product_fine = refl

sum_fine : is_fine g.sum_operators ≡ true
unfolding is_fine first more nullable same_shape g.sum_operators g.operator g.nesting
sum_fine = refl

and_fine : is_fine g.and_operators ≡ true
unfolding is_fine first more nullable same_shape g.and_operators g.operator g.nesting
and_fine = refl

or_fine : is_fine g.or_operators ≡ true
unfolding is_fine first more nullable same_shape g.or_operators g.operator g.nesting
or_fine = refl

over_is : (ts : List Lexeme) → skim g.over ts ≡ behind over_words ts
unfolding skim first nullable g.over g.word
over_is [] = refl
over_is (t ∷ ts) = by (fits (Word (codes "over")) t) (fits (Word (codes "over_exactly")) t)
  where
    by : (x y : Bool) → cond (x || false) (cond (x || false) (Some ts) None) (cond (y || false) (Some ts) None) ≡ cond (x || (y || false)) (Some ts) None
    by true y = refl
    by false y = refl

-- ---- an expression

module _ (n : ℕ) where
  abbrev E : Syntax Expr
  E = expr_in n

  abbrev O : Syntax Expr
  O = other_in n

  expr_at : (s : TokenShape) (w : List ℕ) (a b : ℕ) (ts : List Lexeme) → skim (g.expr_with E O) (lex s w a b ∷ ts) ≡ after_turn n (expression_turn (lex s w a b ∷ ts))
  unfolding skim first nullable fits same_shape g.expr_with g.conditional g.disjunctions g.conjunctions g.comparisons g.sums g.nesting g.token
  expr_at is.If w a b ts = simp (next_next, next_some)
  expr_at _ w a b ts = simp (next_next, next_some)

  expr_none : skim (g.expr_with E O) [] ≡ after_turn n (expression_turn [])
  unfolding skim first nullable g.expr_with g.conditional g.disjunctions g.conjunctions g.comparisons g.sums g.nesting g.token
  expr_none = simp (next_next, next_some)

  expr_right : (ts : List Lexeme) → length ts < n → skim (expr_in n) ts ≡ after_turn n (expression_turn ts)
  unfolding skim level
  expr_right [] less = expr_deeper n [] less ∙ expr_none
  expr_right (t ∷ ts) less = expr_deeper n (t ∷ ts) less ∙ expr_at t.shape t.text t.from t.to ts

  -- ---- an operand

  other_is : (ts : List Lexeme) → length ts < n → skim O ts ≡ skim (g.other_with E O) ts
  unfolding skim level
  other_is ts less = other_deeper n ts less

  operand_same : (ts : List Lexeme) → length ts < n → skim (g.operand E O) ts ≡ skim (g.unary E O) ts
  unfolding skim g.operand g.unary
  operand_same ts less = ap (λ o. cond (starts (first (g.number E O)) ts) (skim (g.number E O) ts) o) (other_is ts less)

  operand_at : (s : TokenShape) (w : List ℕ) (a b : ℕ) (ts : List Lexeme) → length ts < n → skim (g.unary E O) (lex s w a b ∷ ts) ≡ after_turn n (operand_turn (lex s w a b ∷ ts))
  unfolding skim first nullable fits same_shape g.unary g.number g.other_with g.bracketed g.plain g.negation g.minus g.named g.worded g.word_literal g.negative g.integer g.text g.name g.nesting g.token
  operand_at is.Integer w a b ts less = sym (next_some _)
  operand_at is.Open w a b ts less = simp (next_next, next_some)
  operand_at is.Not w a b ts less = operand_same ts less ∙ sym (next_some (skim (g.unary E O) ts))
  operand_at is.Minus w a b ts less = ap (λ o. cond (starts (Of is.Integer ∷ []) ts) (behind (Of is.Integer ∷ []) ts >-> skim (g.defaults E O)) o) (other_is ts less) ∙ sym (next_some (skim (g.unary E O) ts))
  operand_at is.Name w a b ts less = simp next_some
  operand_at is.True w a b ts less = sym (next_some _)
  operand_at is.False w a b ts less = sym (next_some _)
  operand_at is.Text w a b ts less = sym (next_some _)
  operand_at _ w a b ts less = refl

  operand_right : (ts : List Lexeme) → length ts < n → skim (g.unary E O) ts ≡ after_turn n (operand_turn ts)
  unfolding skim first nullable g.unary g.number g.other_with g.bracketed g.plain g.negation g.minus g.named g.worded g.word_literal g.negative g.integer g.text g.name g.nesting g.token
  operand_right [] less = refl
  operand_right (t ∷ ts) less = operand_at t.shape t.text t.from t.to ts (omega (arith, less))

  -- ---- operators

  abbrev Times : Syntax ((g.Operator) × Expr)
  Times = Then g.product_operators (g.unary E O)

  times_short : Shortens (skim Times)
  times_short = shortens_then g.product_operators (g.unary E O) (shortens g.product_operators product_fine product_full)

  times_at : (s : TokenShape) (w : List ℕ) (a b : ℕ) (ts : List Lexeme)
      → cond (starts (first Times) (lex s w a b ∷ ts)) (skim Times (lex s w a b ∷ ts) >-> skim (Many Times)) (Some (lex s w a b ∷ ts)) ≡ after_turn n (operators_turn p.Products (lex s w a b ∷ ts))
  unfolding skim first nullable fits same_shape g.product_operators g.operator g.nesting g.products
  times_at is.Star w a b ts = simp next_some
  times_at is.Slash w a b ts = simp next_some
  times_at is.Percent w a b ts = simp next_some
  times_at _ w a b ts = refl

  products_right : (ts : List Lexeme) → skim (g.products E O) ts ≡ after_turn n (operators_turn p.Products ts)
  unfolding skim g.products
  products_right [] = refl
  products_right (t ∷ ts) = one_turn Times times_short (t ∷ ts) ∙ times_at t.shape t.text t.from t.to ts

  abbrev Plus : Syntax ((g.Operator) × Expr)
  Plus = Then g.sum_operators (g.product E O)

  plus_short : Shortens (skim Plus)
  plus_short = shortens_then g.sum_operators (g.product E O) (shortens g.sum_operators sum_fine sum_full)

  plus_at : (s : TokenShape) (w : List ℕ) (a b : ℕ) (ts : List Lexeme)
      → cond (starts (first Plus) (lex s w a b ∷ ts)) (skim Plus (lex s w a b ∷ ts) >-> skim (Many Plus)) (Some (lex s w a b ∷ ts)) ≡ after_turn n (operators_turn p.Sums (lex s w a b ∷ ts))
  unfolding skim first nullable fits same_shape g.sum_operators g.operator g.nesting g.product
  plus_at is.Plus w a b ts = simp (next_next, next_some)
  plus_at is.Minus w a b ts = simp (next_next, next_some)
  plus_at _ w a b ts = refl

  sums_right : (ts : List Lexeme) → left_by n p.Sums ts ≡ after_turn n (operators_turn p.Sums ts)
  unfolding skim
  sums_right [] = refl
  sums_right (t ∷ ts) = one_turn Plus plus_short (t ∷ ts) ∙ plus_at t.shape t.text t.from t.to ts

  comparison_at : (s : TokenShape) (w : List ℕ) (a b : ℕ) (ts : List Lexeme) → left_by n p.Comparison (lex s w a b ∷ ts) ≡ after_turn n (operators_turn p.Comparison (lex s w a b ∷ ts))
  unfolding skim first nullable fits same_shape g.comparison_operators g.operator g.nesting g.sum g.sums
  comparison_at is.Equal w a b ts = simp (next_next, next_some)
  comparison_at is.Unequal w a b ts = simp (next_next, next_some)
  comparison_at is.Less w a b ts = simp (next_next, next_some)
  comparison_at is.LessEqual w a b ts = simp (next_next, next_some)
  comparison_at is.Greater w a b ts = simp (next_next, next_some)
  comparison_at is.GreaterEqual w a b ts = simp (next_next, next_some)
  comparison_at _ w a b ts = refl

  comparison_right : (ts : List Lexeme) → left_by n p.Comparison ts ≡ after_turn n (operators_turn p.Comparison ts)
  unfolding skim
  comparison_right [] = refl
  comparison_right (t ∷ ts) = comparison_at t.shape t.text t.from t.to ts

  abbrev And : Syntax ((g.Operator) × Expr)
  And = Then g.and_operators (g.comparison E O)

  and_short : Shortens (skim And)
  and_short = shortens_then g.and_operators (g.comparison E O) (shortens g.and_operators and_fine and_full)

  comparison_is : (ts : List Lexeme) → skim (g.comparison E O) ts ≡ (skim (g.unary E O) ts >-> λ r. (skim (g.products E O) r >-> λ r. (skim (g.joined g.sum_operators (g.product E O)) r >-> skim (g.joined_once g.comparison_operators (g.sum E O)))))
  unfolding skim g.comparison g.comparisons g.sums
  comparison_is ts = simp next_next

  and_at : (s : TokenShape) (w : List ℕ) (a b : ℕ) (ts : List Lexeme)
      → cond (starts (first And) (lex s w a b ∷ ts)) (skim And (lex s w a b ∷ ts) >-> skim (Many And)) (Some (lex s w a b ∷ ts)) ≡ after_turn n (operators_turn p.Conjunctions (lex s w a b ∷ ts))
  unfolding skim first nullable fits same_shape g.and_operators g.operator g.nesting
  and_at is.And w a b ts = ap (λ o. o >-> skim (Many And)) (comparison_is ts) ∙ simp (next_next, next_some)
  and_at _ w a b ts = refl

  conjunctions_right : (ts : List Lexeme) → left_by n p.Conjunctions ts ≡ after_turn n (operators_turn p.Conjunctions ts)
  unfolding skim
  conjunctions_right [] = refl
  conjunctions_right (t ∷ ts) = one_turn And and_short (t ∷ ts) ∙ and_at t.shape t.text t.from t.to ts

  abbrev Or : Syntax ((g.Operator) × Expr)
  Or = Then g.or_operators (g.conjunction E O)

  or_short : Shortens (skim Or)
  or_short = shortens_then g.or_operators (g.conjunction E O) (shortens g.or_operators or_fine or_full)

  conjunction_is : (ts : List Lexeme) → skim (g.conjunction E O) ts ≡ (skim (g.unary E O) ts >-> λ r. (skim (g.products E O) r >-> λ r. (skim (g.joined g.sum_operators (g.product E O)) r >-> λ r. (skim (g.joined_once g.comparison_operators (g.sum E O)) r >-> skim (g.joined g.and_operators (g.comparison E O))))))
  unfolding skim g.conjunction g.conjunctions g.comparisons g.sums
  conjunction_is ts = simp next_next

  or_at : (s : TokenShape) (w : List ℕ) (a b : ℕ) (ts : List Lexeme)
      → cond (starts (first Or) (lex s w a b ∷ ts)) (skim Or (lex s w a b ∷ ts) >-> skim (Many Or)) (Some (lex s w a b ∷ ts)) ≡ after_turn n (operators_turn p.Disjunctions (lex s w a b ∷ ts))
  unfolding skim first nullable fits same_shape g.or_operators g.operator g.nesting
  or_at is.Or w a b ts = ap (λ o. o >-> skim (Many Or)) (conjunction_is ts) ∙ simp (next_next, next_some)
  or_at _ w a b ts = refl

  disjunctions_right : (ts : List Lexeme) → left_by n p.Disjunctions ts ≡ after_turn n (operators_turn p.Disjunctions ts)
  unfolding skim
  disjunctions_right [] = refl
  disjunctions_right (t ∷ ts) = one_turn Or or_short (t ∷ ts) ∙ or_at t.shape t.text t.from t.to ts

  -- ---- defaults and arguments

  abbrev inside : List Lexeme → Left
  inside r = skim E r >-> λ r. (skim (g.token is.Shut) r >-> skim (g.defaults E O))

  inner_is : (r : List Lexeme) → inside r ≡ left_by_all n inner r
  inner_is r = simp next_some

  default_is : (ts : List Lexeme) → (skim (g.default E O) ts >-> skim (g.defaults E O)) ≡ after_turn n (and_parts inner (defaults_to ts))
  unfolding skim g.default g.word g.nesting g.token
  default_is ts =
      let e : (skim (g.default E O) ts >-> skim (g.defaults E O)) ≡ (defaults_to ts >-> inside) = simp next_next in
      e ∙ same_next (defaults_to ts) inside (left_by_all n inner) (λ r h. inner_is r) ∙ sym (after_parts n inner (defaults_to ts))

  dot_short : Shortens (skim (g.dotted_default E O))
  unfolding skim g.dotted_default g.nesting
  dot_short = shortens_then (g.nesting is.Dot) (g.default E O) (λ ts rest h. shortens_behind (Of is.Dot ∷ []) ts rest h)

  defaults_at : (s : TokenShape) (w : List ℕ) (a b : ℕ) (ts : List Lexeme)
      → cond (starts (first (g.dotted_default E O)) (lex s w a b ∷ ts)) (skim (g.dotted_default E O) (lex s w a b ∷ ts) >-> skim (Many (g.dotted_default E O))) (Some (lex s w a b ∷ ts)) ≡ after_turn n (defaults_turn (lex s w a b ∷ ts))
  unfolding skim first nullable fits same_shape g.dotted_default g.nesting g.defaults
  defaults_at is.Dot w a b ts = default_is ts
  defaults_at _ w a b ts = refl

  defaults_right : (ts : List Lexeme) → skim (g.defaults E O) ts ≡ after_turn n (defaults_turn ts)
  unfolding skim g.defaults
  defaults_right [] = refl
  defaults_right (t ∷ ts) = one_turn (g.dotted_default E O) dot_short (t ∷ ts) ∙ defaults_at t.shape t.text t.from t.to ts

  arguments_at : (s : TokenShape) (w : List ℕ) (a b : ℕ) (ts : List Lexeme) → left_by n p.Arguments (lex s w a b ∷ ts) ≡ after_turn n (or_nothing (Of is.Open ∷ []) arguments (lex s w a b ∷ ts))
  unfolding skim first nullable fits same_shape g.arguments g.nesting g.token
  arguments_at is.Open w a b ts = simp (next_next, next_some)
  arguments_at _ w a b ts = refl

  arguments_right : (ts : List Lexeme) → left_by n p.Arguments ts ≡ after_turn n (or_nothing (Of is.Open ∷ []) arguments ts)
  unfolding skim
  arguments_right [] = refl
  arguments_right (t ∷ ts) = arguments_at t.shape t.text t.from t.to ts

  comma_short : Shortens (skim (g.further E))
  unfolding skim g.token
  comma_short = shortens_then (g.token is.Comma) E (λ ts rest h. shortens_behind (Of is.Comma ∷ []) ts rest h)

  further_at : (s : TokenShape) (w : List ℕ) (a b : ℕ) (ts : List Lexeme)
      → (cond (starts (first (g.further E)) (lex s w a b ∷ ts)) (skim (g.further E) (lex s w a b ∷ ts) >-> skim (Many (g.further E))) (Some (lex s w a b ∷ ts)) >-> skim (g.token is.Shut)) ≡ after_turn n (further_turn (lex s w a b ∷ ts))
  unfolding skim first nullable fits same_shape g.token
  further_at is.Comma w a b ts = simp (next_next, next_some)
  further_at is.Shut w a b ts = refl
  further_at _ w a b ts = refl

  further_right : (ts : List Lexeme) → left_by n p.FurtherArguments ts ≡ after_turn n (further_turn ts)
  unfolding skim g.token
  further_right [] = refl
  further_right (t ∷ ts) = ap (λ o. o >-> skim (g.token is.Shut)) (one_turn (g.further E) comma_short (t ∷ ts)) ∙ further_at t.shape t.text t.from t.to ts

  -- ---- accesses

  module _ (ts : List Lexeme) where
    distance_is : (skim (g.nesting is.Open *> g.word (codes "by") *> g.token is.Colon *> g.nesting is.Minus *> g.integer <* g.token is.Shut) ts >-> skim (g.defaults E O)) ≡ after_turn n (and_parts (p.Defaults ∷ []) (distance ts))
    unfolding skim g.nesting g.word g.token g.integer
    distance_is =
        let e : (skim (g.nesting is.Open *> g.word (codes "by") *> g.token is.Colon *> g.nesting is.Minus *> g.integer <* g.token is.Shut) ts >-> skim (g.defaults E O)) ≡ (distance ts >-> skim (g.defaults E O)) = simp next_next in
        e ∙ same_next (distance ts) (skim (g.defaults E O)) (left_by_all n (p.Defaults ∷ [])) (λ r h. sym (next_some (skim (g.defaults E O) r))) ∙ sym (after_parts n (p.Defaults ∷ []) (distance ts))

    frame_is : (skim (g.nesting is.Open *> Then g.over (Then (g.token is.Colon *> g.quantity) (g.token is.Comma *> g.word (codes "using") *> g.token is.Colon *> g.name)) <* g.token is.Shut) ts >-> skim (g.defaults E O)) ≡ after_turn n (and_parts (p.Defaults ∷ []) (frame ts))
    unfolding skim g.nesting g.word g.token g.quantity g.name
    frame_is =
        let e : (skim (g.nesting is.Open *> Then g.over (Then (g.token is.Colon *> g.quantity) (g.token is.Comma *> g.word (codes "using") *> g.token is.Colon *> g.name)) <* g.token is.Shut) ts >-> skim (g.defaults E O)) ≡ (frame ts >-> skim (g.defaults E O)) = simp (over_is, next_next) in
        e ∙ same_next (frame ts) (skim (g.defaults E O)) (left_by_all n (p.Defaults ∷ [])) (λ r h. sym (next_some (skim (g.defaults E O) r))) ∙ sym (after_parts n (p.Defaults ∷ []) (frame ts))

    colon_is : ((skim (g.token is.Colon *> E) ts >-> skim (g.token is.Shut)) >-> skim (g.defaults E O)) ≡ after_turn n (and_parts inner (shape is.Colon ts))
    unfolding skim g.token
    colon_is =
        let e : ((skim (g.token is.Colon *> E) ts >-> skim (g.token is.Shut)) >-> skim (g.defaults E O)) ≡ (shape is.Colon ts >-> inside) = simp next_next in
        e ∙ same_next (shape is.Colon ts) inside (left_by_all n inner) (λ r h. inner_is r) ∙ sym (after_parts n inner (shape is.Colon ts))

  module _ (ts : List Lexeme) where
    or_is : (r : List Lexeme) → ((skim (Maybe (g.word (codes "or") *> g.token is.Colon *> E)) r >-> skim (g.token is.Shut)) >-> skim (g.defaults E O)) ≡ after_turn n (substitute r)
    unfolding skim first nullable g.word g.token
    or_is r = by (starts (Word (codes "or") ∷ []) r) refl
      where
        by : (b : Bool) → starts (Word (codes "or") ∷ []) r ≡ b
            → ((skim (Maybe (g.word (codes "or") *> g.token is.Colon *> E)) r >-> skim (g.token is.Shut)) >-> skim (g.defaults E O)) ≡ after_turn n (substitute r)
        by true h = rw h (colon_is (drop 1 r))
        by false h = rw h (simp next_some)

    held_is : (skim (g.stand_in E O) ts >-> skim (g.defaults E O)) ≡ after_turn n (and_turn (shape is.Open ts) substitute)
    unfolding skim g.stand_in g.nesting
    held_is =
        next_next (shape is.Open ts) (λ r. skim (Maybe (g.word (codes "or") *> g.token is.Colon *> E) <* g.token is.Shut) r) (skim (g.defaults E O))
        ∙ same_next (shape is.Open ts) _ (λ r. after_turn n (substitute r)) (λ r h. or_is r)
        ∙ sym (after_turns n (shape is.Open ts) substitute)

  abbrev Accesses : List Lexeme → Type 0
  Accesses ts = (skim (g.reading E O) ts >-> skim (g.defaults E O)) ≡ after_turn n (access ts)

  reading_right : (ts : List Lexeme) → Accesses ts
  unfolding skim first nullable g.reading g.offset g.hold g.get g.last g.window g.default g.word
  reading_right [] = refl
  reading_right (t ∷ ts) = by_offset (fits (Word (codes "offset")) t) refl
    where
      by_window : (b : Bool) → fits (Word (codes "offset")) t ≡ false → fits (Word (codes "hold")) t ≡ false → fits (Word (codes "get")) t ≡ false → fits (Word (codes "last")) t ≡ false → fits (Word (codes "aggregate")) t ≡ b → Accesses (t ∷ ts)
      by_window true h i j k l = rw (h, i, j, k, l) (frame_is ts)
      by_window false h i j k l = rw (h, i, j, k, l) (default_is (t ∷ ts))

      by_last : (b : Bool) → fits (Word (codes "offset")) t ≡ false → fits (Word (codes "hold")) t ≡ false → fits (Word (codes "get")) t ≡ false → fits (Word (codes "last")) t ≡ b → Accesses (t ∷ ts)
      by_last true h i j k = rw (h, i, j, k) (held_is ts)
      by_last false h i j k = by_window (fits (Word (codes "aggregate")) t) h i j k refl

      by_get : (b : Bool) → fits (Word (codes "offset")) t ≡ false → fits (Word (codes "hold")) t ≡ false → fits (Word (codes "get")) t ≡ b → Accesses (t ∷ ts)
      by_get true h i j = rw (h, i, j) (held_is ts)
      by_get false h i j = by_last (fits (Word (codes "last")) t) h i j refl

      by_hold : (b : Bool) → fits (Word (codes "offset")) t ≡ false → fits (Word (codes "hold")) t ≡ b → Accesses (t ∷ ts)
      by_hold true h i = rw (h, i) (held_is ts)
      by_hold false h i = by_get (fits (Word (codes "get")) t) h i refl

      by_offset : (b : Bool) → fits (Word (codes "offset")) t ≡ b → Accesses (t ∷ ts)
      by_offset true h = rw h (distance_is ts)
      by_offset false h = by_hold (fits (Word (codes "hold")) t) h refl

  access_at : (s : TokenShape) (w : List ℕ) (a b : ℕ) (ts : List Lexeme) → left_by n p.Access (lex s w a b ∷ ts) ≡ after_turn n (access_turn (lex s w a b ∷ ts))
  unfolding skim first nullable fits same_shape g.suffix g.dotted g.nesting
  access_at is.Dot w a b ts = reading_right ts
  access_at _ w a b ts = refl

  access_right : (ts : List Lexeme) → left_by n p.Access ts ≡ after_turn n (access_turn ts)
  unfolding skim
  access_right [] = refl
  access_right (t ∷ ts) = access_at t.shape t.text t.from t.to ts

  -- ---- each part

  pub turned_right : (q : Pending) (ts : List Lexeme) → length ts < n → left_by n q ts ≡ after_turn n (turned q ts)
  turned_right p.Expr ts less = expr_right ts less
  turned_right p.Operand ts less = operand_right ts less
  turned_right p.Products ts less = products_right ts
  turned_right p.Sums ts less = sums_right ts
  turned_right p.Comparison ts less = comparison_right ts
  turned_right p.Conjunctions ts less = conjunctions_right ts
  turned_right p.Disjunctions ts less = disjunctions_right ts
  turned_right p.Defaults ts less = defaults_right ts
  turned_right p.Arguments ts less = arguments_right ts
  turned_right p.FurtherArguments ts less = further_right ts
  turned_right p.Access ts less = access_right ts
  turned_right p.Shut ts less = token_right n is.Shut ts
  turned_right p.Then ts less = token_right n is.Then ts
  turned_right p.Else ts less = token_right n is.Else ts

all_append : (n : ℕ) (ps qs : List Pending) (ts : List Lexeme) → left_by_all n (ps ++ qs) ts ≡ (left_by_all n ps ts >-> left_by_all n qs)
all_append n [] qs ts = refl
all_append n (q ∷ ps) qs ts =
    same_next (left_by n q ts) (left_by_all n (ps ++ qs)) (λ r. left_by_all n ps r >-> left_by_all n qs) (λ r h. all_append n ps qs r)
    ∙ sym (next_next (left_by n q ts) (left_by_all n ps) (left_by_all n qs))

-- what a turn gives is to be read in place of the part
pub turn_keeps : (n : ℕ) (q : Pending) (qs ps : List Pending) (ts new : List Lexeme) → length ts < n → turned q ts ≡ Some (ps, new) → left_by_all n (ps ++ qs) new ≡ left_by_all n (q ∷ qs) ts
turn_keeps n q qs ps ts new less e =
    all_append n ps qs new ∙ ap (λ o. o >-> left_by_all n qs) (sym (turned_right n q ts less ∙ ap (after_turn n) e))

pub turn_stops : (n : ℕ) (q : Pending) (qs : List Pending) (ts : List Lexeme) → length ts < n → turned q ts ≡ None → left_by_all n (q ∷ qs) ts ≡ None
turn_stops n q qs ts less e = ap (λ o. o >-> left_by_all n qs) (turned_right n q ts less ∙ ap (after_turn n) e)

pub alone : (n : ℕ) (ts : List Lexeme) → left_by_all n (p.Expr ∷ []) ts ≡ left_by n p.Expr ts
alone n ts = next_some (left_by n p.Expr ts)
