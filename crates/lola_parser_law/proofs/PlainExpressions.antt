-- Expressions: what the plain grammar says of them, and what the parser reads by.
use Rattle.std.proofs.Common.{◌≡◌, ◌⊎◌, inl, inr, ℕ, List, ◌++◌, refl, ap, ◌∙◌, append_assoc}
use Rattle.lola_lexer.specs.declared.shape.TokenShape.TheVariants as is
use Rattle.lola_parser_grammar.specs.declared.expressions.Binary.TheVariants as by
use Rattle.lola_parser_grammar.specs.declared.expressions.Expr.{Expr}
use Rattle.lola_parser_grammar.specs.declared.expressions.Expr.TheVariants as e
use Rattle.lola_parser_grammar.specs.Syntax.{Lexeme, Syntax, Then, Map, Spells}
use Rattle.lola_parser_grammar.specs.Grammar as g
use Rattle.lola_parser_grammar.specs.Grammar.{token, nesting, ◌*>◌, ◌|>◌, ◌>>◌, Operator, join, compared}
use Rattle.lola_parser_law.specs.Plain as plain
use Rattle.lola_parser_law.specs.Plain.{from_left, ◌∣◌}
use Rattle.lola_parser_law.proofs.PlainWithin.{Same, same_chain, same_back, same_then, same_either}
use Rattle.lola_parser_law.proofs.Turns.{regroup, four, led_from_left, same_from_left, level_same, once_same}
use Rattle.lola_parser_law.proofs.PlainOperands.{U, unary_same}

-- ---- operators

product_operators : Same g.product_operators (plain.operator is.Star by.Multiply ∣ plain.operator is.Slash by.Divide ∣ plain.operator is.Percent by.Remainder)
unfolding Spells g.product_operators g.operator nesting token
product_operators = record { to = record { spells = λ ts x h. h }; back = record { spells = λ ts x h. h } }

sum_operators : Same g.sum_operators (plain.operator is.Plus by.Add ∣ plain.operator is.Minus by.Subtract)
unfolding Spells g.sum_operators g.operator nesting token
sum_operators = record { to = record { spells = λ ts x h. h }; back = record { spells = λ ts x h. h } }

abbrev comparing : Syntax Operator
comparing =
    plain.operator is.Equal by.Equal ∣ plain.operator is.Unequal by.Unequal ∣ plain.operator is.Less by.Less ∣ plain.operator is.LessEqual by.LessEqual
    ∣ plain.operator is.Greater by.Greater ∣ plain.operator is.GreaterEqual by.GreaterEqual

comparison_operators : Same g.comparison_operators comparing
unfolding Spells g.comparison_operators g.operator nesting token
comparison_operators = record { to = record { spells = λ ts x h. h }; back = record { spells = λ ts x h. h } }

and_operators : Same g.and_operators (plain.operator is.And by.And)
unfolding Spells g.and_operators g.operator nesting token
and_operators = record { to = record { spells = λ ts x h. h }; back = record { spells = λ ts x h. h } }

or_operators : Same g.or_operators (plain.operator is.Or by.Or)
unfolding Spells g.or_operators g.operator nesting token
or_operators = record { to = record { spells = λ ts x h. h }; back = record { spells = λ ts x h. h } }

module _ (E O : Syntax Expr) where
  -- ---- from products to alternatives

  operand : Same (g.unary E O) (plain.unary_with E (U E O) O)
  operand = same_back _ _ (unary_same E O)

  product_same : Same (g.product E O) (plain.prod E (U E O) O)
  unfolding g.product g.products plain.prod
  product_same =
      same_chain _ _ _ (led_from_left join (g.unary E O) (Then g.product_operators (g.unary E O)))
      (same_from_left join _ _ _ _ operand (same_then _ _ _ _ product_operators operand))

  sum_same : Same (g.sum E O) (plain.sum E (U E O) O)
  unfolding g.product g.sum g.sums plain.sum
  sum_same = level_same join (g.unary E O) _ (g.products E O) (Then g.sum_operators (g.product E O)) _ product_same (same_then _ _ _ _ sum_operators product_same)

  comparison_same : Same (g.comparison E O) (plain.cmp E (U E O) O)
  unfolding g.sum g.comparison g.comparisons plain.cmp
  comparison_same = once_same (g.unary E O) _ (g.sums E O) g.comparison_operators (g.sum E O) _ sum_same (same_then _ _ _ _ comparison_operators sum_same)

  conjunction_same : Same (g.conjunction E O) (plain.and E (U E O) O)
  unfolding g.comparison g.conjunction g.conjunctions plain.and
  conjunction_same = level_same join (g.unary E O) _ (g.comparisons E O) (Then g.and_operators (g.comparison E O)) _ comparison_same (same_then _ _ _ _ and_operators comparison_same)

  disjunction_same : Same (g.unary E O |> g.disjunctions E O) (plain.or E (U E O) O)
  unfolding g.conjunction g.disjunctions plain.or
  disjunction_same = level_same join (g.unary E O) _ (g.conjunctions E O) (Then g.or_operators (g.conjunction E O)) _ conjunction_same (same_then _ _ _ _ or_operators conjunction_same)

  -- ---- conditionals

  abbrev conditional : Syntax Expr
  conditional = Map (λ p. e.If p.0 p.1.0 p.1.1.0 p.1.1.1) (Then (token is.If) (Then E (Then (token is.Then *> E) (token is.Else *> E))))

  conditional_same : Same (g.conditional E O) conditional
  unfolding Spells g.conditional nesting token
  conditional_same = record { to = record { spells = λ ts x h. h }; back = record { spells = λ ts x h. h } }

  pub expr_same : Same (g.expr_with E O) (plain.expr_with E (U E O) O)
  unfolding g.expr_with plain.expr_with
  expr_same = same_either _ _ _ _ conditional_same disjunction_same

  -- ---- what begins with a bracket

  -- a bracket, an expression, and the rest of an expression that begins so
  pub record Bracketed (ts : List Lexeme) (y : Expr) : Type 0 where
    pub bracket : ℕ
    pub inside : Expr
    pub rest : Expr → Expr
    pub value : y ≡ rest inside
    pub front : List Lexeme
    pub behind : List Lexeme
    pub inner : List Lexeme
    pub end : List Lexeme
    pub cut : ts ≡ front ++ behind
    pub opens : Spells (token is.Open) front bracket
    pub cut_behind : behind ≡ inner ++ end
    pub reads : Spells E inner inside
    pub closes : Spells (g.closed E O) end rest

  first_to : (ts : List Lexeme) (y : Expr) → Bracketed ts y → Spells (g.bracketed E O |> g.disjunctions E O) ts y
  unfolding Spells g.bracketed g.closed nesting token
  first_to ts y b = joined b.closes
    where
      joined : Spells (g.closed E O) b.end b.rest → Spells (g.bracketed E O |> g.disjunctions E O) ts y
      joined (q, f, (s, w, c, shut, (r, i, (t, u, d, defaults, tail)))) =
          let inside = regroup b.behind b.inner b.end s w b.cut_behind c in
          let whole = regroup ts b.front b.behind (b.inner ++ s) w b.cut inside in (
            (r.0 b.inside, r.1),
            b.value ∙ ap (λ (z : Expr → Expr). z b.inside) (f ∙ i),
            (
              (b.front ++ (b.inner ++ s)) ++ t,
              u,
              regroup ts (b.front ++ (b.inner ++ s)) w t u whole d,
              (
                (b.inside, r.0),
                refl,
                (
                  b.front ++ (b.inner ++ s),
                  t,
                  refl,
                  ((b.bracket, b.inside), refl, (b.front, b.inner ++ s, refl, b.opens, ((b.inside, q.0), refl, (b.inner, s, refl, b.reads, shut)))),
                  defaults,
                ),
              ),
              tail,
            ),
          )

  first_back : (ts : List Lexeme) (y : Expr) → Spells (g.bracketed E O |> g.disjunctions E O) ts y → Bracketed ts y
  unfolding Spells g.bracketed g.closed nesting token
  first_back ts y (p, d, (u, v, c, (q, f, (w, z, i, (r, j, (k, l, m, opener, (s, n, (t, o, h, inside, shut)))), defaults)), tail)) = record {
    bracket = r.0;
    inside = s.0;
    rest = λ left. p.1 (q.1 left);
    value = d ∙ ap p.1 (f ∙ ap q.1 (j ∙ n));
    front = k;
    behind = l ++ (z ++ v);
    inner = t;
    end = o ++ (z ++ v);
    cut = c ∙ ap (λ (x : List Lexeme). x ++ v) (i ∙ ap (λ (x : List Lexeme). x ++ z) m) ∙ four k l z v;
    opens = opener;
    cut_behind = ap (λ (x : List Lexeme). x ++ (z ++ v)) h ∙ append_assoc t o (z ++ v);
    reads = inside;
    closes = ((s.1, λ left. p.1 (q.1 left)), refl, (o, z ++ v, refl, shut, ((q.1, p.1), refl, (z, v, refl, defaults, tail))));
  }

  -- an expression begins with a bracket, or with none
  pub apart_at_bracket : (ts : List Lexeme) (x : Expr) → Spells (g.expr_with E O) ts x → Spells (g.open_expr E O) ts x ⊎ Bracketed ts x
  unfolding Spells g.expr_with g.open_expr g.unary g.other_with g.open_operand
  apart_at_bracket ts x (inl h) = inl (inl h)
  apart_at_bracket ts x (inr (p, d, (u, v, c, inl h, k))) = inl (inr (p, d, (u, v, c, inl h, k)))
  apart_at_bracket ts x (inr (p, d, (u, v, c, inr (inl h), k))) = inr (first_back ts x (p, d, (u, v, c, h, k)))
  apart_at_bracket ts x (inr (p, d, (u, v, c, inr (inr h), k))) = inl (inr (p, d, (u, v, c, inr h, k)))

  pub with_bracket : (ts : List Lexeme) (x : Expr) → Bracketed ts x → Spells (g.expr_with E O) ts x
  unfolding Spells g.expr_with g.unary g.other_with
  with_bracket ts x b = let h = first_to ts x b in inr (h.0, h.1, (h.2.0, h.2.1, h.2.2, inr (inl h.2.3), h.2.4))

  pub without_bracket : (ts : List Lexeme) (x : Expr) → Spells (g.open_expr E O) ts x → Spells (g.expr_with E O) ts x
  unfolding Spells g.expr_with g.open_expr g.unary g.other_with g.open_operand
  without_bracket ts x (inl h) = inl h
  without_bracket ts x (inr (p, d, (u, v, c, inl h, k))) = inr (p, d, (u, v, c, inl h, k))
  without_bracket ts x (inr (p, d, (u, v, c, inr h, k))) = inr (p, d, (u, v, c, inr (inr h), k))
