-- Operators between operands, and operators before them.
use Rattle.std.proofs.Common.{◌≡◌, ℕ, zero, suc, ◌≤◌, ◌<◌, Bool, true, false, List, [], ◌∷◌, ◌++◌, refl, subst, arith, inl, inr, ◌⊎◌}
use Rattle.std.proofs.lemmas.Bool.{cases_lt}
use Rattle.lola_lexer.specs.declared.shape.TokenShape.TheVariants as is
use Rattle.lola_parser_grammar.specs.declared.expressions.Prefix.TheVariants as pre
use Rattle.lola_parser_grammar.specs.declared.expressions.Binary.{Binary}
use Rattle.lola_parser_grammar.specs.declared.expressions.Binary.TheVariants as by
use Rattle.lola_parser_grammar.specs.declared.expressions.Expr.{Expr}
use Rattle.lola_parser_grammar.specs.declared.expressions.Expr.TheVariants as e
use Rattle.lola_parser_grammar.specs.Syntax.{Lexeme, Syntax, Then, Spells}
use Rattle.lola_parser_grammar.specs.Grammar as g
use Rattle.lola_parser_grammar.specs.Grammar.{token, nesting, join, ◌*>◌, ◌<*◌, ◌|>◌, ◌>>◌}
use Rattle.lola_parser_print.specs.Print.{lex, tightness, left_of, shape_of}
use Rattle.lola_parser_law.proofs.Single.{token_spelled, nesting_spelled, joined_none, joined_more, tail_none, tail_more, once_none, once_one, operator_spelled, after}
use Rattle.lola_parser_law.proofs.Operands.{Negative, Named, negative_spelled, named_spelled, negative_more, named_more, worded_more, bracketed_more, number_more}
use Rattle.lola_parser_print.specs.Print as out

abbrev pub At : ℕ → Syntax Expr → Syntax Expr → Syntax Expr
At zero E O = g.expr_with E O
At (suc zero) E O = g.unary E O |> g.disjunctions E O
At (suc (suc zero)) E O = g.conjunction E O
At (suc (suc (suc zero))) E O = g.comparison E O
At (suc (suc (suc (suc zero)))) E O = g.sum E O
At (suc (suc (suc (suc (suc zero))))) E O = g.product E O
At (suc (suc (suc (suc (suc (suc k)))))) E O = g.unary E O

module _ (E O : Syntax Expr) (u : List Lexeme) (x : Expr) where
  up : (j : ℕ) → j < 6 → Spells (At (suc j) E O) u x → Spells (At j E O) u x
  unfolding Spells g.expr_with g.disjunctions g.conjunctions g.conjunction g.comparisons g.comparison g.sums g.sum g.products g.product
  up zero l h = inr h
  up (suc zero) l h = tail_none join (g.unary E O) (g.conjunctions E O) (Then g.or_operators (g.conjunction E O)) u x h
  up (suc (suc zero)) l h = tail_none join (g.unary E O) (g.comparisons E O) (Then g.and_operators (g.comparison E O)) u x h
  up (suc (suc (suc zero))) l h = once_none (g.unary E O) (g.sums E O) g.comparison_operators (g.sum E O) u x h
  up (suc (suc (suc (suc zero)))) l h = tail_none join (g.unary E O) (g.products E O) (Then g.sum_operators (g.product E O)) u x h
  up (suc (suc (suc (suc (suc zero))))) l h = joined_none join (g.unary E O) (Then g.product_operators (g.unary E O)) u x h
  up (suc (suc (suc (suc (suc (suc j)))))) l h = absurd (omega (arith, l))

  pub down : (j k : ℕ) → k ≤ j → j ≤ 6 → Spells (At j E O) u x → Spells (At k E O) u x
  down zero k le top h = let e : 0 ≡ k = omega (arith, le) in subst (λ i. Spells (At i E O) u x) e h
  down (suc j) k le top h = elim (cases_lt k (suc j)) [
    | inl lt ↦ down j k (omega (arith, lt)) (omega (arith, top)) (up j (omega (arith, top)) h)
    | inr ge ↦ (let e : suc j ≡ k = omega (arith, le, ge) in subst (λ i. Spells (At i E O) u x) e h)
  ]

-- two operands of an operator
pub binary_spelled : (op : Binary) (E O : Syntax Expr) (u w : List Lexeme) (a b : Expr) → Spells (At (left_of op) E O) u a → Spells (At (suc (tightness op)) E O) w b
    → Spells (At (tightness op) E O) (u ++ (lex (shape_of op) ∷ w)) (e.Binary op 0 a b)
unfolding Spells g.disjunctions g.conjunctions g.conjunction g.comparisons g.comparison g.sums g.sum g.products g.product g.product_operators g.sum_operators g.comparison_operators g.and_operators g.or_operators
binary_spelled by.Or E O u w a b h k = tail_more join (g.unary E O) (g.conjunctions E O) (Then g.or_operators (g.conjunction E O)) u (lex is.Or ∷ w) a ((by.Or, 0), b) h (lex is.Or ∷ [], w, refl, ((operator_spelled is.Or by.Or)), k)
binary_spelled by.And E O u w a b h k = tail_more join (g.unary E O) (g.comparisons E O) (Then g.and_operators (g.comparison E O)) u (lex is.And ∷ w) a ((by.And, 0), b) h (lex is.And ∷ [], w, refl, ((operator_spelled is.And by.And)), k)
binary_spelled by.Equal E O u w a b h k = once_one (g.unary E O) (g.sums E O) g.comparison_operators (g.sum E O) u (lex is.Equal ∷ []) w a (by.Equal, 0) b h (inl (operator_spelled is.Equal by.Equal)) k
binary_spelled by.Unequal E O u w a b h k = once_one (g.unary E O) (g.sums E O) g.comparison_operators (g.sum E O) u (lex is.Unequal ∷ []) w a (by.Unequal, 0) b h (inr (inl (operator_spelled is.Unequal by.Unequal))) k
binary_spelled by.Less E O u w a b h k = once_one (g.unary E O) (g.sums E O) g.comparison_operators (g.sum E O) u (lex is.Less ∷ []) w a (by.Less, 0) b h (inr (inr (inl (operator_spelled is.Less by.Less)))) k
binary_spelled by.LessEqual E O u w a b h k = once_one (g.unary E O) (g.sums E O) g.comparison_operators (g.sum E O) u (lex is.LessEqual ∷ []) w a (by.LessEqual, 0) b h (inr (inr (inr (inl (operator_spelled is.LessEqual by.LessEqual))))) k
binary_spelled by.Greater E O u w a b h k = once_one (g.unary E O) (g.sums E O) g.comparison_operators (g.sum E O) u (lex is.Greater ∷ []) w a (by.Greater, 0) b h (inr (inr (inr (inr (inl (operator_spelled is.Greater by.Greater)))))) k
binary_spelled by.GreaterEqual E O u w a b h k = once_one (g.unary E O) (g.sums E O) g.comparison_operators (g.sum E O) u (lex is.GreaterEqual ∷ []) w a (by.GreaterEqual, 0) b h (inr (inr (inr (inr (inr (operator_spelled is.GreaterEqual by.GreaterEqual)))))) k
binary_spelled by.Add E O u w a b h k = tail_more join (g.unary E O) (g.products E O) (Then g.sum_operators (g.product E O)) u (lex is.Plus ∷ w) a ((by.Add, 0), b) h (lex is.Plus ∷ [], w, refl, (inl (operator_spelled is.Plus by.Add)), k)
binary_spelled by.Subtract E O u w a b h k = tail_more join (g.unary E O) (g.products E O) (Then g.sum_operators (g.product E O)) u (lex is.Minus ∷ w) a ((by.Subtract, 0), b) h (lex is.Minus ∷ [], w, refl, (inr (operator_spelled is.Minus by.Subtract)), k)
binary_spelled by.Multiply E O u w a b h k = joined_more join (g.unary E O) (Then g.product_operators (g.unary E O)) u (lex is.Star ∷ w) a ((by.Multiply, 0), b) h (lex is.Star ∷ [], w, refl, (inl (operator_spelled is.Star by.Multiply)), k)
binary_spelled by.Divide E O u w a b h k = joined_more join (g.unary E O) (Then g.product_operators (g.unary E O)) u (lex is.Slash ∷ w) a ((by.Divide, 0), b) h (lex is.Slash ∷ [], w, refl, (inr (inl (operator_spelled is.Slash by.Divide))), k)
binary_spelled by.Remainder E O u w a b h k = joined_more join (g.unary E O) (Then g.product_operators (g.unary E O)) u (lex is.Percent ∷ w) a ((by.Remainder, 0), b) h (lex is.Percent ∷ [], w, refl, (inr (inr (operator_spelled is.Percent by.Remainder))), k)

-- ---- operands

module _ (E O : Syntax Expr) where
  -- begins with no integer, and takes defaults
  abbrev pub Tail : List Lexeme → Expr → Type 0
  Tail u x = Negative E O u x ⊎ (Named E O u x ⊎ (Spells (g.worded E O) u x ⊎ Spells (g.bracketed E O) u x))

  pub tail_other : (u : List Lexeme) (x : Expr) → Tail u x → Spells (g.other_with E O) u x
  unfolding Spells g.other_with g.plain
  tail_other u x (inl h) = inr (inr (inl (negative_spelled E O u x h)))
  tail_other u x (inr (inl h)) = inr (inr (inr (inl (named_spelled E O u x h))))
  tail_other u x (inr (inr (inl h))) = inr (inr (inr (inr h)))
  tail_other u x (inr (inr (inr h))) = inl h

  pub tail_default : (u w : List Lexeme) (x b : Expr) → Tail u x → Spells E w b → Tail (u ++ out.default_tail w) (e.Defaults 0 x b)
  tail_default u w x b (inl h) k = inl (negative_more E O u w x b h k)
  tail_default u w x b (inr (inl h)) k = inr (inl (named_more E O u w x b h k))
  tail_default u w x b (inr (inr (inl h))) k = inr (inr (inl (worded_more E O u w x b h k)))
  tail_default u w x b (inr (inr (inr h))) k = inr (inr (inr (bracketed_more E O u w x b h k)))

  pub plain_name : (u : List Lexeme) (x : Expr) → Spells (g.named E O) u x → Spells (g.other_with E O) u x
  unfolding Spells g.other_with g.plain
  plain_name u x h = inr (inr (inr (inl h)))

  abbrev pub Operand : Bool → List Lexeme → Expr → Type 0
  Operand true u x = Spells (g.number E O) u x
  Operand false u x = Spells (g.other_with E O) u x

  abbrev pub Post : Bool → List Lexeme → Expr → Type 0
  Post true u x = Spells (g.number E O) u x
  Post false u x = Tail u x

  pub post_operand : (b : Bool) (u : List Lexeme) (x : Expr) → Post b u x → Operand b u x
  post_operand true u x h = h
  post_operand false u x h = tail_other u x h

  pub post_default : (c : Bool) (u w : List Lexeme) (x b : Expr) → Post c u x → Spells E w b → Post c (u ++ out.default_tail w) (e.Defaults 0 x b)
  post_default true u w x b h k = number_more E O u w x b h k
  post_default false u w x b h k = tail_default u w x b h k

  pub operand_unary : (b : Bool) (u : List Lexeme) (x : Expr) → Operand b u x → Spells (g.unary E O) u x
  unfolding Spells g.unary
  operand_unary true u x h = inl h
  operand_unary false u x h = inr h

  -- an operand of `!`: an integer here, or another one level further in
  pub not_spelled : (u : List Lexeme) (x : Expr) → (Spells (g.number E O) u x ⊎ Spells O u x) → Spells (g.other_with E O) (lex is.Not ∷ u) (e.Prefix pre.Not 0 x)
  unfolding Spells g.other_with g.plain g.negation g.operand
  not_spelled u x h = inr (inl ((0, x), refl, (lex is.Not ∷ [], u, refl, nesting_spelled is.Not, h)))

  pub minus_spelled : (u : List Lexeme) (x : Expr) → Spells O u x → Spells (g.other_with E O) (lex is.Minus ∷ u) (e.Prefix pre.Negate 0 x)
  unfolding Spells g.other_with g.plain g.minus
  minus_spelled u x h = inr (inr (inl ((0, λ at. e.Prefix pre.Negate at x), refl, (lex is.Minus ∷ [], u, refl, nesting_spelled is.Minus, inr (x, refl, h)))))

  pub if_spelled : (u v w : List Lexeme) (a b c : Expr) → Spells E u a → Spells E v b → Spells E w c
      → Spells (g.expr_with E O) (lex is.If ∷ (u ++ (lex is.Then ∷ (v ++ (lex is.Else ∷ w))))) (e.If 0 a b c)
  unfolding Spells g.expr_with g.conditional
  if_spelled u v w a b c h k l =
      let two : Spells (token is.Then *> E) (lex is.Then ∷ v) b = after (token is.Then) E (lex is.Then ∷ []) v 0 b (token_spelled is.Then) k in
      let three : Spells (token is.Else *> E) (lex is.Else ∷ w) c = after (token is.Else) E (lex is.Else ∷ []) w 0 c (token_spelled is.Else) l in
      inl ((0, (a, (b, c))), refl, (lex is.If ∷ [], _, refl, nesting_spelled is.If, (u, _, refl, h, (lex is.Then ∷ v, lex is.Else ∷ w, refl, two, three))))
