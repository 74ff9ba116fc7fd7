-- Operands: what the plain grammar says of them, and what the parser reads by.
use Rattle.std.proofs.Common.{◌≡◌, ◌⊎◌, inl, inr, ℕ, true, false, List, [], ◌∷◌, ◌++◌, Option, Some, None, refl, sym, ap, ◌∙◌}
use Rattle.std.specs.Prelude.{fold}
use Rattle.lola_lexer.specs.declared.shape.TokenShape.TheVariants as is
use Rattle.lola_parser_grammar.specs.declared.literals.Name.{Name}
use Rattle.lola_parser_grammar.specs.declared.literals.Literal.{Literal}
use Rattle.lola_parser_grammar.specs.declared.expressions.Prefix.TheVariants as pre
use Rattle.lola_parser_grammar.specs.declared.expressions.Access.TheVariants as a
use Rattle.lola_parser_grammar.specs.declared.expressions.Expr.{Expr}
use Rattle.lola_parser_grammar.specs.declared.expressions.Expr.TheVariants as e
use Rattle.lola_parser_grammar.specs.Syntax.{Lexeme, Syntax, Then, Map, Either, Maybe, Many, Spells}
use Rattle.lola_parser_grammar.specs.Grammar as g
use Rattle.lola_parser_grammar.specs.Grammar.{token, nesting, integer, name, ◌*>◌, ◌<*◌, ◌|>◌, ◌>>◌, Reading, Arguments, Suffix, with_default, folded, reference, read_by, named_by, whole_number}
use Rattle.lola_parser_law.specs.Plain as plain
use Rattle.lola_parser_law.specs.Plain.{from_left, read_so}
use Rattle.lola_parser_law.proofs.PlainWithin.{Same, same_self, same_chain, same_back}
use Rattle.lola_parser_law.proofs.Wider.{other_in_unary}
use Rattle.lola_parser_law.proofs.Turns.{regroup, ungroup, four, led_from_left, same_from_left, split_from_left, map_twice, map_either}

module _ (E O : Syntax Expr) where
  -- an operand behind an operator
  abbrev pub U : Syntax Expr
  U = g.operand E O

  -- ---- what may stand behind a point

  access_to : (ts : List Lexeme) (x : ℕ → Reading) → Spells (plain.access E U O) ts x → Spells (g.reading E O) ts x
  unfolding Spells plain.access plain.stand_in g.reading g.offset g.hold g.get g.last g.window g.over g.stand_in token nesting
  access_to ts x (inl h) = inl h
  access_to ts x (inr (inl h)) = inr (inl h)
  access_to ts x (inr (inr (inl h))) = inr (inr (inl h))
  access_to ts x (inr (inr (inr (inl h)))) = inr (inr (inr (inl h)))
  access_to ts x (inr (inr (inr (inr h)))) = inr (inr (inr (inr (inl h))))

  abbrev direct : Syntax (ℕ → Reading)
  direct = Map (λ b dot. (a.Direct, Some b)) (g.default E O)

  reading_cases : (ts : List Lexeme) (x : ℕ → Reading) → Spells (g.reading E O) ts x → Spells (plain.access E U O) ts x ⊎ Spells direct ts x
  unfolding Spells plain.access plain.stand_in g.reading g.offset g.hold g.get g.last g.window g.over g.stand_in token nesting
  reading_cases ts x (inl h) = inl (inl h)
  reading_cases ts x (inr (inl h)) = inl (inr (inl h))
  reading_cases ts x (inr (inr (inl h))) = inl (inr (inr (inl h)))
  reading_cases ts x (inr (inr (inr (inl h)))) = inl (inr (inr (inr (inl h))))
  reading_cases ts x (inr (inr (inr (inr (inl h))))) = inl (inr (inr (inr (inr h))))
  reading_cases ts x (inr (inr (inr (inr (inr h))))) = inr h

  direct_reads : (ts : List Lexeme) (b : Expr) → Spells (g.default E O) ts b → Spells (g.reading E O) ts (λ dot. (a.Direct, Some b))
  unfolding Spells g.reading
  direct_reads ts b h = inr (inr (inr (inr (inr (b, refl, h)))))

  pub default_same : Same (plain.default E U O) (g.dotted_default E O)
  unfolding Spells plain.default g.dotted_default g.default token nesting
  default_same = record { to = record { spells = λ ts x h. h }; back = record { spells = λ ts x h. h } }

  -- ---- a name, its arguments, and what follows it

  abbrev Name' : Type 0
  Name' = Name × Option Arguments

  abbrev How : Type 0
  How = Option (ℕ × (ℕ → Reading))

  abbrev pointed : Syntax How
  pointed = Maybe (Then (token is.Dot) (plain.access E U O))

  abbrev Defaulted : List Lexeme → List (ℕ × Expr) → Type 0
  Defaulted ts rs = Spells (Many (g.dotted_default E O)) ts rs

  abbrev of_reference : Name' → Option Suffix → Expr
  of_reference n s = named_by (reference n.0 n.1) s

  abbrev with_all : Expr → List (ℕ × Expr) → Expr
  with_all x rs = fold with_default x rs

  tail_to : (n : Name') (how : How) (rs : List (ℕ × Expr)) (t v : List Lexeme) → Spells pointed t how → Defaulted v rs
      → (s : Option Suffix) × (with_all (read_so (n, how)) rs ≡ of_reference n s) × Spells (Maybe (g.suffix E O)) (t ++ v) s
  unfolding Spells g.suffix g.dotted g.defaults g.dotted_default token nesting
  tail_to n None [] t v h k = (None, refl, ap (λ (w : List Lexeme). w ++ v) h ∙ k)
  tail_to n None (r ∷ rs) t v h (u, w, c, (p, q, d, i, j), more) = (
    Some (λ named. with_all (read_by r.0 (a.Direct, Some r.1) named) rs),
    refl,
    (
      (read_by r.0 (a.Direct, Some r.1), λ left. with_all left rs),
      refl,
      (u, w, ap (λ (w : List Lexeme). w ++ v) h ∙ c, ((r.0, λ dot. (a.Direct, Some r.1)), refl, (p, q, d, i, direct_reads q r.1 j)), (rs, refl, more)),
    ),
  )
  tail_to n (Some (dot, how)) rs t v (p, q, d, i, j) k = (
    Some (λ named. with_all (read_by dot (how dot) named) rs),
    refl,
    ((read_by dot (how dot), λ left. with_all left rs), refl, (t, v, refl, ((dot, how), refl, (p, q, d, i, access_to q how j)), (rs, refl, k))),
  )

  tail_back : (n : Name') (s : Option Suffix) (w : List Lexeme) → Spells (Maybe (g.suffix E O)) w s
      → (how : How) × (rs : List (ℕ × Expr)) × (t : List Lexeme) × (v : List Lexeme) × (w ≡ t ++ v) × (with_all (read_so (n, how)) rs ≡ of_reference n s) × Spells pointed t how × Defaulted v rs
  unfolding Spells g.suffix g.dotted g.defaults g.dotted_default token nesting
  tail_back n None w h = (None, [], [], [], h, refl, refl, refl)
  tail_back n (Some z) w (p, e, (u, v, c, (q, d, (k, l, i, dot, reads)), (rs, f, more))) =
      let named = reference n.0 n.1 in
      let same : with_all (read_by q.0 (q.1 q.0) named) rs ≡ z named =
      sym (ap (λ (y : Suffix). y named) e ∙ ap (λ (y : Expr → Expr). y (p.0 named)) f ∙ ap (λ (y : Suffix). with_all (y named) rs) d) in
      elim (reading_cases l q.1 reads) [
        | inl j ↦ (Some q, rs, u, v, c, same, (k, l, i, dot, j), more)
        | inr j ↦ (None, (q.0, j.0) ∷ rs, [], u ++ v, c, sym (ap (λ (y : ℕ → Reading). with_all (read_by q.0 (y q.0) named) rs) j.1) ∙ same, refl, (u, v, refl, (k, l, i, dot, j.2), more))
      ]

  abbrev pub a_name : Syntax Expr
  a_name = Map read_so (Then (plain.ref E U O) pointed)

  named_to : (ts : List Lexeme) (x : Expr) → Spells (from_left with_default a_name (g.dotted_default E O)) ts x → Spells (g.named E O) ts x
  unfolding Spells g.named g.arguments plain.ref token nesting
  named_to ts x (p, e, (w, v, c, (q, d, (r, t, k, (s, u, l, i, args), how)), rs)) =
      let tail = tail_to q.0 q.1 p.1 t v how rs in (
        (q.0.0, (q.0.1, tail.0)),
        e ∙ ap (λ (z : Expr). with_all z p.1) d ∙ tail.1,
        (s, u ++ (t ++ v), c ∙ ap (λ (z : List Lexeme). z ++ v) (k ∙ ap (λ (z : List Lexeme). z ++ t) l) ∙ four s u t v, i, (u, t ++ v, refl, args, tail.2)),
      )

  named_back : (ts : List Lexeme) (x : Expr) → Spells (g.named E O) ts x → Spells (from_left with_default a_name (g.dotted_default E O)) ts x
  unfolding Spells g.named g.arguments plain.ref token nesting
  named_back ts x (n, e, (s, w, c, i, (u, z, k, args, suffix))) =
      let tail = tail_back (n.0, n.1.0) n.1.1 z suffix in (
        (read_so ((n.0, n.1.0), tail.0), tail.1),
        e ∙ sym tail.5,
        (
          (s ++ u) ++ tail.2,
          tail.3,
          c ∙ ap (λ (y : List Lexeme). s ++ y) (k ∙ ap (λ (y : List Lexeme). u ++ y) tail.4) ∙ sym (four s u tail.2 tail.3),
          (((n.0, n.1.0), tail.0), refl, (s ++ u, tail.2, refl, (s, u, refl, i, args), tail.6)),
          tail.7,
        ),
      )

  named_same : Same (from_left with_default a_name (g.dotted_default E O)) (g.named E O)
  named_same = record { to = record { spells = named_to }; back = record { spells = named_back } }

  -- ---- literals and brackets with their defaults

  abbrev pub with_defaults : Syntax Expr → Syntax Expr
  with_defaults x = from_left with_default x (g.dotted_default E O)

  abbrev pub of_literal : Syntax Literal → Syntax Expr
  of_literal l = Map (λ x. e.Literal x) l

  abbrev bracket : Syntax Expr
  bracket = token is.Open *> E <* token is.Shut

  bracketed_same : Same (with_defaults bracket) (g.bracketed E O)
  unfolding Spells g.bracketed g.defaults token nesting
  bracketed_same =
      same_chain (with_defaults bracket) (with_defaults (nesting is.Open *> E <* token is.Shut)) (g.bracketed E O)
      (record { to = record { spells = λ ts x h. h }; back = record { spells = λ ts x h. h } })
      (same_back (g.bracketed E O) _ (led_from_left with_default (nesting is.Open *> E <* token is.Shut) (g.dotted_default E O)))

  abbrev positive : Syntax Literal
  positive = Map (λ p. whole_number false p.0 p.1) integer

  abbrev minus_one : Syntax Literal
  minus_one = Map (λ p. whole_number true p.1.0 p.0) (Then (token is.Minus) integer)

  number_same : Same (with_defaults (of_literal positive)) (g.number E O)
  unfolding g.number g.defaults
  number_same =
      same_chain _ _ (g.number E O)
      (same_from_left with_default _ _ (g.dotted_default E O) _ (map_twice (λ x. e.Literal x) (λ p. whole_number false p.0 p.1) integer) (same_self _))
      (same_back (g.number E O) _ (led_from_left with_default (Map (λ p. e.Literal (whole_number false p.0 p.1)) integer) (g.dotted_default E O)))

  worded_same : Same (with_defaults (of_literal g.word_literal)) (g.worded E O)
  unfolding g.worded g.defaults
  worded_same = same_back (g.worded E O) _ (led_from_left with_default (of_literal g.word_literal) (g.dotted_default E O))

  -- a `-` that is part of a literal
  abbrev negative : Syntax Expr
  negative = with_defaults (of_literal minus_one)

  minus_to : (ts : List Lexeme) (x : Expr) → Spells (g.minus E O) ts x → Spells (Either negative (plain.minus_unary E U O)) ts x
  unfolding Spells g.minus g.negative g.defaults plain.minus_unary token nesting
  minus_to ts x (p, d, (u, v, c, s, inl (q, f, (w, z, k, i, (rs, h, more))))) =
      let value = e.Literal (whole_number true q.0.0 p.0) in
      inl (
        (value, rs),
        d ∙ ap (λ (y : ℕ → Expr). y p.0) f ∙ ap (λ (y : Expr → Expr). y value) h,
        (u ++ w, z, regroup ts u v w z c k, (whole_number true q.0.0 p.0, refl, ((p.0, q.0), refl, (u, w, refl, s, i))), more),
      )
  minus_to ts x (p, d, (u, v, c, s, inr (y, f, o))) = inr ((p.0, y), d ∙ ap (λ (y : ℕ → Expr). y p.0) f, (u, v, c, s, o))

  minus_back : (ts : List Lexeme) (x : Expr) → Spells (Either negative (plain.minus_unary E U O)) ts x → Spells (g.minus E O) ts x
  unfolding Spells g.minus g.negative g.defaults plain.minus_unary token nesting
  minus_back ts x (inl (p, d, (w, v, c, (l, h, (q, f, (u, z, k, s, i))), more))) = (
    (q.0, λ at. with_all (e.Literal (whole_number true q.1.0 at)) p.1),
    d ∙ ap (λ (y : Expr). with_all y p.1) (h ∙ ap (λ (y : Literal). e.Literal y) f),
    (u, z ++ v, ungroup ts w v u z c k, s, inl ((q.1, λ left. with_all left p.1), refl, (z, v, refl, i, (p.1, refl, more)))),
  )
  minus_back ts x (inr (p, d, (u, v, c, s, o))) = ((p.0, λ at. e.Prefix pre.Negate at p.1), d, (u, v, c, s, inr (p.1, refl, o)))

  -- ---- operands

  -- what begins with no integer and no operator that stands before an operand
  abbrev bare : Syntax Expr
  bare = Either (Either negative (g.worded E O)) (Either (g.bracketed E O) (g.named E O))

  abbrev a_post : Syntax Literal → Syntax Expr
  a_post l = with_defaults (plain.prim E U O l)

  post_as : (l : Syntax Literal) → Same (plain.post E U O l) (a_post l)
  unfolding plain.post
  post_as l = same_from_left with_default _ _ _ _ (same_self _) default_same

  prim_as : (l : Syntax Literal) (c : Syntax Expr) → Same (with_defaults (of_literal l)) c → Same (a_post l) (Either c (Either (g.bracketed E O) (g.named E O)))
  unfolding plain.prim
  prim_as l c h = split_from_left with_default _ _ _ _ (g.dotted_default E O) h (split_from_left with_default _ _ _ _ (g.dotted_default E O) bracketed_same named_same)

  several : (l m : Syntax Literal) (c d : Syntax Expr) → Same (with_defaults (of_literal l)) c → Same (with_defaults (of_literal m)) d → Same (with_defaults (of_literal (Either l m))) (Either c d)
  several l m c d h k =
      same_chain _ _ _ (same_from_left with_default _ _ (g.dotted_default E O) _ (map_either (λ x. e.Literal x) l m) (same_self _))
      (split_from_left with_default _ _ c d (g.dotted_default E O) h k)

  others : Same (with_defaults (of_literal plain.other_literal)) (Either negative (g.worded E O))
  unfolding plain.other_literal g.word_literal
  others = several minus_one g.word_literal negative (g.worded E O) (same_self _) worded_same

  pub other_post : Same (plain.post E U O plain.other_literal) bare
  other_post = same_chain _ _ _ (post_as plain.other_literal) (prim_as plain.other_literal _ others)

  pub any_post : Same (plain.post E U O plain.literal) (Either (Either (g.number E O) (Either negative (g.worded E O))) (Either (g.bracketed E O) (g.named E O)))
  unfolding plain.literal
  any_post = same_chain _ _ _ (post_as plain.literal) (prim_as plain.literal _ (several positive plain.other_literal (g.number E O) _ number_same others))

  minus_literal : (ts : List Lexeme) (x : Expr) → Spells negative ts x → Spells (g.minus E O) ts x
  unfolding Spells
  minus_literal ts x h = minus_back ts x (inl h)

  bare_other : (ts : List Lexeme) (x : Expr) → Spells bare ts x → Spells (g.other_with E O) ts x
  unfolding Spells g.other_with g.plain
  bare_other ts x (inl (inl h)) = inr (inr (inl (minus_literal ts x h)))
  bare_other ts x (inl (inr h)) = inr (inr (inr (inr h)))
  bare_other ts x (inr (inl h)) = inl h
  bare_other ts x (inr (inr h)) = inr (inr (inr (inl h)))

  other_to : (ts : List Lexeme) (x : Expr) → Spells (plain.other_with E U O) ts x → Spells (g.other_with E O) ts x
  unfolding Spells plain.other_with plain.not_unary g.other_with g.plain g.negation nesting token
  other_to ts x (inl h) = inr (inl h)
  other_to ts x (inr (inl h)) = inr (inr (inl (minus_back ts x (inr h))))
  other_to ts x (inr (inr h)) = bare_other ts x (other_post.to.spells ts x h)

  other_back : (ts : List Lexeme) (x : Expr) → Spells (g.other_with E O) ts x → Spells (plain.other_with E U O) ts x
  unfolding Spells plain.other_with plain.not_unary g.other_with g.plain g.negation nesting token
  other_back ts x (inl h) = inr (inr (other_post.back.spells ts x (inr (inl h))))
  other_back ts x (inr (inl h)) = inl h
  other_back ts x (inr (inr (inl h))) = elim (minus_to ts x h) [ inl j ↦ inr (inr (other_post.back.spells ts x (inl (inl j)))) | inr j ↦ inr (inl j) ]
  other_back ts x (inr (inr (inr (inl h)))) = inr (inr (other_post.back.spells ts x (inr (inr h))))
  other_back ts x (inr (inr (inr (inr h)))) = inr (inr (other_post.back.spells ts x (inl (inr h))))

  pub other_same : Same (plain.other_with E U O) (g.other_with E O)
  other_same = record { to = record { spells = other_to }; back = record { spells = other_back } }

  unary_to : (ts : List Lexeme) (x : Expr) → Spells (plain.unary_with E U O) ts x → Spells (g.unary E O) ts x
  unfolding Spells plain.unary_with plain.other_with g.unary
  unary_to ts x (inl h) = inr (other_to ts x (inl h))
  unary_to ts x (inr (inl h)) = inr (other_to ts x (inr (inl h)))
  unary_to ts x (inr (inr h)) = elim (any_post.to.spells ts x h) [
    | inl (inl j) ↦ inl j
    | inl (inr j) ↦ inr (bare_other ts x (inl j))
    | inr j ↦ inr (bare_other ts x (inr j))
  ]

  unary_back : (ts : List Lexeme) (x : Expr) → Spells (g.unary E O) ts x → Spells (plain.unary_with E U O) ts x
  unfolding Spells plain.unary_with g.unary
  unary_back ts x (inl h) = inr (inr (any_post.back.spells ts x (inl (inl h))))
  unary_back ts x (inr h) = (other_in_unary E U O).spells ts x (other_back ts x h)

  pub unary_same : Same (plain.unary_with E U O) (g.unary E O)
  unary_same = record { to = record { spells = unary_to }; back = record { spells = unary_back } }
