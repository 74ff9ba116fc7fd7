-- What stands in no sentence of a part.
use Rattle.std.proofs.Common.{◌≡◌, ℕ, zero, suc, Bool, true, false, not, ◌&&◌, List, [], ◌∷◌, ◌++◌, Some, None, refl, ap, ◌∙◌, inl, inr}
use Rattle.std.proofs.lemmas.Bool.{and_parts, not-true, false_from_ne_true}
use Rattle.lola_lexer.specs.declared.shape.TokenShape.TheVariants as is
use Rattle.lola_parser_grammar.specs.Syntax.{Lexeme, Terminal, Of, fits, any_fits, clashes, within, same_shape, Syntax, Past, Token, Nesting, Whole, Known, Then, Map, Either, Maybe, Many, Fork, Repeats, Spells}
use Rattle.lola_parser_grammar.proofs.Tests.{clashes_true, within_fits}
use Rattle.lola_parser_grammar.proofs.Complete.{and_three}
use Rattle.lola_parser_grammar.specs.Grammar as g
use Rattle.lola_parser_grammar.specs.Grammar.{level, formula_level, expr_in, pacing, part_behind}
use Rattle.lola_parser.specs.Places.{Cut, cut_at, cut_last}

module _ (ks : List Terminal) where
  no_cut : (t : Lexeme) (o : Cut) (b : Bool) (u : List Lexeme) → cut_at t o b u ≡ None → (o ≡ None) × (b ≡ false)
  no_cut t (Some c) b u h = absurd cc
  no_cut t None true u h = absurd cc
  no_cut t None false u h = (refl, refl)

  pub none_append : (u v : List Lexeme) → cut_last ks u ≡ None → cut_last ks v ≡ None → cut_last ks (u ++ v) ≡ None
  none_append [] v h i = i
  none_append (t ∷ u) v h i = let p = no_cut t (cut_last ks u) (any_fits ks t) u h in rw (none_append u v p.0 i, p.1) refl

  pub front_none : (u v : List Lexeme) → cut_last ks (u ++ v) ≡ None → cut_last ks u ≡ None
  front_none [] v h = refl
  front_none (t ∷ u) v h = let p = no_cut t (cut_last ks (u ++ v)) (any_fits ks t) (u ++ v) h in rw (front_none u v p.0, p.1) refl

  pub cut_more : (pre u : List Lexeme) (a : List Lexeme) (m : Lexeme) (b : List Lexeme) → cut_last ks u ≡ Some (a, m, b) → cut_last ks (pre ++ u) ≡ Some (pre ++ a, m, b)
  cut_more [] u a m b h = h
  cut_more (t ∷ pre) u a m b h = rw (cut_more pre u a m b h) refl

  pub cut_here : (t : Lexeme) (u : List Lexeme) → any_fits ks t ≡ true → cut_last ks u ≡ None → cut_last ks (t ∷ u) ≡ Some ([], t, u)
  cut_here t u h i = rw (i, h) refl

  pub not_here : (t : Lexeme) (u : List Lexeme) → any_fits ks t ≡ false → cut_last ks u ≡ None → cut_last ks (t ∷ u) ≡ None
  not_here t u h i = rw (i, h) refl

  unfoldable pub lacks : {A : Type 0} → Syntax A → Bool
  lacks (Past a) = lacks a
  lacks (Token k) = not (clashes k ks)
  lacks (Nesting k) = not (clashes k ks)
  lacks (Whole a) = lacks a
  lacks (Known fs ms a) = lacks a
  lacks (Then a b) = lacks a && lacks b
  lacks (Map f a) = lacks a
  lacks (Either a b) = lacks a && lacks b
  lacks (Maybe a) = lacks a
  lacks (Many a) = lacks a
  lacks (Fork ms a b c) = lacks a && (lacks b && lacks c)

  none_one : (k : Terminal) (x : Lexeme) (u : List Lexeme) → not (clashes k ks) ≡ true → u ≡ x ∷ [] → fits k x ≡ true → cut_last ks u ≡ None
  none_one k x u h e f =
      let c : any_fits ks x ≡ false = false_from_ne_true (any_fits ks x) (λ m. let d = clashes_true k ks x f m in let n = not-true (clashes k ks) h in absurd cc) in
      ap (cut_last ks) e ∙ not_here x [] c refl

  none_many : {A : Type 0} (P : List Lexeme → A → Type 0) → ((u : List Lexeme) (x : A) → P u x → cut_last ks u ≡ None) → (u : List Lexeme) (xs : List A) → Repeats P u xs → cut_last ks u ≡ None
  none_many P f u [] h = ap (cut_last ks) h
  none_many P f u (x ∷ xs) h = ap (cut_last ks) h.2 ∙ none_append h.0 h.1 (f h.0 x h.3) (none_many P f h.1 xs h.4)

  pub none_in : {A : Type 0} (s : Syntax A) → lacks s ≡ true → (u : List Lexeme) (x : A) → Spells s u x → cut_last ks u ≡ None
  unfolding lacks Spells
  none_in (Past a) l u x h = none_in a l u x h
  none_in (Token k) l u x h = none_one k x u l h.0 h.1
  none_in (Nesting k) l u x h = none_one k x u l h.0 h.1
  none_in (Whole a) l u x h = none_in a l u x h
  none_in (Known fs ms a) l u x h = none_in a l u x h
  none_in (Then a b) l u x h =
      let p = and_parts (lacks a) (lacks b) l in
      ap (cut_last ks) h.2 ∙ none_append h.0 h.1 (none_in a p.0 h.0 x.0 h.3) (none_in b p.1 h.1 x.1 h.4)
  none_in (Map f a) l u y h = none_in a l u h.0 h.2
  none_in (Either a b) l u x (inl h) = none_in a (and_parts (lacks a) (lacks b) l).0 u x h
  none_in (Either a b) l u x (inr h) = none_in b (and_parts (lacks a) (lacks b) l).1 u x h
  none_in (Maybe a) l u None h = ap (cut_last ks) h
  none_in (Maybe a) l u (Some x) h = none_in a l u x h
  none_in (Many a) l u xs h = none_many (Spells a) (none_in a l) u xs h
  none_in (Fork ms a b c) l u x h =
      let p = and_three (lacks a) (lacks b) (lacks c) l in
      ap (cut_last ks) h.2 ∙ none_append h.0 h.1 (none_in a p.0 h.0 x.0 h.3) (elim h.4 [ inl k ↦ none_in b p.1 h.1 x.1 k | inr k ↦ none_in c p.2 h.1 x.1 k ])

-- of fewer tokens none stands there either
pub fewer : (ks ls : List Terminal) → within ks ls ≡ true → (u : List Lexeme) → cut_last ls u ≡ None → cut_last ks u ≡ None
fewer ks ls w [] h = refl
fewer ks ls w (t ∷ u) h =
    let p = no_cut ls t (cut_last ls u) (any_fits ls t) u h in
    not_here ks t u (false_from_ne_true (any_fits ks t) (λ m. let d = within_fits ks ls t w m in let e = p.1 in absurd cc)) (fewer ks ls w u p.0)

-- ---- words of clauses in expressions and formulas

abbrev pub words : List Terminal
words = Of is.With ∷ Of is.Spawn ∷ Of is.Eval ∷ []

pub level_lacks : (b : Bool) (n : ℕ) → lacks words (level b n) ≡ true
unfolding level lacks same_shape g.token g.nesting g.word g.name g.other_name g.integer g.text g.quantity g.operator g.product_operators g.sum_operators g.comparison_operators g.and_operators g.or_operators g.word_literal g.offset g.over g.window g.arguments g.stand_in g.hold g.get g.last g.default g.reading g.dotted_default g.defaults g.dotted g.suffix g.named g.number g.worded g.bracketed g.operand g.negation g.negative g.minus g.plain g.other_with g.unary g.products g.product g.sums g.sum g.comparisons g.comparison g.conjunctions g.conjunction g.disjunctions g.conditional g.expr_with
level_lacks true zero = refl
level_lacks false zero = refl
level_lacks true (suc n) = rw (level_lacks true n, level_lacks false n) refl
level_lacks false (suc n) = rw (level_lacks true n, level_lacks false n) refl

formula_lacks : (n : ℕ) → lacks words (formula_level n) ≡ true
unfolding formula_level lacks same_shape g.token g.nesting g.name g.atom g.conjunctions_of g.conjunct g.alternatives_of g.formula_with
formula_lacks zero = refl
formula_lacks (suc n) = rw (formula_lacks n) refl

pub expr_lacks : (n : ℕ) → lacks words (expr_in n) ≡ true
unfolding lacks
expr_lacks n = level_lacks true n

pub pacing_lacks : (n : ℕ) → lacks words (Maybe (pacing n)) ≡ true
unfolding lacks same_shape g.pacing g.rhythm g.whole_formula g.clock g.quantity g.other_name g.token g.word
pacing_lacks n = rw (formula_lacks n) refl

pub when_lacks : (n : ℕ) → lacks words (Maybe (part_behind n is.When)) ≡ true
unfolding lacks same_shape g.part_behind g.whole g.token
when_lacks n = rw (level_lacks true n) refl
