-- Which tokens pass the tests.
use Rattle.std.proofs.Common.{◌≡◌, ℕ, true, not, ◌&&◌, List, [], ◌∷◌, ◌++◌, refl, sym, subst, ◌∙◌, inl, inr, rules}
use Rattle.std.specs.Str.{bytes_eq}
use Rattle.std.proofs.lemmas.Slice.Eq.{bytes_eq-Decides}
use Rattle.std.proofs.lemmas.Bool.{and_parts, or_cases, or_left, or_right, not-true}
use denote.Enum.Bare.{same_true, true_same}
use Rattle.lola_lexer.specs.contracts.shape.TokenShape.{the_type}
use Rattle.lola_lexer.specs.declared.shape.TokenShape.{TokenShape}
use Rattle.lola_lexer.specs.declared.shape.TokenShape.TheVariants as is
use Rattle.lola_parser_grammar.specs.Syntax.{Lexeme, Terminal, Of, Word, Other, is_among, same_shape, fits, any_fits, clash, clashes, apart, same_test, listed, within}

pub shape_is : (s r : TokenShape) → same_shape s r ≡ true → s ≡ r
unfolding same_shape
shape_is s r e = same_true the_type (search rules) s r e

pub shapes_same : (s r : TokenShape) → s ≡ r → same_shape s r ≡ true
unfolding same_shape
shapes_same s r e = true_same the_type s r e

pub clash_true : (k l : Terminal) (t : Lexeme) → fits k t ≡ true → fits l t ≡ true → clash k l ≡ true
unfolding fits
clash_true (Of s) (Of r) t h i = shapes_same s r (shape_is s t.shape h ∙ sym (shape_is r t.shape i))
clash_true (Of s) (Word w) t h i =
    let p = and_parts (same_shape is.Name t.shape) (bytes_eq w t.text) i in
    shapes_same s is.Name (shape_is s t.shape h ∙ sym (shape_is is.Name t.shape p.0))
clash_true (Of s) (Other ws) t h i =
    let p = and_parts (same_shape is.Name t.shape) (not (is_among t.text ws)) i in
    shapes_same s is.Name (shape_is s t.shape h ∙ sym (shape_is is.Name t.shape p.0))
clash_true (Word w) (Of s) t h i =
    let p = and_parts (same_shape is.Name t.shape) (bytes_eq w t.text) h in
    shapes_same is.Name s (shape_is is.Name t.shape p.0 ∙ sym (shape_is s t.shape i))
clash_true (Word v) (Word w) t h i =
    let p = and_parts (same_shape is.Name t.shape) (bytes_eq v t.text) h in
    let q = and_parts (same_shape is.Name t.shape) (bytes_eq w t.text) i in
    (bytes_eq-Decides v w).1 ((bytes_eq-Decides v t.text).0 p.1 ∙ sym ((bytes_eq-Decides w t.text).0 q.1))
clash_true (Word w) (Other ws) t h i =
    let p = and_parts (same_shape is.Name t.shape) (bytes_eq w t.text) h in
    let q = and_parts (same_shape is.Name t.shape) (not (is_among t.text ws)) i in
    subst (λ (x : List ℕ). not (is_among x ws) ≡ true) (sym ((bytes_eq-Decides w t.text).0 p.1)) q.1
clash_true (Other ws) (Of s) t h i =
    let p = and_parts (same_shape is.Name t.shape) (not (is_among t.text ws)) h in
    shapes_same is.Name s (shape_is is.Name t.shape p.0 ∙ sym (shape_is s t.shape i))
clash_true (Other ws) (Word w) t h i =
    let p = and_parts (same_shape is.Name t.shape) (bytes_eq w t.text) i in
    let q = and_parts (same_shape is.Name t.shape) (not (is_among t.text ws)) h in
    subst (λ (x : List ℕ). not (is_among x ws) ≡ true) (sym ((bytes_eq-Decides w t.text).0 p.1)) q.1
clash_true (Other vs) (Other ws) t h i = refl

pub clashes_true : (k : Terminal) (ls : List Terminal) (t : Lexeme) → fits k t ≡ true → any_fits ls t ≡ true → clashes k ls ≡ true
clashes_true k [] t h i = absurd cc
clashes_true k (l ∷ ls) t h i =
    elim (or_cases (fits l t) (any_fits ls t) i) [
      | inl e ↦ or_left (clash k l) (clashes k ls) (clash_true k l t h e)
      | inr e ↦ or_right (clash k l) (clashes k ls) (clashes_true k ls t h e)
    ]

pub apart_excludes : (ks ls : List Terminal) (t : Lexeme) → apart ks ls ≡ true → any_fits ks t ≡ true → any_fits ls t ≡ true → ⊥
apart_excludes [] ls t a h i = absurd cc
apart_excludes (k ∷ ks) ls t a h i =
    let p = and_parts (not (clashes k ls)) (apart ks ls) a in
    elim (or_cases (fits k t) (any_fits ks t) h) [
      | inl e ↦ let c = clashes_true k ls t e i in let d = not-true (clashes k ls) p.0 in absurd cc
      | inr e ↦ apart_excludes ks ls t p.1 e i
    ]

pub any_left : (ks ls : List Terminal) (t : Lexeme) → any_fits ks t ≡ true → any_fits (ks ++ ls) t ≡ true
any_left [] ls t h = absurd cc
any_left (k ∷ ks) ls t h =
    elim (or_cases (fits k t) (any_fits ks t) h) [
      | inl e ↦ or_left (fits k t) (any_fits (ks ++ ls) t) e
      | inr e ↦ or_right (fits k t) (any_fits (ks ++ ls) t) (any_left ks ls t e)
    ]

pub any_right : (ks ls : List Terminal) (t : Lexeme) → any_fits ls t ≡ true → any_fits (ks ++ ls) t ≡ true
any_right [] ls t h = h
any_right (k ∷ ks) ls t h = or_right (fits k t) (any_fits (ks ++ ls) t) (any_right ks ls t h)

same_fits : (k l : Terminal) (t : Lexeme) → same_test k l ≡ true → fits k t ≡ true → fits l t ≡ true
unfolding fits
same_fits (Of s) (Of r) t e h = let q = shape_is s r e in subst (λ x. same_shape x t.shape ≡ true) q h
same_fits (Of s) (Word w) t e h = absurd cc
same_fits (Word w) (Of s) t e h = absurd cc
same_fits (Of s) (Other ws) t e h = absurd cc
same_fits (Word w) (Other ws) t e h = absurd cc
same_fits (Other vs) (Of s) t e h = absurd cc
same_fits (Other vs) (Word w) t e h = absurd cc
same_fits (Other vs) (Other ws) t e h = absurd cc
same_fits (Word v) (Word w) t e h = let q = (bytes_eq-Decides v w).0 e in subst (λ x. (same_shape is.Name t.shape && bytes_eq x t.text) ≡ true) q h

pub listed_fits : (k : Terminal) (ls : List Terminal) (t : Lexeme) → listed k ls ≡ true → fits k t ≡ true → any_fits ls t ≡ true
listed_fits k [] t e h = absurd cc
listed_fits k (l ∷ ls) t e h =
    elim (or_cases (same_test k l) (listed k ls) e) [
      | inl i ↦ or_left (fits l t) (any_fits ls t) (same_fits k l t i h)
      | inr i ↦ or_right (fits l t) (any_fits ls t) (listed_fits k ls t i h)
    ]

pub within_fits : (ks ls : List Terminal) (t : Lexeme) → within ks ls ≡ true → any_fits ks t ≡ true → any_fits ls t ≡ true
within_fits [] ls t e h = absurd cc
within_fits (k ∷ ks) ls t e h =
    let p = and_parts (listed k ls) (within ks ls) e in
    elim (or_cases (fits k t) (any_fits ks t) h) [
      | inl i ↦ listed_fits k ls t p.0 i
      | inr i ↦ within_fits ks ls t p.1 i
    ]
