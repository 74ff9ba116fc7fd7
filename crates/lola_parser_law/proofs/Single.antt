-- What single tokens spell, and parts one after the other.
use Rattle.std.proofs.Common.{◌≡◌, ℕ, true, List, [], ◌∷◌, ◌++◌, Some, None, refl, sym, ap, subst, ◌∙◌, append_assoc, append-nil}
use Rattle.std.specs.Prelude.{fold}
use Rattle.std.proofs.lemmas.Slice.Eq.{bytes_eq-Decides}
use Rattle.lola_lexer.specs.declared.shape.TokenShape.{TokenShape}
use Rattle.lola_lexer.specs.declared.shape.TokenShape.TheVariants as is
use Rattle.lola_parser_grammar.specs.declared.literals.Name.{Name}
use Rattle.lola_parser_grammar.specs.declared.expressions.Binary.{Binary}
use Rattle.lola_parser_grammar.specs.declared.expressions.Expr.{Expr}
use Rattle.lola_parser_grammar.specs.Syntax.{Lexeme, Of, fits, Syntax, Then, Map, Token, Repeats, Spells}
use Rattle.lola_parser_grammar.proofs.Tests.{shapes_same}
use Rattle.lola_parser_grammar.specs.Grammar.{token, nesting, word, name, operator, Operator, join, joined_once, folded, ◌*>◌, ◌<*◌, ◌|>◌, ◌>>◌}
use Rattle.lola_parser_print.specs.Print as out
use Rattle.lola_parser_print.specs.Print.{lex, lex_of}

-- ---- single tokens

shape_fits : (s : TokenShape) (w : List ℕ) → fits (Of s) (lex_of s w) ≡ true
unfolding fits
shape_fits s w = shapes_same s s refl

pub token_spelled : (s : TokenShape) → Spells (token s) (lex s ∷ []) 0
unfolding Spells token
token_spelled s = (lex s, refl, (refl, shape_fits s (lex s).text))

pub nesting_spelled : (s : TokenShape) → Spells (nesting s) (lex s ∷ []) 0
unfolding Spells nesting
nesting_spelled s = (lex s, refl, (refl, shape_fits s (lex s).text))

pub shape_spelled : (s : TokenShape) (w : List ℕ) → Spells (Token (Of s)) (lex_of s w ∷ []) (lex_of s w)
unfolding Spells
shape_spelled s w = (refl, shape_fits s w)

pub word_spelled : (w : List ℕ) → Spells (word w) (out.word w ∷ []) 0
unfolding Spells word fits
word_spelled w = (out.word w, refl, (refl, rw (shapes_same is.Name is.Name refl) ((bytes_eq-Decides w w).1 refl)))

pub name_spelled : (n : Name) → Spells name (out.name n ∷ []) (record { text = n.text; at = 0 })
unfolding Spells name
name_spelled n = (out.name n, refl, shape_spelled is.Name n.text)

-- ---- one after the other

pub after : {A B : Type 0} (a : Syntax A) (b : Syntax B) (u v : List Lexeme) (x : A) (y : B) → Spells a u x → Spells b v y → Spells (a *> b) (u ++ v) y
unfolding Spells
after a b u v x y h k = ((x, y), refl, (u, v, refl, h, k))

pub before : {A B : Type 0} (a : Syntax A) (b : Syntax B) (u v : List Lexeme) (x : A) (y : B) → Spells a u x → Spells b v y → Spells (a <* b) (u ++ v) x
unfolding Spells
before a b u v x y h k = ((x, y), refl, (u, v, refl, h, k))

pub both : {A B : Type 0} (a : Syntax A) (b : Syntax B) (u v : List Lexeme) (x : A) (y : B) → Spells a u x → Spells b v y → Spells (Then a b) (u ++ v) (x, y)
unfolding Spells
both a b u v x y h k = (u, v, refl, h, k)

pub mapped : {A B : Type 0} (f : A → B) (a : Syntax A) (u : List Lexeme) (x : A) → Spells a u x → Spells (Map f a) u (f x)
unfolding Spells
mapped f a u x h = (x, refl, h)

pub onto : {A : Type 0} (a : Syntax A) (tail : Syntax (A → A)) (u v : List Lexeme) (x : A) (g : A → A) → Spells a u x → Spells tail v g → Spells (a |> tail) (u ++ v) (g x)
unfolding Spells
onto a tail u v x g h k = ((x, g), refl, (u, v, refl, h, k))

-- ---- repetitions

pub repeats_snoc : {A : Type 0} (P : List Lexeme → A → Type 0) (u v : List Lexeme) (xs : List A) (x : A) → Repeats P u xs → P v x → Repeats P (u ++ v) (xs ++ x ∷ [])
repeats_snoc P u v [] x h k = subst (λ (w : List Lexeme). Repeats P (w ++ v) (x ∷ [])) (sym h) (v, [], sym (append-nil v), k, refl)
repeats_snoc P u v (y ∷ ys) x h k =
    let parts : u ++ v ≡ h.0 ++ (h.1 ++ v) = ap (λ (w : List Lexeme). w ++ v) h.2 ∙ append_assoc h.0 h.1 v in
    (h.0, h.1 ++ v, parts, h.3, repeats_snoc P h.1 v ys x h.4 k)

pub fold_snoc : {A B : Type 0} (f : A → B → A) (a : A) (xs : List B) (x : B) → fold f a (xs ++ x ∷ []) ≡ f (fold f a xs) x
fold_snoc f a [] x = refl
fold_snoc f a (y ∷ ys) x = fold_snoc f (f a y) ys x

-- Something with parts joined to it from the left.
module _ {A B : Type 0} (f : B → A → B) (start : Syntax B) (s : Syntax A) where
  pub joined_none : (u : List Lexeme) (x : B) → Spells start u x → Spells (start |> folded f s) u x
  unfolding Spells
  joined_none u x h = ((x, λ left. left), refl, (u, [], sym (append-nil u), h, ([], refl, refl)))

  pub joined_more : (u v : List Lexeme) (x : B) (y : A) → Spells (start |> folded f s) u x → Spells s v y → Spells (start |> folded f s) (u ++ v) (f x y)
  unfolding Spells
  joined_more u v x y h k =
      let p = h.2 in
      let q = p.4 in
      let parts : u ++ v ≡ p.0 ++ (p.1 ++ v) = ap (λ (t : List Lexeme). t ++ v) p.2 ∙ append_assoc p.0 p.1 v in
      let value : f x y ≡ fold f h.0.0 (q.0 ++ y ∷ []) = ap (λ z. f z y) (h.1 ∙ ap (λ (g : B → B). g h.0.0) q.1) ∙ sym (fold_snoc f h.0.0 q.0 y) in
      ((h.0.0, λ left. fold f left (q.0 ++ y ∷ [])), value, (p.0, p.1 ++ v, parts, p.3, (q.0 ++ y ∷ [], refl, repeats_snoc (Spells s) p.1 v q.0 y q.2 k)))

-- The same, behind a tail.
module _ {A B : Type 0} (f : B → A → B) (start : Syntax B) (tail : Syntax (B → B)) (s : Syntax A) where
  pub tail_none : (u : List Lexeme) (x : B) → Spells (start |> tail) u x → Spells (start |> (tail >> folded f s)) u x
  unfolding Spells
  tail_none u x h =
      let p = h.2 in
      ((h.0.0, λ left. h.0.1 left), h.1, (p.0, p.1, p.2, p.3, ((h.0.1, λ left. left), refl, (p.1, [], sym (append-nil p.1), p.4, ([], refl, refl)))))

  pub tail_more : (u v : List Lexeme) (x : B) (y : A) → Spells (start |> (tail >> folded f s)) u x → Spells s v y → Spells (start |> (tail >> folded f s)) (u ++ v) (f x y)
  unfolding Spells
  tail_more u v x y h k =
      let p = h.2 in
      let g = p.4 in
      let t = g.2 in
      let q = t.4 in
      let parts : u ++ v ≡ p.0 ++ (p.1 ++ v) = ap (λ (t : List Lexeme). t ++ v) p.2 ∙ append_assoc p.0 p.1 v in
      let inner : p.1 ++ v ≡ t.0 ++ (t.1 ++ v) = ap (λ (l : List Lexeme). l ++ v) t.2 ∙ append_assoc t.0 t.1 v in
      let was : x ≡ fold f (g.0.0 h.0.0) q.0 = h.1 ∙ ap (λ (m : B → B). m h.0.0) g.1 ∙ ap (λ (m : B → B). m (g.0.0 h.0.0)) q.1 in
      let value : f x y ≡ fold f (g.0.0 h.0.0) (q.0 ++ y ∷ []) = ap (λ z. f z y) was ∙ sym (fold_snoc f (g.0.0 h.0.0) q.0 y) in (
        (h.0.0, λ left. fold f (g.0.0 left) (q.0 ++ y ∷ [])),
        value,
        (
          p.0,
          p.1 ++ v,
          parts,
          p.3,
          (
            (g.0.0, λ left. fold f left (q.0 ++ y ∷ [])),
            refl,
            (t.0, t.1 ++ v, inner, t.3, (q.0 ++ y ∷ [], refl, repeats_snoc (Spells s) t.1 v q.0 y q.2 k)),
          ),
        ),
      )

-- A comparison, behind a tail.
module _ (start : Syntax Expr) (tail : Syntax (Expr → Expr)) (operators : Syntax Operator) (operand : Syntax Expr) where
  pub once_none : (u : List Lexeme) (x : Expr) → Spells (start |> tail) u x → Spells (start |> (tail >> joined_once operators operand)) u x
  unfolding Spells
  once_none u x h =
      let p = h.2 in
      ((h.0.0, λ left. h.0.1 left), h.1, (p.0, p.1, p.2, p.3, ((h.0.1, λ left. left), refl, (p.1, [], sym (append-nil p.1), p.4, (None, refl, refl)))))

  pub once_one : (u v w : List Lexeme) (x : Expr) (s : Operator) (y : Expr) → Spells (start |> tail) u x → Spells operators v s → Spells operand w y
      → Spells (start |> (tail >> joined_once operators operand)) (u ++ (v ++ w)) (join x (s, y))
  unfolding Spells
  once_one u v w x s y h k l =
      let p = h.2 in
      let parts : u ++ (v ++ w) ≡ p.0 ++ (p.1 ++ (v ++ w)) = ap (λ (t : List Lexeme). t ++ (v ++ w)) p.2 ∙ append_assoc p.0 p.1 (v ++ w) in (
        (h.0.0, λ left. join (h.0.1 left) (s, y)),
        ap (λ z. join z (s, y)) h.1,
        (p.0, p.1 ++ (v ++ w), parts, p.3, ((h.0.1, λ left. join left (s, y)), refl, (p.1, v ++ w, refl, p.4, (Some (s, y), refl, (v, w, refl, k, l))))),
      )

pub operator_spelled : (s : TokenShape) (op : Binary) → Spells (operator s op) (lex s ∷ []) (op, 0)
unfolding Spells operator
operator_spelled s op = (0, refl, nesting_spelled s)
