-- What is made piece by piece.
use Rattle.std.proofs.Common.{◌≡◌, ℕ, ◌+◌, ◌<◌, ◌≤◌, List, [], ◌∷◌, ◌++◌, length, get_or, drop, refl, sym, ap, subst, ◌∙◌, append_assoc, append-nil}
use Rattle.std.proofs.lemmas.List.{at_drop_more, at_drop_all}
use Rattle.lola_model.specs.Parts.{listed, listed_with, listed_stream, listed_streams}
use Rattle.lola_model.specs.declared.expr.Expr.{Expr}
use Rattle.lola_model.specs.declared.spec.Stream.{Stream}
use Rattle.lola_model.specs.declared.spec.WindowSpec.{WindowSpec}
use Rattle.lola_names.specs.Made.{Grows, BeginWith}
use Rattle.lola_names.specs.Targets.{Targets}
use Rattle.lola_names.specs.Resolved.{Standing}
use Rattle.lola_names.specs.declared.made.Made.{Made}
use Rattle.lola_names.specs.declared.scope.Scope.{Scope}
use Rattle.lola_names.proofs.Growth.{begin_before}
use Rattle.lola_names.specs.Making.{InScope}

-- what is made begins with itself
pub begin_itself : (made : Made) → BeginWith made made.texts made.windows
begin_itself made = record { more_texts = []; texts_are = sym (append-nil made.texts); more_windows = []; windows_are = sym (append-nil made.windows) }

-- the same numbers
pub grows_as : (a b : Made) (ws us ts vs : List ℕ) → ws ≡ us → ts ≡ vs → Grows a b ws ts → Grows a b us vs
grows_as a b ws us ts vs e f g =
    let P : List ℕ → Type 0 = λ l. Grows a b l vs in
    let Q : List ℕ → Type 0 = λ l. Grows a b ws l in
    subst P e (subst Q f g)

-- what holds in a scope from then on holds from now on
pub in_scope_then : (scope : Scope) (a b : Made) (ws ts : List ℕ) (P : Targets → Standing → List (List ℕ) → List WindowSpec → Type 0) → Grows a b ws ts → InScope scope a P → InScope scope b P
in_scope_then scope a b ws ts P g f = λ targets parameters is texts windows begins. f targets parameters is texts windows (begin_before a b ws ts texts windows g begins)

-- what is left of a list
pub left_more : {A : Type 0} (xs : List A) (i : ℕ) (x : A) → i < length xs → x ≡ get_or xs i x → drop i xs ≡ x ∷ drop (i + 1) xs
left_more xs i x within is = at_drop_more (λ l. l) xs i x within ∙ ap (λ y. y ∷ drop (i + 1) xs) (sym is)

pub left_none : {A : Type 0} (xs : List A) (i : ℕ) → length xs ≤ i → drop i xs ≡ []
left_none xs i all = at_drop_all (λ l. l) xs i all

module _ {A : Type 0} (f : Expr → List A) where
  pub listed_with-append : (xs ys : List Expr) → listed_with f (xs ++ ys) ≡ listed_with f xs ++ listed_with f ys
  listed_with-append [] ys = refl
  listed_with-append (x ∷ xs) ys =
      ap (λ l. listed f x ++ l) (listed_with-append xs ys) ∙ sym (append_assoc (listed f x) (listed_with f xs) (listed_with f ys))

  pub listed_with-push : (xs : List Expr) (x : Expr) → listed_with f xs ++ listed f x ≡ listed_with f (xs ++ x ∷ [])
  listed_with-push xs x = ap (λ l. listed_with f xs ++ l) (sym (append-nil (listed f x))) ∙ sym (listed_with-append xs (x ∷ []))

  pub listed_streams-append : (xs ys : List Stream) → listed_streams f xs ++ listed_streams f ys ≡ listed_streams f (xs ++ ys)
  listed_streams-append [] ys = refl
  listed_streams-append (x ∷ xs) ys =
      append_assoc (listed_stream f x) (listed_streams f xs) (listed_streams f ys) ∙ ap (λ l. listed_stream f x ++ l) (listed_streams-append xs ys)

  pub listed_streams-one : (x : Stream) → listed_stream f x ≡ listed_streams f (x ∷ [])
  listed_streams-one x = sym (append-nil (listed_stream f x))
