-- The expressions of a specification's clauses are among its whole expressions, and what is listed of them among all that is listed.
use Rattle.std.proofs.Common.{◌≡◌, refl, subst, ℕ, zero, suc, ◌+◌, List, [], ◌∷◌, ◌++◌, Some, Bool, true, arith, slice_get, unwrap_or}
use Rattle.std.specs.List.{Contains}
use Rattle.std.proofs.lemmas.List.Elements.{Contains-append_left, Contains-append_right}
use Rattle.lola_value.specs.declared.value.Kind.{Kind}
use Rattle.lola_model.specs.Model.{filled_kind}
use Rattle.lola_model.specs.Parts.{listed, listed_clause, listed_stream, listed_streams}
use Rattle.lola_model.specs.Wholes.{Whole, clause_wholes, stream_wholes, wholes_from, noted_kinds, all_wholes}
use Rattle.lola_model.specs.declared.expr.Expr.{Expr}
use Rattle.lola_model.specs.declared.spec.Part.{Part}
use Rattle.lola_model.specs.declared.spec.Part.TheVariants as part
use Rattle.lola_model.specs.declared.spec.Stream.{Stream}
use Rattle.lola_expr.proofs.OperandLemmas.{first, second}

-- a whole expression of a clause of stream n
abbrev pub whole : ℕ → Part → List Kind → Kind → ℕ → Expr → Whole
whole n p ks want before e = record { stream = n; clause = p; parameters = ks; want = want; before = before; expr = e }

-- it passes what all of these pass, and what is listed of it is listed here
pub record IsAmong (ws : List Whole) (all : (Expr → List ℕ) → List ℕ) (w : Whole) : Type 0 where
  pub passes : (f : Whole → Bool) → all_wholes f ws ≡ true → f w ≡ true
  pub lists : (g : Expr → List ℕ) (x : ℕ) → Contains (listed g w.expr) x → Contains (all g) x

-- where all of two lists pass
module _ (f : Whole → Bool) where
  -- those of the first do
  wholes_left : (xs ys : List Whole) → all_wholes f (xs ++ ys) ≡ true → all_wholes f xs ≡ true
  wholes_left [] ys h = refl
  wholes_left (x ∷ xs) ys h =
      let one = first (f x) (all_wholes f (xs ++ ys)) h in
      let others = wholes_left xs ys (second (f x) (all_wholes f (xs ++ ys)) h) in
      rw (one, others) refl

  -- and the others
  wholes_right : (xs ys : List Whole) → all_wholes f (xs ++ ys) ≡ true → all_wholes f ys ≡ true
  wholes_right [] ys h = h
  wholes_right (x ∷ xs) ys h = wholes_right xs ys (second (f x) (all_wholes f (xs ++ ys)) h)

module _ (w : Whole) (xs ys : List Whole) (here there : (Expr → List ℕ) → List ℕ) where
  -- what is among the first is among both
  pub among_first : IsAmong xs here w → IsAmong (xs ++ ys) (λ g. here g ++ there g) w
  among_first a = record {
    passes = λ f h. a.passes f (wholes_left f xs ys h);
    lists = λ g x c. Contains-append_left (here g) (there g) x (a.lists g x c);
  }

  -- and so is what is among the others
  pub among_others : IsAmong ys there w → IsAmong (xs ++ ys) (λ g. here g ++ there g) w
  among_others a = record {
    passes = λ f h. a.passes f (wholes_right f xs ys h);
    lists = λ g x c. Contains-append_right (here g) (there g) x (a.lists g x c);
  }

-- the only one
pub among_one : (w : Whole) → IsAmong (w ∷ []) (λ g. listed g w.expr) w
among_one w = record { passes = λ f h. first (f w) true h; lists = λ g x c. c }

-- of a stream's clauses
module _ (n : ℕ) (s : Stream) (k : Kind) (w : Whole) where
  -- those of its spawn clause
  abbrev spawns : List Whole
  spawns = clause_wholes n part.Spawn [] s.parameters s.spawn

  -- of its eval clause
  abbrev evals : List Whole
  evals = clause_wholes n part.Eval s.parameters (k ∷ []) s.eval

  -- of its close clause
  abbrev closes : List Whole
  closes = clause_wholes n part.Close s.parameters [] s.close

  -- what is among those of the spawn clause is among those of the stream
  pub of_spawn : IsAmong spawns (λ g. listed_clause g s.spawn) w → IsAmong (stream_wholes n s k) (λ g. listed_stream g s) w
  of_spawn a = among_first w spawns (evals ++ closes) (λ g. listed_clause g s.spawn) (λ g. listed_clause g s.eval ++ listed_clause g s.close) a

  -- of the eval clause
  pub of_eval : IsAmong evals (λ g. listed_clause g s.eval) w → IsAmong (stream_wholes n s k) (λ g. listed_stream g s) w
  of_eval a =
      among_others w spawns (evals ++ closes) (λ g. listed_clause g s.spawn) (λ g. listed_clause g s.eval ++ listed_clause g s.close)
      (among_first w evals closes (λ g. listed_clause g s.eval) (λ g. listed_clause g s.close) a)

  -- of the close clause
  pub of_close : IsAmong closes (λ g. listed_clause g s.close) w → IsAmong (stream_wholes n s k) (λ g. listed_stream g s) w
  of_close a =
      among_others w spawns (evals ++ closes) (λ g. listed_clause g s.spawn) (λ g. listed_clause g s.eval ++ listed_clause g s.close)
      (among_others w evals closes (λ g. listed_clause g s.eval) (λ g. listed_clause g s.close) a)

-- of the streams from number n on, by the number of one of them
pub of_streams : (w : Whole) (n : ℕ) (ss : List Stream) (i : ℕ) (s : Stream) (m : ℕ) → m ≡ n + i → slice_get ss i ≡ Some s
    → IsAmong (stream_wholes m s (filled_kind s)) (λ g. listed_stream g s) w
    → IsAmong (wholes_from n ss (noted_kinds ss)) (λ g. listed_streams g ss) w
of_streams w n [] i s m q e a = absurd (cc)
of_streams w n (t ∷ ts) zero s m q e a =
    let same : s ≡ t = cc in
    let at : m ≡ n = omega (arith, q) in
    let there = subst (λ (j : ℕ). IsAmong (stream_wholes j s (filled_kind s)) (λ g. listed_stream g s) w) at a in
    among_first w (stream_wholes n t (filled_kind t)) (wholes_from (n + 1) ts (noted_kinds ts)) (λ g. listed_stream g t) (λ g. listed_streams g ts)
    (subst (λ (x : Stream). IsAmong (stream_wholes n x (filled_kind x)) (λ g. listed_stream g x) w) same there)
of_streams w n (t ∷ ts) (suc i) s m q e a =
    among_others w (stream_wholes n t (filled_kind t)) (wholes_from (n + 1) ts (noted_kinds ts)) (λ g. listed_stream g t) (λ g. listed_streams g ts)
    (of_streams w (n + 1) ts i s m (omega (arith, q)) e a)
