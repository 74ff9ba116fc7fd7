-- Where one function lists of a part of an expression, another lists something of the same part: so it is with all that is listed.
use Rattle.std.proofs.Common.{◌≡◌, refl, ℕ, suc, List, [], ◌∷◌, ◌++◌, Option, Some, None, slice_get, inl, inr}
use Rattle.std.specs.List.{Contains}
use Rattle.std.proofs.lemmas.List.Elements.{Contains-append_left, Contains-append_right, Contains-append_cases}
use Rattle.lola_model.proofs.Strictly.{Contains-none}
use Rattle.lola_model.specs.Parts.{listed, listed_all, listed_when, listed_with, listed_clause, listed_stream, listed_streams}
use Rattle.lola_model.specs.declared.expr.Expr.{Expr}
use Rattle.lola_model.specs.declared.expr.Expr.TheVariants.{Literal, Parameter, Read, Window, Defaults', Unary', Both', Choice'}
use Rattle.lola_model.specs.declared.expr.Arguments.{Arguments}
use Rattle.lola_model.specs.declared.expr.Arguments.TheVariants.{End, More'}
use Rattle.lola_model.specs.declared.spec.Clause.{Clause}
use Rattle.lola_model.specs.declared.spec.Stream.{Stream}

-- something of a list is so
abbrev pub Has : (B : Type 0) → (B → Type 0) → List B → Type 0
Has B P ys = (y : B) × Contains ys y × P y

module _ (A B : Type 0) (x : A) (P : B → Type 0) where
  has_both : (xs zs : List A) (ys ws : List B) → (Contains xs x → Has B P ys) → (Contains zs x → Has B P ws) → Contains (xs ++ zs) x → Has B P (ys ++ ws)
  has_both xs zs ys ws h k c =
      elim (Contains-append_cases xs zs x c) [
        | inl a ↦ (let r = h a in (r.0, Contains-append_left ys ws r.0 r.1, r.2))
        | inr b ↦ (let r = k b in (r.0, Contains-append_right ys ws r.0 r.1, r.2))
      ]

module _ (A B : Type 0) (f : Expr → List A) (g : Expr → List B) (x : A) (P : B → Type 0) (each : (e : Expr) → Contains (f e) x → Has B P (g e)) where
  mutual
    maps : (e : Expr) → Contains (listed f e) x → Has B P (listed g e)
    maps (Literal place v) c = each (Literal place v) c
    maps (Parameter place i) c = each (Parameter place i) c
    maps (Read place n how args) c =
        has_both A B x P (f (Read place n how args)) (listed_all f args) (g (Read place n how args)) (listed_all g args)
        (λ d. each (Read place n how args) d) (λ d. maps_all args d) c
    maps (Window place w args) c =
        has_both A B x P (f (Window place w args)) (listed_all f args) (g (Window place w args)) (listed_all g args)
        (λ d. each (Window place w args) d) (λ d. maps_all args d) c
    maps (Defaults' place u a v b) c =
        has_both A B x P (f (Defaults' place u a v b)) (listed f a ++ listed f b) (g (Defaults' place u a v b)) (listed g a ++ listed g b)
        (λ d. each (Defaults' place u a v b) d)
        (λ d. has_both A B x P (listed f a) (listed f b) (listed g a) (listed g b) (λ q. maps a q) (λ q. maps b q) d) c
    maps (Unary' place operator u a) c =
        has_both A B x P (f (Unary' place operator u a)) (listed f a) (g (Unary' place operator u a)) (listed g a)
        (λ d. each (Unary' place operator u a) d) (λ d. maps a d) c
    maps (Both' place operator u a v b) c =
        has_both A B x P (f (Both' place operator u a v b)) (listed f a ++ listed f b) (g (Both' place operator u a v b)) (listed g a ++ listed g b)
        (λ d. each (Both' place operator u a v b) d)
        (λ d. has_both A B x P (listed f a) (listed f b) (listed g a) (listed g b) (λ q. maps a q) (λ q. maps b q) d) c
    maps (Choice' place u a v b w e) c =
        has_both A B x P (f (Choice' place u a v b w e)) (listed f a ++ (listed f b ++ listed f e)) (g (Choice' place u a v b w e)) (listed g a ++ (listed g b ++ listed g e))
        (λ d. each (Choice' place u a v b w e) d)
        (λ d. has_both A B x P (listed f a) (listed f b ++ listed f e) (listed g a) (listed g b ++ listed g e) (λ q. maps a q)
        (λ q. has_both A B x P (listed f b) (listed f e) (listed g b) (listed g e) (λ r. maps b r) (λ r. maps e r) q) d) c

    maps_all : (args : Arguments) → Contains (listed_all f args) x → Has B P (listed_all g args)
    maps_all End c = absurd (Contains-none x c)
    maps_all (More' u a v rest) c = has_both A B x P (listed f a) (listed_all f rest) (listed g a) (listed_all g rest) (λ d. maps a d) (λ d. maps_all rest d) c

  maps_when : (o : Option Expr) → Contains (listed_when f o) x → Has B P (listed_when g o)
  maps_when None c = absurd (Contains-none x c)
  maps_when (Some e) c = maps e c

  maps_with : (es : List Expr) → Contains (listed_with f es) x → Has B P (listed_with g es)
  maps_with [] c = absurd (Contains-none x c)
  maps_with (e ∷ es) c = has_both A B x P (listed f e) (listed_with f es) (listed g e) (listed_with g es) (λ d. maps e d) (λ d. maps_with es d) c

  pub maps_clause : (o : Option Clause) → Contains (listed_clause f o) x → Has B P (listed_clause g o)
  maps_clause None c = absurd (Contains-none x c)
  maps_clause (Some k) c = has_both A B x P (listed_when f k.when) (listed_with f k.with) (listed_when g k.when) (listed_with g k.with) (λ d. maps_when k.when d) (λ d. maps_with k.with d) c

  maps_stream : (s : Stream) → Contains (listed_stream f s) x → Has B P (listed_stream g s)
  maps_stream s c =
      has_both A B x P (listed_clause f s.spawn) (listed_clause f s.eval ++ listed_clause f s.close) (listed_clause g s.spawn) (listed_clause g s.eval ++ listed_clause g s.close)
      (λ d. maps_clause s.spawn d)
      (λ d. has_both A B x P (listed_clause f s.eval) (listed_clause f s.close) (listed_clause g s.eval) (listed_clause g s.close) (λ q. maps_clause s.eval q) (λ q. maps_clause s.close q) d) c

  pub maps_streams : (ss : List Stream) → Contains (listed_streams f ss) x → Has B P (listed_streams g ss)
  maps_streams [] c = absurd (Contains-none x c)
  maps_streams (s ∷ ss) c = has_both A B x P (listed_stream f s) (listed_streams f ss) (listed_stream g s) (listed_streams g ss) (λ d. maps_stream s d) (λ d. maps_streams ss d) c

-- what is listed of all streams is listed of one
pub in_some_stream : (A : Type 0) (f : Expr → List A) (x : A) (ss : List Stream) → Contains (listed_streams f ss) x
    → (k : ℕ) × (s : Stream) × (slice_get ss k ≡ Some s) × Contains (listed_stream f s) x
in_some_stream A f x [] c = absurd (Contains-none x c)
in_some_stream A f x (s ∷ ss) c =
    let rest = in_some_stream A f x ss in
    elim (Contains-append_cases (listed_stream f s) (listed_streams f ss) x c) [ inl a ↦ (0, s, refl, a) | inr b ↦ (let r = rest b in (suc r.0, r.1, r.2, r.3)) ]
