-- What is listed of the parts that read is listed of the expressions that have them.
use Rattle.std.proofs.Common.{◌≡◌, refl, ap, sym, ◌∙◌, List, [], ◌∷◌, ◌++◌, Option, Some, None, append-nil, append_assoc}
use Rattle.std.proofs.lemmas.Grind.{flat_map-append}
use Rattle.std.specs.List.{flat_map}
use Rattle.lola_model.specs.Parts.{listed, listed_all, listed_when, listed_with, listed_clause, listed_stream, listed_streams}
use Rattle.lola_model.specs.declared.expr.Expr.{Expr}
use Rattle.lola_model.specs.declared.expr.Expr.TheVariants.{Literal, Parameter, Read, Window, Defaults', Unary', Both', Choice'}
use Rattle.lola_model.specs.declared.expr.Arguments.{Arguments}
use Rattle.lola_model.specs.declared.expr.Arguments.TheVariants.{End, More'}
use Rattle.lola_model.specs.declared.spec.Clause.{Clause}
use Rattle.lola_model.specs.declared.spec.Stream.{Stream}
use Rattle.lola_model.specs.Visits.{parts_of, TakesAll}
use Rattle.lola_model.specs.declared.part.ReadPart.{ReadPart}

-- what g lists of some parts and then of others
pub listed_both : {A : Type 0} (g : ReadPart → List A) (ps qs : List ReadPart) (xs ys : List A) → flat_map g ps ≡ xs → flat_map g qs ≡ ys → flat_map g (ps ++ qs) ≡ xs ++ ys
listed_both g ps qs xs ys h k = flat_map-append g ps qs ∙ (ap (λ zs. zs ++ flat_map g qs) h ∙ ap (λ zs. xs ++ zs) k)

-- g lists of parts that read what f lists of the expressions
module _ {A : Type 0} (g : ReadPart → List A) (f : Expr → List A) (each : (e : Expr) → flat_map g (parts_of e) ≡ f e) where
  fused_two : (a b : Expr) → flat_map g (listed parts_of a) ≡ listed f a → flat_map g (listed parts_of b) ≡ listed f b → flat_map g (listed parts_of a ++ listed parts_of b) ≡ listed f a ++ listed f b
  fused_two a b h k = listed_both g (listed parts_of a) (listed parts_of b) (listed f a) (listed f b) h k

  mutual
    fused : (e : Expr) → flat_map g (listed parts_of e) ≡ listed f e
    fused (Literal place v) = each (Literal place v)
    fused (Parameter place i) = each (Parameter place i)
    fused (Read place n how args) = listed_both g (parts_of (Read place n how args)) (listed_all parts_of args) (f (Read place n how args)) (listed_all f args) (each (Read place n how args)) (fused_all args)
    fused (Window place w args) = listed_both g (parts_of (Window place w args)) (listed_all parts_of args) (f (Window place w args)) (listed_all f args) (each (Window place w args)) (fused_all args)
    fused (Defaults' place u a v b) = listed_both g [] (listed parts_of a ++ listed parts_of b) (f (Defaults' place u a v b)) (listed f a ++ listed f b) (each (Defaults' place u a v b)) (fused_two a b (fused a) (fused b))
    fused (Unary' place operator u a) = listed_both g [] (listed parts_of a) (f (Unary' place operator u a)) (listed f a) (each (Unary' place operator u a)) (fused a)
    fused (Both' place operator u a v b) = listed_both g [] (listed parts_of a ++ listed parts_of b) (f (Both' place operator u a v b)) (listed f a ++ listed f b) (each (Both' place operator u a v b)) (fused_two a b (fused a) (fused b))
    fused (Choice' place u a v b w d) =
        listed_both g [] (listed parts_of a ++ (listed parts_of b ++ listed parts_of d)) (f (Choice' place u a v b w d)) (listed f a ++ (listed f b ++ listed f d)) (each (Choice' place u a v b w d))
        (listed_both g (listed parts_of a) (listed parts_of b ++ listed parts_of d) (listed f a) (listed f b ++ listed f d) (fused a) (fused_two b d (fused b) (fused d)))

    fused_all : (args : Arguments) → flat_map g (listed_all parts_of args) ≡ listed_all f args
    fused_all End = refl
    fused_all (More' u a v rest) = listed_both g (listed parts_of a) (listed_all parts_of rest) (listed f a) (listed_all f rest) (fused a) (fused_all rest)

  fused_when : (o : Option Expr) → flat_map g (listed_when parts_of o) ≡ listed_when f o
  fused_when None = refl
  fused_when (Some e) = fused e

  fused_with : (es : List Expr) → flat_map g (listed_with parts_of es) ≡ listed_with f es
  fused_with [] = refl
  fused_with (e ∷ es) = listed_both g (listed parts_of e) (listed_with parts_of es) (listed f e) (listed_with f es) (fused e) (fused_with es)

  -- of a clause, if there is one
  pub fused_clause : (o : Option Clause) → flat_map g (listed_clause parts_of o) ≡ listed_clause f o
  fused_clause None = refl
  fused_clause (Some c) = listed_both g (listed_when parts_of c.when) (listed_with parts_of c.with) (listed_when f c.when) (listed_with f c.with) (fused_when c.when) (fused_with c.with)

  fused_stream : (s : Stream) → flat_map g (listed_stream parts_of s) ≡ listed_stream f s
  fused_stream s =
      listed_both g (listed_clause parts_of s.spawn) (listed_clause parts_of s.eval ++ listed_clause parts_of s.close) (listed_clause f s.spawn) (listed_clause f s.eval ++ listed_clause f s.close) (fused_clause s.spawn)
      (listed_both g (listed_clause parts_of s.eval) (listed_clause parts_of s.close) (listed_clause f s.eval) (listed_clause f s.close) (fused_clause s.eval) (fused_clause s.close))

  -- of streams
  pub fused_streams : (ss : List Stream) → flat_map g (listed_streams parts_of ss) ≡ listed_streams f ss
  fused_streams [] = refl
  fused_streams (s ∷ ss) = listed_both g (listed_stream parts_of s) (listed_streams parts_of ss) (listed_stream f s) (listed_streams f ss) (fused_stream s) (fused_streams ss)

-- where each part appends what g lists of it, all parts append what g lists of all
module _ {T A : Type 0} (items : T → List A) (g : ReadPart → List A) where
  pub gathered : (ps : List ReadPart) (old new : T) → TakesAll (λ p from to. items to ≡ items from ++ g p) ps old new → items new ≡ items old ++ flat_map g ps
  gathered [] old new h = ap items (sym h) ∙ sym (append-nil (items old))
  gathered (p ∷ ps) old new h = gathered ps h.0 new h.2 ∙ (ap (λ xs. xs ++ flat_map g ps) h.1 ∙ append_assoc (items old) (g p) (flat_map g ps))

  -- and so what f lists of a clause
  pub gathered_clause : (f : Expr → List A) → ((e : Expr) → flat_map g (parts_of e) ≡ f e) → (o : Option Clause) (old new : T)
      → TakesAll (λ p from to. items to ≡ items from ++ g p) (listed_clause parts_of o) old new → items new ≡ items old ++ listed_clause f o
  gathered_clause f each o old new h = gathered (listed_clause parts_of o) old new h ∙ ap (λ xs. items old ++ xs) (fused_clause g f each o)
