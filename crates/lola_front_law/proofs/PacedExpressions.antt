-- Expressions that are alike follow the same streams, and have the same direct accesses and windows; so do those that kinds are filled in of.
use Rattle.std.proofs.Common.{◌≡◌, refl, sym, ap, subst, ◌∙◌, ℕ, List, [], ◌∷◌, ◌++◌, Option, Some, None, slice_get, drop, unwrap_or}
use Rattle.lola_value.specs.declared.value.Kind.{Kind}
use Rattle.lola_value.specs.declared.value.Kind.TheVariants as kind
use Rattle.lola_model.specs.Leaves.{followed, followed_by}
use Rattle.lola_model.specs.PacingRefused.{access_use, used}
use Rattle.lola_model.specs.Parts.{listed, listed_all, listed_when, listed_with, listed_clause, listed_streams}
use Rattle.lola_model.specs.declared.expr.Access.{Access}
use Rattle.lola_model.specs.declared.expr.Access.TheVariants as access
use Rattle.lola_model.specs.declared.expr.Arguments.{Arguments}
use Rattle.lola_model.specs.declared.expr.Arguments.TheVariants.{End, More'}
use Rattle.lola_model.specs.declared.expr.Expr.{Expr}
use Rattle.lola_model.specs.declared.expr.Expr.TheVariants.{Literal, Parameter, Read, Window, Defaults', Unary', Both', Choice'}
use Rattle.lola_model.specs.declared.expr.Place.{Place}
use Rattle.lola_model.specs.declared.spec.Clause.{Clause}
use Rattle.lola_model.specs.declared.spec.Stream.{Stream}
use Rattle.lola_model.specs.declared.spec.WindowSpec.{WindowSpec}
use Rattle.lola_model.specs.declared.uses.Use.{Use}
use Rattle.lola_types.specs.Found.{Setting, found, joint, parameters_at, window_parameters}
use Rattle.lola_types.specs.Refused.{taken, operand_kind, number_kind}
use Rattle.lola_types.specs.Filled.{note_part, given_kind, filled_if_free, filled, filled_all, filled_whole, SameTree, SameArguments, FilledWhen, FilledWith, FilledClause, FilledClauses, FilledStreams}
use Rattle.lola_types.specs.declared.found.Found.{Found}
use Rattle.lola_types.specs.declared.found.Found.TheVariants.{Of, Free, Unknown, Broken}
use Rattle.lola_front_law.proofs.AlikeTrees.{Alike, AnyNumbers}
use Rattle.lola_front_law.proofs.AlikeKinds.{two}
use Rattle.lola_front_law.proofs.AlikeListed.{listed_of_clause}
use Rattle.lola_front_law.proofs.AlikeStreams.{AlikeClauses}
use Rattle.lola_front_law.proofs.PacedStreams.{SameUses}

-- ---- of what is alike

module _ (ws vs : List WindowSpec) where
  followed_each : (e d : Expr) → Alike ws vs e d → followed e ≡ followed d
  followed_each (Literal p v) (Literal q w) h = refl
  followed_each (Parameter p i) (Parameter q j) h = refl
  followed_each (Read p n how args) (Read q m why brgs) h = two followed_by how why n m h.2 h.1
  followed_each (Window p n args) (Window q m brgs) h = refl
  followed_each (Defaults' p u a v b) (Defaults' q x c y d) h = refl
  followed_each (Unary' p s u a) (Unary' q r x c) h = refl
  followed_each (Both' p s u a v b) (Both' q r x c y d) h = refl
  followed_each (Choice' p u a v b w e) (Choice' q x c y d z g) h = refl
  followed_each _ _ h = absurd h

  pub followed_alike : (c d : Option Clause) → AlikeClauses ws vs c d → listed_clause followed c ≡ listed_clause followed d
  followed_alike c d h =
      listed_of_clause AnyNumbers ws vs ℕ followed (λ (xs ys : List ℕ). xs ≡ ys) refl (λ xs us ys os e g. two (λ (l r : List ℕ). l ++ r) xs ys us os e g) followed_each c d h

  uses_join : (xs us ys os : List Use) → SameUses ws vs xs ys → SameUses ws vs us os → SameUses ws vs (xs ++ us) (ys ++ os)
  uses_join [] us [] os h k = k
  uses_join (x ∷ xs) us (y ∷ ys) os h k = (h.0, uses_join xs us ys os h.1 k)
  uses_join [] us (y ∷ ys) os h k = absurd h
  uses_join (x ∷ xs) us [] os h k = absurd h

  access_same : (how : Access) (at by n m : ℕ) → at ≡ by → n ≡ m → SameUses ws vs (access_use at n how) (access_use by m how)
  access_same access.Direct at by n m e g = ((e, g), tt)
  access_same access.Get at by n m e g = tt
  access_same access.Hold at by n m e g = tt
  access_same (access.Offset k) at by n m e g = tt

  used_each : (e d : Expr) → Alike ws vs e d → SameUses ws vs (used e) (used d)
  used_each (Literal p v) (Literal q w) h = tt
  used_each (Parameter p i) (Parameter q j) h = tt
  used_each (Read p n how args) (Read q m why brgs) h =
      subst (λ (x : Access). SameUses ws vs (access_use p.at n how) (access_use q.at m x)) h.2 (access_same how p.at q.at n m (ap (λ (x : Place). x.at) h.0) h.1)
  used_each (Window p n args) (Window q m brgs) h = ((ap (λ (x : Place). x.at) h.0, h.1), tt)
  used_each (Defaults' p u a v b) (Defaults' q x c y d) h = tt
  used_each (Unary' p s u a) (Unary' q r x c) h = tt
  used_each (Both' p s u a v b) (Both' q r x c y d) h = tt
  used_each (Choice' p u a v b w e) (Choice' q x c y d z g) h = tt
  used_each _ _ h = absurd h

  pub used_alike : (c d : Option Clause) → AlikeClauses ws vs c d → SameUses ws vs (listed_clause used c) (listed_clause used d)
  used_alike c d h = listed_of_clause AnyNumbers ws vs Use used (SameUses ws vs) tt uses_join used_each c d h

-- ---- of what kinds are filled in of

-- two parts that differ in kinds, boxes and their own parts alone
abbrev pub IsSamePart : Expr → Expr → Type 0
IsSamePart (Literal p v) (Literal q w) = p.at ≡ q.at
IsSamePart (Parameter p i) (Parameter q j) = p.at ≡ q.at
IsSamePart (Read p n how args) (Read q m why brgs) = (p.at ≡ q.at) × (n ≡ m) × (how ≡ why)
IsSamePart (Window p n args) (Window q m brgs) = (p.at ≡ q.at) × (n ≡ m)
IsSamePart (Defaults' p u a v b) (Defaults' q x c y d) = p.at ≡ q.at
IsSamePart (Unary' p s u a) (Unary' q r x c) = p.at ≡ q.at
IsSamePart (Both' p s u a v b) (Both' q r x c y d) = p.at ≡ q.at
IsSamePart (Choice' p u a v b w e) (Choice' q x c y d z g) = p.at ≡ q.at
IsSamePart _ _ = ⊥

note_place : (p : Place) (o : Found) → (note_part p o).at ≡ p.at
note_place p (Of k c) = refl
note_place p Free = refl
note_place p Unknown = refl
note_place p Broken = refl

place_of : (p q : Place) → p ≡ q → p.at ≡ q.at
place_of p q e = ap (λ (x : Place). x.at) e

-- a list of parts that tells not apart what differs so is the same once kinds are filled in
module _ (A : Type 0) (f : Expr → List A) (same : (e d : Expr) → IsSamePart e d → f e ≡ f d) where
  join : (xs ys us os : List A) → xs ≡ ys → us ≡ os → xs ++ us ≡ ys ++ os
  join xs ys us os e g = two (λ (l r : List A). l ++ r) xs ys us os e g

  settled_listed : (k : Kind) (e : Expr) → listed f (given_kind k e) ≡ listed f e
  settled_listed k (Literal p v) = same (given_kind k (Literal p v)) (Literal p v) refl
  settled_listed k (Parameter p i) = refl
  settled_listed k (Read p n how args) = refl
  settled_listed k (Window p n args) = refl
  settled_listed k (Defaults' p u a v b) =
      join _ _ _ _ (same (given_kind k (Defaults' p u a v b)) (Defaults' p u a v b) refl) (join _ _ _ _ (settled_listed k a) (settled_listed k b))
  settled_listed k (Unary' p s u a) = join _ _ _ _ (same (given_kind k (Unary' p s u a)) (Unary' p s u a) refl) (settled_listed k a)
  settled_listed k (Both' p s u a v b) =
      join _ _ _ _ (same (given_kind k (Both' p s u a v b)) (Both' p s u a v b) refl) (join _ _ _ _ (settled_listed k a) (settled_listed k b))
  settled_listed k (Choice' p u t v a w b) =
      join _ _ _ _ (same (given_kind k (Choice' p u t v a w b)) (Choice' p u t v a w b) refl) (join _ _ _ _ refl (join _ _ _ _ (settled_listed k a) (settled_listed k b)))

  filled_if_free_listed : (o : Option Kind) (p : Found) (e : Expr) → listed f (filled_if_free o p e) ≡ listed f e
  filled_if_free_listed None p e = refl
  filled_if_free_listed (Some k) (Of l c) e = refl
  filled_if_free_listed (Some k) Free e = settled_listed k e
  filled_if_free_listed (Some k) Unknown e = refl
  filled_if_free_listed (Some k) Broken e = refl

  mutual
    tree_listed : (e d : Expr) → SameTree e d → listed f e ≡ listed f d
    tree_listed (Literal p v) (Literal q w) h = same (Literal p v) (Literal q w) (place_of p q h.0)
    tree_listed (Parameter p i) (Parameter q j) h = same (Parameter p i) (Parameter q j) (place_of p q h.0)
    tree_listed (Read p n how args) (Read q m why brgs) h =
        join _ _ _ _ (same (Read p n how args) (Read q m why brgs) (place_of p q h.0, h.1, h.2)) (tree_all args brgs h.3)
    tree_listed (Window p n args) (Window q m brgs) h = join _ _ _ _ (same (Window p n args) (Window q m brgs) (place_of p q h.0, h.1)) (tree_all args brgs h.2)
    tree_listed (Defaults' p u a v b) (Defaults' q x c y d) h =
        join _ _ _ _ (same (Defaults' p u a v b) (Defaults' q x c y d) (place_of p q h.0)) (join _ _ _ _ (tree_listed a c h.1) (tree_listed b d h.2))
    tree_listed (Unary' p s u a) (Unary' q r x c) h = join _ _ _ _ (same (Unary' p s u a) (Unary' q r x c) (place_of p q h.0)) (tree_listed a c h.2)
    tree_listed (Both' p s u a v b) (Both' q r x c y d) h =
        join _ _ _ _ (same (Both' p s u a v b) (Both' q r x c y d) (place_of p q h.0)) (join _ _ _ _ (tree_listed a c h.2) (tree_listed b d h.3))
    tree_listed (Choice' p u a v b w e) (Choice' q x c y d z g) h =
        join _ _ _ _ (same (Choice' p u a v b w e) (Choice' q x c y d z g) (place_of p q h.0))
        (join _ _ _ _ (tree_listed a c h.1) (join _ _ _ _ (tree_listed b d h.2) (tree_listed e g h.3)))
    tree_listed _ _ h = absurd h

    tree_all : (args brgs : Arguments) → SameArguments args brgs → listed_all f args ≡ listed_all f brgs
    tree_all End End h = refl
    tree_all (More' u a v rest) (More' x c y more) h = join _ _ _ _ (tree_listed a c h.0) (tree_all rest more h.1)
    tree_all _ _ h = absurd h

  module _ (s : Setting) where
    mutual
      filled_listed : (e : Expr) → listed f (filled s e) ≡ listed f e
      filled_listed (Literal p v) = same (filled s (Literal p v)) (Literal p v) (note_place p (found s (Literal p v)))
      filled_listed (Parameter p i) = same (filled s (Parameter p i)) (Parameter p i) (note_place p (found s (Parameter p i)))
      filled_listed (Read p n how args) =
          join _ _ _ _ (same (filled s (Read p n how args)) (Read p n how args) (note_place p (found s (Read p n how args)), refl, refl)) (filled_all_listed (parameters_at s n) args)
      filled_listed (Window p n args) =
          join _ _ _ _ (same (filled s (Window p n args)) (Window p n args) (note_place p (found s (Window p n args)), refl))
          (filled_all_listed (window_parameters s (slice_get s.windows n)) args)
      filled_listed (Defaults' p u a v b) =
          let o = taken (found s (Defaults' p u a v b)) in
          join _ _ _ _ (same (filled s (Defaults' p u a v b)) (Defaults' p u a v b) (note_place p (found s (Defaults' p u a v b))))
          (join _ _ _ _ (filled_if_free_listed o (found s a) (filled s a) ∙ filled_listed a) (filled_if_free_listed o (found s b) (filled s b) ∙ filled_listed b))
      filled_listed (Unary' p g u a) =
          join _ _ _ _ (same (filled s (Unary' p g u a)) (Unary' p g u a) (note_place p (found s (Unary' p g u a))))
          (filled_if_free_listed (taken (found s (Unary' p g u a))) (found s a) (filled s a) ∙ filled_listed a)
      filled_listed (Both' p g u a v b) =
          let o = operand_kind g (found s (Both' p g u a v b)) (joint (found s a) (found s b)) in
          join _ _ _ _ (same (filled s (Both' p g u a v b)) (Both' p g u a v b) (note_place p (found s (Both' p g u a v b))))
          (join _ _ _ _ (filled_if_free_listed o (found s a) (filled s a) ∙ filled_listed a) (filled_if_free_listed o (found s b) (filled s b) ∙ filled_listed b))
      filled_listed (Choice' p u t v a w b) =
          let o = taken (found s (Choice' p u t v a w b)) in
          join _ _ _ _ (same (filled s (Choice' p u t v a w b)) (Choice' p u t v a w b) (note_place p (found s (Choice' p u t v a w b))))
          (join _ _ _ _ (filled_listed t)
          (join _ _ _ _ (filled_if_free_listed o (found s a) (filled s a) ∙ filled_listed a) (filled_if_free_listed o (found s b) (filled s b) ∙ filled_listed b)))

      filled_all_listed : (ks : List Kind) (args : Arguments) → listed_all f (filled_all s ks args) ≡ listed_all f args
      filled_all_listed ks End = refl
      filled_all_listed ks (More' u a v rest) =
          join _ _ _ _ (filled_if_free_listed (slice_get ks 0) (found s a) (filled s a) ∙ filled_listed a) (filled_all_listed (drop 1 ks) rest)

    whole_listed : (k : Kind) (e d : Expr) → SameTree (filled_whole s k e) d → listed f e ≡ listed f d
    whole_listed k e d h = sym (filled_if_free_listed (number_kind k) (found s e) (filled s e) ∙ filled_listed e) ∙ tree_listed (filled_whole s k e) d h

    when_listed : (o u : Option Expr) → FilledWhen s o u → listed_when f o ≡ listed_when f u
    when_listed None None h = refl
    when_listed (Some e) (Some d) h = whole_listed kind.Bool e d h
    when_listed None (Some d) h = absurd h
    when_listed (Some e) None h = absurd h

    with_listed : (wants : List Kind) (es ds : List Expr) → FilledWith s wants es ds → listed_with f es ≡ listed_with f ds
    with_listed wants [] [] h = refl
    with_listed wants (e ∷ es) (d ∷ ds) h = join _ _ _ _ (whole_listed (unwrap_or (slice_get wants 0) kind.Int64) e d h.0) (with_listed (drop 1 wants) es ds h.1)
    with_listed wants [] (d ∷ ds) h = absurd h
    with_listed wants (e ∷ es) [] h = absurd h

    clause_listed : (wants : List Kind) (c d : Clause) → FilledClause s wants c d → listed_clause f (Some c) ≡ listed_clause f (Some d)
    clause_listed wants c d h = join _ _ _ _ (when_listed c.when d.when h.condition) (with_listed wants c.with d.with h.expressions)

    clauses_listed : (wants : List Kind) (c d : Option Clause) → FilledClauses s wants c d → listed_clause f c ≡ listed_clause f d
    clauses_listed wants None None h = refl
    clauses_listed wants (Some c) (Some d) h = clause_listed wants c d h
    clauses_listed wants None (Some d) h = absurd h
    clauses_listed wants (Some c) None h = absurd h

  pub streams_listed : (s : Setting) (ks : List (Option Kind)) (as' bs : List Stream) → FilledStreams s ks as' bs → listed_streams f as' ≡ listed_streams f bs
  streams_listed s ks [] [] h = refl
  streams_listed s ks (a ∷ as') (b ∷ bs) h =
      join _ _ _ _
      (join _ _ _ _ (clauses_listed _ _ a.spawn b.spawn h.0.spawn)
      (join _ _ _ _ (clauses_listed _ _ a.eval b.eval h.0.eval) (clauses_listed _ _ a.close b.close h.0.close)))
      (streams_listed s (drop 1 ks) as' bs h.1)
  streams_listed s ks [] (b ∷ bs) h = absurd h
  streams_listed s ks (a ∷ as') [] h = absurd h

same_followed : (e d : Expr) → IsSamePart e d → followed e ≡ followed d
same_followed (Literal p v) (Literal q w) h = refl
same_followed (Parameter p i) (Parameter q j) h = refl
same_followed (Read p n how args) (Read q m why brgs) h = two followed_by how why n m h.2 h.1
same_followed (Window p n args) (Window q m brgs) h = refl
same_followed (Defaults' p u a v b) (Defaults' q x c y d) h = refl
same_followed (Unary' p s u a) (Unary' q r x c) h = refl
same_followed (Both' p s u a v b) (Both' q r x c y d) h = refl
same_followed (Choice' p u a v b w e) (Choice' q x c y d z g) h = refl
same_followed _ _ h = absurd h

same_used : (e d : Expr) → IsSamePart e d → used e ≡ used d
same_used (Literal p v) (Literal q w) h = refl
same_used (Parameter p i) (Parameter q j) h = refl
same_used (Read p n how args) (Read q m why brgs) h =
    ap (λ (x : ℕ). access_use x n how) h.0 ∙ two (λ (k : ℕ) (x : Access). access_use q.at k x) n m how why h.1 h.2
same_used (Window p n args) (Window q m brgs) h = two (λ (x k : ℕ). used (Window (record { at = x; kind = None }) k args)) p.at q.at n m h.0 h.1
same_used (Defaults' p u a v b) (Defaults' q x c y d) h = refl
same_used (Unary' p s u a) (Unary' q r x c) h = refl
same_used (Both' p s u a v b) (Both' q r x c y d) h = refl
same_used (Choice' p u a v b w e) (Choice' q x c y d z g) h = refl
same_used _ _ h = absurd h

pub followed_filled : (s : Setting) (wants : List Kind) (c d : Clause) → FilledClause s wants c d → listed_clause followed (Some c) ≡ listed_clause followed (Some d)
followed_filled s wants c d h = clause_listed ℕ followed same_followed s wants c d h

pub used_filled : (s : Setting) (wants : List Kind) (c d : Clause) → FilledClause s wants c d → listed_clause used (Some c) ≡ listed_clause used (Some d)
used_filled s wants c d h = clause_listed Use used same_used s wants c d h
