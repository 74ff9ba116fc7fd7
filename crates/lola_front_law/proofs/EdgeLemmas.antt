-- Of all specifications that a text is resolved to, kinds filled in, the graph is one, and so are the places of streams.
use Rattle.std.proofs.Common.{◌≡◌, refl, sym, ap, ◌∙◌, ℕ, zero, suc, ◌+◌, List, [], ◌∷◌, ◌++◌, Option, Some, None, slice_get, drop, map, unwrap_or}
use Rattle.lola_value.specs.declared.value.Kind.{Kind}
use Rattle.lola_value.specs.declared.value.Kind.TheVariants as kind
use Rattle.lola_model.specs.Graph.{weight_of, edge_to, window_edge, reads, reads_all, when_reads, with_reads, clause_reads, to_spawn, edges_from, edges_of, eval_node, spawn_node}
use Rattle.lola_model.specs.declared.expr.Access.{Access}
use Rattle.lola_model.specs.declared.expr.Expr.{Expr}
use Rattle.lola_model.specs.declared.expr.Expr.TheVariants.{Literal, Parameter, Read, Window, Defaults', Unary', Both', Choice'}
use Rattle.lola_model.specs.declared.expr.Arguments.{Arguments}
use Rattle.lola_model.specs.declared.expr.Arguments.TheVariants.{End, More'}
use Rattle.lola_model.specs.declared.graph.Edge.{Edge}
use Rattle.lola_model.specs.declared.spec.Clause.{Clause}
use Rattle.lola_model.specs.declared.spec.Spec.{Spec}
use Rattle.lola_model.specs.declared.spec.Stream.{Stream}
use Rattle.lola_model.specs.declared.spec.WindowSpec.{WindowSpec}
use Rattle.lola_types.specs.Found.{Setting, found, joint, parameters_at, window_parameters}
use Rattle.lola_types.specs.Refused.{taken, operand_kind, number_kind}
use Rattle.lola_types.specs.Filled.{given_kind, filled_if_free, filled, filled_all, filled_whole, SameTree, SameArguments, FilledWhen, FilledWith, FilledClauses, FilledStreams, IsFilled}
use Rattle.lola_types.specs.declared.found.Found.{Found}
use Rattle.lola_types.specs.declared.found.Found.TheVariants.{Of, Free, Unknown, Broken}
use Rattle.lola_front_law.proofs.AlikeTrees.{Alike, AlikeAll}
use Rattle.lola_front_law.proofs.AlikeKinds.{two}
use Rattle.lola_front_law.proofs.AlikeStreams.{AlikeWhen, AlikeWith, AlikeClauses, AlikeStreams}

join : (xs ys us vs : List Edge) → xs ≡ ys → us ≡ vs → xs ++ us ≡ ys ++ vs
join xs ys us vs e g = two (λ (l r : List Edge). l ++ r) xs ys us vs e g

-- ---- of what is alike

module _ (ws vs : List WindowSpec) where
  mutual
    reads_alike : (from : ℕ) (e f : Expr) → Alike ws vs e f → reads ws from e ≡ reads vs from f
    reads_alike from (Literal p v) (Literal q w) h = refl
    reads_alike from (Parameter p i) (Parameter q j) h = refl
    reads_alike from (Read p n how args) (Read q m why brgs) h =
        two (λ (x : Edge) (xs : List Edge). x ∷ xs) _ _ _ _ (two (λ (k : ℕ) (g : Access). edge_to from k (weight_of g)) n m how why h.1 h.2) (all_alike from args brgs h.3)
    reads_alike from (Window p n args) (Window q m brgs) h = join _ _ _ _ (ap (window_edge from) h.1) (all_alike from args brgs h.2)
    reads_alike from (Defaults' p u a v b) (Defaults' q x c y d) h = join _ _ _ _ (reads_alike from a c h.1) (reads_alike from b d h.2)
    reads_alike from (Unary' p s u a) (Unary' q r x c) h = reads_alike from a c h.2
    reads_alike from (Both' p s u a v b) (Both' q r x c y d) h = join _ _ _ _ (reads_alike from a c h.2) (reads_alike from b d h.3)
    reads_alike from (Choice' p u a v b w e) (Choice' q x c y d z f) h =
        join _ _ _ _ (reads_alike from a c h.1) (join _ _ _ _ (reads_alike from b d h.2) (reads_alike from e f h.3))
    reads_alike from _ _ h = absurd h

    all_alike : (from : ℕ) (args brgs : Arguments) → AlikeAll ws vs args brgs → reads_all ws from args ≡ reads_all vs from brgs
    all_alike from End End h = refl
    all_alike from (More' u a v rest) (More' x c y more) h = join _ _ _ _ (reads_alike from a c h.0) (all_alike from rest more h.1)
    all_alike from _ _ h = absurd h

  when_alike : (from : ℕ) (o u : Option Expr) → AlikeWhen ws vs o u → when_reads ws from o ≡ when_reads vs from u
  when_alike from None None h = refl
  when_alike from None (Some f) h = absurd h
  when_alike from (Some e) None h = absurd h
  when_alike from (Some e) (Some f) h = reads_alike from e f h

  with_alike : (from : ℕ) (es fs : List Expr) → AlikeWith ws vs es fs → with_reads ws from es ≡ with_reads vs from fs
  with_alike from [] [] h = refl
  with_alike from [] (f ∷ fs) h = absurd h
  with_alike from (e ∷ es) [] h = absurd h
  with_alike from (e ∷ es) (f ∷ fs) h = join _ _ _ _ (reads_alike from e f h.0) (with_alike from es fs h.1)

  clause_alike : (from : ℕ) (c d : Option Clause) → AlikeClauses ws vs c d → clause_reads ws from c ≡ clause_reads vs from d
  clause_alike from None None h = refl
  clause_alike from None (Some d) h = absurd h
  clause_alike from (Some c) None h = absurd h
  clause_alike from (Some c) (Some d) h = join _ _ _ _ (when_alike from c.when d.when h.condition) (with_alike from c.with d.with h.expressions)

  spawn_alike : (n : ℕ) (c d : Option Clause) → AlikeClauses ws vs c d → to_spawn n c ≡ to_spawn n d
  spawn_alike n None None h = refl
  spawn_alike n None (Some d) h = absurd h
  spawn_alike n (Some c) None h = absurd h
  spawn_alike n (Some c) (Some d) h = refl

  pub edges_alike : (n : ℕ) (as' bs : List Stream) → AlikeStreams ws vs as' bs → edges_from ws n as' ≡ edges_from vs n bs
  edges_alike n [] [] h = refl
  edges_alike n [] (b ∷ bs) h = absurd h
  edges_alike n (a ∷ as') [] h = absurd h
  edges_alike n (a ∷ as') (b ∷ bs) h =
      join _ _ _ _ (spawn_alike n a.spawn b.spawn h.0.spawn)
      (join _ _ _ _ (clause_alike (spawn_node n) a.spawn b.spawn h.0.spawn)
      (join _ _ _ _ (clause_alike (eval_node n) a.eval b.eval h.0.eval) (edges_alike (n + 1) as' bs h.1)))

-- ---- of what is filled in

module _ (ws : List WindowSpec) (from : ℕ) where
  settled_reads : (k : Kind) (e : Expr) → reads ws from (given_kind k e) ≡ reads ws from e
  settled_reads k (Literal p v) = refl
  settled_reads k (Parameter p i) = refl
  settled_reads k (Read p n how args) = refl
  settled_reads k (Window p w args) = refl
  settled_reads k (Defaults' p u a v b) = join _ _ _ _ (settled_reads k a) (settled_reads k b)
  settled_reads k (Unary' p s u a) = settled_reads k a
  settled_reads k (Both' p s u a v b) = join _ _ _ _ (settled_reads k a) (settled_reads k b)
  settled_reads k (Choice' p u t v a w b) = join _ _ _ _ refl (join _ _ _ _ (settled_reads k a) (settled_reads k b))

  filled_if_free_reads : (o : Option Kind) (p : Found) (e : Expr) → reads ws from (filled_if_free o p e) ≡ reads ws from e
  filled_if_free_reads None p e = refl
  filled_if_free_reads (Some k) (Of l c) e = refl
  filled_if_free_reads (Some k) Free e = settled_reads k e
  filled_if_free_reads (Some k) Unknown e = refl
  filled_if_free_reads (Some k) Broken e = refl

  mutual
    same_reads : (e f : Expr) → SameTree e f → reads ws from e ≡ reads ws from f
    same_reads (Literal p v) (Literal q w) h = refl
    same_reads (Parameter p i) (Parameter q j) h = refl
    same_reads (Read p n how args) (Read q m why brgs) h =
        two (λ (x : Edge) (xs : List Edge). x ∷ xs) _ _ _ _ (two (λ (k : ℕ) (g : Access). edge_to from k (weight_of g)) n m how why h.1 h.2) (same_all args brgs h.3)
    same_reads (Window p n args) (Window q m brgs) h = join _ _ _ _ (ap (λ (k : ℕ). window_edge from (slice_get ws k)) h.1) (same_all args brgs h.2)
    same_reads (Defaults' p u a v b) (Defaults' q x c y d) h = join _ _ _ _ (same_reads a c h.1) (same_reads b d h.2)
    same_reads (Unary' p s u a) (Unary' q r x c) h = same_reads a c h.2
    same_reads (Both' p s u a v b) (Both' q r x c y d) h = join _ _ _ _ (same_reads a c h.2) (same_reads b d h.3)
    same_reads (Choice' p u a v b w e) (Choice' q x c y d z f) h = join _ _ _ _ (same_reads a c h.1) (join _ _ _ _ (same_reads b d h.2) (same_reads e f h.3))
    same_reads _ _ h = absurd h

    same_all : (args brgs : Arguments) → SameArguments args brgs → reads_all ws from args ≡ reads_all ws from brgs
    same_all End End h = refl
    same_all (More' u a v rest) (More' x c y more) h = join _ _ _ _ (same_reads a c h.0) (same_all rest more h.1)
    same_all _ _ h = absurd h

  module _ (s : Setting) where
    mutual
      filled_reads : (e : Expr) → reads ws from (filled s e) ≡ reads ws from e
      filled_reads (Literal p v) = refl
      filled_reads (Parameter p i) = refl
      filled_reads (Read p n how args) = ap (λ (xs : List Edge). edge_to from n (weight_of how) ∷ xs) (filled_all_reads (parameters_at s n) args)
      filled_reads (Window p w args) = join _ _ _ _ refl (filled_all_reads (window_parameters s (slice_get s.windows w)) args)
      filled_reads (Defaults' p u a v b) =
          let o = taken (found s (Defaults' p u a v b)) in
          join _ _ _ _ (filled_if_free_reads o (found s a) (filled s a) ∙ filled_reads a) (filled_if_free_reads o (found s b) (filled s b) ∙ filled_reads b)
      filled_reads (Unary' p g u a) = filled_if_free_reads (taken (found s (Unary' p g u a))) (found s a) (filled s a) ∙ filled_reads a
      filled_reads (Both' p g u a v b) =
          let o = operand_kind g (found s (Both' p g u a v b)) (joint (found s a) (found s b)) in
          join _ _ _ _ (filled_if_free_reads o (found s a) (filled s a) ∙ filled_reads a) (filled_if_free_reads o (found s b) (filled s b) ∙ filled_reads b)
      filled_reads (Choice' p u t v a w b) =
          let o = taken (found s (Choice' p u t v a w b)) in
          join _ _ _ _ (filled_reads t)
          (join _ _ _ _ (filled_if_free_reads o (found s a) (filled s a) ∙ filled_reads a) (filled_if_free_reads o (found s b) (filled s b) ∙ filled_reads b))

      filled_all_reads : (ks : List Kind) (args : Arguments) → reads_all ws from (filled_all s ks args) ≡ reads_all ws from args
      filled_all_reads ks End = refl
      filled_all_reads ks (More' u a v rest) =
          join _ _ _ _ (filled_if_free_reads (slice_get ks 0) (found s a) (filled s a) ∙ filled_reads a) (filled_all_reads (drop 1 ks) rest)

    whole_reads : (k : Kind) (e f : Expr) → SameTree (filled_whole s k e) f → reads ws from e ≡ reads ws from f
    whole_reads k e f h = sym (filled_if_free_reads (number_kind k) (found s e) (filled s e) ∙ filled_reads e) ∙ same_reads (filled_whole s k e) f h

    when_filled : (o u : Option Expr) → FilledWhen s o u → when_reads ws from o ≡ when_reads ws from u
    when_filled None None h = refl
    when_filled None (Some f) h = absurd h
    when_filled (Some e) None h = absurd h
    when_filled (Some e) (Some f) h = whole_reads kind.Bool e f h

    with_filled : (wants : List Kind) (es fs : List Expr) → FilledWith s wants es fs → with_reads ws from es ≡ with_reads ws from fs
    with_filled wants [] [] h = refl
    with_filled wants [] (f ∷ fs) h = absurd h
    with_filled wants (e ∷ es) [] h = absurd h
    with_filled wants (e ∷ es) (f ∷ fs) h = join _ _ _ _ (whole_reads (unwrap_or (slice_get wants 0) kind.Int64) e f h.0) (with_filled (drop 1 wants) es fs h.1)

    clause_filled : (wants : List Kind) (c d : Option Clause) → FilledClauses s wants c d → clause_reads ws from c ≡ clause_reads ws from d
    clause_filled wants None None h = refl
    clause_filled wants None (Some d) h = absurd h
    clause_filled wants (Some c) None h = absurd h
    clause_filled wants (Some c) (Some d) h = join _ _ _ _ (when_filled c.when d.when h.condition) (with_filled wants c.with d.with h.expressions)

spawn_filled : (s : Setting) (wants : List Kind) (n : ℕ) (c d : Option Clause) → FilledClauses s wants c d → to_spawn n c ≡ to_spawn n d
spawn_filled s wants n None None h = refl
spawn_filled s wants n None (Some d) h = absurd h
spawn_filled s wants n (Some c) None h = absurd h
spawn_filled s wants n (Some c) (Some d) h = refl

edges_filled : (ws : List WindowSpec) (s : Setting) (n : ℕ) (ks : List (Option Kind)) (as' bs : List Stream) → FilledStreams s ks as' bs → edges_from ws n as' ≡ edges_from ws n bs
edges_filled ws s n ks [] [] h = refl
edges_filled ws s n ks [] (b ∷ bs) h = absurd h
edges_filled ws s n ks (a ∷ as') [] h = absurd h
edges_filled ws s n ks (a ∷ as') (b ∷ bs) h =
    join _ _ _ _ (spawn_filled _ _ n a.spawn b.spawn h.0.spawn)
    (join _ _ _ _ (clause_filled ws (spawn_node n) _ _ a.spawn b.spawn h.0.spawn)
    (join _ _ _ _ (clause_filled ws (eval_node n) _ _ a.eval b.eval h.0.eval) (edges_filled ws s (n + 1) (drop 1 ks) as' bs h.1)))

pub full_edges : (spec full : Spec) → IsFilled spec full → edges_of spec ≡ edges_of full
full_edges spec full h = edges_filled spec.windows _ 0 _ spec.streams full.streams h.streams ∙ ap (λ (ws : List WindowSpec). edges_from ws 0 full.streams) (sym h.windows)

-- ---- places

abbrev pub places : List Stream → List ℕ
places ss = map (λ (s : Stream). s.place) ss

pub places_alike : (ws vs : List WindowSpec) (as' bs : List Stream) → AlikeStreams ws vs as' bs → places as' ≡ places bs
places_alike ws vs [] [] h = refl
places_alike ws vs [] (b ∷ bs) h = absurd h
places_alike ws vs (a ∷ as') [] h = absurd h
places_alike ws vs (a ∷ as') (b ∷ bs) h = two (λ (x : ℕ) (xs : List ℕ). x ∷ xs) _ _ _ _ h.0.place (places_alike ws vs as' bs h.1)

pub places_filled : (s : Setting) (ks : List (Option Kind)) (as' bs : List Stream) → FilledStreams s ks as' bs → places as' ≡ places bs
places_filled s ks [] [] h = refl
places_filled s ks [] (b ∷ bs) h = absurd h
places_filled s ks (a ∷ as') [] h = absurd h
places_filled s ks (a ∷ as') (b ∷ bs) h = two (λ (x : ℕ) (xs : List ℕ). x ∷ xs) _ _ _ _ h.0.place (places_filled s (drop 1 ks) as' bs h.1)

none_there : (s : Stream) → None ≡ Some s → ⊥
none_there s e = cc

the_place : (a s : Stream) → Some a ≡ Some s → Some a.place ≡ Some s.place
the_place a s e = let same : a ≡ s = cc in ap (λ (x : Stream). Some x.place) same

pub place_in : (ss : List Stream) (n : ℕ) (s : Stream) → slice_get ss n ≡ Some s → slice_get (places ss) n ≡ Some s.place
place_in [] n s e = absurd (none_there s e)
place_in (a ∷ ss) zero s e = the_place a s e
place_in (a ∷ ss) (suc n) s e = place_in ss n s e
