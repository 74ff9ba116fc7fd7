-- What a specification keeps when its kinds are filled in: names, numbers, windows and shapes.
use Rattle.std.proofs.Common.{◌≡◌, ℕ, ◌+◌, refl, ap, sym, ◌∙◌, subst, Bool, true, false, ◌&&◌, List, [], ◌∷◌, ◌++◌, Option, Some, None, slice_get, unwrap_or, drop}
use Rattle.lola_value.specs.declared.value.Kind.{Kind}
use Rattle.lola_value.specs.declared.value.Kind.TheVariants as kind
use Rattle.lola_model.specs.Accepted.{IsInRange, IsWhenInRange, IsWithInRange, IsClauseInRange, AreClausesInRange}
use Rattle.lola_model.specs.Parts.{listed, listed_when, listed_with, listed_clause, listed_streams}
use Rattle.lola_model.specs.Wholes.{Whole, condition_wholes, with_wholes, clause_wholes, stream_wholes, wholes_from, all_wholes}
use Rattle.lola_model.specs.declared.expr.Expr.{Expr}
use Rattle.lola_model.specs.declared.spec.Clause.{Clause}
use Rattle.lola_model.specs.declared.spec.Part.{Part}
use Rattle.lola_model.specs.declared.spec.Part.TheVariants as part
use Rattle.lola_model.specs.declared.spec.Stream.{Stream}
use Rattle.lola_types.specs.Found.{Setting, found}
use Rattle.lola_types.specs.Refused.{number_kind, with_parameters}
use Rattle.lola_types.specs.Filled.{filled, filled_whole, SameTree, FilledWhen, FilledWith, FilledClauses, FilledStream, FilledStreams}
use Rattle.lola_front.proofs.Alike.{Alike, Any, same_alike, alike_listed, alike_range, alike_filled_if_free, alike_filled}
use Rattle.lola_front.proofs.Bools.{and_same, append_same}

-- an expression and what it is filled in to, with other boxes
abbrev pub IsKept : Expr → Expr → Type 0
IsKept e f = (m : Expr) × Alike Any e m × Alike Any m f

kept_whole : (s : Setting) (want : Kind) (e f : Expr) → SameTree (filled_whole s want e) f → IsKept e f
kept_whole s want e f h = (filled_whole s want e, alike_filled_if_free (number_kind want) (found s e) e (filled s e) (alike_filled s e), same_alike Any (λ p q x. tt) (filled_whole s want e) f h)

-- what is listed of the parts

module _ (A : Type 0) (t : Expr → List A) (same : (e f : Expr) → Alike Any e f → t e ≡ t f) where
  pub kept_listed : (e f : Expr) → IsKept e f → listed t e ≡ listed t f
  kept_listed e f k = alike_listed Any A t same e k.0 k.1 ∙ alike_listed Any A t same k.0 f k.2

  listed_when_kept : (s : Setting) (o q : Option Expr) → FilledWhen s o q → listed_when t o ≡ listed_when t q
  listed_when_kept s None None h = refl
  listed_when_kept s (Some e) (Some f) h = kept_listed e f (kept_whole s kind.Bool e f h)
  listed_when_kept s None (Some f) h = absurd h
  listed_when_kept s (Some e) None h = absurd h

  listed_with_kept : (s : Setting) (wants : List Kind) (es fs : List Expr) → FilledWith s wants es fs → listed_with t es ≡ listed_with t fs
  listed_with_kept s wants [] [] h = refl
  listed_with_kept s wants (e ∷ es) (f ∷ fs) h = append_same _ _ _ _ (kept_listed e f (kept_whole s (unwrap_or (slice_get wants 0) kind.Int64) e f h.0)) (listed_with_kept s (drop 1 wants) es fs h.1)
  listed_with_kept s wants [] (f ∷ fs) h = absurd h
  listed_with_kept s wants (e ∷ es) [] h = absurd h

  listed_clause_kept : (s : Setting) (wants : List Kind) (o q : Option Clause) → FilledClauses s wants o q → listed_clause t o ≡ listed_clause t q
  listed_clause_kept s wants None None h = refl
  listed_clause_kept s wants (Some c) (Some d) h = append_same _ _ _ _ (listed_when_kept s c.when d.when h.condition) (listed_with_kept s wants c.with d.with h.expressions)
  listed_clause_kept s wants None (Some d) h = absurd h
  listed_clause_kept s wants (Some c) None h = absurd h

  pub listed_streams_kept : (s : Setting) (kinds : List (Option Kind)) (as' bs : List Stream) → FilledStreams s kinds as' bs → listed_streams t as' ≡ listed_streams t bs
  listed_streams_kept s kinds [] [] h = refl
  listed_streams_kept s kinds (a ∷ as') (b ∷ bs) h =
      let k = unwrap_or (unwrap_or (slice_get kinds 0) None) kind.Int64 in
      append_same _ _ _ _
      (append_same _ _ _ _ (listed_clause_kept (with_parameters s []) a.parameters a.spawn b.spawn h.0.spawn)
      (append_same _ _ _ _ (listed_clause_kept (with_parameters s a.parameters) (k ∷ []) a.eval b.eval h.0.eval)
      (listed_clause_kept (with_parameters s a.parameters) [] a.close b.close h.0.close)))
      (listed_streams_kept s (drop 1 kinds) as' bs h.1)
  listed_streams_kept s kinds [] (b ∷ bs) h = absurd h
  listed_streams_kept s kinds (a ∷ as') [] h = absurd h

-- tests of wholes, which tell filled ones not apart

abbrev whole : ℕ → Part → List Kind → Kind → ℕ → Expr → Whole
whole n p ks want at e = record { stream = n; clause = p; parameters = ks; want = want; before = at; expr = e }

and_assoc : (a b c : Bool) → (a && b) && c ≡ (a && (b && c))
and_assoc true b c = refl
and_assoc false b c = refl

wholes_append : (f : Whole → Bool) (xs ys : List Whole) → all_wholes f (xs ++ ys) ≡ (all_wholes f xs && all_wholes f ys)
wholes_append f [] ys = refl
wholes_append f (x ∷ xs) ys = ap (λ b. f x && b) (wholes_append f xs ys) ∙ sym (and_assoc (f x) (all_wholes f xs) (all_wholes f ys))

module _ (f g : Whole → Bool) (same : (n : ℕ) (p : Part) (ks : List Kind) (k l : Kind) (at bt : ℕ) (e d : Expr) → IsKept e d → f (whole n p ks k at e) ≡ g (whole n p ks l bt d)) where
  wholes_same : (xs ys us vs : List Whole) → all_wholes f xs ≡ all_wholes g us → all_wholes f ys ≡ all_wholes g vs → all_wholes f (xs ++ ys) ≡ all_wholes g (us ++ vs)
  wholes_same xs ys us vs p q = wholes_append f xs ys ∙ (and_same _ _ _ _ p q ∙ sym (wholes_append g us vs))

  module _ (n : ℕ) (p : Part) (ks : List Kind) (s : Setting) where
    wholes_when : (at bt : ℕ) (o q : Option Expr) → FilledWhen s o q → all_wholes f (condition_wholes n p ks at o) ≡ all_wholes g (condition_wholes n p ks bt q)
    wholes_when at bt None None h = refl
    wholes_when at bt (Some e) (Some d) h = ap (λ b. b && true) (same n p ks kind.Bool kind.Bool at bt e d (kept_whole s kind.Bool e d h))
    wholes_when at bt None (Some d) h = absurd h
    wholes_when at bt (Some e) None h = absurd h

    wholes_with : (wants us vs : List Kind) (ats bts : List ℕ) (es ds : List Expr) → FilledWith s wants es ds → all_wholes f (with_wholes n p ks us ats es) ≡ all_wholes g (with_wholes n p ks vs bts ds)
    wholes_with wants us vs ats bts [] [] h = refl
    wholes_with wants us vs ats bts (e ∷ es) (d ∷ ds) h =
        and_same _ _ _ _
        (same n p ks (unwrap_or (slice_get us 0) kind.Int64) (unwrap_or (slice_get vs 0) kind.Int64) (unwrap_or (slice_get ats 0) 0) (unwrap_or (slice_get bts 0) 0) e d (kept_whole s (unwrap_or (slice_get wants 0) kind.Int64) e d h.0))
        (wholes_with (drop 1 wants) (drop 1 us) (drop 1 vs) (drop 1 ats) (drop 1 bts) es ds h.1)
    wholes_with wants us vs ats bts [] (d ∷ ds) h = absurd h
    wholes_with wants us vs ats bts (e ∷ es) [] h = absurd h

    wholes_clause : (wants us vs : List Kind) (o q : Option Clause) → FilledClauses s wants o q → all_wholes f (clause_wholes n p ks us o) ≡ all_wholes g (clause_wholes n p ks vs q)
    wholes_clause wants us vs None None h = refl
    wholes_clause wants us vs (Some c) (Some d) h =
        wholes_same (condition_wholes n p ks c.when_at c.when) (with_wholes n p ks us c.with_at c.with) (condition_wholes n p ks d.when_at d.when) (with_wholes n p ks vs d.with_at d.with)
        (wholes_when c.when_at d.when_at c.when d.when h.condition) (wholes_with wants us vs c.with_at d.with_at c.with d.with h.expressions)
    wholes_clause wants us vs None (Some d) h = absurd h
    wholes_clause wants us vs (Some c) None h = absurd h

  wholes_stream : (s : Setting) (n : ℕ) (k l m : Kind) (a b : Stream) (ps : List Kind) → a.parameters ≡ ps → FilledStream s k a b
      → all_wholes f (stream_wholes n a l) ≡ all_wholes g (clause_wholes n part.Spawn [] ps b.spawn ++ (clause_wholes n part.Eval ps (m ∷ []) b.eval ++ clause_wholes n part.Close ps [] b.close))
  wholes_stream s n k l m a b ps e h =
      subst (λ ps. all_wholes f (stream_wholes n a l) ≡ all_wholes g (clause_wholes n part.Spawn [] ps b.spawn ++ (clause_wholes n part.Eval ps (m ∷ []) b.eval ++ clause_wholes n part.Close ps [] b.close))) e
      (wholes_same (clause_wholes n part.Spawn [] a.parameters a.spawn) (clause_wholes n part.Eval a.parameters (l ∷ []) a.eval ++ clause_wholes n part.Close a.parameters [] a.close)
      (clause_wholes n part.Spawn [] a.parameters b.spawn) (clause_wholes n part.Eval a.parameters (m ∷ []) b.eval ++ clause_wholes n part.Close a.parameters [] b.close)
      (wholes_clause n part.Spawn [] (with_parameters s []) a.parameters a.parameters a.parameters a.spawn b.spawn h.spawn)
      (wholes_same (clause_wholes n part.Eval a.parameters (l ∷ []) a.eval) (clause_wholes n part.Close a.parameters [] a.close)
      (clause_wholes n part.Eval a.parameters (m ∷ []) b.eval) (clause_wholes n part.Close a.parameters [] b.close)
      (wholes_clause n part.Eval a.parameters (with_parameters s a.parameters) (k ∷ []) (l ∷ []) (m ∷ []) a.eval b.eval h.eval)
      (wholes_clause n part.Close a.parameters (with_parameters s a.parameters) [] [] [] a.close b.close h.close)))

  pub wholes_kept : (s : Setting) (n : ℕ) (kinds us vs : List (Option Kind)) (as' bs : List Stream) → FilledStreams s kinds as' bs → all_wholes f (wholes_from n as' us) ≡ all_wholes g (wholes_from n bs vs)
  wholes_kept s n kinds us vs [] [] h = refl
  wholes_kept s n kinds us vs (a ∷ as') (b ∷ bs) h =
      let l = unwrap_or (unwrap_or (slice_get us 0) None) kind.Int64 in
      let m = unwrap_or (unwrap_or (slice_get vs 0) None) kind.Int64 in
      wholes_same (stream_wholes n a l) (wholes_from (n + 1) as' (drop 1 us)) (stream_wholes n b m) (wholes_from (n + 1) bs (drop 1 vs))
      (wholes_stream s n (unwrap_or (unwrap_or (slice_get kinds 0) None) kind.Int64) l m a b b.parameters h.0.parameters h.0)
      (wholes_kept s (n + 1) (drop 1 kinds) (drop 1 us) (drop 1 vs) as' bs h.1)
  wholes_kept s n kinds us vs [] (b ∷ bs) h = absurd h
  wholes_kept s n kinds us vs (a ∷ as') [] h = absurd h

-- numbers in range

module _ (S W : ℕ) where
  kept_range : (e f : Expr) → IsKept e f → IsInRange S W e → IsInRange S W f
  kept_range e f k r = alike_range Any S W k.0 f k.2 (alike_range Any S W e k.0 k.1 r)

  when_range : (s : Setting) (o q : Option Expr) → FilledWhen s o q → IsWhenInRange S W o → IsWhenInRange S W q
  when_range s None None h r = tt
  when_range s (Some e) (Some f) h r = kept_range e f (kept_whole s kind.Bool e f h) r
  when_range s None (Some f) h r = absurd h
  when_range s (Some e) None h r = absurd h

  with_range : (s : Setting) (wants : List Kind) (es fs : List Expr) → FilledWith s wants es fs → IsWithInRange S W es → IsWithInRange S W fs
  with_range s wants [] [] h r = tt
  with_range s wants (e ∷ es) (f ∷ fs) h r = (kept_range e f (kept_whole s (unwrap_or (slice_get wants 0) kind.Int64) e f h.0) r.0, with_range s (drop 1 wants) es fs h.1 r.1)
  with_range s wants [] (f ∷ fs) h r = absurd h
  with_range s wants (e ∷ es) [] h r = absurd h

  clause_range : (s : Setting) (wants : List Kind) (o q : Option Clause) → FilledClauses s wants o q → IsClauseInRange S W o → IsClauseInRange S W q
  clause_range s wants None None h r = tt
  clause_range s wants (Some c) (Some d) h r = (when_range s c.when d.when h.condition r.0, with_range s wants c.with d.with h.expressions r.1)
  clause_range s wants None (Some d) h r = absurd h
  clause_range s wants (Some c) None h r = absurd h

  pub streams_range : (s : Setting) (kinds : List (Option Kind)) (as' bs : List Stream) → FilledStreams s kinds as' bs → AreClausesInRange S W as' → AreClausesInRange S W bs
  streams_range s kinds [] [] h r = tt
  streams_range s kinds (a ∷ as') (b ∷ bs) h r = (
    clause_range (with_parameters s []) a.parameters a.spawn b.spawn h.0.spawn r.0,
    clause_range (with_parameters s a.parameters) (unwrap_or (unwrap_or (slice_get kinds 0) None) kind.Int64 ∷ []) a.eval b.eval h.0.eval r.1,
    clause_range (with_parameters s a.parameters) [] a.close b.close h.0.close r.2,
    streams_range s (drop 1 kinds) as' bs h.1 r.3,
  )
  streams_range s kinds [] (b ∷ bs) h r = absurd h
  streams_range s kinds (a ∷ as') [] h r = absurd h
