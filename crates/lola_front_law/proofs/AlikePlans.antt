-- Of all specifications that a text is resolved to, kinds filled in, the windows are the same, and so are the offsets onto each stream.
use Rattle.std.proofs.Common.{◌≡◌, refl, sym, ap, subst, ◌∙◌, ℕ, zero, suc, ◌+◌, ◌<◌, List, [], ◌∷◌, ◌++◌, Some, length, slice_get, nat_eq, if◌then◌else◌, arith}
use Rattle.lola_parser_grammar.specs.declared.declarations.Declaration.{Declaration}
use Rattle.lola_model.specs.Bounds.{offset_by, offset_onto, offsets_onto}
use Rattle.lola_model.specs.Named.{counted, window_number}
use Rattle.lola_model.specs.Parts.{listed_streams}
use Rattle.lola_model.specs.declared.expr.Access.{Access}
use Rattle.lola_model.specs.declared.expr.Expr.{Expr}
use Rattle.lola_model.specs.declared.expr.Expr.TheVariants.{Literal, Parameter, Read, Window, Defaults', Unary', Both', Choice'}
use Rattle.lola_model.specs.declared.spec.Spec.{Spec}
use Rattle.lola_model.specs.declared.spec.Stream.{Stream}
use Rattle.lola_model.specs.declared.spec.WindowSpec.{WindowSpec}
use Rattle.lola_names.specs.Specification.{Resolves}
use Rattle.lola_types.specs.Filled.{IsFilled}
use Rattle.lola_front_law.proofs.AlikeTrees.{Alike, AnyNumbers}
use Rattle.lola_front_law.proofs.AlikeKinds.{two}
use Rattle.lola_front_law.proofs.AlikeListed.{listed_of_streams}
use Rattle.lola_front_law.proofs.AlikeStreams.{AlikeStreams}
use Rattle.lola_front_law.proofs.PacedExpressions.{IsSamePart, streams_listed}

-- ---- windows, which are numbered in the order of the text

module _ (ws vs : List WindowSpec) where
  -- numbers of equal windows
  abbrev SameNumbers : List ℕ → List ℕ → Type 0
  SameNumbers [] [] = Unit {0}
  SameNumbers (i ∷ is) (j ∷ js) = (slice_get ws i ≡ slice_get vs j) × SameNumbers is js
  SameNumbers _ _ = ⊥

  numbers_join : (is ks js ls : List ℕ) → SameNumbers is js → SameNumbers ks ls → SameNumbers (is ++ ks) (js ++ ls)
  numbers_join [] ks [] ls h k = k
  numbers_join (i ∷ is) ks (j ∷ js) ls h k = (h.0, numbers_join is ks js ls h.1 k)
  numbers_join [] ks (j ∷ js) ls h k = absurd h
  numbers_join (i ∷ is) ks [] ls h k = absurd h

  number_each : (e g : Expr) → Alike ws vs e g → SameNumbers (window_number e) (window_number g)
  number_each (Literal p v) (Literal q w) h = tt
  number_each (Parameter p i) (Parameter q j) h = tt
  number_each (Read p n how args) (Read q m why brgs) h = tt
  number_each (Window p n args) (Window q m brgs) h = (h.1, tt)
  number_each (Defaults' p u a v b) (Defaults' q x c y d) h = tt
  number_each (Unary' p s u a) (Unary' q r x c) h = tt
  number_each (Both' p s u a v b) (Both' q r x c y d) h = tt
  number_each (Choice' p u a v b w e) (Choice' q x c y d z g) h = tt
  number_each _ _ h = absurd h

  -- as many numbers from one on, pair by pair
  same_count : (from a b : ℕ) → SameNumbers (counted from a) (counted from b) → a ≡ b
  same_count from zero zero h = refl
  same_count from (suc a) (suc b) h = ap suc (same_count (from + 1) a b h.1)
  same_count from zero (suc b) h = absurd h
  same_count from (suc a) zero h = absurd h

  same_at : (from a b k : ℕ) → SameNumbers (counted from a) (counted from b) → k < a → slice_get ws (from + k) ≡ slice_get vs (from + k)
  same_at from (suc a) (suc b) zero h lt = let e : from + 0 ≡ from = omega arith in ap (λ (n : ℕ). slice_get ws n) e ∙ (h.0 ∙ ap (λ (n : ℕ). slice_get vs n) (sym e))
  same_at from (suc a) (suc b) (suc k) h lt =
      let e : from + suc k ≡ from + 1 + k = omega arith in
      ap (λ (n : ℕ). slice_get ws n) e ∙ (same_at (from + 1) a b k h.1 (omega (arith, lt)) ∙ ap (λ (n : ℕ). slice_get vs n) (sym e))
  same_at from zero b k h lt = absurd (omega (arith, lt))
  same_at from (suc a) zero k h lt = absurd h

by_numbers : (ws vs : List WindowSpec) → length ws ≡ length vs → ((k : ℕ) → k < length ws → slice_get ws k ≡ slice_get vs k) → ws ≡ vs
by_numbers [] [] e h = refl
by_numbers [] (v ∷ vs) e h = absurd (omega (arith, e))
by_numbers (w ∷ ws) [] e h = absurd (omega (arith, e))
by_numbers (w ∷ ws) (v ∷ vs) e h =
    let others = by_numbers ws vs (omega (arith, e)) (λ k lt. h (suc k) (omega (arith, lt))) in
    let first : Some w ≡ Some v = h 0 (omega arith) in
    cc

pub same_windows : (x y : Spec) (ds : List Declaration) → Resolves ds x → Resolves ds y → AlikeStreams x.windows y.windows x.streams y.streams → x.windows ≡ y.windows
same_windows x y ds a b alike =
    let listed =
    listed_of_streams AnyNumbers x.windows y.windows ℕ window_number (SameNumbers x.windows y.windows) tt (numbers_join x.windows y.windows) (number_each x.windows y.windows) x.streams y.streams alike
    in
    let left = subst (λ (is : List ℕ). SameNumbers x.windows y.windows is (listed_streams window_number y.streams)) a.window_numbers listed in
    let both = subst (λ (is : List ℕ). SameNumbers x.windows y.windows (counted 0 (length x.windows)) is) b.window_numbers left in
    by_numbers x.windows y.windows (same_count x.windows y.windows 0 (length x.windows) (length y.windows) both)
    (λ k lt.
    let from_start : 0 + k ≡ k = omega arith in
    sym (ap (λ (n : ℕ). slice_get x.windows n) from_start)
    ∙ (same_at x.windows y.windows 0 (length x.windows) (length y.windows) k both lt ∙ ap (λ (n : ℕ). slice_get y.windows n) from_start))

-- ---- offsets onto a stream

module _ (onto : ℕ) where
  offset_same : (n m : ℕ) (how why : Access) → n ≡ m → how ≡ why → (if nat_eq n onto then offset_by how else []) ≡ (if nat_eq m onto then offset_by why else [])
  offset_same n m how why e g = two (λ (k : ℕ) (x : Access). if nat_eq k onto then offset_by x else []) n m how why e g

  offset_each : (ws vs : List WindowSpec) (e g : Expr) → Alike ws vs e g → offset_onto onto e ≡ offset_onto onto g
  offset_each ws vs (Literal p v) (Literal q w) h = refl
  offset_each ws vs (Parameter p i) (Parameter q j) h = refl
  offset_each ws vs (Read p n how args) (Read q m why brgs) h = offset_same n m how why h.1 h.2
  offset_each ws vs (Window p n args) (Window q m brgs) h = refl
  offset_each ws vs (Defaults' p u a v b) (Defaults' q x c y d) h = refl
  offset_each ws vs (Unary' p s u a) (Unary' q r x c) h = refl
  offset_each ws vs (Both' p s u a v b) (Both' q r x c y d) h = refl
  offset_each ws vs (Choice' p u a v b w e) (Choice' q x c y d z g) h = refl
  offset_each ws vs _ _ h = absurd h

  offset_kept : (e g : Expr) → IsSamePart e g → offset_onto onto e ≡ offset_onto onto g
  offset_kept (Literal p v) (Literal q w) h = refl
  offset_kept (Parameter p i) (Parameter q j) h = refl
  offset_kept (Read p n how args) (Read q m why brgs) h = offset_same n m how why h.1 h.2
  offset_kept (Window p n args) (Window q m brgs) h = refl
  offset_kept (Defaults' p u a v b) (Defaults' q x c y d) h = refl
  offset_kept (Unary' p s u a) (Unary' q r x c) h = refl
  offset_kept (Both' p s u a v b) (Both' q r x c y d) h = refl
  offset_kept (Choice' p u a v b w e) (Choice' q x c y d z g) h = refl
  offset_kept _ _ h = absurd h

  offsets_alike : (ws vs : List WindowSpec) (as' bs : List Stream) → AlikeStreams ws vs as' bs → listed_streams (offset_onto onto) as' ≡ listed_streams (offset_onto onto) bs
  offsets_alike ws vs as' bs h =
      listed_of_streams AnyNumbers ws vs ℕ (offset_onto onto) (λ (xs ys : List ℕ). xs ≡ ys) refl (λ xs us ys os e g. two (λ (l r : List ℕ). l ++ r) xs ys us os e g) (offset_each ws vs) as' bs h

  offsets_filled : (spec full : Spec) → IsFilled spec full → offsets_onto onto spec ≡ offsets_onto onto full
  offsets_filled spec full h = streams_listed ℕ (offset_onto onto) offset_kept _ _ spec.streams full.streams h.streams

  pub same_offsets : (x y full other : Spec) → IsFilled x full → IsFilled y other → AlikeStreams x.windows y.windows x.streams y.streams → offsets_onto onto full ≡ offsets_onto onto other
  same_offsets x y full other a b alike =
      sym (offsets_filled x full a) ∙ (offsets_alike x.windows y.windows x.streams y.streams alike ∙ offsets_filled y other b)
