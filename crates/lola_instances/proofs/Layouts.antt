-- The layouts of the streams of a plan, one after another.
use Rattle.std.proofs.Common.{◌≡◌, ℕ, zero, suc, ◌+◌, ◌<◌, List, [], ◌∷◌, length, drop, refl, ap, sym, ◌∙◌, Some, slice_get, get_or, drop-cons, drop-drop, add-one}
use Rattle.lola_model.specs.Store.{layouts_from}
use Rattle.lola_model.specs.declared.pacing.ClausePacings.{ClausePacings}
use Rattle.lola_model.specs.declared.spec.Stream.{Stream}
use Rattle.lola_instances.specs.Layouts.{first_kept, first_locals, stream_layout}

-- the layout of the stream of a number
pub layouts_at : (ss : List Stream) (kept : List ℕ) (pacings : List ClausePacings) (i : ℕ) (s : Stream) → slice_get ss i ≡ Some s
    → slice_get (layouts_from ss kept pacings) i ≡ Some (stream_layout s (first_kept (drop i kept)) (first_locals (drop i pacings)))
layouts_at [] kept pacings zero s e = absurd (cc)
layouts_at [] kept pacings (suc i) s e = absurd (cc)
layouts_at (x ∷ ss) kept pacings zero s e = let q : x ≡ s = cc in ap (λ (z : Stream). Some (stream_layout z (first_kept kept) (first_locals pacings))) q
layouts_at (x ∷ ss) kept pacings (suc i) s e =
    layouts_at ss (drop 1 kept) (drop 1 pacings) i s e ∙ (λ j. Some (stream_layout s (first_kept (dropped_twice kept i j)) (first_locals (dropped_twice pacings i j))))
  where
    dropped_twice : {X : Type 0} (ks : List X) (i : ℕ) → drop i (drop 1 ks) ≡ drop (suc i) ks
    dropped_twice [] zero = refl
    dropped_twice [] (suc i) = refl
    dropped_twice (k ∷ ks) i = refl

-- one more stream
pub layouts_more : (ss : List Stream) (kept : List ℕ) (pacings : List ClausePacings) (i : ℕ) (s : Stream) → i < length ss → s ≡ get_or ss i s
    → layouts_from (drop i ss) (drop i kept) (drop i pacings) ≡ stream_layout s (first_kept (drop i kept)) (first_locals (drop i pacings)) ∷ layouts_from (drop (i + 1) ss) (drop (i + 1) kept) (drop (i + 1) pacings)
layouts_more ss kept pacings i s l e =
    let cut : drop i ss ≡ s ∷ drop (i + 1) ss = drop-cons ss i s l ∙ (λ j. sym e j ∷ drop (sym (add-one i) j) ss) in
    ap (λ xs. layouts_from xs (drop i kept) (drop i pacings)) cut
    ∙ (λ j. stream_layout s (first_kept (drop i kept)) (first_locals (drop i pacings)) ∷ layouts_from (drop (i + 1) ss) (drop-drop 1 i kept j) (drop-drop 1 i pacings j))
