-- Whole expressions, one list after another.
use Rattle.std.proofs.Common.{ℕ, zero, suc, ◌+◌, ◌<◌, ◌≡◌, refl, ap, sym, ◌∙◌, arith, List, [], ◌∷◌, ◌++◌, Option, Some, None, length, drop, get_or, slice_get, unwrap_or, flat_map, drop-cons, add-one}
use Rattle.std.proofs.lemmas.Grind.{flat_map-append}
use Rattle.std.proofs.Math.Seq.{drop-length}
use Rattle.lola_value.specs.declared.front.Code.TheVariants as code
use Rattle.lola_value.specs.declared.front.Refusal.{Refusal}
use Rattle.lola_model.specs.Refusals.{earlier, first_of}
use Rattle.lola_value.specs.declared.value.Kind.{Kind}
use Rattle.lola_value.specs.declared.value.Kind.TheVariants as kind
use Rattle.lola_model.specs.declared.expr.Expr.{Expr}
use Rattle.lola_model.specs.declared.spec.Part.{Part}
use Rattle.lola_model.specs.declared.spec.Stream.{Stream}
use Rattle.lola_model.specs.Wholes.{Whole, with_wholes, stream_wholes, wholes_from}
use Rattle.lola_types.specs.Found.{Setting}
use Rattle.lola_types.specs.Refused.{with_more, whole_refusals, with_parameters, refusals_of_whole, range_refusals}
use Rattle.lola_types.proofs.Noted.{more_of_none, more_of_one, more_of_both, more_of_all}

pub more_of_wholes : (o : Option Refusal) (s : Setting) (xs ys : List Whole)
    → with_more o (flat_map (refusals_of_whole s) (xs ++ ys)) ≡ with_more (with_more o (flat_map (refusals_of_whole s) xs)) (flat_map (refusals_of_whole s) ys)
more_of_wholes o s xs ys = ap (with_more o) (flat_map-append (refusals_of_whole s) xs ys) ∙ more_of_both o (flat_map (refusals_of_whole s) xs) (flat_map (refusals_of_whole s) ys)

pub get_of_drop : {A : Type 0} (i : ℕ) (xs : List A) → slice_get (drop i xs) 0 ≡ slice_get xs i
get_of_drop zero xs = refl
get_of_drop (suc i) [] = refl
get_of_drop (suc i) (x ∷ xs) = get_of_drop i xs

pub drop_of_drop : {A : Type 0} (i : ℕ) (xs : List A) → drop 1 (drop i xs) ≡ drop (suc i) xs
drop_of_drop zero xs = refl
drop_of_drop (suc i) [] = refl
drop_of_drop (suc i) (x ∷ xs) = drop_of_drop i xs

module _ (o : Option Refusal) (s : Setting) where
  -- an expression behind `with`, and those behind it
  with_tail : ℕ → Part → List Kind → Option Kind → Option ℕ → Expr → List Kind → List ℕ → List Expr → Option Refusal
  with_tail n p ks want at e wants ats es =
      with_more (with_more o (whole_refusals (with_parameters s ks) (unwrap_or want kind.Int64) (unwrap_or at 0) e)) (flat_map (refusals_of_whole s) (with_wholes n p ks wants ats es))

  pub with_step : (n : ℕ) (p : Part) (ks wants : List Kind) (ats : List ℕ) (es : List Expr) (i : ℕ) (e : Expr) → i < length es → e ≡ get_or es i e
      → with_more o (flat_map (refusals_of_whole s) (with_wholes n p ks (drop i wants) (drop i ats) (drop i es)))
      ≡ with_more (with_more o (whole_refusals (with_parameters s ks) (unwrap_or (slice_get wants i) kind.Int64) (unwrap_or (slice_get ats i) 0) e)) (flat_map (refusals_of_whole s) (with_wholes n p ks (drop (i + 1) wants) (drop (i + 1) ats) (drop (i + 1) es)))
  unfolding with_tail
  with_step n p ks wants ats es i e h f =
      let c : drop i es ≡ e ∷ drop (suc i) es = drop-cons es i e h ∙ ap (λ z. z ∷ drop (suc i) es) (sym f) in
      ap (λ z. with_more o (flat_map (refusals_of_whole s) (with_wholes n p ks (drop i wants) (drop i ats) z))) c
      ∙ (more_of_both o _ _
      ∙ (ap (λ z. with_tail n p ks z (slice_get (drop i ats) 0) e (drop 1 (drop i wants)) (drop 1 (drop i ats)) (drop (suc i) es)) (get_of_drop i wants)
      ∙ (ap (λ z. with_tail n p ks (slice_get wants i) z e (drop 1 (drop i wants)) (drop 1 (drop i ats)) (drop (suc i) es)) (get_of_drop i ats)
      ∙ (ap (λ z. with_tail n p ks (slice_get wants i) (slice_get ats i) e z (drop 1 (drop i ats)) (drop (suc i) es)) (drop_of_drop i wants)
      ∙ (ap (λ z. with_tail n p ks (slice_get wants i) (slice_get ats i) e (drop (suc i) wants) z (drop (suc i) es)) (drop_of_drop i ats)
      ∙ ap (λ z. with_tail n p ks (slice_get wants i) (slice_get ats i) e (drop z wants) (drop z ats) (drop z es)) (sym (add-one i)))))))

  -- a stream, and those behind it
  stream_tail : ℕ → Option (Option Kind) → Stream → List (Option Kind) → List Stream → Option Refusal
  stream_tail n k t kinds ss =
      with_more (with_more o (flat_map (refusals_of_whole s) (stream_wholes n t (unwrap_or (unwrap_or k None) kind.Int64)))) (flat_map (refusals_of_whole s) (wholes_from (n + 1) ss kinds))

  pub stream_step : (kinds : List (Option Kind)) (ss : List Stream) (i : ℕ) (t : Stream) → i < length ss → t ≡ get_or ss i t
      → with_more o (flat_map (refusals_of_whole s) (wholes_from i (drop i ss) (drop i kinds)))
      ≡ with_more (with_more o (flat_map (refusals_of_whole s) (stream_wholes i t (unwrap_or (unwrap_or (slice_get kinds i) None) kind.Int64)))) (flat_map (refusals_of_whole s) (wholes_from (i + 1) (drop (i + 1) ss) (drop (i + 1) kinds)))
  unfolding stream_tail
  stream_step kinds ss i t h f =
      let c : drop i ss ≡ t ∷ drop (suc i) ss = drop-cons ss i t h ∙ ap (λ z. z ∷ drop (suc i) ss) (sym f) in
      ap (λ z. with_more o (flat_map (refusals_of_whole s) (wholes_from i z (drop i kinds)))) c
      ∙ (more_of_wholes o s (stream_wholes i t (unwrap_or (unwrap_or (slice_get (drop i kinds) 0) None) kind.Int64)) (wholes_from (i + 1) (drop (suc i) ss) (drop 1 (drop i kinds)))
      ∙ (ap (λ z. stream_tail i z t (drop 1 (drop i kinds)) (drop (suc i) ss)) (get_of_drop i kinds)
      ∙ (ap (λ z. stream_tail i (slice_get kinds i) t z (drop (suc i) ss)) (drop_of_drop i kinds)
      ∙ ap (λ z. stream_tail i (slice_get kinds i) t (drop z kinds) (drop z ss)) (sym (add-one i)))))

-- an element of a list, and those behind it
pub map_step : {X : Type 0} (f : X → List Refusal) (o : Option Refusal) (xs : List X) (i : ℕ) (d : X) → i < length xs
    → with_more o (flat_map f (drop i xs)) ≡ with_more (with_more o (f (get_or xs i d))) (flat_map f (drop (i + 1) xs))
map_step f o xs i d h =
    ap (λ z. with_more o (flat_map f z)) (drop-cons xs i d h)
    ∙ (more_of_both o (f (get_or xs i d)) (flat_map f (drop (suc i) xs))
    ∙ ap (λ z. with_more (with_more o (f (get_or xs i d))) (flat_map f (drop z xs))) (sym (add-one i)))

pub range_step : (o : Option Refusal) (xs : List ℕ) (i d : ℕ) → i < length xs
    → with_more o (range_refusals (drop i xs)) ≡ with_more (earlier o (Some (record { code = code.LiteralRange; at = get_or xs i d }))) (range_refusals (drop (i + 1) xs))
range_step o xs i d h =
    ap (λ z. with_more o (range_refusals z)) (drop-cons xs i d h)
    ∙ (more_of_both o (record { code = code.LiteralRange; at = get_or xs i d } ∷ []) (range_refusals (drop (suc i) xs))
    ∙ (ap (λ z. with_more z (range_refusals (drop (suc i) xs))) (sym (more_of_one o (record { code = code.LiteralRange; at = get_or xs i d })))
    ∙ ap (λ z. with_more (earlier o (Some (record { code = code.LiteralRange; at = get_or xs i d }))) (range_refusals (drop z xs))) (sym (add-one i))))

-- nothing is left
pub at_end : {X : Type 0} (f : List X → List Refusal) (o : Option Refusal) (xs : List X) (i : ℕ) → i ≡ length xs → f [] ≡ [] → with_more o (f (drop i xs)) ≡ o
at_end f o xs i h e = ap (λ z. with_more o (f (drop z xs))) h ∙ (ap (λ z. with_more o (f z)) (drop-length xs) ∙ (ap (with_more o) e ∙ more_of_none o))

-- three lists one after another, from nothing
pub first_of_three : (xs ys zs : List Refusal) → with_more (with_more (with_more None xs) ys) zs ≡ first_of (xs ++ (ys ++ zs))
first_of_three xs ys zs = sym (more_of_both (with_more None xs) ys zs) ∙ (sym (more_of_both None xs (ys ++ zs)) ∙ more_of_all (xs ++ (ys ++ zs)))
