-- Each place among the panes of an instance is that of one window.
use Rattle.std.proofs.Common.{◌≡◌, ℕ, zero, suc, ◌+◌, ◌≤◌, ◌<◌, List, [], ◌∷◌, ◌++◌, length, take, drop, refl, ap, ◌∙◌, subst, arith, Some, slice_get, nat_eq, eq-eqb, if◌then◌else◌, Bool, true, false}
use Rattle.std.proofs.lemmas.Bool.{eqb-true}
use Rattle.lola_value.specs.declared.value.Kind.{Kind}
use Rattle.lola_model.specs.declared.plan.PaneSize.{PaneSize}
use Rattle.lola_model.specs.declared.spec.WindowSpec.{WindowSpec}
use Rattle.lola_instances.specs.Opening.{count_onto, onto, first_size, panes_for}

-- the window whose panes stand at a place of its target
pub record StandsAt (n k : ℕ) (ws : List WindowSpec) : Type 0 where
  pub i : ℕ
  pub w : WindowSpec
  pub at : slice_get ws i ≡ Some w
  pub target : w.target ≡ n
  pub place : count_onto n (take i ws) ≡ k

one_more : (n k : ℕ) (x : WindowSpec) (ws : List WindowSpec) (b : Bool) → nat_eq x.target n ≡ b → (r : StandsAt n k ws) → StandsAt n ((if b then 1 else 0) + k) (x ∷ ws)
one_more n k x ws b e r =
    record { i = suc r.i; w = r.w; at = r.at; target = r.target; place = (λ j. (if e j then 1 else 0) + r.place j) }

pub window_at : (n : ℕ) (ws : List WindowSpec) (k : ℕ) → k < count_onto n ws → StandsAt n k ws
window_at n [] k l = absurd (omega arith)
window_at n (x ∷ ws) k l =
    (elim (nat_eq x.target n) as (λ b. nat_eq x.target n ≡ b → k < (if b then 1 else 0) + count_onto n ws → StandsAt n k (x ∷ ws)) [
      | true ↦ λ e h. here k (λ m l. window_at n ws m l) e h
      | false ↦ λ e h. (let m : 0 + k ≡ k = omega arith in subst (λ (j : ℕ). StandsAt n j (x ∷ ws)) m (one_more n k x ws false e (window_at n ws k (omega (arith, h)))))
    ]) refl l
  where
    here : (k : ℕ) → ((m : ℕ) → m < count_onto n ws → StandsAt n m ws) → nat_eq x.target n ≡ true → k < 1 + count_onto n ws → StandsAt n k (x ∷ ws)
    here zero rest e h = record { i = 0; w = x; at = refl; target = eqb-true x.target n e; place = refl }
    here (suc k) rest e h = let m : 1 + k ≡ suc k = omega arith in subst (λ (j : ℕ). StandsAt n j (x ∷ ws)) m (one_more n k x ws true e (rest k (omega (arith, h))))

-- two windows onto one target stand at two places
some_same : {X : Type 0} {x y : X} → Some x ≡ Some y → x ≡ y
some_same q = cc

counts_first : (n : ℕ) (x : WindowSpec) (ws : List WindowSpec) (j : ℕ) → x.target ≡ n → 1 ≤ count_onto n (take (suc j) (x ∷ ws))
counts_first n x ws j e =
    let q : count_onto n (take (suc j) (x ∷ ws)) ≡ 1 + count_onto n (take j ws) = ap (λ (b : Bool). (if b then 1 else 0) + count_onto n (take j ws)) (eq-eqb x.target n e) in
    omega (arith, q)

pub one_window : (n : ℕ) (ws : List WindowSpec) (i j : ℕ) (v w : WindowSpec) → slice_get ws i ≡ Some v → slice_get ws j ≡ Some w → v.target ≡ n → w.target ≡ n
    → count_onto n (take i ws) ≡ count_onto n (take j ws) → i ≡ j
one_window n [] zero j v w a b e f q = absurd (cc)
one_window n [] (suc i) j v w a b e f q = absurd (cc)
one_window n (x ∷ ws) zero zero v w a b e f q = refl
one_window n (x ∷ ws) zero (suc j) v w a b e f q = absurd (omega (arith, q, counts_first n x ws j (ap (λ (z : WindowSpec). z.target) (some_same a) ∙ e)))
one_window n (x ∷ ws) (suc i) zero v w a b e f q = absurd (omega (arith, q, counts_first n x ws i (ap (λ (z : WindowSpec). z.target) (some_same b) ∙ f)))
one_window n (x ∷ ws) (suc i) (suc j) v w a b e f q = ap suc (one_window n ws i j v w a b e f (omega (arith, q)))

-- a stream has as many places as there are windows onto it
pub onto_count : (n : ℕ) (kind : Kind) (ws : List WindowSpec) (ps : List PaneSize) → length (onto n kind ws ps) ≡ count_onto n ws
onto_count n kind [] ps = refl
onto_count n kind (w ∷ ws) ps =
    let rest = onto_count n kind ws (drop 1 ps) in
    elim (nat_eq w.target n) as (λ b. length ((if b then panes_for kind w (first_size ps) ∷ [] else []) ++ onto n kind ws (drop 1 ps)) ≡ (if b then 1 else 0) + count_onto n ws) [
      | true ↦ omega arith
      | false ↦ omega arith
    ]
