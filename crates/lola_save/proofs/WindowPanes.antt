-- The panes of a window, as they are read of a store and as a state has them.
use Rattle.std.proofs.Common.{◌≡◌, ℕ, zero, suc, ◌+◌, ◌-◌, ◌<◌, ◌≤◌, List, [], ◌∷◌, ◌++◌, map, min, refl, subst, ap, sym, ◌∙◌, arith, Bool, true, false, Option, Some, None, if◌then◌else◌, append_assoc, append-nil, MatchOption}
use Rattle.std.specs.Option.{option_map}
use Rattle.lola_value.specs.declared.text.Field.{Field}
use Rattle.lola_panes.specs.declared.partial.Partial.{Partial}
use Rattle.lola_panes.specs.Parts.{pane_values, partial_of}
use Rattle.lola_panes.specs.Standing.{Partials, StandFor, newest_of}
use Rattle.lola_panes.specs.Weights.{number_at}
use Rattle.lola_instances_one.specs.Saved.{HasPane, IsNewestPane, IsPartial}
use Rattle.lola_save_text.specs.declared.forms.WindowForm.{WindowForm}
use Rattle.lola_save_text.specs.PaneFolds.{newest_time, pane_number, panes_by, panes_of, panes_to}
use Rattle.lola_save_text.specs.Offsets.{by_offset, panes_up_to, KeptPartialsAreSame, NewestPanesAreSame}
use Rattle.lola_save.specs.Taken.{ArePartsOf, HavePanes}

-- two facts of what may be there
pub both : {X : Type 0} (P Q R : X → Type 0) (o : Option X) → ((x : X) → P x → Q x → R x) → MatchOption o ⊥ P → MatchOption o ⊥ Q → MatchOption o ⊥ R
both P Q R None f p q = p
both P Q R (Some x) f p q = f x p q

pub one : {X : Type 0} (P R : X → Type 0) (o : Option X) → ((x : X) → P x → R x) → MatchOption o ⊥ P → MatchOption o ⊥ R
one P R None f p = p
one P R (Some x) f p = f x p

-- partial results, from the oldest pane on

-- the partial result of a pane of some number
abbrev part : Partials → List (ℕ × Field) → ℕ → Partial
part p all number = partial_of p.aggregation (pane_values p.pane number all)

-- of so many panes, those so far and those of the panes that are left
abbrev pub ArePartsTo : ℕ → ℕ → List Partial → Partials → Type 0
ArePartsTo count left qs p =
    (all : List (ℕ × Field)) → StandFor p all
    → qs ++ map (part p all) (panes_up_to (number_at p.pane p.newest) left) ≡ map (part p all) (panes_up_to (number_at p.pane p.newest) count)

pub parts-none : (count : ℕ) (qs : List Partial) (p : Partials) → qs ≡ [] → ArePartsTo count count qs p
parts-none count qs p none all h = ap (λ (xs : List Partial). xs ++ map (part p all) (panes_up_to (number_at p.pane p.newest) count)) none

pub has-pane : (count left : ℕ) (p : Partials) → 0 < left → left ≤ count → HavePanes count p → HasPane (left - 1) p
has-pane count left p lt le h =
    let w = h.within in
    let t = h.there in
    record { told = h.told; count = omega (arith, lt, le, w); pane = omega (arith, lt, le, t) }

one-part : (count k : ℕ) (qs : List Partial) (q : Partial) (p : Partials) → ArePartsTo count (suc k) qs p → IsPartial k q p → ArePartsTo count k (qs ++ q ∷ []) p
one-part count k qs q p h is all s =
    let last : ℕ = number_at p.pane p.newest in
    append_assoc qs (q ∷ []) (map (part p all) (panes_up_to last k))
    ∙ ap (λ (x : Partial). qs ++ x ∷ map (part p all) (panes_up_to last k)) (is all s)
    ∙ h all s

pub parts-more : (count left : ℕ) (qs more : List Partial) (q : Partial) (p : Partials) → 0 < left → more ≡ qs ++ q ∷ [] → ArePartsTo count left qs p → IsPartial (left - 1) q p → ArePartsTo count (left - 1) more p
parts-more count zero qs more q p lt e h is = absurd (omega arith)
parts-more count (suc k) qs more q p lt e h is =
    let s : suc k - 1 ≡ k = omega arith in
    subst (λ (xs : List Partial). ArePartsTo count (suc k - 1) xs p) (sym e)
    (subst (λ (m : ℕ). ArePartsTo count m (qs ++ q ∷ []) p) (sym s) (one-part count k qs q p h (subst (λ (m : ℕ). IsPartial m q p) s is)))

pub parts-all : (count left : ℕ) (qs : List Partial) (p : Partials) → left ≡ 0 → ArePartsTo count left qs p → ArePartsOf count qs p
parts-all count zero qs p none h all s = sym (append-nil qs) ∙ h all s
parts-all count (suc k) qs p none h all s = absurd (omega arith)

-- the panes of a window

told-so : (b : Bool) (n last : ℕ) → Some last ≡ (if b then Some n else None) → (b ≡ true) × (n ≡ last)
told-so true n last e = (refl, cc)
told-so false n last e = absurd (cc)

module _ (start : ℕ) (w : WindowForm) (vs : List (ℕ × Field)) where
  abbrev pane_at : ℕ → ℕ
  pane_at time = pane_number w.pane (time - start)

  none-by : (o : Option ℕ) → option_map pane_at o ≡ None → panes_by start w vs o ≡ None
  none-by None e = refl
  none-by (Some t) e = absurd (cc)

  some-by : (o : Option ℕ) (last : ℕ) → option_map pane_at o ≡ Some last → panes_by start w vs o ≡ Some (panes_to start w vs last)
  some-by None last e = absurd (cc)
  some-by (Some t) last e = let same : pane_at t ≡ last = cc in ap (λ (n : ℕ). Some (panes_to start w vs n)) same

  -- panes of the window that stand for the values by their offsets
  module _ (p : Partials) (pane : p.pane ≡ w.pane) (stand : StandFor p (by_offset start vs)) (newest : NewestPanesAreSame) where
    newest-at : (o : Option ℕ) → IsNewestPane o p → option_map pane_at (newest_time vs) ≡ o
    newest-at o is = sym (newest start w.pane vs) ∙ ap (λ (n : ℕ). newest_of n (by_offset start vs)) (sym pane) ∙ sym (is.1 (by_offset start vs) stand)

    pub no-panes : IsNewestPane None p → None ≡ panes_of start w vs
    no-panes is = sym (none-by (newest_time vs) (newest-at None is))

    pub some-panes : (last count : ℕ) (qs : List Partial) → IsNewestPane (Some last) p → p.aggregation ≡ w.how → count ≡ min (last + 1) w.count → KeptPartialsAreSame → ArePartsOf count qs p
        → Some (record { last = last; partials = qs }) ≡ panes_of start w vs
    some-panes last count qs is how many kept parts =
        let is_some : panes_of start w vs ≡ Some (panes_to start w vs last) = some-by (newest_time vs) last (newest-at (Some last) is) in
        let of_state : map (λ number. partial_of w.how (pane_values w.pane number (by_offset start vs))) (panes_up_to last (min (last + 1) w.count)) ≡ (panes_to start w vs last).partials =
        kept start w vs (panes_to start w vs last) is_some in
        let at_last : number_at p.pane p.newest ≡ last = (told-so p.told (number_at p.pane p.newest) last is.0).1 in
        let read : qs ≡ map (λ number. partial_of w.how (pane_values w.pane number (by_offset start vs))) (panes_up_to last (min (last + 1) w.count)) =
        parts (by_offset start vs) stand
        ∙ (λ i. map (λ number. partial_of (how i) (pane_values (pane i) number (by_offset start vs))) (panes_up_to (at_last i) (many i))) in
        ap (λ (xs : List Partial). Some (record { last = last; partials = xs })) (read ∙ of_state) ∙ sym is_some

-- panes that have a newest one have those up to it
pub have-panes : (p : Partials) (last count most : ℕ) → IsNewestPane (Some last) p → p.count ≡ most → count ≡ min (last + 1) most → HavePanes count p
have-panes p last count most is e many =
    let t = told-so p.told (number_at p.pane p.newest) last is.0 in
    let n = t.1 in
    record { told = t.0; within = omega (arith, many, e); there = omega (arith, many, n) }

-- over the panes that a store keeps of the window

module _ (start : ℕ) (w : WindowForm) (vs : List (ℕ × Field)) (o : Option Partials) (stand : (p : Partials) → o ≡ Some p → StandFor p (by_offset start vs))
    (window : (p : Partials) → o ≡ Some p → (p.aggregation ≡ w.how) × (p.pane ≡ w.pane) × (p.count ≡ w.count)) (newest : NewestPanesAreSame) where
  pub window-none : MatchOption o ⊥ (IsNewestPane None) → None ≡ panes_of start w vs
  window-none is = by o refl is
    where
      by : (q : Option Partials) → o ≡ q → MatchOption q ⊥ (IsNewestPane None) → None ≡ panes_of start w vs
      by None e is = absurd is
      by (Some p) e is = no-panes start w vs p (window p e).1 (stand p e) newest is

  pub window-some : (last count : ℕ) (qs : List Partial) → KeptPartialsAreSame → MatchOption o ⊥ (IsNewestPane (Some last)) → count ≡ min (last + 1) w.count → MatchOption o ⊥ (ArePartsOf count qs)
      → Some (record { last = last; partials = qs }) ≡ panes_of start w vs
  window-some last count qs kept is many parts = by o refl is parts
    where
      by : (q : Option Partials) → o ≡ q → MatchOption q ⊥ (IsNewestPane (Some last)) → MatchOption q ⊥ (ArePartsOf count qs) → Some (record { last = last; partials = qs }) ≡ panes_of start w vs
      by None e is parts = absurd is
      by (Some p) e is parts = some-panes start w vs p (window p e).1 (stand p e) newest last count qs is (window p e).0 many kept parts

pub window-have : (o : Option Partials) (last count most : ℕ) → MatchOption o ⊥ (IsNewestPane (Some last)) → ((p : Partials) → o ≡ Some p → p.count ≡ most) → count ≡ min (last + 1) most → MatchOption o ⊥ (HavePanes count)
window-have None last count most is window e = is
window-have (Some p) last count most is window e = have-panes p last count most is (window p refl) e
