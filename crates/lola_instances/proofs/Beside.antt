-- The panes of one window are restored, and those of all others are not touched.
use Rattle.std.proofs.Common.{◌≡◌, ◌∙◌, ℕ, List, MatchOption, Option, Some, None, ap, sym, subst, refl, slice_get, nat_eq, true, false}
use Rattle.std.proofs.lemmas.Bool.{eqb-true, eqb-false}
use Rattle.lola_model.specs.Store.{target_of}
use Rattle.lola_model.specs.declared.spec.WindowSpec.{WindowSpec}
use Rattle.lola_panes.specs.declared.partial.Partial.{Partial}
use Rattle.lola_panes.specs.Standing.{Partials}
use Rattle.lola_instances_one.specs.Holdings.{Holdings}
use Rattle.lola_instances_one.specs.Saved.{WereRestored}
use Rattle.lola_instances_stream.specs.Restoring.{HasPanesRestored}
use Rattle.lola_instances_stream.proofs.Lists.{other_set, same_set}
use Rattle.lola_instances.specs.Restoring.{HasPanesOf, IsInstanceChanged}
use Rattle.lola_instances.specs.Saved.{instance_at, panes_at, partials_of, places_in}
use Rattle.lola_instances.specs.declared.store.BoundedStore.{BoundedStore}
use Rattle.lola_instances.proofs.Windowed.{own_place}

some_same : {X : Type 0} {x y : X} → Some x ≡ Some y → x ≡ y
some_same q = cc

module _ (old new : BoundedStore) (w i last count : ℕ) (parts : List Partial) (b : WindowSpec) (same : new.windows ≡ old.windows) (places : places_in new ≡ places_in old) (is : slice_get old.windows w ≡ Some b)
    (h : IsInstanceChanged (HasPanesOf old w last parts count) (target_of (slice_get old.windows w)) i old new) where
  target : target_of (slice_get old.windows w) ≡ b.target
  target = ap target_of is

  -- the panes of a window, by its target
  panes_were : (v j : ℕ) (a : WindowSpec) → slice_get old.windows v ≡ Some a → panes_at old v j ≡ partials_of (instance_at old a.target j) (slice_get (places_in old) v)
  panes_were v j a e = ap (λ (o : Option WindowSpec). partials_of (instance_at old (target_of o) j) (slice_get (places_in old) v)) e

  panes_are : (v j : ℕ) (a : WindowSpec) → slice_get old.windows v ≡ Some a → panes_at new v j ≡ partials_of (instance_at new a.target j) (slice_get (places_in old) v)
  panes_are v j a e =
      ap (λ (o : Option WindowSpec). partials_of (instance_at new (target_of o) j) (slice_get (places_in new) v)) (ap (λ (ws : List WindowSpec). slice_get ws v) same ∙ e)
      ∙ ap (λ (ps : List ℕ). partials_of (instance_at new a.target j) (slice_get ps v)) places

  restored : (k : Option ℕ) → MatchOption k ⊥ (λ place. HasPanesRestored last parts count place h.x h.y) → MatchOption (partials_of (Some h.x) k) ⊥ (λ p. MatchOption (partials_of (Some h.y) k) ⊥ (WereRestored last parts count p))
  restored None r = absurd r
  restored (Some k) r =
      let c = r.panes in
      let now : slice_get h.y.panes k ≡ Some c.q = ap (λ ps. slice_get ps k) c.set ∙ same_set h.x.panes k c.p c.q c.at in
      subst (λ (o : Option Partials). MatchOption o ⊥ (λ (p : Partials). MatchOption (slice_get h.y.panes k) ⊥ (WereRestored last parts count p))) (sym c.at)
      (subst (λ (o : Option Partials). MatchOption o ⊥ (WereRestored last parts count c.p)) (sym now) c.related)

  pub these_restored : MatchOption (panes_at old w i) ⊥ (λ p. MatchOption (panes_at new w i) ⊥ (WereRestored last parts count p))
  these_restored =
      let was : panes_at old w i ≡ partials_of (Some h.x) (slice_get (places_in old) w) = ap (λ (o : Option Holdings). partials_of o (slice_get (places_in old) w)) h.was in
      let now : panes_at new w i ≡ partials_of (Some h.y) (slice_get (places_in old) w) =
      panes_are w i b is ∙ ap (λ (o : Option Holdings). partials_of o (slice_get (places_in old) w)) (ap (λ (n : ℕ). instance_at new n i) (sym target) ∙ h.is) in
      subst (λ t. t) (λ j. MatchOption (sym was j) ⊥ (λ (p : Partials). MatchOption (sym now j) ⊥ (WereRestored last parts count p))) (restored (slice_get (places_in old) w) h.related)

  others_of : (k l : Option ℕ) → (k ≡ l → ⊥) → MatchOption k ⊥ (λ place. HasPanesRestored last parts count place h.x h.y) → partials_of (Some h.y) l ≡ partials_of (Some h.x) l
  others_of None l d r = absurd r
  others_of (Some k) None d r = refl
  others_of (Some k) (Some l) d r = let c = r.panes in ap (λ ps. slice_get ps l) c.set ∙ other_set h.x.panes k l c.q (λ q. d (ap Some (sym q)))

  pub others_stay : (v j : ℕ) (a : WindowSpec) → slice_get old.windows v ≡ Some a → (v ≡ w → j ≡ i → ⊥) → panes_at new v j ≡ panes_at old v j
  others_stay v j a e d =
      (elim (nat_eq a.target b.target) as (λ t. nat_eq a.target b.target ≡ t → panes_at new v j ≡ panes_at old v j) [
        | false ↦ λ q. elsewhere (λ m _. eqb-false a.target b.target q m)
        | true ↦ λ q. (elim (nat_eq j i) as (λ t. nat_eq j i ≡ t → panes_at new v j ≡ panes_at old v j) [
          | false ↦ λ z. elsewhere (λ _ m. eqb-false j i z m)
          | true ↦ λ z. here (eqb-true a.target b.target q) (eqb-true j i z)
        ]) refl
      ]) refl
    where
      elsewhere : (a.target ≡ b.target → j ≡ i → ⊥) → panes_at new v j ≡ panes_at old v j
      elsewhere g = panes_are v j a e ∙ (ap (λ (o : Option Holdings). partials_of o (slice_get (places_in old) v)) (h.others a.target j (λ m z. g (m ∙ target) z)) ∙ sym (panes_were v j a e))

      here : a.target ≡ b.target → j ≡ i → panes_at new v j ≡ panes_at old v j
      here m z =
          let at : a.target ≡ target_of (slice_get old.windows w) = m ∙ sym target in
          let was : instance_at old a.target j ≡ Some h.x = (λ t. instance_at old (at t) (z t)) ∙ h.was in
          let now : instance_at new a.target j ≡ Some h.y = (λ t. instance_at new (at t) (z t)) ∙ h.is in
          let k = slice_get (places_in old) w in
          let l = slice_get (places_in old) v in
          let apart = others_of k l (λ q. d (own_place old.windows (places_in old) v w a b old.at_places e is m (sym q)) z) h.related in
          panes_are v j a e ∙ (ap (λ (o : Option Holdings). partials_of o l) now ∙ (apart ∙ (ap (λ (o : Option Holdings). partials_of o l) (sym was) ∙ sym (panes_were v j a e))))
