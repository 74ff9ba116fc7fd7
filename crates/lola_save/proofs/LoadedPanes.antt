-- The panes of an instance are restored, window by window.
use Rattle.std.proofs.Common.{◌≡◌, ℕ, zero, suc, ◌+◌, ◌-◌, ◌*◌, ◌^◌, ◌<◌, ◌≤◌, min, List, [], ◌∷◌, length, refl, subst, ap, sym, ◌∙◌, arith, Bool, true, false, Option, Some, None, slice_get, nat_eq, if◌then◌else◌, MatchOption}
use Rattle.std.specs.List.{AllByRecursion, sum_by}
use Rattle.std.proofs.lemmas.Bool.{and_parts, eqb-false, eqb-true, leb-true, ltb-true}
use Rattle.lola_value.specs.declared.value.Kind.{Kind}
use Rattle.lola_model.specs.Store.{Layout, Seen, kind_in, start_seen, target_of, time_seen}
use Rattle.lola_model.specs.declared.spec.Agg.{Agg}
use Rattle.lola_model.specs.declared.spec.WindowSpec.{WindowSpec}
use Rattle.lola_panes.specs.Parts as parts
use Rattle.lola_panes.specs.Restored.{AreRestored, first_offset}
use Rattle.lola_panes.specs.Standing.{Partials, StandFor}
use Rattle.lola_panes.specs.declared.partial.Partial.{Partial}
use Rattle.lola_instances_one.specs.Holdings.{Holdings}
use Rattle.lola_instances_one.specs.Saved.{CanBeRestored}
use Rattle.lola_instances_stream.proofs.Lists.{other_set, same_set}
use Rattle.lola_instances_stream.specs.Restoring.{HasPanesRestored}
use Rattle.lola_instances.specs.Restoring.{HasPanesOf, IsInstanceChanged}
use Rattle.lola_instances.specs.Saved.{instance_at, panes_at, partials_of, places_in}
use Rattle.lola_instances.specs.Stores.{bounded_seen, values_kept}
use Rattle.lola_instances.specs.Streams.{values_of}
use Rattle.lola_instances.specs.declared.store.BoundedStore.{BoundedStore}
use Rattle.lola_save_text.specs.Fitting.{are_panes, counted, time_or, total_size}
use Rattle.lola_save_text.specs.Validity.{AllPanes}
use Rattle.lola_save_text.specs.declared.forms.WindowForm.{WindowForm}
use Rattle.lola_save_text.specs.declared.state.SavedPanes.{SavedPanes}
use Rattle.lola_save_text.specs.declared.state.Times.{Times}
use Rattle.lola_save.specs.Fitting.{AreAllOnto, IsWindowOnto}
use Rattle.lola_save.specs.Loaded.{ArePanesLoaded, CanLoad, ChangesOne, StandAsSaved, times_seen}
use Rattle.lola_save.proofs.FormsFit.{window-at}
use Rattle.lola_save.proofs.StoreSlots.{HasPanesAt, has-panes, panes-by, some-is}

-- what the test of saved panes says

pub record ArePanesOf (t : Times) (k : Kind) (w : WindowForm) (p : SavedPanes) : Type 0 where
  pub newest : p.last * w.pane < (time_or 0 t.last - time_or 0 t.start) + w.pane
  pub many : length p.partials ≡ min (p.last + 1) w.count
  pub counts : sum_by (counted w.how) p.partials ≤ t.steps
  pub totals : sum_by (total_size w.how) p.partials ≤ t.steps * 2 ^ 64

pub are-panes : (t : Times) (k : Kind) (w : WindowForm) (p : SavedPanes) → are_panes t k w (Some p) ≡ true → ArePanesOf t k w p
are-panes t k w p e =
    let e5 = and_parts _ _ e in
    let e4 = and_parts _ _ e5.0 in
    let e3 = and_parts _ _ e4.0 in
    let e2 = and_parts _ _ e3.0 in
    let e1 = and_parts _ _ e2.0 in
    record {
      newest = ltb-true (p.last * w.pane) ((time_or 0 t.last - time_or 0 t.start) + w.pane) e1.1;
      many = eqb-true (length p.partials) (min (p.last + 1) w.count) e2.1;
      counts = leb-true (sum_by (counted w.how) p.partials) t.steps e4.1;
      totals = leb-true (sum_by (total_size w.how) p.partials) (t.steps * 2 ^ 64) e5.1;
    }

-- the newest pane begins no later than the last row

one-less : (n pane : ℕ) → 1 ≤ n → n * pane ≡ (n - 1) * pane + pane
one-less zero pane le = absurd (omega arith)
one-less (suc m) pane le =
    let n : suc m - 1 ≡ m = omega arith in
    let e : suc m * pane ≡ m * pane + pane = grind arith in
    e ∙ ap (λ (k : ℕ). k * pane + pane) (sym n)

first-by : (pane last span : ℕ) → last * pane < span + pane → first_offset pane last ≤ span
first-by pane last span lt = by (nat_eq last 0) refl
  where
    by : (b : Bool) → nat_eq last 0 ≡ b → (if b then 0 else (last - 1) * pane + 1) ≤ span
    by true e = omega arith
    by false e =
        let some : last ≡ 0 → ⊥ = eqb-false last 0 e in
        let split = one-less last pane (omega (arith, some)) in
        omega (arith, split, lt)

-- the panes that are there can be restored from the saved ones

module _ (s : BoundedStore) (can : CanLoad (bounded_seen s)) (n i : ℕ) (y : Holdings) (there : instance_at s n i ≡ Some y) (w : WindowForm) (onto : IsWindowOnto (bounded_seen s).layout n w) (q : SavedPanes)
    (fits : are_panes (times_seen (bounded_seen s)) (kind_in (slice_get (bounded_seen s).layout.streams n)) w (Some q) ≡ true) where
  pub panes-here : HasPanesAt s n i w.number onto.spec y
  panes-here = has-panes s n i w.number onto.spec y there onto.at onto.target

  fit : ArePanesOf (times_seen (bounded_seen s)) (kind_in (slice_get (bounded_seen s).layout.streams n)) w q
  fit = are-panes (times_seen (bounded_seen s)) (kind_in (slice_get (bounded_seen s).layout.streams n)) w q fits

  size-is : panes-here.size ≡ onto.size
  unfolding panes-here
  size-is = some-is (sym panes-here.sized ∙ onto.size_at)

  how-is : panes-here.p.aggregation ≡ w.how
  how-is = panes-here.aggregation ∙ sym onto.how

  pane-is : panes-here.p.pane ≡ w.pane
  pane-is = panes-here.pane ∙ ap (λ z. z.pane) size-is ∙ sym onto.pane

  count-is : panes-here.p.count ≡ w.count
  count-is = panes-here.count ∙ ap (λ z. z.count) size-is ∙ sym onto.count

  newest-in : first_offset panes-here.p.pane q.last ≤ time_seen (bounded_seen s) - start_seen (bounded_seen s)
  newest-in = subst (λ (g : ℕ). first_offset g q.last ≤ time_seen (bounded_seen s) - start_seen (bounded_seen s)) (sym pane-is)
      (first-by w.pane q.last (time_seen (bounded_seen s) - start_seen (bounded_seen s)) fit.newest)

  can-here : CanBeRestored q.last q.partials ((bounded_seen s).steps - 1) panes-here.p
  can-here = record {
    added = let f = can.few in omega (arith, f);
    newest = let f = newest-in in let t = can.in_time in omega (arith, f, t);
    partials = fit.many ∙ ap (λ (c : ℕ). min (q.last + 1) c) (sym count-is);
    counts = subst (λ (a : Agg). sum_by (parts.counted a) q.partials ≤ (bounded_seen s).steps - 1) (sym how-is) fit.counts;
    totals = subst (λ (a : Agg). sum_by (parts.total_size a) q.partials ≤ ((bounded_seen s).steps - 1) * 2 ^ 64) (sym how-is) fit.totals;
  }

  pub can-restore : MatchOption (panes_at s w.number i) ⊥ (CanBeRestored q.last q.partials ((bounded_seen s).steps - 1))
  can-restore = subst (λ (o : Option Partials). MatchOption o ⊥ (CanBeRestored q.last q.partials ((bounded_seen s).steps - 1))) (sym panes-here.at) can-here

  pub newest-begun : MatchOption (panes_at s w.number i) ⊥ (λ p. first_offset p.pane q.last ≤ time_seen (bounded_seen s) - start_seen (bounded_seen s))
  newest-begun = subst (λ (o : Option Partials). MatchOption o ⊥ (λ (p : Partials). first_offset p.pane q.last ≤ time_seen (bounded_seen s) - start_seen (bounded_seen s))) (sym panes-here.at) newest-in

pub fits-some : (s : Seen) (n : ℕ) (w : WindowForm) (o : Option SavedPanes) (q : SavedPanes) → o ≡ Some q → are_panes (times_seen s) (kind_in (slice_get s.layout.streams n)) w o ≡ true
    → are_panes (times_seen s) (kind_in (slice_get s.layout.streams n)) w (Some q) ≡ true
fits-some s n w o q is h = ap (are_panes (times_seen s) (kind_in (slice_get s.layout.streams n)) w) (sym is) ∙ h

-- what becomes of them

-- the call speaks of the target of the window
pub slot-is : (old new : BoundedStore) (n i : ℕ) (w : WindowForm) → IsWindowOnto (bounded_seen old).layout n w → (q : SavedPanes) (qs : List Partial) (count : ℕ) → qs ≡ q.partials
    → IsInstanceChanged (HasPanesOf old w.number q.last qs count) (target_of (slice_get (bounded_seen old).layout.windows w.number)) i old new → IsInstanceChanged (HasPanesOf old w.number q.last q.partials count) n i old new
slot-is old new n i w onto q qs count same h =
    let target : target_of (slice_get (bounded_seen old).layout.windows w.number) ≡ n = ap target_of onto.at ∙ onto.target in
    subst (λ t. t) (λ j. IsInstanceChanged (HasPanesOf old w.number q.last (same j) count) (target j) i old new) h

module _ (old new : BoundedStore) (n i : ℕ) (w : WindowForm) (onto : IsWindowOnto (bounded_seen old).layout n w) (q : SavedPanes) (count : ℕ) (seen : bounded_seen new ≡ bounded_seen old) (places : places_in new ≡ places_in old)
    (h : IsInstanceChanged (HasPanesOf old w.number q.last q.partials count) n i old new) where
  here : HasPanesAt old n i w.number onto.spec h.x
  here = has-panes old n i w.number onto.spec h.x h.was onto.at onto.target

  related : HasPanesRestored q.last q.partials count here.place h.x h.y
  related = subst (λ (o : Option ℕ). MatchOption o ⊥ (λ place. HasPanesRestored q.last q.partials count place h.x h.y)) here.placed h.related

  windows-are : (v : ℕ) (a : WindowSpec) → slice_get old.windows v ≡ Some a → slice_get new.windows v ≡ Some a
  windows-are v a e = ap (λ (s : Seen). slice_get s.layout.windows v) seen ∙ e

  pub window-one : ChangesOne n i old new
  window-one = record { seen = seen; others = h.others }

  pub window-values : values_kept new n i ≡ values_kept old n i
  window-values = ap values_of h.is ∙ ap (λ r. r.values) related.ring ∙ sym (ap values_of h.was)

  pub window-others : ((v u : ℕ) (a b : WindowSpec) → slice_get old.windows v ≡ Some a → slice_get old.windows u ≡ Some b → a.target ≡ b.target
      → slice_get (places_in old) v ≡ slice_get (places_in old) u → v ≡ u)
      → (v : ℕ) (a : WindowSpec) → slice_get old.windows v ≡ Some a → a.target ≡ n → (v ≡ w.number → ⊥) → panes_at new v i ≡ panes_at old v i
  window-others own v a e t d =
      panes-by new v a n i (windows-are v a e) t
      ∙ (λ j. partials_of (h.is j) (slice_get (places j) v))
      ∙ by (slice_get (places_in old) v) refl
      ∙ ap (λ (o : Option Holdings). partials_of o (slice_get (places_in old) v)) (sym h.was)
      ∙ sym (panes-by old v a n i e t)
    where
      by : (o : Option ℕ) → slice_get (places_in old) v ≡ o → partials_of (Some h.y) o ≡ partials_of (Some h.x) o
      by None at = refl
      by (Some l) at =
          ap (λ (ps : List Partials). slice_get ps l) related.panes.set
          ∙ other_set h.x.panes here.place l related.panes.q (λ same. d (own v w.number a onto.spec e onto.at (t ∙ sym onto.target) (at ∙ ap Some same ∙ sym here.placed)))

  pub window-loaded : ArePanesLoaded new i (kind_in (slice_get (bounded_seen old).layout.streams n)) w (Some q)
  window-loaded =
      let r = related.panes in
      let now : panes_at new w.number i ≡ Some r.q =
      panes-by new w.number onto.spec n i (windows-are w.number onto.spec onto.at) onto.target
      ∙ (λ j. partials_of (h.is j) (slice_get (places j) w.number))
      ∙ ap (λ (o : Option ℕ). partials_of (Some h.y) o) here.placed
      ∙ ap (λ (ps : List Partials). slice_get ps here.place) r.set
      ∙ same_set h.x.panes here.place r.p r.q r.at in
      let p-is : here.p ≡ r.p = some-is (sym here.here ∙ r.at) in
      let size-is : here.size ≡ onto.size = some-is (sym here.sized ∙ onto.size_at) in
      let how : w.how ≡ r.p.aggregation = onto.how ∙ sym here.aggregation ∙ ap (λ (p : Partials). p.aggregation) p-is in
      let kind : kind_in (slice_get (bounded_seen old).layout.streams n) ≡ r.p.kind = sym here.kind ∙ ap (λ (p : Partials). p.kind) p-is in
      let pane : w.pane ≡ r.p.pane = onto.pane ∙ ap (λ z. z.pane) (sym size-is) ∙ sym here.pane ∙ ap (λ (p : Partials). p.pane) p-is in
      subst (λ (o : Option Partials). MatchOption o ⊥ (StandAsSaved (kind_in (slice_get (bounded_seen old).layout.streams n)) w (Some q))) (sym now)
      (λ all restored. r.related.all all (subst (λ t. t) (λ j. AreRestored (how j) (kind j) (pane j) q.last q.partials all) restored))

-- window by window

pub panes-at : (t : Times) (k : Kind) (ws : List WindowForm) (ps : List (Option SavedPanes)) → AllPanes t k ws ps → (i : ℕ) (w : WindowForm) (o : Option SavedPanes) → slice_get ws i ≡ Some w → slice_get ps i ≡ Some o → are_panes t k w o ≡ true
panes-at t k [] [] h zero w o e f = absurd (cc)
panes-at t k [] [] h (suc i) w o e f = absurd (cc)
panes-at t k [] (p ∷ ps) h i w o e f = absurd h
panes-at t k (v ∷ ws) [] h i w o e f = absurd h
panes-at t k (v ∷ ws) (p ∷ ps) h zero w o e f =
    let a : w ≡ v = sym (some-is e) in
    let b : o ≡ p = sym (some-is f) in
    (λ j. are_panes t k (a j) (b j)) ∙ h.0
panes-at t k (v ∷ ws) (p ∷ ps) h (suc i) w o e f = panes-at t k ws ps h.1 i w o e f

pub panes-long : (t : Times) (k : Kind) (ws : List WindowForm) (ps : List (Option SavedPanes)) → AllPanes t k ws ps → length ps ≡ length ws
panes-long t k [] [] h = refl
panes-long t k [] (p ∷ ps) h = absurd h
panes-long t k (w ∷ ws) [] h = absurd h
panes-long t k (w ∷ ws) (p ∷ ps) h = ap suc (panes-long t k ws ps h.1)

-- the panes of the windows so far are restored, and those of the others have no value
pub record ArePanesTo (s : BoundedStore) (i : ℕ) (k : Kind) (ws : List WindowForm) (saved : List (Option SavedPanes)) (to : ℕ) : Type 0 where
  pub done : (j : ℕ) (w : WindowForm) (o : Option SavedPanes) → j < to → slice_get ws j ≡ Some w → slice_get saved j ≡ Some o → ArePanesLoaded s i k w o
  pub left : (j : ℕ) (w : WindowForm) → to ≤ j → slice_get ws j ≡ Some w → MatchOption (panes_at s w.number i) ⊥ (λ p. StandFor p [])

module _ (old new : BoundedStore) (n i : ℕ) (k : Kind) (ws : List WindowForm) (saved : List (Option SavedPanes)) (to : ℕ) (layout : Layout) (fit : AllByRecursion (IsWindowOnto layout n) ws) (onto : AreAllOnto layout n ws)
    (w : WindowForm) (o : Option SavedPanes) (here : slice_get ws to ≡ Some w) (there : slice_get saved to ≡ Some o) (loaded : ArePanesLoaded new i k w o)
    (others : (v : ℕ) (a : WindowSpec) → slice_get layout.windows v ≡ Some a → a.target ≡ n → (v ≡ w.number → ⊥) → panes_at new v i ≡ panes_at old v i) where
  same-at : (j : ℕ) (v : WindowForm) → slice_get ws j ≡ Some v → (j ≡ to → ⊥) → panes_at new v.number i ≡ panes_at old v.number i
  same-at j v e d = let f = window-at layout n ws j v fit e in others v.number f.spec f.at f.target (λ q. d (onto.apart j to v w e here q))

  pub panes-more : ArePanesTo old i k ws saved to → ArePanesTo new i k ws saved (to + 1)
  panes-more h = record { done = done; left = left }
    where
      done : (j : ℕ) (v : WindowForm) (p : Option SavedPanes) → j < to + 1 → slice_get ws j ≡ Some v → slice_get saved j ≡ Some p → ArePanesLoaded new i k v p
      done j v p lt e f =
          (elim (nat_eq j to) as (λ b. nat_eq j to ≡ b → ArePanesLoaded new i k v p) [
            | true ↦ λ q.
                let at = eqb-true j to q in
                let a : w ≡ v = some-is (sym here ∙ ap (slice_get ws) (sym at) ∙ e) in
                let b : o ≡ p = some-is (sym there ∙ ap (slice_get saved) (sym at) ∙ f) in
                subst (λ t. t) (λ x. ArePanesLoaded new i k (a x) (b x)) loaded
            | false ↦ λ q.
                let d = eqb-false j to q in
                subst (λ (r : Option Partials). MatchOption r ⊥ (StandAsSaved k v p)) (sym (same-at j v e d)) (h.done j v p (omega arith) e f)
          ]) refl

      left : (j : ℕ) (v : WindowForm) → to + 1 ≤ j → slice_get ws j ≡ Some v → MatchOption (panes_at new v.number i) ⊥ (λ p. StandFor p [])
      left j v le e =
          subst (λ (r : Option Partials). MatchOption r ⊥ (λ (p : Partials). StandFor p [])) (sym (same-at j v e (λ q. absurd (omega (arith, q, le))))) (h.left j v (omega arith) e)

-- where the same is shown

pub window-on : (a b : Seen) (n : ℕ) (w : WindowForm) → b ≡ a → IsWindowOnto a.layout n w → IsWindowOnto b.layout n w
window-on a b n w same h = subst (λ (s : Seen). IsWindowOnto s.layout n w) (sym same) h

pub fits-on : (a b : Seen) (n : ℕ) (w : WindowForm) (o : Option SavedPanes) → b ≡ a → are_panes (times_seen a) (kind_in (slice_get a.layout.streams n)) w o ≡ true → are_panes (times_seen b) (kind_in (slice_get b.layout.streams n)) w o ≡ true
fits-on a b n w o same h = ap (λ (s : Seen). are_panes (times_seen s) (kind_in (slice_get s.layout.streams n)) w o) same ∙ h

pub loaded-on : (a b : Seen) (s : BoundedStore) (i n : ℕ) (w : WindowForm) (o : Option SavedPanes) → b ≡ a → ArePanesLoaded s i (kind_in (slice_get b.layout.streams n)) w o → ArePanesLoaded s i (kind_in (slice_get a.layout.streams n)) w o
loaded-on a b s i n w o same h = subst (λ (x : Seen). ArePanesLoaded s i (kind_in (slice_get x.layout.streams n)) w o) same h

abbrev pub Others : Seen → BoundedStore → BoundedStore → ℕ → ℕ → ℕ → Type 0
Others shown old new n i number = (v : ℕ) (a : WindowSpec) → slice_get shown.layout.windows v ≡ Some a → a.target ≡ n → (v ≡ number → ⊥) → panes_at new v i ≡ panes_at old v i

pub others-on : (a b : Seen) (old new : BoundedStore) (n i number : ℕ) → b ≡ a → Others b old new n i number → Others a old new n i number
others-on a b old new n i number same h = subst (λ (x : Seen). Others x old new n i number) same h
