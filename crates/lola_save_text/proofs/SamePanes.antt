-- The panes of values by their offsets are those by their times.
use Rattle.std.proofs.Common.{◌≡◌, ℕ, zero, suc, ◌+◌, ◌-◌, List, [], ◌∷◌, length, map, min, refl, subst, ap, sym, ◌∙◌, arith, ℤ, pos, Bool, true, false, Option, Some, None, if◌then◌else◌}
use Rattle.std.specs.Prelude.{filter}
use Rattle.std.specs.Option.{option_map}
use Rattle.std.proofs.lemmas.List.{length-map}
use Rattle.lola_value.specs.declared.text.Field.{Field}
use Rattle.lola_value.specs.declared.value.Kind.{Kind}
use Rattle.lola_model.specs.Named.{counted}
use Rattle.lola_model.specs.Windows.{number_of, total}
use Rattle.lola_model.specs.declared.spec.Agg.{Agg}
use Rattle.lola_model.specs.declared.spec.Agg.TheVariants as agg
use Rattle.lola_panes.specs.declared.partial.Partial.{Partial}
use Rattle.lola_panes.specs.declared.partial.Partial.TheVariants.{Number, Extreme, Mean}
use Rattle.lola_panes.specs.Holding.{AllWithin}
use Rattle.lola_panes.specs.Parts as offsets
use Rattle.lola_panes.specs.Parts.{pane_values, ArePartials}
use Rattle.lola_panes.specs.Restored.{AreRestored, AllFrom, InOrder}
use Rattle.lola_panes.specs.Tallies.{fields_of, weights}
use Rattle.lola_panes.specs.Weights.{best_of}
use Rattle.lola_panes.proofs.Folds.{least_is, greatest_is}
use Rattle.lola_panes.proofs.Telling.{map-map}
use Rattle.lola_save_text.specs.declared.forms.WindowForm.{WindowForm}
use Rattle.lola_save_text.specs.declared.state.SavedPanes.{SavedPanes}
use Rattle.lola_save_text.specs.PaneFolds as times
use Rattle.lola_save_text.specs.PaneFolds.{is_in_pane, kept_panes, least_among, greatest_among, newest_time, pane_number, panes_by, panes_of, panes_to, values_in_pane}
use Rattle.lola_save_text.specs.Offsets.{by_offset, panes_up_to, KeptPartialsAreSame, NewestPanesAreSame, PanesAreRestored, PartialsAreSame}
use Rattle.lola_save_text.proofs.PanesOfLives.{length-counted}

-- the pane of the newest value
pub newest-same : NewestPanesAreSame
newest-same start pane [] = refl
newest-same start pane (v ∷ []) = refl
newest-same start pane (v ∷ w ∷ vs) = newest-same start pane (w ∷ vs)

-- the values in a pane are the same
fields-in : (start pane number : ℕ) (vs : List (ℕ × Field)) → fields_of (pane_values pane number (by_offset start vs)) ≡ values_in_pane start pane vs number
fields-in start pane number [] = refl
fields-in start pane number (v ∷ vs) = by (is_in_pane start pane number v) (fields-in start pane number vs)
  where
    by : (b : Bool) → fields_of (pane_values pane number (by_offset start vs)) ≡ values_in_pane start pane vs number
        → fields_of (if b then (v.0 - start, v.1) ∷ pane_values pane number (by_offset start vs) else pane_values pane number (by_offset start vs))
        ≡ map (λ (x : ℕ × Field). x.1) (if b then v ∷ filter (is_in_pane start pane number) vs else filter (is_in_pane start pane number) vs)
    by true on = ap (λ fs. v.1 ∷ fs) on
    by false on = on

-- the least and the greatest of some numbers, by order and by their best
least-same : (zs : List ℤ) → best_of agg.Min zs ≡ least_among zs
least-same [] = refl
least-same (z ∷ zs) = ap Some (sym (least_is z zs))

greatest-same : (zs : List ℤ) → best_of agg.Max zs ≡ greatest_among zs
greatest-same [] = refl
greatest-same (z ∷ zs) = ap Some (sym (greatest_is z zs))

-- what values with offsets come to is what their fields come to
partial-fields : (how : Agg) (vs : List (ℕ × Field)) → offsets.partial_of how vs ≡ times.partial_of how (fields_of vs)
partial-fields agg.Count vs = ap (λ n. Number (pos n)) (sym (length-map vs (λ (v : ℕ × Field). v.1)))
partial-fields agg.Sum vs = ap (λ zs. Number (total zs)) (map-map number_of vs)
partial-fields agg.Min vs = ap Extreme (least-same (weights agg.Min vs) ∙ ap least_among (map-map number_of vs))
partial-fields agg.Max vs = ap Extreme (greatest-same (weights agg.Max vs) ∙ ap greatest_among (map-map number_of vs))
partial-fields agg.Avg vs = λ i. Mean (total (map-map number_of vs i)) (sym (length-map vs (λ (v : ℕ × Field). v.1)) i)
partial-fields agg.Forall vs = refl
partial-fields agg.Exists vs = refl

-- the partial result of any pane
pub partial-same : PartialsAreSame
partial-same start pane number how vs = partial-fields how (pane_values pane number (by_offset start vs)) ∙ ap (times.partial_of how) (fields-in start pane number vs)

-- the panes that are kept, counted from the oldest on

up-to-counted : (last from n : ℕ) → from + n ≡ last + 1 → panes_up_to last n ≡ counted from n
up-to-counted last from zero e = refl
up-to-counted last from (suc n) e =
    let first : last - n ≡ from = omega arith in
    let on : panes_up_to last n ≡ counted (from + 1) n = up-to-counted last (from + 1) n (omega arith) in
    λ i. first i ∷ on i

kept-up-to : (last count : ℕ) → panes_up_to last (min (last + 1) count) ≡ kept_panes count last
kept-up-to last count = up-to-counted last (last + 1 - count) (min (last + 1) count) (omega arith)

-- values by their offsets are in order and of a kind

from-offsets : (start o : ℕ) (vs : List (ℕ × Field)) → AllFrom o vs → AllFrom (o - start) (by_offset start vs)
from-offsets start o [] h = tt
from-offsets start o (v ∷ vs) h = (let l = h.0 in omega (arith, l), from-offsets start o vs h.1)

order-offsets : (start : ℕ) (vs : List (ℕ × Field)) → InOrder vs → InOrder (by_offset start vs)
order-offsets start [] h = tt
order-offsets start (v ∷ vs) h = (from-offsets start v.0 vs h.0, order-offsets start vs h.1)

within-offsets : (start : ℕ) (kind : Kind) (vs : List (ℕ × Field)) → AllWithin kind vs → AllWithin kind (by_offset start vs)
within-offsets start kind [] h = tt
within-offsets start kind (v ∷ vs) h = (h.0, within-offsets start kind vs h.1)

map-same : {A B : Type 0} (f g : A → B) (xs : List A) → ((x : A) → f x ≡ g x) → map f xs ≡ map g xs
map-same f g [] h = refl
map-same f g (x ∷ xs) h = λ i. h x i ∷ map-same f g xs h i

module _ (start : ℕ) (w : WindowForm) (vs : List (ℕ × Field)) where
  -- the partial result of a pane, of values by their offsets
  abbrev by_offsets : ℕ → Partial
  by_offsets m = offsets.partial_of w.how (pane_values w.pane m (by_offset start vs))

  -- and of the values by their times
  abbrev by_times : ℕ → Partial
  by_times m = times.partial_of w.how (values_in_pane start w.pane vs m)

  -- what a state has of panes are those up to the pane of the newest value
  from-newest : (p : SavedPanes) (o : Option ℕ) → panes_by start w vs o ≡ Some p
      → (time : ℕ) × (o ≡ Some time) × (panes_to start w vs (pane_number w.pane (time - start)) ≡ p)
  from-newest p None e = absurd (cc)
  from-newest p (Some time) e = (time, refl, cc)

  -- the partial results of the panes that are kept
  pub kept-same : (p : SavedPanes) → panes_of start w vs ≡ Some p → map by_offsets (panes_up_to p.last (min (p.last + 1) w.count)) ≡ p.partials
  kept-same p e =
      let h = from-newest p (newest_time vs) e in
      let last : ℕ = pane_number w.pane (h.0 - start) in
      subst (λ (q : SavedPanes). map by_offsets (panes_up_to q.last (min (q.last + 1) w.count)) ≡ q.partials) h.2
      (ap (map by_offsets) (kept-up-to last w.count) ∙ map-same by_offsets by_times (kept_panes w.count last) (λ m. partial-same start w.pane m w.how vs))

  -- panes are restored from them

  are-partials : (from n : ℕ) → ArePartials w.how w.pane from (map by_times (counted from n)) (by_offset start vs)
  are-partials from zero = tt
  are-partials from (suc n) = (partial-same start w.pane from w.how vs, are-partials (from + 1) n)

  folds-to : (last : ℕ) → ArePartials w.how w.pane (last + 1 - length (map by_times (kept_panes w.count last))) (map by_times (kept_panes w.count last)) (by_offset start vs)
  folds-to last =
      let many : length (map by_times (kept_panes w.count last)) ≡ min (last + 1) w.count =
      length-map (kept_panes w.count last) by_times ∙ length-counted (last + 1 - w.count) (min (last + 1) w.count) in
      let first : last + 1 - w.count ≡ last + 1 - length (map by_times (kept_panes w.count last)) = omega (arith, many) in
      subst (λ (n : ℕ). ArePartials w.how w.pane n (map by_times (kept_panes w.count last)) (by_offset start vs)) first
      (are-partials (last + 1 - w.count) (min (last + 1) w.count))

  pub restored : (kind : Kind) (p : SavedPanes) → panes_of start w vs ≡ Some p → InOrder vs → AllWithin kind vs
      → AreRestored w.how kind w.pane p.last p.partials (by_offset start vs)
  restored kind p e order within =
      let h = from-newest p (newest_time vs) e in
      let last : ℕ = pane_number w.pane (h.0 - start) in
      subst (λ (q : SavedPanes). AreRestored w.how kind w.pane q.last q.partials (by_offset start vs)) h.2 (record {
        within = within-offsets start kind vs within;
        order = order-offsets start vs order;
        newest = newest-same start w.pane vs ∙ ap (option_map (λ (time : ℕ). pane_number w.pane (time - start))) h.1;
        folds = folds-to last;
      })

pub kept-partials-same : KeptPartialsAreSame
kept-partials-same start w vs p e = kept-same start w vs p e

pub panes-restored : PanesAreRestored
panes-restored start w kind vs p e order within = restored start w vs kind p e order within
