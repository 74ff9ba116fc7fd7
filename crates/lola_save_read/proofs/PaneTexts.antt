-- The panes of a window are read back from how they are spelled.
use Rattle.std.proofs.Common.{◌≡◌, ◌≢◌, ◌∷◌, ℕ, ◌+◌, ◌-◌, ◌*◌, ◌^◌, ◌<◌, ◌≤◌, ◌++◌, List, [], Bool, true, false, ◌&&◌, Option, Some, None, codes, decimal, refl, sym, ap, subst, ◌∙◌, arith, length, nat_le, min}
use Rattle.std.specs.Prelude.{is_some, nat_lt}
use Rattle.std.specs.List.{sum_by}
use Rattle.std.proofs.Math.Nat.{mul-le-mul_left}
use Rattle.std.proofs.lemmas.Bool.{and_from, and_parts, le-leb, leb-true, leb-false, ltb-true, eqb-true, eq-eqb}
use Rattle.lola_value.specs.declared.value.Kind.{Kind}
use Rattle.lola_value.specs.Times.{latest}
use Rattle.lola_panes.specs.declared.partial.Partial.{Partial}
use Rattle.lola_save_text.specs.Fitting.{are_panes, counted, is_last, time_or, total_size}
use Rattle.lola_save_text.specs.Lines.{panes_text, partials_text}
use Rattle.lola_save_text.specs.declared.forms.WindowForm.{WindowForm}
use Rattle.lola_save_text.specs.declared.state.SavedPanes.{SavedPanes}
use Rattle.lola_save_text.specs.declared.state.Times.{Times}
use Rattle.lola_save_text.proofs.Numbers.{decimal-same}
use Rattle.lola_save_read.specs.Parts.{ArePartials, AreTimes}
use Rattle.lola_save_read.specs.Words.{IsNextWord}
use Rattle.lola_save_read.proofs.WordCuts.{digits-plain, next-same, partials-end}

-- the newest pane begins no later than the last accepted row
abbrev pub is_begun : Times → WindowForm → ℕ → Bool
is_begun t w last = is_some t.last && nat_lt (last * w.pane) ((time_or 0 t.last - time_or 0 t.start) + w.pane)

module _ (t : Times) (k : Kind) (w : WindowForm) where
  -- what the test of panes says, part by part
  pub record HasParts (p : SavedPanes) : Type 0 where
    pub begun : is_begun t w p.last ≡ true
    pub are : ArePartials w.how k (min (p.last + 1) w.count) t.steps p.partials

  pub has-parts : (p : SavedPanes) → are_panes t k w (Some p) ≡ true → HasParts p
  has-parts p e =
      let e5 = and_parts _ _ e in
      let e4 = and_parts _ _ e5.0 in
      let e3 = and_parts _ _ e4.0 in
      let e2 = and_parts _ _ e3.0 in
      record {
        begun = e2.0;
        are = record {
          many = eqb-true (length p.partials) (min (p.last + 1) w.count) e2.1;
          are = e3.1;
          counts = leb-true (sum_by (counted w.how) p.partials) t.steps e4.1;
          totals = leb-true (sum_by (total_size w.how) p.partials) (t.steps * 2 ^ 64) e5.1;
        };
      }

  pub parts-fit : (p : SavedPanes) → is_begun t w p.last ≡ true → ArePartials w.how k (min (p.last + 1) w.count) t.steps p.partials → are_panes t k w (Some p) ≡ true
  parts-fit p b a =
      and_from _ _
      (and_from _ _ (and_from _ _ (and_from _ _ b (eq-eqb (length p.partials) (min (p.last + 1) w.count) a.many)) a.are) (le-leb (sum_by (counted w.how) p.partials) t.steps a.counts))
      (le-leb (sum_by (total_size w.how) p.partials) (t.steps * 2 ^ 64) a.totals)

  pub not-begun : (last : ℕ) (bytes : List ℕ) → is_begun t w last ≡ false → (qs : List Partial) → are_panes t k w (Some (record { last = last; partials = qs })) ≡ true → bytes ≢ partials_text qs
  not-begun last bytes out qs e f = let h = has-parts (record { last = last; partials = qs }) e in let g : false ≡ true = sym out ∙ h.begun in cc g

  pub no-parts : (last : ℕ) (bytes : List ℕ) → ((qs : List Partial) → ArePartials w.how k (min (last + 1) w.count) t.steps qs → bytes ≢ partials_text qs)
      → (qs : List Partial) → are_panes t k w (Some (record { last = last; partials = qs })) ≡ true → bytes ≢ partials_text qs
  no-parts last bytes never qs e f = let h = has-parts (record { last = last; partials = qs }) e in never qs h.are f

  -- the number of the newest pane

  newest-fits : (m g d : ℕ) → 1 ≤ g → m * g < d + g → m ≤ d
  newest-fits m g d l h = by (nat_le m d) refl
    where
      by : (b : Bool) → nat_le m d ≡ b → m ≤ d
      by true e = leb-true m d e
      by false e =
          let past = leb-false m d e in
          let far : d + 1 ≤ m = omega (arith, past) in
          let one = mul-le-mul_left g far in
          let two = mul-le-mul_left d l in
          absurd (omega (arith, one, two, h))

  last-small : (a l : Option ℕ) → is_last a l ≡ true → time_or 0 l - time_or 0 a ≤ latest
  last-small a None e = omega arith
  last-small None (Some l) e = absurd (cc)
  last-small (Some a) (Some l) e = let h = leb-true l latest (and_parts (nat_le a l) (nat_le l latest) e).1 in omega (arith, h)

  module _ (times : AreTimes t) (length-of : 1 ≤ w.pane) where
    few-panes : (p : SavedPanes) → HasParts p → p.last < 2 ^ 64
    few-panes p h =
        let lt = ltb-true (p.last * w.pane) ((time_or 0 t.last - time_or 0 t.start) + w.pane) (and_parts (is_some t.last) (nat_lt (p.last * w.pane) ((time_or 0 t.last - time_or 0 t.start) + w.pane)) h.begun).1 in
        let a = newest-fits p.last w.pane (time_or 0 t.last - time_or 0 t.start) length-of lt in
        let b = last-small t.start t.last times.order in
        omega (arith, a, b)

    -- the words of panes
    none-next : (bytes : List ℕ) → bytes ≡ panes_text None → IsNextWord bytes (codes "-") []
    none-next bytes e = record { whole = e; plain = refl; ends = tt }

    some-next : (bytes : List ℕ) (p : SavedPanes) → bytes ≡ panes_text (Some p) → IsNextWord bytes (decimal p.last) (partials_text p.partials)
    some-next bytes p e = record { whole = e; plain = digits-plain p.last; ends = partials-end p.partials }

    pub no-panes : (bytes : List ℕ) → ((front rest : List ℕ) → IsNextWord bytes front rest → ⊥) → (p : Option SavedPanes) → are_panes t k w p ≡ true → bytes ≢ panes_text p
    no-panes bytes never None a e = never (codes "-") [] (none-next bytes e)
    no-panes bytes never (Some p) a e = never (decimal p.last) (partials_text p.partials) (some-next bytes p e)

    module _ (bytes first rest : List ℕ) (next : IsNextWord bytes first rest) where
      pub dash-there : first ≡ codes "-" → rest ≡ [] → bytes ≡ panes_text None
      dash-there e f = next.whole ∙ (λ i. 32 ∷ (e i ++ f i))

      pub no-newest : ((first ≡ codes "-") × (rest ≡ []) → ⊥) → ((n : ℕ) → n < 2 ^ 64 → first ≢ decimal n) → (p : Option SavedPanes) → are_panes t k w p ≡ true → bytes ≢ panes_text p
      no-newest dash never None a e = let s = next-same bytes first rest (codes "-") [] next (none-next bytes e) in dash (s.0, s.1)
      no-newest dash never (Some p) a e =
          never p.last (few-panes p (has-parts p a)) (next-same bytes first rest (decimal p.last) (partials_text p.partials) next (some-next bytes p e)).0

      pub no-panes-to : ((first ≡ codes "-") × (rest ≡ []) → ⊥) → (last : ℕ) → last < 2 ^ 64 → first ≡ decimal last
          → ((qs : List Partial) → are_panes t k w (Some (record { last = last; partials = qs })) ≡ true → rest ≢ partials_text qs) → (p : Option SavedPanes) → are_panes t k w p ≡ true → bytes ≢ panes_text p
      no-panes-to dash last small is never None a e = let s = next-same bytes first rest (codes "-") [] next (none-next bytes e) in dash (s.0, s.1)
      no-panes-to dash last small is never (Some p) a e =
          let s = next-same bytes first rest (decimal p.last) (partials_text p.partials) next (some-next bytes p e) in
          let lt = few-panes p (has-parts p a) in
          let n : p.last ≡ last = decimal-same p.last last (omega (arith, lt)) (omega (arith, small)) (sym s.0 ∙ is) in
          never p.partials (subst (λ m. are_panes t k w (Some (record { last = m; partials = p.partials })) ≡ true) n a) s.1

      pub panes-there : (last : ℕ) (p : SavedPanes) → first ≡ decimal last → p.last ≡ last → rest ≡ partials_text p.partials → bytes ≡ panes_text (Some p)
      panes-there last p e f g = next.whole ∙ (let h : first ≡ decimal p.last = e ∙ ap decimal (sym f) in λ i. 32 ∷ (h i ++ g i))
