-- The forms of a plan's streams fit the plan's layout.
use Rattle.std.proofs.Common.{◌≡◌, ℕ, zero, suc, ◌+◌, List, [], ◌∷◌, ◌++◌, length, drop, refl, subst, ap, sym, ◌∙◌, arith, Bool, true, false, Some, nat_eq, slice_get, if◌then◌else◌}
use Rattle.std.specs.List.{AllByRecursion}
use Rattle.std.proofs.lemmas.Bool.{eqb-true}
use Rattle.std.proofs.lemmas.Option.{slice_get_within}
use Rattle.lola_model.specs.Store.{Layout, StreamLayout, kept_in, layout_of, layouts_from, spawns_in}
use Rattle.lola_model.specs.declared.pacing.ClausePacings.{ClausePacings}
use Rattle.lola_model.specs.declared.plan.PaneSize.{PaneSize}
use Rattle.lola_model.specs.declared.plan.Plan.{Plan}
use Rattle.lola_model.specs.declared.spec.Stream.{Stream}
use Rattle.lola_model.specs.declared.spec.WindowSpec.{WindowSpec}
use Rattle.lola_save_text.specs.declared.forms.StreamForm.{StreamForm}
use Rattle.lola_save_text.specs.declared.forms.WindowForm.{WindowForm}
use Rattle.lola_save_text.specs.Forms.{forms_of, stream_forms, windows_onto}
use Rattle.lola_save.specs.Fitting.{AreStreamsOf, IsStreamOf, IsWindowOnto}

-- an item of a list stands among those behind a number of others

first : {X : Type 0} (all xs : List X) (n : ℕ) → ((j : ℕ) → slice_get all (n + j) ≡ slice_get xs j) → slice_get all n ≡ slice_get xs 0
first all xs n h = (let e : n ≡ n + 0 = omega arith in ap (slice_get all) e) ∙ h 0

others : {X : Type 0} (all xs : List X) (x : X) (n : ℕ) → ((j : ℕ) → slice_get all (n + j) ≡ slice_get (x ∷ xs) j) → (j : ℕ) → slice_get all (n + 1 + j) ≡ slice_get xs j
others all xs x n h j = (let e : n + 1 + j ≡ n + suc j = omega arith in ap (slice_get all) e) ∙ h (suc j)

from-start : {X : Type 0} (xs : List X) (j : ℕ) → slice_get xs (0 + j) ≡ slice_get xs j
from-start xs j = let e : 0 + j ≡ j = omega arith in ap (slice_get xs) e

module _ (layout : Layout) (n : ℕ) where
  windows-fit : (number : ℕ) (ws : List WindowSpec) (ps : List PaneSize) → length ps ≡ length ws
      → ((j : ℕ) → slice_get layout.windows (number + j) ≡ slice_get ws j) → ((j : ℕ) → slice_get layout.panes (number + j) ≡ slice_get ps j)
      → AllByRecursion (IsWindowOnto layout n) (windows_onto n number ws ps)
  windows-fit number [] ps long at sized = tt
  windows-fit number (w ∷ ws) [] long at sized = absurd (omega arith)
  windows-fit number (w ∷ ws) (p ∷ ps) long at sized =
      by (nat_eq w.target n) refl (windows-fit (number + 1) ws ps (omega arith) (others layout.windows ws w number at) (others layout.panes ps p number sized))
    where
      by : (b : Bool) → nat_eq w.target n ≡ b → AllByRecursion (IsWindowOnto layout n) (windows_onto n (number + 1) ws ps)
          → AllByRecursion (IsWindowOnto layout n) ((if b then record { number = number; how = w.using; pane = p.pane; count = p.count } ∷ [] else []) ++ windows_onto n (number + 1) ws ps)
      by true e on = (
        record {
          spec = w;
          size = p;
          at = first layout.windows (w ∷ ws) number at;
          size_at = first layout.panes (p ∷ ps) number sized;
          target = eqb-true w.target n e;
          how = refl;
          pane = refl;
          count = refl;
        },
        on,
      )
      by false e on = on

module _ (plan : Plan) (sizes : length plan.panes ≡ length plan.spec.windows) where
  streams-fit : (n : ℕ) (ss : List StreamLayout) → ((j : ℕ) → slice_get (layout_of plan).streams (n + j) ≡ slice_get ss j) → AreStreamsOf (layout_of plan) n (stream_forms plan n ss)
  streams-fit n [] at = tt
  streams-fit n (s ∷ ss) at =
      let here : slice_get (layout_of plan).streams n ≡ Some s = first (layout_of plan).streams (s ∷ ss) n at in (
        record {
          below = slice_get_within (layout_of plan).streams n s here;
          kept = sym (ap kept_in here);
          spawns = sym (ap spawns_in here);
          windows = windows-fit (layout_of plan) n 0 plan.spec.windows plan.panes sizes (from-start plan.spec.windows) (from-start plan.panes);
        },
        streams-fit (n + 1) ss (others (layout_of plan).streams ss s n at),
      )

  pub forms-fit : AreStreamsOf (layout_of plan) 0 (forms_of plan)
  forms-fit = streams-fit 0 (layout_of plan).streams (from-start (layout_of plan).streams)

-- each of the forms fits
form-at : (layout : Layout) (n : ℕ) (forms : List StreamForm) (i : ℕ) (form : StreamForm) → AreStreamsOf layout n forms → slice_get forms i ≡ Some form → IsStreamOf layout (n + i) form
form-at layout n [] zero form h e = absurd (cc)
form-at layout n [] (suc i) form h e = absurd (cc)
form-at layout n (f ∷ forms) zero form h e =
    let same : f ≡ form = cc in
    let at : n ≡ n + 0 = omega arith in
    subst (λ (m : ℕ). IsStreamOf layout m form) at (subst (λ g. IsStreamOf layout n g) same h.0)
form-at layout n (f ∷ forms) (suc i) form h e =
    let at : n + 1 + i ≡ n + suc i = omega arith in
    subst (λ (m : ℕ). IsStreamOf layout m form) at (form-at layout (n + 1) forms i form h.1 e)

pub window-at : (layout : Layout) (n : ℕ) (ws : List WindowForm) (i : ℕ) (w : WindowForm) → AllByRecursion (IsWindowOnto layout n) ws → slice_get ws i ≡ Some w → IsWindowOnto layout n w
window-at layout n [] zero w h e = absurd (cc)
window-at layout n [] (suc i) w h e = absurd (cc)
window-at layout n (v ∷ ws) zero w h e = let same : v ≡ w = cc in subst (λ x. IsWindowOnto layout n x) same h.0
window-at layout n (v ∷ ws) (suc i) w h e = window-at layout n ws i w h.1 e

pub form-of : (layout : Layout) (forms : List StreamForm) (i : ℕ) (form : StreamForm) → AreStreamsOf layout 0 forms → slice_get forms i ≡ Some form → IsStreamOf layout i form
form-of layout forms i form h e = let at : 0 + i ≡ i = omega arith in subst (λ (m : ℕ). IsStreamOf layout m form) at (form-at layout 0 forms i form h e)

-- and there are as many as streams

pub many-layouts : (ss : List Stream) (kept : List ℕ) (pacings : List ClausePacings) → length (layouts_from ss kept pacings) ≡ length ss
many-layouts [] kept pacings = refl
many-layouts (s ∷ ss) kept pacings = ap suc (many-layouts ss (drop 1 kept) (drop 1 pacings))

many-forms : (plan : Plan) (n : ℕ) (ss : List StreamLayout) → length (stream_forms plan n ss) ≡ length ss
many-forms plan n [] = refl
many-forms plan n (s ∷ ss) = ap suc (many-forms plan (n + 1) ss)

pub forms-long : (plan : Plan) → length (forms_of plan) ≡ length plan.spec.streams
forms-long plan = many-forms plan 0 (layout_of plan).streams ∙ many-layouts plan.spec.streams plan.kept plan.pacings
