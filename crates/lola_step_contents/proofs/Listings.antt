-- What is known of the numbers that stand in the expressions of an accepted plan: offsets, windows and texts.
use Rattle.std.proofs.Common.{◌≡◌, refl, ap, subst, ◌∙◌, ℕ, zero, suc, ◌-◌, ◌%◌, ◌<◌, ◌≤◌, List, [], ◌∷◌, Option, Some, None, Bool, true, ◌&&◌, arith, nat_eq, nat_le, nat_lt, length, drop, slice_get, inl, inr}
use Rattle.std.specs.List.{Contains}
use Rattle.std.proofs.lemmas.Bool.{eqb-true, eq-eqb, le-leb, ltb-true, and_from}
use Rattle.lola_value.specs.declared.value.Kind.{Kind}
use Rattle.lola_model.proofs.Strictly.{Contains-cases, Contains-none}
use Rattle.lola_model.specs.Acceptance.{IsAccepted}
use Rattle.lola_model.specs.Activity.{is_active_for}
use Rattle.lola_model.specs.Bounds.{greatest_offset, offset_onto, offsets_onto, pacing_at}
use Rattle.lola_model.specs.Named.{all_numbers, all_streams, has_few_parameters, is_window_of, literal_text, offset_in, same_part, window_number, windows_stand_here}
use Rattle.lola_model.specs.Parts.{listed, listed_spec}
use Rattle.lola_model.specs.Store.{Seen, layout_of, layouts_from, pane_of, start_seen, time_seen}
use Rattle.lola_model.specs.Table.{Step}
use Rattle.lola_model.specs.Typing.{has_few, is_whole_pane, target_few}
use Rattle.lola_model.specs.Wholes.{wholes_of}
use Rattle.lola_model.specs.declared.expr.Expr.{Expr}
use Rattle.lola_model.specs.declared.pacing.ClausePacings.{ClausePacings}
use Rattle.lola_model.specs.declared.plan.Plan.{Plan}
use Rattle.lola_model.specs.declared.spec.Part.{Part}
use Rattle.lola_model.specs.declared.spec.Part.TheVariants as part
use Rattle.lola_model.specs.declared.spec.Stream.{Stream}
use Rattle.lola_model.specs.declared.spec.WindowSpec.{WindowSpec}
use Rattle.lola_expr.proofs.OperandLemmas.{first, second}
use Rattle.lola_step_contents.specs.Ready.{IsAtStep}
use Rattle.lola_step_contents.proofs.Among.{IsAmong, whole}
use Rattle.lola_step_contents.proofs.Moments.{whole_panes}

-- which numbers are listed of an expression
pub data Listing : Type 0 where
  Offsets : Listing
  Onto : (n : ℕ) → Listing
  Windows : Listing
  Texts : Listing

-- those of an expression alone
abbrev pub numbers_in : Listing → Expr → List ℕ
numbers_in Offsets e = offset_in e
numbers_in (Onto n) e = offset_onto n e
numbers_in Windows e = window_number e
numbers_in Texts e = literal_text e

-- a store can be asked the window of this number
abbrev pub can_ask_window : Plan → Seen → ℕ → Bool
can_ask_window plan s i = target_few (layout_of plan).streams (slice_get plan.spec.windows i) && is_whole_pane s (pane_of (slice_get plan.panes i))

-- what is known of each of them
abbrev pub IsKnown : Plan → Seen → Listing → ℕ → Type 0
IsKnown plan s Offsets k = nat_le 1 k ≡ true
IsKnown plan s (Onto n) k = k ≤ greatest_offset (offsets_onto n plan.spec)
IsKnown plan s Windows i = can_ask_window plan s i ≡ true
IsKnown plan s Texts i = i < length plan.spec.texts

-- a number that is listed passes
passes : (f : ℕ → Bool) (ns : List ℕ) (i : ℕ) → all_numbers f ns ≡ true → Contains ns i → f i ≡ true
passes f [] i h c = absurd (Contains-none i c)
passes f (n ∷ ns) i h c =
    let rest = passes f ns i (second (f n) (all_numbers f ns) h) in
    elim (Contains-cases n i ns c) [ inl e ↦ subst (λ (j : ℕ). f j ≡ true) e (first (f n) (all_numbers f ns) h) | inr d ↦ rest d ]

-- and is no greater than the greatest
up_to_greatest : (ks : List ℕ) (k : ℕ) → Contains ks k → k ≤ greatest_offset ks
up_to_greatest [] k c = absurd (Contains-none k c)
up_to_greatest (x ∷ xs) k c =
    let rest = up_to_greatest xs k in
    elim (Contains-cases x k xs c) [ inl e ↦ omega (arith, e) | inr d ↦ (let h = rest d in omega (arith, h)) ]

-- a stream that is read has few parameters, and so has none where there is none
pub few_at : (ss : List Stream) (kept : List ℕ) (pacings : List ClausePacings) (n : ℕ) → all_streams has_few_parameters ss ≡ true → has_few (slice_get (layouts_from ss kept pacings) n) ≡ true
few_at [] kept pacings n h = refl
few_at (s ∷ ss) kept pacings zero h = first (has_few_parameters s) (all_streams has_few_parameters ss) h
few_at (s ∷ ss) kept pacings (suc n) h = few_at ss (drop 1 kept) (drop 1 pacings) n (second (has_few_parameters s) (all_streams has_few_parameters ss) h)

-- the same clause
same_part-true : (p q : Part) → same_part p q ≡ true → p ≡ q
same_part-true part.Spawn part.Spawn h = refl
same_part-true part.Spawn part.Eval h = absurd (cc)
same_part-true part.Spawn part.Close h = absurd (cc)
same_part-true part.Eval part.Spawn h = absurd (cc)
same_part-true part.Eval part.Eval h = refl
same_part-true part.Eval part.Close h = absurd (cc)
same_part-true part.Close part.Spawn h = absurd (cc)
same_part-true part.Close part.Eval h = absurd (cc)
same_part-true part.Close part.Close h = refl

module _ (plan : Plan) (start : ℕ) (step : Step) (s : Seen) (accepted : IsAccepted plan) (at : IsAtStep plan start step s) (n : ℕ) (p : Part) (born : ℕ) (active : is_active_for start born step (pacing_at plan.pacings n p) ≡ true) where
  -- a window of a clause that is active has a whole number of panes up to this moment
  whole_moment : (i : ℕ) (w : WindowSpec) → slice_get plan.spec.windows i ≡ Some w → w.stream ≡ n → w.part ≡ p → is_whole_pane s (pane_of (slice_get plan.panes i)) ≡ true
  whole_moment i w e stream clause =
      let pane = pane_of (slice_get plan.panes i) in
      let pacing : pacing_at plan.pacings w.stream w.part ≡ pacing_at plan.pacings n p =
      ap (λ m. pacing_at plan.pacings m w.part) stream ∙ ap (λ q. pacing_at plan.pacings n q) clause in
      let rest = whole_panes start born step (pacing_at plan.pacings w.stream w.part) w.over (slice_get plan.panes i) (accepted.bounds.panes i w e)
      (ap (λ o. is_active_for start born step o) pacing ∙ active) in
      let moment : (time_seen s - start_seen s) % pane ≡ (step.time - start) % pane =
      ap (λ t. (t - start_seen s) % pane) at.time_is ∙ ap (λ t. (step.time - t) % pane) at.start_is in
      let order : start_seen s ≤ time_seen s = (let a = at.start_is in let b = at.time_is in let c = at.order in omega (arith, a, b, c)) in
      and_from (nat_le (start_seen s) (time_seen s)) (nat_eq ((time_seen s - start_seen s) % pane) 0)
      (le-leb (start_seen s) (time_seen s) order)
      (eq-eqb ((time_seen s - start_seen s) % pane) 0 (moment ∙ rest))

  -- it can be asked
  asked_window : (i : ℕ) (o : Option WindowSpec) → slice_get plan.spec.windows i ≡ o → is_window_of n p o ≡ true
      → (target_few (layout_of plan).streams o && is_whole_pane s (pane_of (slice_get plan.panes i))) ≡ true
  asked_window i None e h = absurd (cc)
  asked_window i (Some w) e h =
      and_from (has_few (slice_get (layout_of plan).streams w.target)) (is_whole_pane s (pane_of (slice_get plan.panes i)))
      (few_at plan.spec.streams plan.kept plan.pacings w.target accepted.named.few_parameters)
      (whole_moment i w e (eqb-true w.stream n (first (nat_eq w.stream n) (same_part w.part p) h)) (same_part-true w.part p (second (nat_eq w.stream n) (same_part w.part p) h)))

  -- what is known of the numbers of a whole expression of this clause
  pub known : (ks : List Kind) (want : Kind) (before : ℕ) (e : Expr) → IsAmong (wholes_of plan.spec) (λ g. listed_spec g plan.spec) (whole n p ks want before e)
      → (i : Listing) (x : ℕ) → Contains (listed (numbers_in i) e) x → IsKnown plan s i x
  known ks want before e among Offsets x c = passes (λ k. nat_le 1 k) (listed_spec offset_in plan.spec) x accepted.typed.ranged.offsets (among.lists offset_in x c)
  known ks want before e among (Onto m) x c = up_to_greatest (offsets_onto m plan.spec) x (among.lists (offset_onto m) x c)
  known ks want before e among Windows x c =
      let here : windows_stand_here plan.spec.windows (whole n p ks want before e) ≡ true = among.passes (windows_stand_here plan.spec.windows) accepted.named.window_places in
      asked_window x (slice_get plan.spec.windows x) refl (passes (λ i. is_window_of n p (slice_get plan.spec.windows i)) (listed window_number e) x here c)
  known ks want before e among Texts x c =
      ltb-true x (length plan.spec.texts) (passes (λ i. nat_lt i (length plan.spec.texts)) (listed_spec literal_text plan.spec) x accepted.named.text_numbers (among.lists literal_text x c))
