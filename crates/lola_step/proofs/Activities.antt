-- A moment is active where the step that it is of is.
use Rattle.std.proofs.Common.{◌≡◌, refl, ap, ◌∙◌, sym, ℕ, ◌≤◌, List, Option, Some, None, Bool, true, false, option_map, arith}
use Rattle.lola_value.specs.declared.text.Field.{Field}
use Rattle.lola_model.specs.Activity.{is_active, is_active_at, is_active_for, may_be_active, present}
use Rattle.lola_model.specs.NextStep.{is_local}
use Rattle.lola_model.specs.Store.{Phase, New, Started, Running, Seen}
use Rattle.lola_model.specs.Table.{Step}
use Rattle.lola_model.specs.declared.pacing.Pacing.{Pacing}
use Rattle.lola_model.specs.declared.pacing.Pacing.TheVariants.{Event, Periodic, Local}
use Rattle.lola_model.specs.declared.plan.Plan.{Plan}
use Rattle.lola_step_contents.specs.Ready.{IsAtStep}
use Rattle.lola_step_contents.specs.Stages.{Stage}
use Rattle.lola_step.specs.Moments.{IsMoment, active_at, active_for_in, active_in, may_be_active_in}
use Rattle.lola_step.specs.Progress.{GoesOn, IsAt, IsMomentOf}
use Rattle.lola_step.specs.declared.moment.Moment.{Moment}

active_with : (start time : ℕ) (fields : Option (List Field)) (p : Pacing) → active_at start time (option_map present fields) p ≡ is_active_at start time fields p
active_with start time None (Event sets) = refl
active_with start time None (Periodic r) = refl
active_with start time None (Local r) = refl
active_with start time (Some fs) (Local r) = refl
active_with start time (Some fs) (Event sets) = refl
active_with start time (Some fs) (Periodic r) = refl

-- a pacing is active at the moment of a step where it is in the step
pub active_is : (start : ℕ) (step : Step) (m : Moment) → IsMoment start step m → (p : Option Pacing) → active_in m p ≡ is_active start step p
active_is start step m is None = refl
active_is start step m is (Some p) =
    ap (λ k. active_at k m.time m.present p) is.start_is
    ∙ (ap (λ k. active_at start k m.present p) is.time_is
    ∙ (ap (λ o. active_at start step.time o p) is.present_is ∙ active_with start step.time step.fields p))

-- and for an instance, where a local one counts from the same birth
pub active_for_is : (start : ℕ) (step : Step) (m : Moment) → IsMoment start step m → (a b : ℕ) (p : Option Pacing) → (is_local p ≡ true → a ≡ b)
    → active_for_in m a p ≡ is_active_for start b step p
active_for_is start step m is a b None same = refl
active_for_is start step m is a b (Some (Event sets)) same = active_is start step m is (Some (Event sets))
active_for_is start step m is a b (Some (Periodic r)) same = active_is start step m is (Some (Periodic r))
active_for_is start step m is a b (Some (Local r)) same =
    ap (λ k. active_at k m.time m.present (Periodic r)) (same refl)
    ∙ (ap (λ k. active_at b k m.present (Periodic r)) is.time_is
    ∙ (ap (λ o. active_at b step.time o (Periodic r)) is.present_is ∙ active_with b step.time step.fields (Periodic r)))

-- no row
abbrev at_deadlines : {A : Type 0} → Option A → Bool
at_deadlines None = true
at_deadlines (Some x) = false

deadlines_with : (fields : Option (List Field)) → at_deadlines (option_map present fields) ≡ at_deadlines fields
deadlines_with None = refl
deadlines_with (Some fs) = refl

-- it may be active for some instance where it may in the step
pub may_be_is : (start : ℕ) (step : Step) (m : Moment) → IsMoment start step m → (p : Option Pacing) → may_be_active_in m p ≡ may_be_active start step p
may_be_is start step m is None = refl
may_be_is start step m is (Some (Event sets)) = active_is start step m is (Some (Event sets))
may_be_is start step m is (Some (Periodic r)) = active_is start step m is (Some (Periodic r))
may_be_is start step m is (Some (Local r)) = ap at_deadlines is.present_is ∙ deadlines_with step.fields

-- where it may not, it is active for no instance
pub never_active : (start : ℕ) (step : Step) (born : ℕ) (p : Option Pacing) → may_be_active start step p ≡ false → is_active_for start born step p ≡ false
never_active start step born None e = refl
never_active start step born (Some (Event sets)) e = e
never_active start step born (Some (Periodic r)) e = e
never_active start step born (Some (Local r)) e = by step.fields e
  where
    by : (o : Option (List Field)) → at_deadlines o ≡ false → is_active_at born step.time o (Periodic r) ≡ false
    by None e = absurd (cc)
    by (Some fs) e = refl

pub never_active_in : (m : Moment) (born : ℕ) (p : Option Pacing) → may_be_active_in m p ≡ false → active_for_in m born p ≡ false
never_active_in m born None e = refl
never_active_in m born (Some (Event sets)) e = e
never_active_in m born (Some (Periodic r)) e = e
never_active_in m born (Some (Local r)) e = by m.present e
  where
    by : (o : Option ℕ) → at_deadlines o ≡ false → active_at born m.time o (Periodic r) ≡ false
    by None e = absurd (cc)
    by (Some inputs) e = refl

abbrev start_of : Phase → ℕ
start_of p = elim p [ New ↦ 0 | Started a ↦ a | Running a t ↦ a ]

abbrev time_of : Phase → ℕ
time_of p = elim p [ New ↦ 0 | Started a ↦ a | Running a t ↦ t ]

module _ (plan : Plan) (m : Moment) (s : Seen) (of : IsMomentOf m s) where
  -- it is no earlier than the start
  pub moment_order : (g : Stage) → IsAt plan g s → m.start ≤ m.time
  moment_order g h =
      let a = of.start_is in
      let b = of.time_is in
      let c = h.of.order in
      omega (arith, a, b, c)

  -- a store at a stage is in the step of its moment
  pub at_step : (g : Stage) → IsAt plan g s → IsAtStep plan m.start of.step s
  at_step g h = record {
    running = h.running;
    layout = h.of.layout;
    start_is = sym of.start_is;
    time_is = sym of.time_is ∙ of.is.time_is;
    order = (let a = moment_order g h in let b = of.is.time_is in omega (arith, a, b));
  }

  -- and stays in it as the step goes on
  pub moment_later : (t : Seen) → GoesOn s t → IsMomentOf m t
  moment_later t h = record {
    start_is = of.start_is ∙ ap start_of (sym h.phase);
    time_is = of.time_is ∙ ap time_of (sym h.phase);
    step = of.step;
    is = of.is;
  }
