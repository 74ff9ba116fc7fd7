-- An engine that has run nothing.
use Rattle.std.proofs.Common.{◌≡◌, refl, ap, sym, subst, ◌∙◌, ℕ, ◌^◌, ◌<◌, ◌≤◌, inl, inr, [], Option, Some, None, is_some, length, arith}
use Rattle.lola_value.specs.Naming.{Naming}
use Rattle.lola_value.specs.Times.{latest}
use Rattle.lola_clock.specs.Clock.{ClockState}
use Rattle.lola_model.specs.Faults.{fault_of_last}
use Rattle.lola_model.specs.Journal.{opening_time}
use Rattle.lola_model.specs.Model.{last_row}
use Rattle.lola_model.specs.Runs.{content_after, settled_fault, settled_lines, settled_model}
use Rattle.lola_model.specs.Standing.{StandsBetween}
use Rattle.lola_model.specs.Steps.{start_of}
use Rattle.lola_model.specs.Store.{Memories, Seen, after_start, instances_seen, layout_of, new_seen, time_seen}
use Rattle.lola_model.specs.Texts.{table_lines}
use Rattle.lola_model.specs.declared.journal.Show.{Show}
use Rattle.lola_model.specs.declared.plan.Plan.{Plan}
use Rattle.lola_model.proofs.Orderly.{of_no_rows}
use Rattle.lola_step.specs.Progress.{IsRun}
use Rattle.lola_text.specs.Texts.{Texts}
use Rattle.lola_engine.specs.Behind.{StandsBehind}
use Rattle.lola_engine.specs.Engines.{IsEngine, IsSound, IsUnderWay, StandsFor}
use Rattle.lola_engine.specs.Going.{IsMade}
use Rattle.lola_engine.specs.declared.engine.EngineState.{EngineState}
use Rattle.lola_engine.proofs.Joining.{none_or, some_is}
use Rattle.lola_step_contents.proofs.Settled.{settled_at_none}
use Rattle.lola_engine.proofs.Ranges.{sound_rows, sound_started}

-- of an empty journal there is nothing
module _ (plan : Plan) (given_start : Option ℕ) where
  none_settled : settled_model plan given_start [] ≡ []
  unfolding settled_model
  none_settled = refl

  none_faults : settled_fault plan given_start [] ≡ None
  unfolding settled_fault
  none_faults = ap (λ t. fault_of_last (last_row t)) none_settled

  none_told : (show : Show) → settled_lines plan given_start [] show ≡ []
  unfolding settled_lines
  none_told show = ap (table_lines show plan.spec.streams) none_settled

-- who stands for the empty journal, and has nothing behind, stands for it behind the empty one
pub behind_nothing : (e : EngineState) (s : Seen) (m : Memories) → e.behind ≡ 0 → StandsFor e s m [] → StandsBehind e s m [] []
behind_nothing e s m none h =
    let no_steps = ap length (none_settled e.plan e.given_start) in
    let no_lines = ap length (none_told e.plan e.given_start e.show) in
    record {
      since = [];
      split = refl;
      going = h.going;
      fine = h.fine;
      merged = h.merged;
      behind = omega (arith, none, no_steps);
      steps = omega (arith, none, h.steps);
      lines = omega (arith, no_lines, h.lines);
      rows = omega (arith, h.rows);
      state = h.state;
    }

module _ (e : EngineState) (plan : Plan) (texts : Texts) (given_start : Option ℕ) (show : Show) (workers : ℕ) (made : IsMade plan texts given_start show workers e) (s : Seen) (new : s ≡ new_seen (layout_of plan)) where
  pub new_of : s ≡ new_seen (layout_of e.plan)
  new_of = new ∙ ap (λ p. new_seen (layout_of p)) (sym made.plan_is)

  -- it is an engine
  pub new_engine : texts.given ≤ 2 ^ 32 → IsEngine e s
  new_engine few =
      let given_is : e.texts.given ≡ texts.given = ap (λ (t : Texts). t.given) made.texts_are in
      let time_is : time_seen s ≡ 0 = ap time_seen new in
      let steps_are : s.steps ≡ 0 = ap (λ (z : Seen). z.steps) new in
      record {
        sound = subst (λ z. IsSound e z) (sym new) made.sound;
        time = omega (arith, time_is);
        passed = λ a q. absurd (none_or e.clock.start a made.clock.0 q);
        merged = omega (arith, made.nothing.1);
        few_behind = omega (arith, made.nothing.5);
        few_rows = omega (arith, made.nothing.0);
        few_steps = omega (arith, steps_are);
        few_texts = omega (arith, given_is, few);
        few_swept = omega (arith, given_is, few, made.few_swept);
      }

  -- one that waits for its first row
  pub waits : (m : Memories) → given_start ≡ None → ((names : Naming) (n i : ℕ) → i < length (instances_seen s n) → m names n i []) → StandsFor e s m []
  waits m without past = record {
    going = made.nothing.4;
    fine = none_faults e.plan e.given_start;
    merged = made.nothing.1 ∙ sym (ap opening_time (made.given_start_is ∙ without));
    steps = made.nothing.2 ∙ ap length (sym (none_settled e.plan e.given_start));
    lines = made.nothing.3 ∙ ap length (sym (none_told e.plan e.given_start e.show));
    rows = made.nothing.0;
    state = inl (record { without = made.given_start_is ∙ without; none = refl; new = new_of; past = past; clock = made.clock.0 });
  }

  pub waits_behind : (m : Memories) → given_start ≡ None → ((names : Naming) (n i : ℕ) → i < length (instances_seen s n) → m names n i []) → StandsBehind e s m [] []
  waits_behind m without past = behind_nothing e s m made.nothing.5 (waits m without past)

  module _ (start : ℕ) (le : start ≤ latest) (s2 : Seen) (k : ClockState) (at : k ≡ record e.clock { start = Some start; passed = start }) (shows : s2 ≡ after_start s start) where
    abbrev opened : EngineState
    opened = record e { clock = k; merged = start }

    shown : s2 ≡ after_start (new_seen (layout_of plan)) start
    shown = shows ∙ ap (λ z. after_start z start) new

    -- one that was given a start
    pub opened_engine : texts.given ≤ 2 ^ 32 → IsEngine opened s2
    opened_engine few =
        let given_is : e.texts.given ≡ texts.given = ap (λ (t : Texts). t.given) made.texts_are in
        let passed_is : k.passed ≡ start = ap (λ (z : ClockState). z.passed) at in
        let time_is : time_seen s2 ≡ start = ap time_seen shown in
        let steps_are : s2.steps ≡ 0 = ap (λ (z : Seen). z.steps) shown in
        record {
          sound = sound_rows (record e { clock = k }) s2 e.rows start (sound_started e (new_seen (layout_of plan)) s2 k start le at shown made.sound);
          time = omega (arith, time_is);
          passed = λ a q. let same : start ≡ a = some_is k.start start a (ap (λ (z : ClockState). z.start) at) q in omega (arith, passed_is);
          merged = le;
          few_behind = omega (arith, made.nothing.5);
          few_rows = omega (arith, made.nothing.0);
          few_steps = omega (arith, steps_are);
          few_texts = omega (arith, given_is, few);
          few_swept = omega (arith, given_is, few, made.few_swept);
        }

    -- and stands for what nothing has come to
    pub opened_stands : (m : Memories) → given_start ≡ Some start → StandsBetween e.texts.held m s2 (content_after e.plan start []) → StandsFor opened s2 m []
    opened_stands m given stands =
        let given_start_is : e.given_start ≡ Some start = made.given_start_is ∙ given in
        let start_is : start_of e.given_start [] ≡ start = ap (λ o. start_of o []) given_start_is in
        let passed_is : k.passed ≡ start = ap (λ (z : ClockState). z.passed) at in
        let none = sym (none_settled e.plan e.given_start) in
        let under_way : IsUnderWay opened s2 m [] = record {
          begun = λ q. ap is_some given_start_is;
          run = subst (λ t. IsRun e.plan e.texts.held t) none (record { naming = made.sound.table.naming; texts = made.sound.texts; of_rows = of_no_rows; settled = settled_at_none e.plan });
          stands = subst (λ t. StandsBetween e.texts.held m s2 (content_after e.plan (start_of e.given_start []) t)) none
              (subst (λ z. StandsBetween e.texts.held m s2 (content_after e.plan z [])) (sym start_is) stands);
          clock = ap (λ (z : ClockState). z.start) at ∙ ap (λ z. Some z) (sym start_is);
          passed = omega (arith, passed_is, start_is);
        } in
        record {
          going = made.nothing.4;
          fine = none_faults e.plan e.given_start;
          merged = sym (ap opening_time given_start_is);
          steps = made.nothing.2 ∙ ap length none;
          lines = made.nothing.3 ∙ ap length (sym (none_told e.plan e.given_start e.show));
          rows = made.nothing.0;
          state = inr under_way;
        }

    pub opened_behind : (m : Memories) → given_start ≡ Some start → StandsBetween e.texts.held m s2 (content_after e.plan start []) → StandsBehind opened s2 m [] []
    opened_behind m given stands = behind_nothing opened s2 m made.nothing.5 (opened_stands m given stands)
