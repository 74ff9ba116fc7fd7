use Rattle.std.proofs.Common.{◌≡◌, ℕ, ◌+◌, ◌-◌, ◌≤◌, ◌++◌, Bool, true, false, List, map, sym, ◌∙◌, subst, arith}
use Rattle.lola_value.specs.declared.text.Field.{Field}
use Rattle.lola_value.specs.Naming.{read_outcome}
use Rattle.lola_model.specs.Accesses.{one_more}
use Rattle.lola_model.specs.Store.{time_seen, start_seen, now_seen, Running}
use Rattle.lola_instances_stream.specs.Crowds.{RemembersAt, shown_at}
use Rattle.lola_instances_stream.specs.Each.{Each}
use Rattle.lola_instances_stream.specs.Rights.{CrowdRight}
use Rattle.lola_instances_stream.proofs.Beginnings.{crowd_later, begun_at}
use Rattle.lola_instances.specs.Phases.{start_in, time_in, is_on}
use Rattle.lola_instances.specs.Stores.{bounded_seen}
use Rattle.lola_instances.specs.Streams.{crowd_layout, slot_at}
use Rattle.lola_instances.proofs.Asking.{shows_at, right_at}
use Rattle.lola_instances.proofs.Changing.{all_quiet}
use Rattle.lola_instances.proofs.Phases.{phase_time, phase_start}
use Rattle.lola_instances.proofs.begin.begin.Goals as goal

pub invariant_of-s : goal.invariant_of-s
invariant_of-s c =
    let s = c.args.s.now in
    let g : 1 ≤ s.step = s.step_ge in
    let steps = c.requires.steps_lt in
    let e : c.start_of-start.result ≡ start_in s.phase = c.start_of-start.ensures in
    let b : start_in s.phase ≤ time_in s.phase = s.time_ge in
    let t : time_in s.phase ≤ c.args.time = subst (λ (n : ℕ). n ≤ c.args.time) (phase_time s.phase) c.requires.time_le in
    let r : Each (CrowdRight (is_on s.phase) true s.step (time_in s.phase - start_in s.phase)) s.streams.items =
    subst (λ (b : Bool). Each (CrowdRight (is_on s.phase) b s.step (time_in s.phase - start_in s.phase)) s.streams.items) c.requires.prepared s.right in
    record {
      step_ge = omega arith;
      step_le = omega arith;
      begun = λ q. omega arith;
      time_ge = omega arith;
      offset_is = c.time_since-s.ensures;
      right = λ i k at. crowd_later (is_on s.phase) s.step (time_in s.phase - start_in s.phase) (c.args.time - c.start_of-start.result) k (r i k at) (omega arith);
      placed = s.placed;
      at_places = s.at_places;
      covered = s.covered;
      numbered = s.numbered;
    }

pub returns-clause-seen : goal.returns-clause-seen
returns-clause-seen c =
    let s = c.args.s.now in
    let g : 1 ≤ s.step = s.step_ge in
    let steps : s.step + 1 - 1 ≡ s.step - 1 + 1 = omega arith in
    let e : c.start_of-start.result ≡ start_seen (bounded_seen s) = c.start_of-start.ensures ∙ sym (phase_start s.phase) in
    let q = all_quiet (is_on s.phase) s.prepared s.step (time_in s.phase - start_in s.phase) s.streams.items s.right in
    λ i. record {
      layout = record { streams = map crowd_layout s.streams.items; windows = s.windows; panes = s.sizes };
      phase = Running (e i) c.args.time;
      prepared = false;
      steps = steps i;
      streams = q i;
    }

pub returns-clause-past : goal.returns-clause-past
returns-clause-past c = λ names n i values h.
    let s = c.args.s.now in
    let o = slot_at s.streams.items n i in
    let a = begun_at (start_in s.phase) (time_in s.phase) s.step c.args.time names o values
    (λ x e. (right_at (is_on s.phase) s.prepared s.step (time_in s.phase - start_in s.phase) s.streams.items n i x s.right e).1.timely.stamp_le) h in
    let t : time_seen (bounded_seen s) ≡ time_in s.phase = phase_time s.phase in
    let w : now_seen (bounded_seen s) n i ≡ shown_at s.step o = shows_at s.step s.streams.items n i in
    let b : c.start_of-start.result ≡ start_in s.phase = c.start_of-start.ensures in
    subst (λ (from : ℕ). RemembersAt from c.args.time (s.step + 1) names o (values ++ one_more (time_seen (bounded_seen s)) (read_outcome names (now_seen (bounded_seen s) n i)))) (sym b)
    (subst (λ (vs : List (ℕ × Field)). RemembersAt (start_in s.phase) c.args.time (s.step + 1) names o vs) (λ j. values ++ one_more (sym t j) (read_outcome names (sym w j))) a)

pub time_since-s-requires : goal.time_since-s-requires
time_since-s-requires c =
    let s = c.args.s.now in
    let b : start_in s.phase ≤ time_in s.phase = s.time_ge in
    let t : time_in s.phase ≤ c.args.time = subst (λ (n : ℕ). n ≤ c.args.time) (phase_time s.phase) c.requires.time_le in
    omega (arith, c.start_of-start.ensures, b, t)
