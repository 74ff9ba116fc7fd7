use Rattle.std.proofs.Common.{◌≡◌, ℕ, ◌+◌, ◌-◌, ◌≤◌, ◌++◌, Bool, true, false, List, map, sym, ◌∙◌, subst, arith}
use Rattle.lola_value.specs.declared.text.Field.{Field}
use Rattle.lola_value.specs.Naming.{read_outcome}
use Rattle.lola_model.specs.Accesses.{one_more}
use Rattle.lola_model.specs.Store.{time_seen, start_seen, now_seen, Running}
use Rattle.lola_instances_stream.specs.Each.{Each}
use Rattle.lola_store.specs.Instances.{RecallsAt}
use Rattle.lola_store.specs.Populations.{population_layout, instance_at, PopulationRight}
use Rattle.lola_instances.specs.Phases.{time_in, is_on}
use Rattle.lola_store.specs.Stores.{whole_seen}
use Rattle.lola_store.proofs.Asking.{owned}
use Rattle.lola_instances.proofs.Phases.{phase_time, phase_start}
use Rattle.lola_store.proofs.Beginning.{population_later, populations_quiet, begun_at}
use Rattle.lola_store.proofs.Places.{outcome_at, outcome_shows}
use Rattle.lola_store.proofs.begin.begin.Goals as goal

pub invariant_of-s : goal.invariant_of-s
invariant_of-s c =
    let s = c.args.s.now in
    let r : Each (PopulationRight (is_on s.phase) true s.step) s.streams.items = subst (λ (b : Bool). Each (PopulationRight (is_on s.phase) b s.step) s.streams.items) c.requires.prepared s.right in
    record {
      step_ge = omega arith;
      right = λ i l e. population_later (is_on s.phase) s.step l (r i l e);
      taken = s.taken;
    }

pub returns-clause-seen : goal.returns-clause-seen
returns-clause-seen c =
    let s = c.args.s.now in
    let g : 1 ≤ s.step = s.step_ge in
    let steps : s.step + 1 - 1 ≡ s.step - 1 + 1 = omega arith in
    let e : c.start_of.result ≡ start_seen (whole_seen s) = c.start_of.ensures ∙ sym (phase_start s.phase) in
    let q = populations_quiet (is_on s.phase) s.prepared s.step s.streams.items s.right in
    λ i. record {
      layout = record { streams = map population_layout s.streams.items; windows = s.windows; panes = s.sizes };
      phase = Running (e i) c.args.time;
      prepared = false;
      steps = steps i;
      streams = q i;
    }

pub returns-clause-past : goal.returns-clause-past
returns-clause-past c = λ names n i values h.
    let s = c.args.s.now in
    let o = instance_at s.streams.items n i in
    let a = begun_at (time_in s.phase) s.step c.args.time names o values (λ x e. (owned s n i x e).right.told_le) h in
    let t : time_seen (whole_seen s) ≡ time_in s.phase = phase_time s.phase in
    let w : now_seen (whole_seen s) n i ≡ outcome_at s.step o = outcome_shows s.step s.streams.items n i in
    subst (λ (vs : List (ℕ × Field)). RecallsAt c.args.time (s.step + 1) names o vs) (λ j. values ++ one_more (sym t j) (read_outcome names (sym w j))) a
