use Rattle.std.proofs.Common.{◌≡◌, ◌∙◌, ◌+◌, ◌-◌, ◌≤◌, ℕ, Option, Bool, false, Some, map, slice_get, refl, ap, sym, subst, arith}
use Rattle.lola_model.specs.Store.{IsNew, Seen, is_new, new_seen, opened}
use Rattle.lola_instances_one.specs.Holdings.{Holdings}
use Rattle.lola_instances_stream.specs.Crowds.{Crowd, crowd_seen, RemembersAt}
use Rattle.lola_instances_stream.specs.Each.{Each}
use Rattle.lola_instances_stream.specs.Rights.{CrowdRight, IsUntold}
use Rattle.lola_instances.specs.Placed.{ArePlaced, AreCovered}
use Rattle.lola_instances.specs.Restoring.{all_spawned, phase_at, resumed, store_phase_at, steps_at}
use Rattle.lola_instances.specs.Spawning.{AreNumbered}
use Rattle.lola_instances.specs.Phases.{is_on, phase_in, start_in, time_in}
use Rattle.lola_instances.specs.Stores.{bounded_seen}
use Rattle.lola_instances.specs.Streams.{crowd_layout, slot_at}
use Rattle.lola_instances.specs.declared.phase.StorePhase.{StorePhase}
use Rattle.lola_instances.specs.declared.store.BoundedStore.{BoundedStore}
use Rattle.lola_instances.proofs.Asking.{right_at}
use Rattle.lola_instances.proofs.Phases.{new_is_at_zero, new_is_off}
use Rattle.lola_instances.proofs.Resuming.{IsFresh, fresh, opened_seen, resumed_layouts, resumed_covered, resumed_numbered, resumed_placed, resumed_remembers, resumed_right, resumed_seen, resumed_slots, resumed_was, phase_begun, phase_order, phase_is_seen, steps_few}
use Rattle.lola_instances.proofs.store.BoundedStore.resume_at.Goals as goal

-- a store that shows what a new one does
record Begins (s : BoundedStore) : Type 0 where
  pub new : IsNew (bounded_seen s)
  pub step : s.step ≡ 1
  pub prepared : s.prepared ≡ false
  pub fresh : Each IsFresh s.streams.items
  pub right : (n : ℕ) (c : Crowd) → slice_get s.streams.items n ≡ Some c → CrowdRight false false 1 0 c

begins : (s : BoundedStore) → bounded_seen s ≡ new_seen (bounded_seen s).layout → Begins s
begins s h =
    let new : IsNew (bounded_seen s) = ap (λ (z : Seen). is_new z.phase) h in
    let low = s.step_ge in
    let steps : s.step - 1 ≡ 0 = ap (λ (z : Seen). z.steps) h in
    let step : s.step ≡ 1 = omega arith in
    let prepared : s.prepared ≡ false = ap (λ (z : Seen). z.prepared) h in
    let off = new_is_off s.phase new in
    let zero = new_is_at_zero s.phase new in
    let streams = ap (λ (z : Seen). z.streams) h in
    let right : (n : ℕ) (c : Crowd) → slice_get s.streams.items n ≡ Some c → CrowdRight false false 1 0 c =
    λ n c e. subst (λ (k : ℕ). CrowdRight false false 1 k c) zero
    (subst (λ (k : ℕ). CrowdRight false false k (time_in s.phase - start_in s.phase) c) step
    (subst (λ (b : Bool). CrowdRight false b s.step (time_in s.phase - start_in s.phase) c) prepared
    (subst (λ (b : Bool). CrowdRight b s.prepared s.step (time_in s.phase - start_in s.phase) c) off (s.right n c e)))) in
    record {
      new = new;
      step = step;
      prepared = prepared;
      fresh = λ n c e. fresh false 1 0 c refl (right n c e) (opened_seen 1 s.streams.items n c (subst (λ (k : ℕ). map (crowd_seen k) s.streams.items ≡ map opened (map crowd_layout s.streams.items)) step streams) e);
      right = right;
    }

pub time_since-self-requires : goal.time_since-self-requires
time_since-self-requires c =
    let o = phase_order c.args.start c.args.last c.requires.order in
    let e = c.store_phase_of-phase.ensures in
    let a : c.start_of.result ≡ start_in (store_phase_at c.args.start c.args.last) = c.start_of.ensures ∙ ap start_in e in
    let b : c.time_of.result ≡ time_in (store_phase_at c.args.start c.args.last) = c.time_of.ensures ∙ ap time_in e in
    omega (arith, a, b, o)

pub invariant_of-self : goal.invariant_of-self
invariant_of-self c =
    let s = c.args.self.now in
    let start = c.args.start in
    let last = c.args.last in
    let begun = begins s c.requires.new in
    let e : c.store_phase_of-phase.result ≡ store_phase_at start last = c.store_phase_of-phase.ensures in
    let step = c.step_of-step.result in
    let n : step ≡ steps_at last c.args.steps + 1 = c.step_of-step.ensures in
    let ds = c.resume_streams.new.streams.items in
    let items : ds ≡ resumed last step s.streams.items = c.resume_streams.ensures in
    let low : 1 ≤ step = omega arith in
    let off = time_in c.store_phase_of-phase.result - start_in c.store_phase_of-phase.result in
    record {
      step_ge = low;
      step_le = omega (arith, n, steps_few last c.args.steps, c.requires.few);
      begun = λ q. omega (arith, n, phase_begun start last c.args.steps (sym (ap is_on e) ∙ q));
      time_ge = subst (λ (t : StorePhase). start_in t ≤ time_in t) (sym e) (phase_order start last c.requires.order);
      offset_is = c.time_since-self.ensures ∙ (λ j. c.time_of.ensures j - c.start_of.ensures j);
      right = λ i d at.
          let x = resumed_was last step s.streams.items i d (ap (λ xs. slice_get xs i) (sym items) ∙ at) in
          subst (λ (t : StorePhase). CrowdRight (is_on t) s.prepared step off d) (sym e)
          (subst (λ (b : Bool). CrowdRight (is_on (store_phase_at start last)) b step off d) (sym begun.prepared)
          (resumed_right start last step off x.0 d low c.requires.order (begun.fresh i x.0 x.1) (begun.right i x.0 x.1) x.2));
      placed = subst (ArePlaced s.windows s.sizes s.places.items) (sym items) (resumed_placed last step s.windows s.sizes s.places.items s.streams.items s.placed);
      at_places = s.at_places;
      covered = subst (AreCovered s.windows) (sym items) (resumed_covered last step s.windows s.streams.items s.covered);
      numbered = subst (λ xs. AreNumbered xs s.spawning.items) (sym items) (resumed_numbered last step s.streams.items s.spawning.items s.numbered);
    }

pub returns-clause-seen : goal.returns-clause-seen
returns-clause-seen c =
    let s = c.args.self.now in
    let start = c.args.start in
    let last = c.args.last in
    let begun = begins s c.requires.new in
    let step = c.step_of-step.result in
    let n : step ≡ steps_at last c.args.steps + 1 = c.step_of-step.ensures in
    let low : 1 ≤ step = omega arith in
    let items = c.resume_streams.ensures in
    let lay = ap (map crowd_layout) items ∙ resumed_layouts last step s.streams.items in
    let phase : phase_in c.store_phase_of-phase.result ≡ phase_at start last = ap phase_in c.store_phase_of-phase.ensures ∙ phase_is_seen start last in
    let steps : step - 1 ≡ steps_at last c.args.steps = omega arith in
    let all = ap (map (crowd_seen step)) items ∙ (resumed_seen last step s.streams.items low begun.fresh ∙ ap (λ (k : ℕ). all_spawned last (map (crowd_seen k) s.streams.items)) (sym begun.step)) in
    λ j. record {
      layout = record { streams = lay j; windows = s.windows; panes = s.sizes };
      phase = phase j;
      prepared = s.prepared;
      steps = steps j;
      streams = all j;
    }

pub returns-clause-past : goal.returns-clause-past
returns-clause-past c = λ names m i values h.
    let s = c.args.self.now in
    let last = c.args.last in
    let begun = begins s c.requires.new in
    let step = c.step_of-step.result in
    let n : step ≡ steps_at last c.args.steps + 1 = c.step_of-step.ensures in
    let phase = c.store_phase_of-phase.result in
    let o = slot_at s.streams.items m i in
    let at : slot_at c.resume_streams.new.streams.items m i ≡ o = ap (λ xs. slot_at xs m i) c.resume_streams.ensures ∙ resumed_slots last step s.streams.items m i in
    subst (λ (z : Option Holdings). RemembersAt (start_in phase) (time_in phase) step names z values) (sym at)
    (resumed_remembers (start_in s.phase) (time_in s.phase) (start_in phase) (time_in phase) step names o values (omega arith)
    (λ x e.
    let r = right_at (is_on s.phase) s.prepared s.step (time_in s.phase - start_in s.phase) s.streams.items m i x s.right e in
    let u = r.1.untold (new_is_off s.phase begun.new) in
    (subst (λ (k : ℕ). IsUntold k x) begun.step u, (let a = r.1.steady.capacity in let b = r.2 in omega arith)))
    (subst (λ (k : ℕ). RemembersAt (start_in s.phase) (time_in s.phase) k names o values) begun.step h))

pub returns-clause-slots : goal.returns-clause-slots
returns-clause-slots c = λ n i.
    let s = c.args.self.now in
    ap (λ xs. slot_at xs n i) c.resume_streams.ensures ∙ resumed_slots c.args.last c.step_of-step.result s.streams.items n i
