use Rattle.std.proofs.Common.{◌≡◌, ◌∙◌, ℕ, ◌-◌, ◌<◌, ◌≤◌, Option, Some, Bool, true, IsTrue, MatchOption, length, slice_get, slice_set, ap, sym, subst, arith}
use Rattle.lola_model.specs.Store.{instances_seen, is_silent, now_seen, start_seen, target_of, time_seen}
use Rattle.lola_model.specs.declared.spec.WindowSpec.{WindowSpec}
use Rattle.lola_panes.specs.Restored.{first_offset}
use Rattle.lola_instances_one.specs.Saved.{CanBeRestored}
use Rattle.lola_instances_stream.specs.Crowds.{Crowd}
use Rattle.lola_instances_stream.specs.Restoring.{HasPanesRestored}
use Rattle.lola_instances_stream.specs.Rights.{AreRight, CrowdRight}
use Rattle.lola_instances_stream.proofs.Lists.{each-set}
use Rattle.lola_instances.specs.Restoring.{HasPanesOf}
use Rattle.lola_instances.specs.Saved.{panes_at}
use Rattle.lola_instances.specs.Phases.{phase_in, start_in, time_in, is_on}
use Rattle.lola_instances.specs.Stores.{bounded_seen}
use Rattle.lola_instances.specs.Streams.{slot_at}
use Rattle.lola_instances.specs.declared.store.BoundedStore.{BoundedStore}
use Rattle.lola_instances.proofs.Asking.{found_stream, index_is}
use Rattle.lola_instances.proofs.Changing.{silent_in, layout_set, placed_set, numbered_set, covered_set, slots_right}
use Rattle.lola_instances.proofs.Phases.{phase_start, phase_time, running_is_on}
use Rattle.lola_instances.proofs.Restored.{is_slot, other_slots, same_seen, was_slot}
use Rattle.lola_instances.proofs.Recalled.{panes_asked}
use Rattle.lola_instances.proofs.store.BoundedStore.restore_panes.Goals as goal

-- where the instance stands
within : (s : BoundedStore) (window index : ℕ) (w : WindowSpec) → slice_get s.windows window ≡ Some w → index < length (instances_seen (bounded_seen s) (target_of (slice_get s.windows window)))
    → index < length (instances_seen (bounded_seen s) w.target)
within s window index w e h = subst (λ (o : Option WindowSpec). index < length (instances_seen (bounded_seen s) (target_of o))) e h

pub restore_panes-requires-clause-step_ge : goal.restore_panes-requires-clause-step_ge
restore_panes-requires-clause-step_ge c = c.args.self.now.begun (running_is_on c.args.self.now.phase c.requires.running)

pub restore_panes-requires-clause-index : goal.restore_panes-requires-clause-index
restore_panes-requires-clause-index c =
    let s = c.args.self.now in
    let n = c.spec_of.result.now.target in
    let l = c.index_mut-lives.result.now in
    let i = within s c.args.window c.args.index c.spec_of.result.now c.spec_of.ensures c.requires.index in
    let e = found_stream s.step s.streams.items n c.args.index l i c.index_mut-lives.ensures.value in
    index_is s.step s.streams.items n l e c.args.index i

pub restore_panes-requires-clause-silent : goal.restore_panes-requires-clause-silent
restore_panes-requires-clause-silent c =
    let s = c.args.self.now in
    let n = c.spec_of.result.now.target in
    let l = c.index_mut-lives.result.now in
    let i = within s c.args.window c.args.index c.spec_of.result.now c.spec_of.ensures c.requires.index in
    let e = found_stream s.step s.streams.items n c.args.index l i c.index_mut-lives.ensures.value in
    silent_in s.step s.streams.items n c.args.index l e (subst (λ (o : Option WindowSpec). IsTrue (is_silent (now_seen (bounded_seen s) (target_of o) c.args.index))) c.spec_of.ensures c.requires.silent)

pub restore_panes-requires-clause-panes : goal.restore_panes-requires-clause-panes
restore_panes-requires-clause-panes c =
    let s = c.args.self.now in
    let n = c.spec_of.result.now.target in
    let l = c.index_mut-lives.result.now in
    let i = within s c.args.window c.args.index c.spec_of.result.now c.spec_of.ensures c.requires.index in
    let e = found_stream s.step s.streams.items n c.args.index l i c.index_mut-lives.ensures.value in
    let steps : s.step - 1 - 1 ≡ s.step - 2 = omega arith in
    panes_asked s.streams.items s.windows s.places.items c.args.window c.args.index c.spec_of.result.now c.place_of_panes-place.result l c.spec_of.ensures c.place_of_panes-place.ensures e
    (CanBeRestored c.args.last c.args.partials.now (s.step - 2))
    (subst (λ (k : ℕ). MatchOption (panes_at s c.args.window c.args.index) ⊥ (CanBeRestored c.args.last c.args.partials.now k)) steps c.requires.panes)

pub restore_panes-requires-clause-newest : goal.restore_panes-requires-clause-newest
restore_panes-requires-clause-newest c =
    let s = c.args.self.now in
    let n = c.spec_of.result.now.target in
    let l = c.index_mut-lives.result.now in
    let i = within s c.args.window c.args.index c.spec_of.result.now c.spec_of.ensures c.requires.index in
    let e = found_stream s.step s.streams.items n c.args.index l i c.index_mut-lives.ensures.value in
    let off : time_seen (bounded_seen s) - start_seen (bounded_seen s) ≡ c.offset_of-offset.result =
    (λ j. phase_time s.phase j - phase_start s.phase j) ∙ sym c.offset_of-offset.ensures in
    panes_asked s.streams.items s.windows s.places.items c.args.window c.args.index c.spec_of.result.now c.place_of_panes-place.result l c.spec_of.ensures c.place_of_panes-place.ensures e
    (λ p. first_offset p.pane c.args.last ≤ c.offset_of-offset.result)
    (subst (λ (k : ℕ). MatchOption (panes_at s c.args.window c.args.index) ⊥ (λ p. first_offset p.pane c.args.last ≤ k)) off c.requires.newest)

pub restore_panes-requires-clause-right : goal.restore_panes-requires-clause-right
restore_panes-requires-clause-right c =
    let s = c.args.self.now in
    let n = c.spec_of.result.now.target in
    let l = c.index_mut-lives.result.now in
    let i = within s c.args.window c.args.index c.spec_of.result.now c.spec_of.ensures c.requires.index in
    let e = found_stream s.step s.streams.items n c.args.index l i c.index_mut-lives.ensures.value in
    subst (λ (k : ℕ). AreRight true s.step k l) (sym c.offset_of-offset.ensures)
    (subst (λ (b : Bool). AreRight b s.step (time_in s.phase - start_in s.phase) l) (running_is_on s.phase c.requires.running) (s.right n l e).each)

pub invariant_of-self : goal.invariant_of-self
invariant_of-self c =
    let s = c.args.self.now in
    let n = c.spec_of.result.now.target in
    let l = c.index_mut-lives.result.now in
    let y = c.restore_panes.new.self in
    let i = within s c.args.window c.args.index c.spec_of.result.now c.spec_of.ensures c.requires.index in
    let e = found_stream s.step s.streams.items n c.args.index l i c.index_mut-lives.ensures.value in
    let on = running_is_on s.phase c.requires.running in
    let rest = c.restore_panes.ensures.rest in
    let count = c.restore_panes.ensures.count in
    let right = subst (λ (b : Bool). AreRight b s.step (time_in s.phase - start_in s.phase) y) (sym on) (subst (λ (k : ℕ). AreRight true s.step k y) c.offset_of-offset.ensures c.restore_panes.ensures.right) in
    record {
      step_ge = s.step_ge;
      step_le = s.step_le;
      begun = s.begun;
      time_ge = s.time_ge;
      offset_is = s.offset_is;
      right = each-set (CrowdRight (is_on s.phase) s.prepared s.step (time_in s.phase - start_in s.phase)) s.streams.items n y s.right
          (slots_right (is_on s.phase) s.prepared s.step (time_in s.phase - start_in s.phase) l y (s.right n l e) rest (omega arith) right);
      placed = placed_set s.windows s.sizes s.places.items s.streams.items n l y e (ap (λ (z : Crowd). z.layout) rest) (ap (λ (z : Crowd). z.windows) rest) s.placed;
      at_places = s.at_places;
      covered = covered_set s.windows s.streams.items n l y e (ap (λ (z : Crowd). z.windows) rest) s.covered;
      numbered = numbered_set s.streams.items s.spawning.items n l y e (ap (λ (z : Crowd). z.layout) rest) s.numbered;
    }

pub returns-clause-seen : goal.returns-clause-seen
returns-clause-seen c =
    let s = c.args.self.now in
    let n = c.spec_of.result.now.target in
    let l = c.index_mut-lives.result.now in
    let y = c.restore_panes.new.self in
    let i = within s c.args.window c.args.index c.spec_of.result.now c.spec_of.ensures c.requires.index in
    let e = found_stream s.step s.streams.items n c.args.index l i c.index_mut-lives.ensures.value in
    let rest = c.restore_panes.ensures.rest in
    let lay = layout_set s.streams.items n l y e (ap (λ (z : Crowd). z.layout) rest) in
    let all = same_seen s.step s.streams.items n l y e rest c.restore_panes.ensures.seen in
    λ j. record {
      layout = record { streams = lay j; windows = s.windows; panes = s.sizes };
      phase = phase_in s.phase;
      prepared = s.prepared;
      steps = s.step - 1;
      streams = all j;
    }

pub returns-clause-slot : goal.returns-clause-slot
returns-clause-slot c =
    let s = c.args.self.now in
    let n = c.spec_of.result.now.target in
    let l = c.index_mut-lives.result.now in
    let y = c.restore_panes.new.self in
    let i = within s c.args.window c.args.index c.spec_of.result.now c.spec_of.ensures c.requires.index in
    let e = found_stream s.step s.streams.items n c.args.index l i c.index_mut-lives.ensures.value in
    let slot = c.restore_panes.ensures.slot in
    let steps : s.step - 2 ≡ s.step - 1 - 1 = omega arith in
    let R = HasPanesRestored c.args.last c.args.partials.now (s.step - 2) c.place_of_panes-place.result in
    let was = was_slot R s.streams.items n c.args.index l y e slot in
    let is = is_slot R s.streams.items n c.args.index l y e slot in
    let others = other_slots R s.streams.items n c.args.index l y e slot in
    let related : HasPanesOf s c.args.window c.args.last c.args.partials.now (s.step - 1 - 1) slot.x slot.y =
    subst (λ (o : Option ℕ). MatchOption o ⊥ (λ place. HasPanesRestored c.args.last c.args.partials.now (s.step - 1 - 1) place slot.x slot.y)) (sym c.place_of_panes-place.ensures)
    (subst (λ (k : ℕ). HasPanesRestored c.args.last c.args.partials.now k c.place_of_panes-place.result slot.x slot.y) steps slot.related) in
    let t : target_of (slice_get s.windows c.args.window) ≡ n = ap target_of c.spec_of.ensures in
    record {
      x = slot.x;
      y = slot.y;
      was = ap (λ (k : ℕ). slot_at s.streams.items k c.args.index) t ∙ was;
      is = ap (λ (k : ℕ). slot_at (slice_set s.streams.items n y) k c.args.index) t ∙ is;
      others = λ m j g. others m j (λ q. g (q ∙ sym t));
      related = related;
    }
