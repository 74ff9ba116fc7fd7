use Rattle.std.proofs.Common.{ℕ, ◌-◌, Option, Bool, true, IsTrue, ap, sym, subst, arith}
use Rattle.lola_value.specs.Kinds.{is_of_kind}
use Rattle.lola_model.specs.Store.{StreamLayout, kind_in}
use Rattle.lola_instances_stream.specs.Crowds.{Crowd}
use Rattle.lola_instances_stream.specs.Restoring.{HasOneMore}
use Rattle.lola_instances_stream.specs.Rights.{AreRight, CrowdRight}
use Rattle.lola_instances_stream.proofs.Lists.{each-set}
use Rattle.lola_instances.specs.Phases.{phase_in, start_in, time_in, is_on}
use Rattle.lola_instances.proofs.Asking.{found_stream, index_is, layout_at}
use Rattle.lola_instances.proofs.Changing.{silent_in, layout_set, placed_set, numbered_set, covered_set, slots_right}
use Rattle.lola_instances.proofs.Phases.{running_is_on}
use Rattle.lola_instances.proofs.Restored.{is_slot, other_slots, same_seen, was_slot}
use Rattle.lola_instances.proofs.store.BoundedStore.restore_value.Goals as goal

pub restore_value-requires-clause-step_ge : goal.restore_value-requires-clause-step_ge
restore_value-requires-clause-step_ge c = c.args.self.now.begun (running_is_on c.args.self.now.phase c.requires.running)

pub restore_value-requires-clause-index : goal.restore_value-requires-clause-index
restore_value-requires-clause-index c =
    let s = c.args.self.now in
    let l = c.index_mut-lives.result.now in
    let e = found_stream s.step s.streams.items c.args.stream c.args.index l c.requires.index c.index_mut-lives.ensures.value in
    index_is s.step s.streams.items c.args.stream l e c.args.index c.requires.index

pub restore_value-requires-clause-silent : goal.restore_value-requires-clause-silent
restore_value-requires-clause-silent c =
    let s = c.args.self.now in
    let l = c.index_mut-lives.result.now in
    let e = found_stream s.step s.streams.items c.args.stream c.args.index l c.requires.index c.index_mut-lives.ensures.value in
    silent_in s.step s.streams.items c.args.stream c.args.index l e c.requires.silent

pub restore_value-requires-clause-kind : goal.restore_value-requires-clause-kind
restore_value-requires-clause-kind c =
    let s = c.args.self.now in
    let l = c.index_mut-lives.result.now in
    let e = found_stream s.step s.streams.items c.args.stream c.args.index l c.requires.index c.index_mut-lives.ensures.value in
    subst (λ (o : Option StreamLayout). IsTrue (is_of_kind (kind_in o) c.args.value)) (layout_at s.streams.items c.args.stream l e) c.requires.kind

pub restore_value-requires-clause-right : goal.restore_value-requires-clause-right
restore_value-requires-clause-right c =
    let s = c.args.self.now in
    let l = c.index_mut-lives.result.now in
    let e = found_stream s.step s.streams.items c.args.stream c.args.index l c.requires.index c.index_mut-lives.ensures.value in
    subst (λ (n : ℕ). AreRight true s.step n l) (sym c.offset_of-offset.ensures)
    (subst (λ (b : Bool). AreRight b s.step (time_in s.phase - start_in s.phase) l) (running_is_on s.phase c.requires.running) (s.right c.args.stream l e).each)

pub invariant_of-self : goal.invariant_of-self
invariant_of-self c =
    let s = c.args.self.now in
    let n = c.args.stream in
    let l = c.index_mut-lives.result.now in
    let y = c.restore_value.new.self in
    let e = found_stream s.step s.streams.items n c.args.index l c.requires.index c.index_mut-lives.ensures.value in
    let on = running_is_on s.phase c.requires.running in
    let rest = c.restore_value.ensures.rest in
    let count = c.restore_value.ensures.count in
    let right = subst (λ (b : Bool). AreRight b s.step (time_in s.phase - start_in s.phase) y) (sym on) (subst (λ (n : ℕ). AreRight true s.step n y) c.offset_of-offset.ensures c.restore_value.ensures.right) in
    record {
      step_ge = s.step_ge;
      step_le = s.step_le;
      begun = s.begun;
      time_ge = s.time_ge;
      offset_is = s.offset_is;
      right = each-set (CrowdRight (is_on s.phase) s.prepared s.step (time_in s.phase - start_in s.phase)) s.streams.items n y s.right
          (slots_right (is_on s.phase) s.prepared s.step (time_in s.phase - start_in s.phase) l y (s.right n l e) rest (omega arith) right);
      placed = placed_set s.windows s.sizes s.places.items s.streams.items n l y e (ap (λ (z : Crowd). z.layout) rest) (ap (λ (z : Crowd). z.windows) rest) s.placed;
      at_places = s.at_places;
      covered = covered_set s.windows s.streams.items n l y e (ap (λ (z : Crowd). z.windows) rest) s.covered;
      numbered = numbered_set s.streams.items s.spawning.items n l y e (ap (λ (z : Crowd). z.layout) rest) s.numbered;
    }

pub returns-clause-seen : goal.returns-clause-seen
returns-clause-seen c =
    let s = c.args.self.now in
    let n = c.args.stream in
    let l = c.index_mut-lives.result.now in
    let y = c.restore_value.new.self in
    let e = found_stream s.step s.streams.items n c.args.index l c.requires.index c.index_mut-lives.ensures.value in
    let rest = c.restore_value.ensures.rest in
    let lay = layout_set s.streams.items n l y e (ap (λ (z : Crowd). z.layout) rest) in
    let all = same_seen s.step s.streams.items n l y e rest c.restore_value.ensures.seen in
    λ i. record {
      layout = record { streams = lay i; windows = s.windows; panes = s.sizes };
      phase = phase_in s.phase;
      prepared = s.prepared;
      steps = s.step - 1;
      streams = all i;
    }

pub returns-clause-slot : goal.returns-clause-slot
returns-clause-slot c =
    let s = c.args.self.now in
    let n = c.args.stream in
    let l = c.index_mut-lives.result.now in
    let y = c.restore_value.new.self in
    let e = found_stream s.step s.streams.items n c.args.index l c.requires.index c.index_mut-lives.ensures.value in
    let slot = c.restore_value.ensures.slot in
    let R = HasOneMore c.args.value in
    record {
      x = slot.x;
      y = slot.y;
      was = was_slot R s.streams.items n c.args.index l y e slot;
      is = is_slot R s.streams.items n c.args.index l y e slot;
      others = other_slots R s.streams.items n c.args.index l y e slot;
      related = slot.related;
    }
