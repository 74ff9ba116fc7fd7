use Rattle.std.proofs.Common.{◌≡◌, ◌∙◌, ◌-◌, map, slice_get, refl, ap, sym, subst, add-one}
use Rattle.std.specs.Prelude.{remove}
use Rattle.lola_model.specs.Store.{SeenStream}
use Rattle.lola_instances_one.specs.Holdings.{slot_seen}
use Rattle.lola_instances_stream.specs.Crowds.{Crowd, RemembersAt}
use Rattle.lola_instances_stream.specs.Rights.{CrowdRight, SlotRight}
use Rattle.lola_instances_stream.proofs.Lists.{each-set, each-remove, remove_before, remove_after, remove_length, remove_map}
use Rattle.lola_instances.specs.Phases.{phase_in, start_in, time_in, is_on}
use Rattle.lola_instances.proofs.Asking.{found_stream, index_is}
use Rattle.lola_instances.proofs.Changing.{layout_set, changed_set, placed_set, numbered_set, covered_set, past_remove, slots_right, slots_seen}
use Rattle.lola_instances.proofs.changes.close.Goals as goal

pub close-requires : goal.close-requires
close-requires c =
    let s = c.args.s.now in
    let l = c.index_mut-lives.result.now in
    let e = found_stream s.step s.streams.items c.args.stream c.args.index l c.requires.index c.index_mut-lives.ensures.value in
    index_is s.step s.streams.items c.args.stream l e c.args.index c.requires.index

pub invariant_of-s : goal.invariant_of-s
invariant_of-s c =
    let s = c.args.s.now in
    let n = c.args.stream in
    let l = c.index_mut-lives.result.now in
    let y = c.close.new.self in
    let q = c.close.ensures in
    let e = found_stream s.step s.streams.items n c.args.index l c.requires.index c.index_mut-lives.ensures.value in
    let p = s.right n l e in
    let off = time_in s.phase - start_in s.phase in
    let k : Crowd = record l { slots = remove l.slots c.args.index } in
    record {
      step_ge = s.step_ge;
      step_le = s.step_le;
      begun = s.begun;
      time_ge = s.time_ge;
      offset_is = s.offset_is;
      right = each-set (CrowdRight (is_on s.phase) s.prepared s.step off) s.streams.items n y s.right
          (subst (CrowdRight (is_on s.phase) s.prepared s.step off) (sym q)
          (slots_right (is_on s.phase) s.prepared s.step off l k p refl (remove_length l.slots c.args.index)
          (each-remove (SlotRight l.layout l.windows (is_on s.phase) s.step off) l.slots c.args.index p.each)));
      placed = placed_set s.windows s.sizes s.places.items s.streams.items n l y e (ap (λ (z : Crowd). z.layout) q) (ap (λ (z : Crowd). z.windows) q) s.placed;
      at_places = s.at_places;
      covered = covered_set s.windows s.streams.items n l y e (ap (λ (z : Crowd). z.windows) q) s.covered;
      numbered = numbered_set s.streams.items s.spawning.items n l y e (ap (λ (z : Crowd). z.layout) q) s.numbered;
    }

pub returns-clause-seen : goal.returns-clause-seen
returns-clause-seen c =
    let s = c.args.s.now in
    let n = c.args.stream in
    let l = c.index_mut-lives.result.now in
    let y = c.close.new.self in
    let q = c.close.ensures in
    let e = found_stream s.step s.streams.items n c.args.index l c.requires.index c.index_mut-lives.ensures.value in
    let lay = layout_set s.streams.items n l y e (ap (λ (z : Crowd). z.layout) q) in
    let rest : y ≡ record l { slots = y.slots } = q ∙ (λ j. record l { slots = (sym q j).slots }) in
    let inner : map (slot_seen s.step) y.slots ≡ remove (map (slot_seen s.step) l.slots) c.args.index = ap (λ (z : Crowd). map (slot_seen s.step) z.slots) q ∙ remove_map (slot_seen s.step) l.slots c.args.index in
    let all = changed_set s.step s.streams.items n l y (λ (z : SeenStream). record z { instances = remove z.instances c.args.index }) e
    (slots_seen s.step l y (λ xs. remove xs c.args.index) rest inner) in
    λ i. record {
      layout = record { streams = lay i; windows = s.windows; panes = s.sizes };
      phase = phase_in s.phase;
      prepared = s.prepared;
      steps = s.step - 1;
      streams = all i;
    }

pub returns-clause-past : goal.returns-clause-past
returns-clause-past c = λ names m j values h.
    let s = c.args.s.now in
    let n = c.args.stream in
    let l = c.index_mut-lives.result.now in
    let y = c.close.new.self in
    let g = ap (λ (z : Crowd). z.slots) c.close.ensures in
    let e = found_stream s.step s.streams.items n c.args.index l c.requires.index c.index_mut-lives.ensures.value in
    past_remove (λ o. RemembersAt (start_in s.phase) (time_in s.phase) s.step names o values) s.streams.items n l y e c.args.index m j
    (λ q b. ap (λ xs. slice_get xs q) g ∙ remove_before l.slots c.args.index q b)
    (λ q b. ap (λ xs. slice_get xs q) g ∙ (remove_after l.slots c.args.index q b ∙ ap (slice_get l.slots) (sym (add-one q)))) h
