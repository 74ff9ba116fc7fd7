use Rattle.std.proofs.Common.{◌≡◌, ◌∙◌, ◌+◌, ◌-◌, List, length, map, slice_get, IsTrue, refl, ap, sym, subst, arith, nat_eq, add-one}
use Rattle.std.specs.Prelude.{vec_len, remove}
use Rattle.std.specs.Vec.{vec_capacity}
use Rattle.lola_model.specs.Store.{SeenStream, StreamLayout, kind_in}
use Rattle.lola_model.specs.Typing.{takes}
use Rattle.lola_model.specs.declared.spec.WindowSpec.{WindowSpec}
use Rattle.lola_store.specs.declared.population.Population.{Population}
use Rattle.lola_instances_stream.specs.Each.{Each}
use Rattle.lola_store.specs.Instances.{instance_seen, RecallsAt, InstanceRight}
use Rattle.lola_store.specs.Populations.{PopulationRight}
use Rattle.lola_instances.specs.Phases.{phase_in, time_in, is_on}
use Rattle.lola_instances_stream.proofs.Lists.{each-set, each-remove, remove_before, remove_after, remove_length, remove_map}
use Rattle.lola_store.proofs.Changing.{found_stream, layout_set, changed_set, past_remove}
use Rattle.lola_store.proofs.changes.close.Goals as goal

pub invariant_of-s : goal.invariant_of-s
invariant_of-s c =
    let s = c.args.s.now in
    let n = c.args.stream in
    let l = c.index_mut-population.result.now in
    let v = c.remove-gone.new.self in
    let k : Population = record l { lives = v } in
    let e = found_stream s.step s.streams.items n c.args.index l c.requires.index c.index_mut-population.ensures.value in
    let p = s.right n l e in
    let g : v.items ≡ remove l.lives.items c.args.index = c.remove-gone.ensures.items in
    let t : vec_len v + 1 ≡ vec_len l.lives = c.remove-gone.ensures.len in
    let q : vec_capacity v ≡ vec_capacity l.lives = c.remove-gone.ensures.capacity in
    record {
      step_ge = s.step_ge;
      right = each-set (PopulationRight (is_on s.phase) s.prepared s.step) s.streams.items n k s.right
          (record {
            bad_le = p.bad_le;
            spawned_le = p.spawned_le;
            few = omega (arith, p.few, ap length g, remove_length l.lives.items c.args.index);
            each = subst (Each (InstanceRight l.kind l.parameters (is_on s.phase) s.prepared s.step)) (sym g) (each-remove (InstanceRight l.kind l.parameters (is_on s.phase) s.prepared s.step) l.lives.items c.args.index p.each);
            room = λ w. omega (arith, p.room w, t, q);
            spares = p.spares;
            spare = p.spare;
          });
      taken = subst (λ (lay : List StreamLayout). Each (λ (w : WindowSpec). IsTrue (takes w.using (kind_in (slice_get lay w.target)))) s.windows) (sym (layout_set s.streams.items n l k e refl)) s.taken;
    }

pub returns-clause-seen : goal.returns-clause-seen
returns-clause-seen c =
    let s = c.args.s.now in
    let n = c.args.stream in
    let l = c.index_mut-population.result.now in
    let v = c.remove-gone.new.self in
    let k : Population = record l { lives = v } in
    let e = found_stream s.step s.streams.items n c.args.index l c.requires.index c.index_mut-population.ensures.value in
    let lay = layout_set s.streams.items n l k e refl in
    let inner : map (instance_seen s.step) v.items ≡ remove (map (instance_seen s.step) l.lives.items) c.args.index = ap (map (instance_seen s.step)) c.remove-gone.ensures.items ∙ remove_map (instance_seen s.step) l.lives.items c.args.index in
    let all = changed_set s.step s.streams.items n l k (λ (z : SeenStream). record z { instances = remove z.instances c.args.index }) e
    (λ j. record { bad = nat_eq l.bad_at s.step; spawned = nat_eq l.spawned_at s.step; instances = inner j }) in
    λ i. record {
      layout = record { streams = lay i; windows = s.windows; panes = s.sizes };
      phase = phase_in s.phase;
      prepared = s.prepared;
      steps = s.step - 1;
      streams = all i;
    }

pub returns-clause-past : goal.returns-clause-past
returns-clause-past c = λ names m j values h.
    let s = c.args.s.now in
    let n = c.args.stream in
    let l = c.index_mut-population.result.now in
    let v = c.remove-gone.new.self in
    let k : Population = record l { lives = v } in
    let e = found_stream s.step s.streams.items n c.args.index l c.requires.index c.index_mut-population.ensures.value in
    let g : v.items ≡ remove l.lives.items c.args.index = c.remove-gone.ensures.items in
    past_remove (λ o. RecallsAt (time_in s.phase) s.step names o values) s.streams.items n l k e c.args.index m j
    (λ q b. ap (λ xs. slice_get xs q) g ∙ remove_before l.lives.items c.args.index q b)
    (λ q b. ap (λ xs. slice_get xs q) g ∙ (remove_after l.lives.items c.args.index q b ∙ ap (slice_get l.lives.items) (sym (add-one q)))) h
