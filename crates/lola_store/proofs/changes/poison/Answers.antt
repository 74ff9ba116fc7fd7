use Rattle.std.proofs.Common.{◌≡◌, ◌-◌, List, slice_get, IsTrue, refl, ap, sym, subst, arith, nat_eq, length-set}
use Rattle.std.specs.Prelude.{vec_len}
use Rattle.std.specs.Vec.{vec_capacity, with_item}
use Rattle.lola_value.specs.declared.value.Outcome.TheVariants as outcome
use Rattle.lola_model.specs.Store.{SeenStream, StreamLayout, told_at, kind_in}
use Rattle.lola_model.specs.Typing.{takes}
use Rattle.lola_model.specs.declared.spec.WindowSpec.{WindowSpec}
use Rattle.lola_store.specs.declared.population.Population.{Population}
use Rattle.lola_instances_stream.specs.Each.{Each}
use Rattle.lola_store.specs.Instances.{shown, instance_seen, RecallsAt, InstanceRight}
use Rattle.lola_store.specs.Populations.{PopulationRight}
use Rattle.lola_instances.specs.Phases.{phase_in, time_in, is_on}
use Rattle.lola_store.specs.Tallies.{AllOf}
use Rattle.lola_instances_stream.proofs.Lists.{each-set}
use Rattle.lola_instances.proofs.Phases.{running_is_on}
use Rattle.lola_instances.proofs.Owed.{owed_fall}
use Rattle.lola_instances_stream.proofs.Outcomes.{is_missing}
use Rattle.lola_store.proofs.Changing.{found_stream, found_instance, silent_at, layout_set, changed_set, told_set, past_set, recalls_set, shown_told, untold, instance_told, recalls_poison}
use Rattle.lola_store.proofs.changes.poison.Goals as goal

pub invariant_of-s : goal.invariant_of-s
invariant_of-s c =
    let s = c.args.s.now in
    let n = c.args.stream in
    let l = c.index_mut-population.result.now in
    let x = c.index_mut-life.result.now in
    let y = c.poison.new.self in
    let k : Population = record l { lives = with_item l.lives c.args.index y } in
    let e = found_stream s.step s.streams.items n c.args.index l c.requires.index c.index_mut-population.ensures.value in
    let f = found_instance s.step s.streams.items n c.args.index l x e c.requires.index c.index_mut-life.ensures.value in
    let p = s.right n l e in
    let h = p.each c.args.index x f in
    let on = running_is_on s.phase c.requires.running in
    let u = untold l.kind l.parameters (is_on s.phase) s.prepared s.step x h (silent_at s.step s.streams.items n c.args.index l x e f c.requires.silent) in
    let fall = owed_fall s.prepared (is_on s.phase) s.step x.told_at y.told_at on u c.poison.ensures.told_at in
    let v : AllOf l.kind y.values.items = subst (AllOf l.kind) (sym (ap (λ v. v.items) c.poison.ensures.values)) h.values in
    let r = instance_told l.kind l.parameters (is_on s.phase) s.prepared s.step x y (outcome.Poison) h on c.poison.ensures.params c.poison.ensures.told_at c.poison.ensures.outcome refl refl v
    (let a : vec_len y.values ≡ vec_len x.values = ap (λ v. v.len) c.poison.ensures.values in let b : vec_capacity y.values ≡ vec_capacity x.values = ap (λ v. v.cap) c.poison.ensures.values in omega (arith, h.room, fall, a, b)) in
    record {
      step_ge = s.step_ge;
      right = each-set (PopulationRight (is_on s.phase) s.prepared s.step) s.streams.items n k s.right
          (record {
            bad_le = p.bad_le;
            spawned_le = p.spawned_le;
            few = omega (arith, p.few, length-set l.lives.items c.args.index y);
            each = each-set (InstanceRight l.kind l.parameters (is_on s.phase) s.prepared s.step) l.lives.items c.args.index y p.each r;
            room = p.room;
            spares = p.spares;
            spare = p.spare;
          });
      taken = subst (λ (lay : List StreamLayout). Each (λ (w : WindowSpec). IsTrue (takes w.using (kind_in (slice_get lay w.target)))) s.windows) (sym (layout_set s.streams.items n l k e refl)) s.taken;
    }

pub returns-clause-seen : goal.returns-clause-seen
returns-clause-seen c =
    let s = c.args.s.now in
    let n = c.args.stream in
    let l = c.index_mut-population.result.now in
    let x = c.index_mut-life.result.now in
    let y = c.poison.new.self in
    let k : Population = record l { lives = with_item l.lives c.args.index y } in
    let e = found_stream s.step s.streams.items n c.args.index l c.requires.index c.index_mut-population.ensures.value in
    let f = found_instance s.step s.streams.items n c.args.index l x e c.requires.index c.index_mut-life.ensures.value in
    let some = shown_told s.step y (outcome.Poison) c.poison.ensures.told_at c.poison.ensures.outcome in
    let q : instance_seen s.step y ≡ record { params = x.params; born = x.born; outcome = outcome.Poison } = λ i. record { params = c.poison.ensures.params i; born = c.poison.ensures.born i; outcome = some i } in
    let inner = told_set s.step l.lives.items c.args.index x y (outcome.Poison) f q in
    let lay = layout_set s.streams.items n l k e refl in
    let all = changed_set s.step s.streams.items n l k (λ (z : SeenStream). record z { instances = told_at z.instances c.args.index (outcome.Poison) }) e
    (λ j. record { bad = nat_eq l.bad_at s.step; spawned = nat_eq l.spawned_at s.step; instances = inner j }) in
    λ i. record {
      layout = record { streams = lay i; windows = s.windows; panes = s.sizes };
      phase = phase_in s.phase;
      prepared = s.prepared;
      steps = s.step - 1;
      streams = all i;
    }

pub returns-clause-past : goal.returns-clause-past
returns-clause-past c = λ names m j values h.
    let s = c.args.s.now in
    let n = c.args.stream in
    let l = c.index_mut-population.result.now in
    let x = c.index_mut-life.result.now in
    let y = c.poison.new.self in
    let k : Population = record l { lives = with_item l.lives c.args.index y } in
    let e = found_stream s.step s.streams.items n c.args.index l c.requires.index c.index_mut-population.ensures.value in
    let f = found_instance s.step s.streams.items n c.args.index l x e c.requires.index c.index_mut-life.ensures.value in
    let none = is_missing (shown s.step x) (silent_at s.step s.streams.items n c.args.index l x e f c.requires.silent) in
    past_set (λ o. RecallsAt (time_in s.phase) s.step names o values) s.streams.items n l k e m j
    (recalls_set (λ o. RecallsAt (time_in s.phase) s.step names o values) l.lives.items c.args.index j x y f
    (λ r. recalls_poison (time_in s.phase) s.step names x y values r none c.poison.ensures.told_at c.poison.ensures.outcome (ap (λ v. v.items) c.poison.ensures.values))) h
