use Rattle.std.proofs.Common.{◌≡◌, ◌-◌, List, map, slice_get, true, IsTrue, refl, sym, subst, arith, nat_eq, eq-eqb}
use Rattle.lola_model.specs.Store.{SeenStream, StreamLayout, kind_in}
use Rattle.lola_model.specs.Typing.{takes}
use Rattle.lola_model.specs.declared.spec.WindowSpec.{WindowSpec}
use Rattle.lola_store.specs.declared.population.Population.{Population}
use Rattle.lola_instances_stream.specs.Each.{Each}
use Rattle.lola_store.specs.Instances.{instance_seen, RecallsAt}
use Rattle.lola_store.specs.Populations.{PopulationRight}
use Rattle.lola_instances.specs.Phases.{phase_in, time_in, is_on}
use Rattle.lola_instances_stream.proofs.Lists.{each-set}
use Rattle.lola_store.proofs.Changing.{stream_read, layout_set, changed_set, past_set}
use Rattle.lola_store.proofs.changes.poison_stream.Goals as goal

pub invariant_of-s : goal.invariant_of-s
invariant_of-s c =
    let s = c.args.s.now in
    let n = c.args.stream in
    let l = c.index_mut-population.result.now in
    let k : Population = record l { bad_at = s.step } in
    let e = stream_read s.streams.items n l c.requires.stream c.index_mut-population.ensures.value in
    let p = s.right n l e in
    record {
      step_ge = s.step_ge;
      right = each-set (PopulationRight (is_on s.phase) s.prepared s.step) s.streams.items n k s.right
          (record { bad_le = omega arith; spawned_le = p.spawned_le; few = p.few; each = p.each; room = p.room; spares = p.spares; spare = p.spare });
      taken = subst (λ (lay : List StreamLayout). Each (λ (w : WindowSpec). IsTrue (takes w.using (kind_in (slice_get lay w.target)))) s.windows) (sym (layout_set s.streams.items n l k e refl)) s.taken;
    }

pub returns-clause-seen : goal.returns-clause-seen
returns-clause-seen c =
    let s = c.args.s.now in
    let n = c.args.stream in
    let l = c.index_mut-population.result.now in
    let k : Population = record l { bad_at = s.step } in
    let e = stream_read s.streams.items n l c.requires.stream c.index_mut-population.ensures.value in
    let lay = layout_set s.streams.items n l k e refl in
    let b : nat_eq s.step s.step ≡ true = eq-eqb s.step s.step refl in
    let all = changed_set s.step s.streams.items n l k (λ (z : SeenStream). record z { bad = true }) e
    (λ j. record { bad = b j; spawned = nat_eq l.spawned_at s.step; instances = map (instance_seen s.step) l.lives.items }) in
    λ i. record {
      layout = record { streams = lay i; windows = s.windows; panes = s.sizes };
      phase = phase_in s.phase;
      prepared = s.prepared;
      steps = s.step - 1;
      streams = all i;
    }

pub returns-clause-past : goal.returns-clause-past
returns-clause-past c = λ names m j values h.
    let s = c.args.s.now in
    let n = c.args.stream in
    let l = c.index_mut-population.result.now in
    let k : Population = record l { bad_at = s.step } in
    let e = stream_read s.streams.items n l c.requires.stream c.index_mut-population.ensures.value in
    past_set (λ o. RecallsAt (time_in s.phase) s.step names o values) s.streams.items n l k e m j (λ r. r) h
