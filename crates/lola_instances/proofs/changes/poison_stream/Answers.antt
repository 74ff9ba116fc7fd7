use Rattle.std.proofs.Common.{◌≡◌, ◌-◌, map, slice_get, true, refl, sym, arith, nat_eq, eq-eqb}
use Rattle.lola_model.specs.Store.{SeenStream}
use Rattle.lola_instances_one.specs.Holdings.{slot_seen}
use Rattle.lola_instances_stream.specs.Crowds.{Crowd, crowd_seen, RemembersAt}
use Rattle.lola_instances_stream.specs.Rights.{CrowdRight}
use Rattle.lola_instances_stream.proofs.Lists.{each-set}
use Rattle.std.proofs.Common.{ap, ◌∙◌, subst}
use Rattle.lola_instances.specs.Phases.{phase_in, start_in, time_in, is_on}
use Rattle.lola_instances.proofs.Asking.{stream_read}
use Rattle.lola_instances.proofs.Changing.{layout_set, changed_set, placed_set, numbered_set, covered_set, past_set}
use Rattle.lola_instances.proofs.changes.poison_stream.Goals as goal

pub invariant_of-s : goal.invariant_of-s
invariant_of-s c =
    let s = c.args.s.now in
    let n = c.args.stream in
    let l = c.index_mut-lives.result.now in
    let y = c.poison_stream.new.self in
    let q = c.poison_stream.ensures in
    let e = stream_read s.streams.items n l c.requires.stream c.index_mut-lives.ensures.value in
    let p = s.right n l e in
    record {
      step_ge = s.step_ge;
      step_le = s.step_le;
      begun = s.begun;
      time_ge = s.time_ge;
      offset_is = s.offset_is;
      right = each-set (CrowdRight (is_on s.phase) s.prepared s.step (time_in s.phase - start_in s.phase)) s.streams.items n y s.right
          (subst (CrowdRight (is_on s.phase) s.prepared s.step (time_in s.phase - start_in s.phase)) (sym q)
          (record { bad_le = omega arith; spawned_le = p.spawned_le; kept = p.kept; few = p.few; each = p.each; room = p.room; spares = p.spares }));
      placed = placed_set s.windows s.sizes s.places.items s.streams.items n l y e (ap (λ (z : Crowd). z.layout) q) (ap (λ (z : Crowd). z.windows) q) s.placed;
      at_places = s.at_places;
      covered = covered_set s.windows s.streams.items n l y e (ap (λ (z : Crowd). z.windows) q) s.covered;
      numbered = numbered_set s.streams.items s.spawning.items n l y e (ap (λ (z : Crowd). z.layout) q) s.numbered;
    }

pub returns-clause-seen : goal.returns-clause-seen
returns-clause-seen c =
    let s = c.args.s.now in
    let n = c.args.stream in
    let l = c.index_mut-lives.result.now in
    let y = c.poison_stream.new.self in
    let q = c.poison_stream.ensures in
    let e = stream_read s.streams.items n l c.requires.stream c.index_mut-lives.ensures.value in
    let lay = layout_set s.streams.items n l y e (ap (λ (z : Crowd). z.layout) q) in
    let b : nat_eq s.step s.step ≡ true = eq-eqb s.step s.step refl in
    let all = changed_set s.step s.streams.items n l y (λ (z : SeenStream). record z { bad = true }) e
    (ap (crowd_seen s.step) q ∙ (λ j. record { bad = b j; spawned = nat_eq l.spawned_at s.step; instances = map (slot_seen s.step) l.slots })) in
    λ i. record {
      layout = record { streams = lay i; windows = s.windows; panes = s.sizes };
      phase = phase_in s.phase;
      prepared = s.prepared;
      steps = s.step - 1;
      streams = all i;
    }

pub returns-clause-past : goal.returns-clause-past
returns-clause-past c = λ names m j values h.
    let s = c.args.s.now in
    let n = c.args.stream in
    let l = c.index_mut-lives.result.now in
    let y = c.poison_stream.new.self in
    let q = c.poison_stream.ensures in
    let e = stream_read s.streams.items n l c.requires.stream c.index_mut-lives.ensures.value in
    past_set (λ o. RemembersAt (start_in s.phase) (time_in s.phase) s.step names o values) s.streams.items n l y e m j
    (λ r. subst (λ (z : Crowd). RemembersAt (start_in s.phase) (time_in s.phase) s.step names (slice_get z.slots j) values) (sym q) r) h
