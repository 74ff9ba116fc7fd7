use Rattle.std.proofs.Common.{◌-◌, ◌∙◌, ap, true}
use Rattle.lola_instances_stream.specs.Crowds.{RemembersAt}
use Rattle.lola_instances.specs.Spawning.{is_among}
use Rattle.lola_instances.specs.Phases.{phase_in, start_in, time_in, is_on}
use Rattle.lola_instances.proofs.Preparing.{kept_at, kept_right, ready_right, seen_still, layout_still, slots_still, placed_still, numbered_still, covered_still}
use Rattle.lola_instances.proofs.prepare.prepare.Goals as goal

pub invariant_of-s : goal.invariant_of-s
invariant_of-s c =
    let s = c.args.s.now in
    let ks = c.make_all_ready.new.streams.items in
    let k = c.make_all_ready.ensures.kept in
    let off = time_in s.phase - start_in s.phase in
    record {
      step_ge = s.step_ge;
      step_le = s.step_le;
      begun = s.begun;
      time_ge = s.time_ge;
      offset_is = s.offset_is;
      right = λ i y e. let p = kept_at s.streams.items ks i y k e in kept_right (is_on s.phase) s.prepared s.step off p.0 y p.2 (s.right i p.0 p.1);
      placed = placed_still s.windows s.sizes s.places.items s.streams.items ks k s.placed;
      at_places = s.at_places;
      covered = covered_still s.windows s.streams.items ks k s.covered;
      numbered = numbered_still s.streams.items ks s.spawning.items k s.numbered;
    }

pub invariant_of-s-in-Ok : goal.invariant_of-s-in-Ok
invariant_of-s-in-Ok c =
    let s = c.args.s.now in
    let ks = c.make_all_ready.new.streams.items in
    let k = c.make_all_ready.ensures.kept in
    let off = time_in s.phase - start_in s.phase in
    record {
      step_ge = s.step_ge;
      step_le = s.step_le;
      begun = s.begun;
      time_ge = s.time_ge;
      offset_is = s.offset_is;
      right = λ i y e. let p = kept_at s.streams.items ks i y k e in ready_right (is_on s.phase) s.prepared s.step off p.0 y p.2 (s.right i p.0 p.1) (λ w. c.in-Ok.ensures.ok i y e (ap (is_among i) c.as_slice.ensures.value ∙ numbered_still s.streams.items ks s.spawning.items k s.numbered i y e w));
      placed = placed_still s.windows s.sizes s.places.items s.streams.items ks k s.placed;
      at_places = s.at_places;
      covered = covered_still s.windows s.streams.items ks k s.covered;
      numbered = numbered_still s.streams.items ks s.spawning.items k s.numbered;
    }

pub returns-in-Err-clause-err : goal.returns-in-Err-clause-err
returns-in-Err-clause-err c =
    let s = c.args.s.now in
    let ks = c.make_all_ready.new.streams.items in
    let k = c.make_all_ready.ensures.kept in
    λ i. record {
      layout = record { streams = layout_still s.streams.items ks k i; windows = s.windows; panes = s.sizes };
      phase = phase_in s.phase;
      prepared = s.prepared;
      steps = s.step - 1;
      streams = seen_still s.step s.streams.items ks k i;
    }

pub returns-in-Ok-clause-ok : goal.returns-in-Ok-clause-ok
returns-in-Ok-clause-ok c =
    let s = c.args.s.now in
    let ks = c.make_all_ready.new.streams.items in
    let k = c.make_all_ready.ensures.kept in
    λ i. record {
      layout = record { streams = layout_still s.streams.items ks k i; windows = s.windows; panes = s.sizes };
      phase = phase_in s.phase;
      prepared = true;
      steps = s.step - 1;
      streams = seen_still s.step s.streams.items ks k i;
    }

pub returns-in-Err-clause-past : goal.returns-in-Err-clause-past
returns-in-Err-clause-past c = λ names n i values h.
    let s = c.args.s.now in
    slots_still (λ o. RemembersAt (start_in s.phase) (time_in s.phase) s.step names o values) s.streams.items c.make_all_ready.new.streams.items n i c.make_all_ready.ensures.kept h

pub returns-in-Ok-clause-past : goal.returns-in-Ok-clause-past
returns-in-Ok-clause-past c = λ names n i values h.
    let s = c.args.s.now in
    slots_still (λ o. RemembersAt (start_in s.phase) (time_in s.phase) s.step names o values) s.streams.items c.make_all_ready.new.streams.items n i c.make_all_ready.ensures.kept h
