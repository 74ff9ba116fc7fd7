use Rattle.std.proofs.Common.{◌-◌, List, IsTrue, true, slice_get, sym, subst}
use Rattle.lola_model.specs.Store.{StreamLayout, kind_in}
use Rattle.lola_model.specs.Typing.{takes}
use Rattle.lola_model.specs.declared.spec.WindowSpec.{WindowSpec}
use Rattle.lola_instances_stream.specs.Each.{Each}
use Rattle.lola_store.specs.Rooms.{IsKept}
use Rattle.lola_instances.specs.Phases.{phase_in, time_in, is_on}
use Rattle.lola_store.proofs.Preparing.{paired-at, kept_right, ready_right, seen_still, layout_still, still_recall}
use Rattle.lola_store.proofs.prepare.prepare.Goals as goal

pub invariant_of-s : goal.invariant_of-s
invariant_of-s c =
    let s = c.args.s.now in
    let ks = c.make_all_ready.new.streams.items in
    let k = c.make_all_ready.ensures.kept in
    record {
      step_ge = s.step_ge;
      right = λ i y e. let p = paired-at IsKept s.streams.items ks i y k e in kept_right (is_on s.phase) s.prepared s.step p.0 y p.2 (s.right i p.0 p.1);
      taken = subst (λ (lay : List StreamLayout). Each (λ (w : WindowSpec). IsTrue (takes w.using (kind_in (slice_get lay w.target)))) s.windows) (sym (layout_still s.streams.items ks k)) s.taken;
    }

pub invariant_of-s-in-Ok : goal.invariant_of-s-in-Ok
invariant_of-s-in-Ok c =
    let s = c.args.s.now in
    let ks = c.make_all_ready.new.streams.items in
    let k = c.make_all_ready.ensures.kept in
    record {
      step_ge = s.step_ge;
      right = λ i y e. let p = paired-at IsKept s.streams.items ks i y k e in ready_right (is_on s.phase) s.prepared s.step p.0 y p.2 (s.right i p.0 p.1) (c.in-Ok.ensures.ok i y e);
      taken = subst (λ (lay : List StreamLayout). Each (λ (w : WindowSpec). IsTrue (takes w.using (kind_in (slice_get lay w.target)))) s.windows) (sym (layout_still s.streams.items ks k)) s.taken;
    }

pub returns-in-Err-clause-err : goal.returns-in-Err-clause-err
returns-in-Err-clause-err c =
    let s = c.args.s.now in
    let ks = c.make_all_ready.new.streams.items in
    let k = c.make_all_ready.ensures.kept in
    λ i. record {
      layout = record { streams = layout_still s.streams.items ks k i; windows = s.windows; panes = s.sizes };
      phase = phase_in s.phase;
      prepared = s.prepared;
      steps = s.step - 1;
      streams = seen_still s.step s.streams.items ks k i;
    }

pub returns-in-Ok-clause-ok : goal.returns-in-Ok-clause-ok
returns-in-Ok-clause-ok c =
    let s = c.args.s.now in
    let ks = c.make_all_ready.new.streams.items in
    let k = c.make_all_ready.ensures.kept in
    λ i. record {
      layout = record { streams = layout_still s.streams.items ks k i; windows = s.windows; panes = s.sizes };
      phase = phase_in s.phase;
      prepared = true;
      steps = s.step - 1;
      streams = seen_still s.step s.streams.items ks k i;
    }

pub returns-in-Err-clause-past : goal.returns-in-Err-clause-past
returns-in-Err-clause-past c = λ names n i values h.
    let s = c.args.s.now in
    still_recall (time_in s.phase) s.step names values s.streams.items c.make_all_ready.new.streams.items n i c.make_all_ready.ensures.kept h

pub returns-in-Ok-clause-past : goal.returns-in-Ok-clause-past
returns-in-Ok-clause-past c = λ names n i values h.
    let s = c.args.s.now in
    still_recall (time_in s.phase) s.step names values s.streams.items c.make_all_ready.new.streams.items n i c.make_all_ready.ensures.kept h
