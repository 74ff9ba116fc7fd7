use Rattle.std.proofs.Common.{[], ◌≡◌, ◌∙◌, ◌-◌, ◌<◌, Option, Some, Bool, IsTrue, length, slice_set, ap, sym, subst, arith}
use Rattle.lola_value.specs.Kinds.{are_of_kinds}
use Rattle.lola_value.specs.Naming.{the_values}
use Rattle.lola_model.specs.Store.{StreamLayout, instances_seen, parameters_of}
use Rattle.lola_instances_one.specs.Holdings.{Holdings}
use Rattle.lola_instances_stream.specs.Crowds.{Crowd, RemembersAt}
use Rattle.lola_instances_stream.specs.Rights.{AreRight, CrowdRight}
use Rattle.lola_instances_stream.proofs.Lists.{each-set}
use Rattle.lola_instances_stream.proofs.Newborns.{newborn_remembers}
use Rattle.lola_instances.specs.Rooms.{AreKept}
use Rattle.lola_instances.specs.Phases.{phase_in, start_in, time_in, is_on}
use Rattle.lola_instances.specs.Stores.{bounded_seen}
use Rattle.lola_instances.proofs.Asking.{stream_read, layout_at, place_is, count_is}
use Rattle.lola_instances.proofs.Births.{spawns_at}
use Rattle.lola_instances.proofs.Changing.{layout_set, placed_set, numbered_set, covered_set}
use Rattle.lola_instances.proofs.Phases.{running_is_on}
use Rattle.lola_instances.proofs.Preparing.{all_kept, kept_set, layout_still, seen_still, slots_still}
use Rattle.lola_instances.proofs.Restored.{all_restored_seen, new_is, owed_over, restore_layout, restore_right, restore_windows, stands_last, stays_at}
use Rattle.lola_instances.proofs.store.BoundedStore.restore.Goals as goal

pub restore-requires-clause-kinds : goal.restore-requires-clause-kinds
restore-requires-clause-kinds c =
    let s = c.args.self.now in
    let l = c.index_mut-lives.result.now in
    let e = stream_read s.streams.items c.args.stream l c.requires.fits.stream c.index_mut-lives.ensures.value in
    subst (λ (o : Option StreamLayout). IsTrue (are_of_kinds (parameters_of o) (the_values c.args.params))) (layout_at s.streams.items c.args.stream l e) c.requires.fits.kinds

pub restore-requires-clause-spawns : goal.restore-requires-clause-spawns
restore-requires-clause-spawns c =
    let s = c.args.self.now in
    let l = c.index_mut-lives.result.now in
    let e = stream_read s.streams.items c.args.stream l c.requires.fits.stream c.index_mut-lives.ensures.value in
    spawns_at s.streams.items c.args.stream l e c.requires.spawns

pub restore-requires-clause-absent : goal.restore-requires-clause-absent
restore-requires-clause-absent c =
    let s = c.args.self.now in
    let l = c.index_mut-lives.result.now in
    let e = stream_read s.streams.items c.args.stream l c.requires.fits.stream c.index_mut-lives.ensures.value in
    sym (place_is s c.args.stream l c.args.params e) ∙ c.requires.absent

pub invariant_of-self : goal.invariant_of-self
invariant_of-self c =
    let s = c.args.self.now in
    let n = c.args.stream in
    let l = c.index_mut-lives.result.now in
    let y = c.restore.new.self in
    let r = c.restore.result in
    let q = c.restore.ensures in
    let e = stream_read s.streams.items n l c.requires.fits.stream c.index_mut-lives.ensures.value in
    let on = running_is_on s.phase c.requires.running in
    let off = time_in s.phase - start_in s.phase in
    let each = subst (λ (b : Bool). AreRight b s.step off l) on (s.right n l e).each in
    let right = subst (λ (b : Bool). AreRight b s.step off y) (sym on) (q.right s.step off s.step_ge each) in
    let few : length l.slots < 65536 = omega (arith, count_is s.step s.streams.items n l e, c.requires.few) in
    let layout = restore_layout l y c.args.born c.args.params r q.ok q.err in
    let windows = restore_windows l y c.args.born c.args.params r q.ok q.err in
    record {
      step_ge = s.step_ge;
      step_le = s.step_le;
      begun = s.begun;
      time_ge = s.time_ge;
      offset_is = s.offset_is;
      right = each-set (CrowdRight (is_on s.phase) s.prepared s.step off) s.streams.items n y s.right
          (restore_right l y c.args.born c.args.params (is_on s.phase) s.prepared s.step off r (s.right n l e) (owed_over s.prepared (is_on s.phase) s.step s.streams.items n l e c.requires.over)
          few q.ok q.err q.room q.spares q.capacity q.more right);
      placed = placed_set s.windows s.sizes s.places.items s.streams.items n l y e layout windows s.placed;
      at_places = s.at_places;
      covered = covered_set s.windows s.streams.items n l y e windows s.covered;
      numbered = numbered_set s.streams.items s.spawning.items n l y e layout s.numbered;
    }

pub returns-in-Ok-clause-ok : goal.returns-in-Ok-clause-ok
returns-in-Ok-clause-ok c =
    let s = c.args.self.now in
    let n = c.args.stream in
    let l = c.index_mut-lives.result.now in
    let y = c.restore.new.self in
    let e = stream_read s.streams.items n l c.requires.fits.stream c.index_mut-lives.ensures.value in
    let born = c.in-Ok.ensures.ok in
    let lay = layout_set s.streams.items n l y e (ap (λ (z : Crowd). z.layout) born) in
    let all = all_restored_seen (is_on s.phase) s.prepared s.step (time_in s.phase - start_in s.phase) l y c.args.born c.args.params born s.streams.items n e s.step_ge in
    λ j. record {
      layout = record { streams = lay j; windows = s.windows; panes = s.sizes };
      phase = phase_in s.phase;
      prepared = s.prepared;
      steps = s.step - 1;
      streams = all j;
    }

pub returns-in-Ok-clause-past : goal.returns-in-Ok-clause-past
returns-in-Ok-clause-past c = λ names m j values h.
    let s = c.args.self.now in
    let n = c.args.stream in
    let l = c.index_mut-lives.result.now in
    let y = c.restore.new.self in
    let e = stream_read s.streams.items n l c.requires.fits.stream c.index_mut-lives.ensures.value in
    stays_at (is_on s.phase) s.prepared s.step (time_in s.phase - start_in s.phase) l y c.args.born c.args.params c.in-Ok.ensures.ok s.streams.items n e
    (λ o. RemembersAt (start_in s.phase) (time_in s.phase) s.step names o values) m j (λ q. q) h

pub returns-in-Ok-clause-others : goal.returns-in-Ok-clause-others
returns-in-Ok-clause-others c = λ m j x h.
    let s = c.args.self.now in
    let n = c.args.stream in
    let l = c.index_mut-lives.result.now in
    let y = c.restore.new.self in
    let e = stream_read s.streams.items n l c.requires.fits.stream c.index_mut-lives.ensures.value in
    stays_at (is_on s.phase) s.prepared s.step (time_in s.phase - start_in s.phase) l y c.args.born c.args.params c.in-Ok.ensures.ok s.streams.items n e
    (λ (o : Option Holdings). o ≡ Some x) m j (λ q. cc) h

pub returns-in-Ok-clause-slot : goal.returns-in-Ok-clause-slot
returns-in-Ok-clause-slot c =
    let s = c.args.self.now in
    let n = c.args.stream in
    let l = c.index_mut-lives.result.now in
    let y = c.restore.new.self in
    let e = stream_read s.streams.items n l c.requires.fits.stream c.index_mut-lives.ensures.value in
    new_is (is_on s.phase) s.prepared s.step (time_in s.phase - start_in s.phase) l y c.args.born c.args.params c.in-Ok.ensures.ok s.streams.items n e
    (length (instances_seen (bounded_seen s) n)) (count_is s.step s.streams.items n l e)

pub returns-in-Ok-clause-new : goal.returns-in-Ok-clause-new
returns-in-Ok-clause-new c = λ names.
    let s = c.args.self.now in
    let n = c.args.stream in
    let l = c.index_mut-lives.result.now in
    let y = c.restore.new.self in
    let e = stream_read s.streams.items n l c.requires.fits.stream c.index_mut-lives.ensures.value in
    let at = stands_last (is_on s.phase) s.prepared s.step (time_in s.phase - start_in s.phase) l y c.args.born c.args.params c.in-Ok.ensures.ok s.streams.items n e
    (length (instances_seen (bounded_seen s) n)) (count_is s.step s.streams.items n l e) in
    subst (λ (o : Option Holdings). RemembersAt (start_in s.phase) (time_in s.phase) s.step names o []) (sym at)
    (newborn_remembers l.layout.kept l.windows c.args.born c.args.params (start_in s.phase) (time_in s.phase) s.step names (s.right n l e).kept)

pub returns-in-Err-clause-err : goal.returns-in-Err-clause-err
returns-in-Err-clause-err c =
    let s = c.args.self.now in
    let n = c.args.stream in
    let l = c.index_mut-lives.result.now in
    let y = c.restore.new.self in
    let e = stream_read s.streams.items n l c.requires.fits.stream c.index_mut-lives.ensures.value in
    let ks = slice_set s.streams.items n y in
    let k : AreKept s.streams.items ks = kept_set s.streams.items s.streams.items n l y (all_kept s.streams.items) e (record { rest = c.in-Err.ensures.err; capacity = c.restore.ensures.capacity; spares = c.in-Err.ensures.more }) in
    λ j. record {
      layout = record { streams = layout_still s.streams.items ks k j; windows = s.windows; panes = s.sizes };
      phase = phase_in s.phase;
      prepared = s.prepared;
      steps = s.step - 1;
      streams = seen_still s.step s.streams.items ks k j;
    }

pub returns-in-Err-clause-past : goal.returns-in-Err-clause-past
returns-in-Err-clause-past c = λ names m j values h.
    let s = c.args.self.now in
    let n = c.args.stream in
    let l = c.index_mut-lives.result.now in
    let y = c.restore.new.self in
    let e = stream_read s.streams.items n l c.requires.fits.stream c.index_mut-lives.ensures.value in
    let ks = slice_set s.streams.items n y in
    let k : AreKept s.streams.items ks = kept_set s.streams.items s.streams.items n l y (all_kept s.streams.items) e (record { rest = c.in-Err.ensures.err; capacity = c.restore.ensures.capacity; spares = c.in-Err.ensures.more }) in
    slots_still (λ o. RemembersAt (start_in s.phase) (time_in s.phase) s.step names o values) s.streams.items ks m j k h

pub returns-in-Err-clause-others : goal.returns-in-Err-clause-others
returns-in-Err-clause-others c = λ m j x h.
    let s = c.args.self.now in
    let n = c.args.stream in
    let l = c.index_mut-lives.result.now in
    let y = c.restore.new.self in
    let e = stream_read s.streams.items n l c.requires.fits.stream c.index_mut-lives.ensures.value in
    let ks = slice_set s.streams.items n y in
    let k : AreKept s.streams.items ks = kept_set s.streams.items s.streams.items n l y (all_kept s.streams.items) e (record { rest = c.in-Err.ensures.err; capacity = c.restore.ensures.capacity; spares = c.in-Err.ensures.more }) in
    slots_still (λ (o : Option Holdings). o ≡ Some x) s.streams.items ks m j k h
